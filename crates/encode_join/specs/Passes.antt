-- The passes over a sequence of a code's words that count its symbols and write them: each keeps what it knows of the entries passed, and one entry more is one lemma.
use Rattle.std.specs.Prelude.{◌≡◌, List, ◌++◌, ℕ, ◌+◌, ◌≤◌, ◌<◌, min, length, take, get_or}
use Rattle.std.proofs.Common.{sym, ap, ◌∙◌, arith, length-append}
use Rattle.std.proofs.Math.Seq.{paste}
use Rattle.code.specs.declared.Word.{Word}
use Rattle.code.specs.declared.Code.{Code}
use Rattle.code.specs.declared.Limits.{Limits}
use Rattle.code.specs.Definitions.Tables.{symbols_of, no_word, table_of}
use Rattle.code.specs.Definitions.Operations.{written}
use Rattle.copying.specs.Copies.{paste_behind}
use Rattle.code.specs.Laws.WellFormed.{WordFits, WellFormed}
use Rattle.encode_join.specs.Messages.{message_of, message_more, message_all, message_part}
use Rattle.code.specs.Laws.Words.{word_symbols, word-length}

-- Each of the first i entries of s is below n.
abbrev pub WordsBelow : ℕ → List ℕ → ℕ → Type 0
WordsBelow n s i = (k : ℕ) → k < i → get_or s k 0 < n

-- A well-formed code, and a sequence of its words.
pub record Known (l : Limits) (c : Code) (s : List ℕ) : Type 0 where
  pub well : WellFormed l c
  pub known : WordsBelow c.count s (length s)

-- The word that entry i of s names.
abbrev pub word_at : Code → List ℕ → ℕ → Word
word_at c s i = get_or c.words (get_or s i 0) no_word

-- The message of the first i entries of s.
abbrev pub message_below : Code → List ℕ → ℕ → List ℕ
message_below c s i = message_of c (take i s)

module _ (l : Limits) {c : Code} {s : List ℕ} (known : Known l c s) (i : ℕ) (within : i < length s) where
  pub known_number : get_or s i 0 < l.words
  known_number = omega (arith, known.known i within, known.well.most)

  known_fits : WordFits l c.count (get_or s i 0) (word_at c s i)
  known_fits = known.well.word (get_or s i 0) known_number

  pub known_short : (word_at c s i).len ≤ l.symbols
  known_short = known_fits.short

  known_room : (word_at c s i).len ≤ length (word_at c s i).symbols
  known_room = omega (arith, known_short, known_fits.array)

  -- One entry more adds its word to the message, and its length to the length.
  message_on : message_below c s (i + 1) ≡ message_below c s i ++ symbols_of (word_at c s i)
  message_on = rw (message_more (table_of c) s i within, word_symbols known.well (get_or s i 0) (known.known i within))

  length_on : length (message_below c s (i + 1)) ≡ length (message_below c s i) + (word_at c s i).len
  length_on = rw (message_more (table_of c) s i within, length-append, word-length known.well (get_or s i 0) (known.known i within))

module _ (l : Limits) {c : Code} {s : List ℕ} (known : Known l c s) where
  -- Refusal 11: the length of the message, as far as the limit.

  pub length_more : (i n : ℕ) → i < length s → n ≡ length (message_below c s i) → n + (word_at c s i).len ≡ length (message_below c s (i + 1))
  length_more i n h e = rw e (sym (length_on l known i h))

  pub length_over : (i n : ℕ) → i < length s → n ≡ length (message_below c s i) → l.message < n + (word_at c s i).len
      → l.message + 1 ≡ min (length (message_of c s)) (l.message + 1)
  length_over i n h e over = omega (arith, length_on l known i h, message_part (table_of c) s (i + 1))

  pub length_whole : (i n : ℕ) → length s ≤ i → n ≡ length (message_below c s i) → n ≤ l.message → n ≡ min (length (message_of c s)) (l.message + 1)
  length_whole i n h e within = omega (arith, ap length (message_all (table_of c) s i h))

  -- Writing: the message of the entries passed stands at the start of the buffer.

  pub write_room : (i at n : ℕ) → i < length s → at ≡ length (message_below c s i) → length (message_of c s) ≤ n → at + (word_at c s i).len ≤ n
  write_room i at n h e room = omega (arith, length_on l known i h, message_part (table_of c) s (i + 1))

  pub write_more : (i at : ℕ) (b m m' : List ℕ) → i < length s → at ≡ length (message_below c s i) → m ≡ written (message_below c s i) b
      → m' ≡ paste m at (word_at c s i).symbols (word_at c s i).len → m' ≡ written (message_below c s (i + 1)) b
  write_more i at b m m' h e w p =
      p ∙ rw (w, e, message_on l known i h) (paste_behind (message_below c s i) b (word_at c s i).symbols (word_at c s i).len (known_room l known i h))

  pub write_whole : (i : ℕ) (b m : List ℕ) → length s ≤ i → m ≡ written (message_below c s i) b → m ≡ written (message_of c s) b
  write_whole i b m h w = rw (← message_all (table_of c) s i h) w
