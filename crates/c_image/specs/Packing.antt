-- The image stored part by part: a word is its symbols and its length; the words, the rows, the start marks and the count stand one behind
-- another, and behind them what is known of the copies.
use Rattle.std.specs.Prelude.{◌≡◌, take, get_or, set}
use Rattle.std.proofs.Common.{sym, ◌∙◌, arith, length-set, take_all}
use Rattle.std.proofs.Math.Path.{ap}
use mathlib.Core.List.{List, [], ◌∷◌, ◌++◌}
use Prim.Native.Nat.{ℕ, ◌+◌, ◌*◌, ◌≤◌, ◌<◌}
use Rattle.std.proofs.Math.ListN.{length, length-append}
use Rattle.std.proofs.lemmas.List.Edits.{sets}
use Rattle.std.proofs.Math.Seq.{length-sets, paste}
use Rattle.code.specs.declared.Word.{Word}
use Rattle.code.specs.declared.Code.{Code}
use Rattle.code.specs.declared.Enlarged.{Enlarged}
use Rattle.code.specs.Definitions.Operations.{written}
use Rattle.code.specs.Definitions.Sheets.{limits}
use Rattle.code.specs.Definitions.Tables.{no_word, no_row}
use Rattle.copying.specs.Copies.{paste_all}
use Rattle.copying.specs.Runs.{sets_behind, sets_front}
use Rattle.c_image.specs.Image.{word_width, rows_place, marks_place, count_place, code_length, origins_place, behind_place, image_length, word_bytes, row_bytes, words_bytes, rows_bytes, code_bytes, image_of, PackableCode, Packable}
use Rattle.c_image.specs.Blocks.{blocks_length, blocks_next}

pub word_stored : (w : Word) (d d' : List ℕ) (at : ℕ) → length w.symbols ≡ 16 → at + word_width ≤ length d → d' ≡ paste d at w.symbols 16
    → set d' (at + 16) w.len ≡ sets d at (word_bytes w)
word_stored w d d' at long room e =
    rw (e, paste_all d w.symbols at 16 (sym long) (omega arith)) (sets_behind w.symbols (w.len ∷ []) d at (at + 16) (omega arith))

module _ {c : Code} (fits : PackableCode c) where
  pub word_wide : (k : ℕ) → k < length c.words → length (word_bytes (get_or c.words k no_word)) ≡ word_width
  word_wide k h =
      let w : Word = get_or c.words k no_word in
      let long = fits.symbols k (omega (arith, fits.words)) in
      length-append w.symbols (w.len ∷ []) ∙ ap (λ (n : ℕ). n + 1) long

  pub row_wide : (k : ℕ) → k < length c.rows → length (row_bytes (get_or c.rows k no_row)) ≡ 32
  row_wide k h = fits.entries k (omega (arith, fits.rows))

  -- One word more is stored, and one row more.
  pub words_next : (b d d' : List ℕ) (k : ℕ) → k < 32 → d ≡ sets b 0 (words_bytes (take k c.words))
      → d' ≡ sets d (k * word_width) (word_bytes (get_or c.words k no_word)) → d' ≡ sets b 0 (words_bytes (take (k + 1) c.words))
  words_next b d d' k h e n = n ∙ rw e (blocks_next word_bytes no_word word_width c.words word_wide b 0 (k * word_width) k (omega arith) (omega (arith, fits.words)))

  pub rows_next : (b d d' : List ℕ) (k : ℕ) → k < 32 → code_length ≤ length d → d ≡ sets b rows_place (rows_bytes (take k c.rows))
      → d' ≡ paste d (rows_place + k * 32) (row_bytes (get_or c.rows k no_row)) 32 → d' ≡ sets b rows_place (rows_bytes (take (k + 1) c.rows))
  rows_next b d d' k h room e n =
      n
      ∙ paste_all d (row_bytes (get_or c.rows k no_row)) (rows_place + k * 32) 32 (sym (row_wide k (omega (arith, fits.rows)))) (omega arith)
      ∙ rw e (blocks_next row_bytes no_row 32 c.rows row_wide b rows_place (rows_place + k * 32) k (omega arith) (omega (arith, fits.rows)))

  pub all_words : (k : ℕ) → 32 ≤ k → take k c.words ≡ c.words
  all_words k h = take_all k c.words (omega (arith, fits.words))

  pub all_rows : (k : ℕ) → 32 ≤ k → take k c.rows ≡ c.rows
  all_rows k h = take_all k c.rows (omega (arith, fits.rows))

  pub length-words : length (words_bytes c.words) ≡ rows_place
  length-words = rw (all_words 32 (omega arith)) at (blocks_length word_bytes no_word word_width c.words word_wide 32 (omega (arith, fits.words)))

  length-rows : length (rows_bytes c.rows) ≡ 1024
  length-rows = rw (all_rows 32 (omega arith)) at (blocks_length row_bytes no_row 32 c.rows row_wide 32 (omega (arith, fits.rows)))

  pub length_both : length (words_bytes c.words ++ rows_bytes c.rows) ≡ marks_place
  length_both = rw (length-append, length-words, length-rows)

  pub length_all : length (words_bytes c.words ++ rows_bytes c.rows ++ c.begins) ≡ count_place
  length_all = omega (arith, length-append (words_bytes c.words ++ rows_bytes c.rows) c.begins, length_both, fits.begins)

  pub length_code : length (code_bytes c) ≡ code_length
  unfolding code_bytes
  length_code = length-append (words_bytes c.words ++ rows_bytes c.rows ++ c.begins) (c.count ∷ []) ∙ ap (λ (n : ℕ). n + 1) length_all

  module _ (b w r m : List ℕ) (room : code_length ≤ length b) (e : w ≡ sets b 0 (words_bytes c.words)) (n : r ≡ sets w rows_place (rows_bytes c.rows))
      (k : m ≡ paste r marks_place c.begins 32) where
    rows_length : length r ≡ length b
    rows_length = ap length n ∙ length-sets w rows_place (rows_bytes c.rows) ∙ ap length e ∙ length-sets b 0 (words_bytes c.words)

    marks_stored : m ≡ sets r marks_place c.begins
    marks_stored = k ∙ paste_all r c.begins marks_place 32 (sym fits.begins) (omega (arith, rows_length))

    -- Words, rows, start marks and count are the bytes of the code.
    pub packed_code : set m count_place c.count ≡ sets b 0 (code_bytes c)
    unfolding code_bytes
    packed_code =
        let ws : List ℕ = words_bytes c.words in
        let rs : List ℕ = rows_bytes c.rows in
        rw (marks_stored, n, e, sets_behind ws rs b 0 rows_place (omega (arith, length-words)), sets_behind (ws ++ rs) c.begins b 0 marks_place (omega (arith, length_both)))
        (sets_behind (ws ++ rs ++ c.begins) (c.count ∷ []) b 0 count_place (omega (arith, length_all)))

    pub packed_length : (v : ℕ) → length (set m count_place v) ≡ length b
    packed_length v = length-set m count_place v ∙ ap length marks_stored ∙ length-sets r marks_place c.begins ∙ rows_length

module _ {e : Enlarged} (fits : Packable e) where
  pub length-originals : length (code_bytes e.code ++ (e.originals ∷ [])) ≡ origins_place
  length-originals = length-append (code_bytes e.code) (e.originals ∷ []) ∙ ap (λ (n : ℕ). n + 1) (length_code fits.code)

  pub length-origins : length (code_bytes e.code ++ (e.originals ∷ []) ++ e.origins) ≡ behind_place
  length-origins = omega (arith, length-append (code_bytes e.code ++ (e.originals ∷ [])) e.origins, length-originals, fits.origins)

  module _ (b d : List ℕ) (room : image_length ≤ length b) (p : d ≡ sets b 0 (code_bytes e.code)) where
    originals-length : length (set d code_length e.originals) ≡ length b
    originals-length = length-set d code_length e.originals ∙ ap length p ∙ length-sets b 0 (code_bytes e.code)

    pub origins_room : behind_place ≤ length (set d code_length e.originals)
    origins_room = omega (arith, originals-length)

    module _ (o : List ℕ) (q : o ≡ paste (set d code_length e.originals) origins_place e.origins limits.words) where
      origins_stored : o ≡ sets (set d code_length e.originals) origins_place e.origins
      origins_stored = q ∙ paste_all (set d code_length e.originals) e.origins origins_place limits.words (sym fits.origins) origins_room

      origins_length : length o ≡ length b
      origins_length = ap length origins_stored ∙ length-sets (set d code_length e.originals) origins_place e.origins ∙ originals-length

      pub behind_room : image_length ≤ length o
      behind_room = omega (arith, origins_length)

      module _ (m : List ℕ) (s : m ≡ paste o behind_place e.behind limits.words) where
        behind_stored : m ≡ sets o behind_place e.behind
        behind_stored = s ∙ paste_all o e.behind behind_place limits.words (sym fits.behind) behind_room

        -- The code, the number of originals, the origins and the words behind are the image.
        pub packed : m ≡ written (image_of e) b
        unfolding image_of
        packed =
            let cs : List ℕ = code_bytes e.code in
            let ns : List ℕ = cs ++ (e.originals ∷ []) in
            let long : length (ns ++ e.origins ++ e.behind) ≤ length b = omega (arith, length-append (ns ++ e.origins) e.behind, length-origins, fits.behind) in
            behind_stored
            ∙ rw (origins_stored, p, sets_behind cs (e.originals ∷ []) b 0 code_length (omega (arith, length_code fits.code)), sets_behind ns e.origins b 0 origins_place (omega (arith, length-originals)))
            (sets_behind (ns ++ e.origins) e.behind b 0 behind_place (omega (arith, length-origins)) ∙ sets_front (ns ++ e.origins ++ e.behind) b long)

        pub packed_whole : length m ≡ length b
        packed_whole = ap length behind_stored ∙ length-sets o behind_place e.behind ∙ origins_length
