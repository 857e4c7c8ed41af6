-- The message of a sequence grows by one word with each entry, so the message of its first entries is a prefix of the whole.
use Rattle.std.specs.Prelude.{◌≡◌, List, ◌++◌, ℕ, ◌+◌, ◌≤◌, ◌<◌, length, take, drop, get_or}
use Rattle.std.proofs.Common.{sym, ap, ◌∙◌, append-nil, add-one, arith, length-append, take-append-drop, take-suc, take_all}
use Rattle.code.specs.declared.Code.{Code}
use Rattle.code.specs.Definitions.Tables.{Table, word, message, table_of}
use Rattle.code.specs.Laws.Sequences.{message_append}

-- the message of a sequence of a code's words
abbrev pub message_of : Code → List ℕ → List ℕ
message_of c s = message (table_of c) s

module _ (t : Table) where
  -- One entry more adds its word.
  pub message_more : (s : List ℕ) (i : ℕ) → i < length s → message t (take (i + 1) s) ≡ message t (take i s) ++ word t (get_or s i 0)
  message_more s i h = rw (add-one, take-suc s i 0, message_append t, append-nil)

  -- All entries make the whole message.
  pub message_all : (s : List ℕ) (i : ℕ) → length s ≤ i → message t (take i s) ≡ message t s
  message_all s i h = rw (take_all i s h)

  -- The message of the first entries is no longer than the whole.
  pub message_part : (s : List ℕ) (i : ℕ) → length (message t (take i s)) ≤ length (message t s)
  message_part s i =
      let parts : message t s ≡ message t (take i s) ++ message t (drop i s) = sym (ap (message t) (take-append-drop i s)) ∙ message_append t (take i s) (drop i s) in
      omega (arith, simp length-append at (ap length parts))
