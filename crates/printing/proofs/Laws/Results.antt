-- Each kind of result, put record by record: there is room for the next text, and what stands there in the end is the printed result.
use Rattle.std.specs.Prelude.{Ok}
use mathlib.Core.Path.{◌≡◌, ◌∙◌}
use mathlib.Core.List.{List, [], ◌∷◌, ◌++◌, map}
use Prim.Native.Nat.{ℕ, ◌+◌, ◌*◌, ◌^◌, ◌≤◌, ◌<◌}
use native.Mathlib.Omega.{arith}
use lib.ListN.{length, take, length-append, length-map}
use lib.Seq.{length-take-le}
use Rattle.code.specs.declared.SymbolCount.{SymbolCount}
use Rattle.code.specs.declared.WordCount.{WordCount}
use Rattle.code.specs.declared.Verdict.TheVariants.{Ambiguous as Two-ways}
use Rattle.code.specs.Definitions.Lists.{join}
use Rattle.csv_records.specs.Digits.{digit_of}
use Rattle.printing.specs.Printed.{decimal, record_of, ambiguous}
use Rattle.printing.proofs.Laws.Lengths.{length_pair, decimal_word}
use Rattle.writing.specs.Puts.{Puts, Starts, puts_then, puts_length, starts}
use Rattle.printing.specs.Prints.{Printable, result_of}

-- A word and a number

module _ {x o p : List ℕ} {m : ℕ} (n : ℕ) (room : length x + 22 ≤ length o) (fits : n < 2 ^ 64) (word : Puts 0 x o p m) where
  pub number_room : m + length (decimal n) ≤ length p
  number_room = omega (arith, decimal_word n fits, word.end, puts_length word)

  module _ {q : List ℕ} {k : ℕ} (number : Puts m (decimal n) p q k) where
    pub end_room : k + 2 ≤ length q
    end_room = omega (arith, decimal_word n fits, word.end, puts_length word, number.end, puts_length number)

    pub pair_put : {e : List ℕ} {r : ℕ} → Puts k (13 ∷ 10 ∷ []) q e r → Starts (x ++ decimal n ++ (13 ∷ 10 ∷ [])) o e r
    pair_put end =
        starts (puts_then (puts_then word number) end)
        (omega (arith, decimal_word n fits, length-append (x ++ decimal n) (13 ∷ 10 ∷ []), length-append x (decimal n)))

-- The record of a message

module _ (m : List ℕ) {o p q : List ℕ} {k l : ℕ} (word : Puts 0 (ambiguous ++ (44 ∷ [])) o p k) (digits : Puts k (map digit_of m) p q l) where
  pub message_put : {e : List ℕ} {r : ℕ} → Puts l (13 ∷ 10 ∷ []) q e r → Puts 0 (record_of (ambiguous ∷ map digit_of m ∷ [])) o e r
  unfolding join
  message_put end = puts_then (puts_then word digits) end

-- A message and its two readings

module _ {a : SymbolCount} {b c : WordCount} {m f g : List ℕ} (o : List ℕ) (shown : Printable (Ok (Two-ways a b c)) m f g (length o)) where
  module _ {p : List ℕ} {k : ℕ} (message : Puts 0 (record_of (ambiguous ∷ map digit_of (take a.0 m) ∷ [])) o p k) where
    message_end : k ≡ a.0 + 12
    message_end =
        let long : length (map digit_of (take a.0 m)) ≡ a.0 = length-map (take a.0 m) digit_of ∙ length-take-le a.0 m shown.message in
        omega (arith, message.end, length_pair ambiguous (map digit_of (take a.0 m)))

    pub first_room : k + 4 * length (take b.0 f) + 2 ≤ length p
    first_room = omega (arith, shown.room, message_end, puts_length message, length-take-le b.0 f shown.first)

    module _ {q : List ℕ} {l : ℕ} (first : Puts k (record_of (map decimal (take b.0 f))) p q l) (first-most : l ≤ k + 4 * length (take b.0 f) + 2) where
      pub second_room : l + 4 * length (take c.0 g) + 2 ≤ length q
      second_room =
          omega
          (arith, shown.room, message_end, puts_length message, puts_length first, length-take-le b.0 f shown.first, length-take-le c.0 g shown.second)

      pub ambiguous_put : {e : List ℕ} {r : ℕ} → Puts l (record_of (map decimal (take c.0 g))) q e r → r ≤ l + 4 * length (take c.0 g) + 2
          → Starts (result_of (Ok (Two-ways a b c)) m f g) o e r
      ambiguous_put second second-most =
          let whole = puts_then (puts_then message first) second in
          starts whole (omega (arith, whole.end, second_room, puts_length message, puts_length first))
