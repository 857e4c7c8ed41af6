-- Encoding and splitting: where an encoded message has one reading, its letters get the breaks exactly between the words that were encoded.
use Rattle.std.specs.Prelude.{◌≡◌, true, List, ℕ, ◌≤◌, length, take, Ok}
use Rattle.code.specs.declared.Enlarged.{Enlarged}
use Rattle.code.specs.declared.Limits.{Limits}
use Rattle.code.specs.declared.SymbolCount.{SymbolCount}
use Rattle.code.specs.Definitions.Enlarged.{original_table}
use Rattle.code.specs.Definitions.Lists.{every}
use Rattle.code.specs.Definitions.Operations.{Encodes}
use Rattle.code.specs.Definitions.Readings.{Reads, OnlyReading}
use Rattle.code.specs.Definitions.Texts.{is_letter, symbols_in}
use Rattle.text_theory.specs.Messages.{Between, reading_splits}
use Rattle.promises.specs.RoundTrip.{encoded_reads}

pub encoded_splits : {l : Limits} {e : Enlarged} (classes : List ℕ) {s b b' r : List ℕ} {n : SymbolCount} (w : List ℕ) → Encodes l e s b b' (Ok n) → 1 ≤ length w
    → every (is_letter classes) w ≡ true → symbols_in classes w ≡ take n.0 b' → OnlyReading (original_table e) (take n.0 b') r
    → Between (original_table e) classes w s
encoded_splits {e = e} classes {s} {r = r} w x h l m o =
    let reads : Reads (original_table e) (symbols_in classes w) s = rw m (encoded_reads x) in
    let only : OnlyReading (original_table e) (symbols_in classes w) r = rw m o in
    reading_splits classes w h l reads only
