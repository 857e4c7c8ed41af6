-- The ways through encoding. Each refusal is tested where all lower ones were found not to hold, so the first that is found is the lowest.
use Rattle.std.specs.Prelude.{Err, Ok}
use mathlib.Core.Path.{◌≡◌, refl}
use mathlib.Core.Bool.{Bool, true, false, not}
use mathlib.Core.List.{List}
use mathlib.Core.Logic.{inl, inr}
use Prim.Native.Nat.{ℕ, ◌+◌, ◌≤◌, ◌<◌, min}
use native.Mathlib.Omega.{arith}
use lib.ListN.{length}
use borrow.Author.Tests.{not-true, not-false}
use Rattle.code.specs.declared.Enlarged.{Enlarged}
use Rattle.code.specs.declared.Limits.{Limits}
use Rattle.code.specs.declared.Refusal.TheVariants.{NotFromSheet, UnknownWord, ForbiddenPair, MessageLength, ShortBuffer}
use Rattle.code.specs.Definitions.Tables.{message}
use Rattle.code.specs.Definitions.Enlarged.{original_table}
use Rattle.code.specs.Definitions.Operations.{FromLists, HasUnknown, HasForbidden, written, Encodes, refused, encoded}
use Rattle.code.specs.Laws.Exactly.{Exactly}
use Rattle.well_enlarged.specs.WellEnlarged.{WellEnlarged}
use Rattle.well_enlarged.specs.Listed.{from_lists}
use Rattle.encode_join.specs.Messages.{message_of}
use Rattle.encode_join.specs.Passes.{Known}
use Rattle.encode_permitted.specs.Originals.{Original, all_words, original_known, same_message}

module _ (l : Limits) {e : Enlarged} {t : Bool} (lists : Exactly t (FromLists l e)) where
  -- No sheet and list give the code: 8.
  pub way_8 : {s b : List ℕ} → not t ≡ true → Encodes l e s b b (Err NotFromSheet)
  way_8 h = refused (inl (lists.no (not-true t h), refl)) refl

  module _ (from : not t ≡ false) where
    passed_8 : (FromLists l e → ⊥) → ⊥
    passed_8 n = n (lists.yes (not-false t from))

    pub lists_well : WellEnlarged l e
    lists_well = from_lists (lists.yes (not-false t from))

    module _ {s : List ℕ} {u : Bool} (unknown : Exactly u (HasUnknown (original_table e) s)) where
      -- They do, and an entry is no original word: 9.
      pub way_9 : {b : List ℕ} → u ≡ true → Encodes l e s b b (Err UnknownWord)
      way_9 h = refused (inr (passed_8, inl (unknown.yes h, refl))) refl

      module _ (none-unknown : u ≡ false) where
        pub all_original : Original l e s
        all_original = record { well = lists_well; known = all_words lists_well s (unknown.no none-unknown) }

        pub all_known : Known l e.code s
        all_known = original_known all_original

        module _ {f : Bool} (forbidden : Exactly f (HasForbidden (original_table e) s)) where
          -- All are, and the opening, a pair or a triple is forbidden: 10.
          pub way_10 : {b : List ℕ} → f ≡ true → Encodes l e s b b (Err ForbiddenPair)
          way_10 h = refused (inr (passed_8, inr (unknown.no none-unknown, inl (forbidden.yes h, refl)))) refl

          module _ (none_forbidden : f ≡ false) {n : ℕ} (count : n ≡ min (length (message_of e.code s)) (l.message + 1)) where
            same : message (original_table e) s ≡ message_of e.code s
            same = same_message e s all_original.known

            -- None is, and the message is over the limit: 11.
            pub way_11 : {b : List ℕ} → l.message < n → Encodes l e s b b (Err MessageLength)
            way_11 over =
                refused (inr (passed_8, inr (unknown.no none-unknown, inr (forbidden.no none_forbidden, inl (rw same (omega arith), refl))))) refl

            module _ (within : n ≤ l.message) where
              message_count : n ≡ length (message (original_table e) s)
              message_count = rw same (omega arith)

              -- It is within the limit, and the buffer is shorter: 13.
              pub way_13 : {b : List ℕ} → length b < n → Encodes l e s b b (Err ShortBuffer)
              way_13 short =
                  let count = message_count in
                  refused (inr (passed_8, inr (unknown.no none-unknown, inr (forbidden.no none_forbidden, inr ((λ h. omega arith), inl (omega arith, refl)))))) refl

              -- The message fits, and is written.
              pub way_encoded : {b b' : List ℕ} → n ≤ length b → b' ≡ written (message_of e.code s) b → Encodes l e s b b' (Ok (record { 0 = n }))
              way_encoded room w =
                  let count = message_count in
                  encoded (passed_8, (unknown.no none-unknown, (forbidden.no none_forbidden, ((λ h. omega arith), ((λ h. omega arith), tt))))) message_count (rw same w)
