-- The lent buffers: when one is too short for a text, and what they have where none is.
use Rattle.std.specs.Prelude.{List, ◌⊎◌, ℕ, ◌+◌, ◌*◌, ◌≤◌, ◌<◌, leb, length}
use Rattle.std.proofs.Common.{inl, inr, arith}
use Rattle.code.specs.Definitions.Sheets.{limits}
use Rattle.code.specs.Laws.Buffers.{long_enough}
use Rattle.text_words.specs.Rooms.{Rooms}
use Rattle.code.specs.Laws.Exactly.{Exactly, exactly_iff, exactly_le}

-- 13: a buffer is shorter than splitting n bytes needs. The five numbers are the lengths of the output buffer, the message buffer, the reading buffers and the
-- working buffer.
abbrev pub Short : (n b m f g w : ℕ) → Type 0
Short n b m f g w = (b < 2 * n + 1) ⊎ ((m < n) ⊎ ((f < n) ⊎ ((g < n) ⊎ (w < n + 1))))

-- Where the other four are long enough, the working buffer decides.
pub short_work : {n b m f g w : ℕ} → 2 * n + 1 ≤ b → n ≤ m → n ≤ f → n ≤ g → Exactly (leb w n) (Short n b m f g w)
short_work {n} {b} {m} {f} {g} {w} hb hm hf hg = exactly_iff (λ h. inr (inr (inr (inr (omega arith)))), back) (exactly_le w n)
  where
    back : Short n b m f g w → w ≤ n
    back (inl h) = absurd (omega arith)
    back (inr (inl h)) = absurd (omega arith)
    back (inr (inr (inl h))) = absurd (omega arith)
    back (inr (inr (inr (inl h)))) = absurd (omega arith)
    back (inr (inr (inr (inr h)))) = omega arith

-- Where no buffer is short, there is room.
pub enough_room : {s b m f g w : List ℕ} → length s ≤ limits.text → (Short (length s) (length b) (length m) (length f) (length g) (length w) → ⊥) → Rooms s b m f g w
enough_room {s} {b} {m} {f} {g} {w} h none = record {
  words = record {
    near = omega arith;
    message = long_enough (length s) (length m) (λ k. none (inr (inl k)));
    first = long_enough (length s) (length f) (λ k. none (inr (inr (inl k))));
    second = long_enough (length s) (length g) (λ k. none (inr (inr (inr (inl k)))));
    work = omega (arith, long_enough (length s + 1) (length w) (λ k. none (inr (inr (inr (inr k))))));
  };
  output = long_enough (2 * length s + 1) (length b) (λ k. none (inl k));
}
