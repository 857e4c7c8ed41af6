-- The lengths of the lent buffers: when refusal 13 holds, and what is known of them where it does not. The four numbers are the lengths of the message buffer,
-- of the two reading buffers and of the working buffer.
use Rattle.std.specs.Prelude.{◌⊎◌, true, ℕ, ◌≤◌, ◌<◌, ltb}
use Rattle.std.proofs.Common.{inl, inr, arith}
use Rattle.code.specs.Definitions.Operations.{verdict_room, verdict_work}
use Rattle.code.specs.Definitions.Sheets.{limits}
use Rattle.code.specs.Laws.Buffers.{long_enough}
use Rattle.code.specs.Laws.Exactly.{Exactly, exactly_true, exactly_iff, exactly_lt}

-- 02, request 1: "The verdict's three buffers need 8,384 entries"; 01: "and a working buffer of 16,384 entries"
abbrev pub Short : (m f g w : ℕ) → Type 0
Short m f g w = (m < verdict_room limits) ⊎ ((f < verdict_room limits) ⊎ ((g < verdict_room limits) ⊎ (w < verdict_work limits)))

pub record Room (m f g w : ℕ) : Type 0 where
  pub message : verdict_room limits ≤ m
  pub first : verdict_room limits ≤ f
  pub second : verdict_room limits ≤ g
  pub work : verdict_work limits ≤ w

module _ {m f g w : ℕ} where
  -- Where a buffer in front of the working buffer is too short, refusal 13 holds.
  pub short_message : m < verdict_room limits → Exactly true (Short m f g w)
  short_message h = exactly_true (inl h)

  pub short_first : f < verdict_room limits → Exactly true (Short m f g w)
  short_first h = exactly_true (inr (inl h))

  pub short_second : g < verdict_room limits → Exactly true (Short m f g w)
  short_second h = exactly_true (inr (inr (inl h)))

  -- Where the other three are long enough, the working buffer decides.
  pub short_work : verdict_room limits ≤ m → verdict_room limits ≤ f → verdict_room limits ≤ g → Exactly (ltb w (verdict_work limits)) (Short m f g w)
  short_work hm hf hg = exactly_iff (λ h. inr (inr (inr h)), back) (exactly_lt w (verdict_work limits))
    where
      back : Short m f g w → w < verdict_work limits
      back (inl h) = absurd (omega arith)
      back (inr (inl h)) = absurd (omega arith)
      back (inr (inr (inl h))) = absurd (omega arith)
      back (inr (inr (inr h))) = h

  -- What `is_short` returns at each of its four ways out.
  pub ruleset short_ways = (short_message, short_first, short_second, short_work)

  pub room_not_short : Room m f g w → Short m f g w → ⊥
  room_not_short r (inl h) = omega (arith, r.message)
  room_not_short r (inr (inl h)) = omega (arith, r.first)
  room_not_short r (inr (inr (inl h))) = omega (arith, r.second)
  room_not_short r (inr (inr (inr h))) = omega (arith, r.work)

  -- Buffers of which none is too short have room.
  pub has_room : (Short m f g w → ⊥) → Room m f g w
  has_room none = record {
    message = long_enough (verdict_room limits) m (λ h. none (inl h));
    first = long_enough (verdict_room limits) f (λ h. none (inr (inl h)));
    second = long_enough (verdict_room limits) g (λ h. none (inr (inr (inl h))));
    work = long_enough (verdict_work limits) w (λ h. none (inr (inr (inr h))));
  }
