-- What the lent buffers have room for.
use Rattle.std.specs.Prelude.{◌≡◌, List, ℕ, ◌+◌, ◌*◌, ◌^◌, ◌≤◌, ◌<◌, length}
use Rattle.std.proofs.Common.{arith}

-- Room for the words of the text s.
pub record WordRooms (s m f g w : List ℕ) : Type 0 where
  pub near : length s < 2 ^ 32
  pub message : length s ≤ length m
  pub first : length s ≤ length f
  pub second : length s ≤ length g
  pub work : length s < length w

-- Other contents have the same room.
pub rooms_same : {s m f g w m' f' g' w' : List ℕ} → WordRooms s m f g w → length m' ≡ length m → length f' ≡ length f → length g' ≡ length g → length w' ≡ length w
    → WordRooms s m' f' g' w'
rooms_same r p q u v = record {
  near = r.near;
  message = omega (arith, r.message);
  first = omega (arith, r.first);
  second = omega (arith, r.second);
  work = omega (arith, r.work);
}

-- Room for its output, too.
pub record Rooms (s b m f g w : List ℕ) : Type 0 where
  pub words : WordRooms s m f g w
  pub output : 2 * length s + 1 ≤ length b
