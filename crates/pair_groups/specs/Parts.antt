-- The loops of one group: the slots of a member, the members, the symbols.
use Rattle.std.specs.Prelude.{◌≡◌, List, ℕ, ◌+◌, ◌≤◌, ◌<◌, length}
use Rattle.std.proofs.Common.{ControlFlow, Continue, Break, arith}
use Rattle.pair_places.specs.Flat.{Laid, pair_count}
use Rattle.pair_places.specs.Opens.{open_graph}
use Rattle.pair_places.specs.Roots.{Numbered}
use Rattle.pair_storage.specs.Entries.{entries_in}
use Rattle.pair_slots.specs.Ensured.{Space}
use Rattle.pair_groups.specs.Ensured.{Known, Stands, Ready, Expanding, GoalNext, Progressed, met, went}
use Rattle.pair_groups.specs.Queue.{Queue, entry_most}
use Rattle.pair_groups.specs.Room.{tail_most}
use Rattle.pair_groups.specs.Slots.{slots_begin}
use Rattle.pair_groups.specs.Turns.{next_symbol_lem}

-- What each progress says.
module _ {f ms q : List ℕ} {a b t k c : ℕ} where
  pub was_goal : {x : ℕ} {r : ControlFlow ℕ ℕ} → Progressed f ms q a b t k c r → r ≡ Break x → GoalNext f q a x
  was_goal {x} (met {x = y} h) e = let z : y ≡ x = cc in rw z at h
  was_goal (went h) e = let z : ◌≡◌ {A = ℕ} 0 1 = cc in absurd (omega arith)

  pub was_tail : {e : ℕ} {r : ControlFlow ℕ ℕ} → Progressed f ms q a b t k c r → r ≡ Continue e → Stands f ms q e a b t k c
  was_tail (met h) d = let z : ◌≡◌ {A = ℕ} 0 1 = cc in absurd (omega arith)
  was_tail {e} (went {e = y} h) d = let z : y ≡ e = cc in rw z at h

-- A goal that a part of a group meets, the group meets.
pub goal_again : {f ms q : List ℕ} {a b t k c t' k' c' x : ℕ} {r : ControlFlow ℕ ℕ} → Progressed f ms q a b t k c r → r ≡ Break x
    → Progressed f ms q a b t' k' c' (Break x)
goal_again h e = met (was_goal h e)

pub space : {f ms q : List ℕ} {tail a b t k : ℕ} → Ready f ms q tail a b t k → Space f ms q tail a
space r = record { marks = r.marks; wide = r.wide; few = r.few; start = let l = r.from in let h = r.member in let e = r.ends in omega arith }

-- Every entry of the queue has a cell, or the source.
pub entries_known : {f ms q : List ℕ} {tail m : ℕ} → Queue (open_graph f) ms q tail → m ≤ tail → Known f q m
entries_known s l = record { nodes = λ i h. entry_most s i (omega arith) }

pub group_known : {f ms q : List ℕ} {tail a b t k c : ℕ} → Stands f ms q tail a b t k c → Known f q b
group_known s = entries_known s.stage.queue s.stage.group.ends

pub known_again : {f ms q : List ℕ} {a b t k c e : ℕ} {r : ControlFlow ℕ ℕ} → Progressed f ms q a b t k c r → r ≡ Continue e → Known f q b
known_again h d = group_known (was_tail h d)

module _ {f ms : List ℕ} (q : List ℕ) {tail a b t k c : ℕ} (laid : Laid f) (n : Numbered f) (s : Stands f ms (entries_in f q) tail a b t k c) where
  stands_few : tail ≤ pair_count f + 1
  stands_few = tail_most laid n s.stage.queue

  pub group_within : pair_count f + 2 ≤ length q → b ≤ length q
  group_within w = let e = s.stage.group.ends in let m = stands_few in omega arith

  ready : pair_count f + 2 ≤ length q → k < b → t < 16 → Ready f ms q tail a b t k
  ready w l h =
      record {
        marks = s.stage.queue.size;
        wide = w;
        few = stands_few;
        from = s.stage.from;
        member = l;
        ends = s.stage.group.ends;
        low = h;
        node = entry_most s.stage.queue k (let e = s.stage.group.ends in omega arith);
      }

  pub expanding : pair_count f + 2 ≤ length q → k < b → t < 16 → Expanding f ms q tail a b t k c
  expanding w l h = record { laid = laid; numbered = n; stands = s; ready = ready w l h }

  ready_again : {ms₀ q₀ : List ℕ} {tail₀ : ℕ} → Ready f ms₀ q₀ tail₀ a b t k → length q ≡ length q₀ → Ready f ms q tail a b t k
  ready_again r e = ready (let w = r.wide in omega arith) r.member r.low

  -- After the last member, the next symbol.
  pub symbol_end : b ≤ k → t < 16 → Progressed f ms (entries_in f q) a b (t + 1) a 0 (Continue tail)
  symbol_end l h = went (slots_begin (next_symbol_lem s.stage l h))

-- From one slot to another.
pub expanding_next : {f ms q ms₀ q₀ : List ℕ} {tail₀ a b t k c c₀ e : ℕ} {r : ControlFlow ℕ ℕ} → Expanding f ms₀ q₀ tail₀ a b t k c₀
    → Progressed f ms (entries_in f q) a b t k c r → r ≡ Continue e → length q ≡ length q₀ → Expanding f ms q e a b t k c
expanding_next {q = q} x h d l =
    let s = was_tail h d in
    record { laid = x.laid; numbered = x.numbered; stands = s; ready = ready_again q x.laid x.numbered s x.ready l }

-- After the last symbol, every symbol is done.
pub group_done : {f ms q : List ℕ} {tail a b t k c : ℕ} → Stands f ms q tail a b t k c → 16 ≤ t → Progressed f ms q a b 16 k c (Continue tail)
group_done {t = t} s l = let e : t ≡ 16 = let h = s.stage.high in omega arith in went (rw e at s)
