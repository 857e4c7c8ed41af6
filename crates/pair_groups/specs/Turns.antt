-- The search starts with the source alone, and goes on to the next symbol, into a group, and to the next group.
use Rattle.std.specs.Prelude.{◌≡◌, List, ℕ, ◌+◌, ◌≤◌, ◌<◌, length, get_or}
use Rattle.std.proofs.Math.Decide.{dec_lt}
use Rattle.std.proofs.Common.{arith}
use Rattle.graph.specs.Graph.{Graph}
use Rattle.pair_storage.specs.Entries.{node_at, above_at}
use Rattle.pair_groups.specs.Queue.{Bounded, key, IsGroup, Stage, Between}

-- The search starts with the source alone and no mark.
pub begun : {g : Graph} {ms q : List ℕ} → Bounded g → length ms ≡ g.nodes → ((v : ℕ) → get_or ms v 0 ≡ 0) → node_at q 0 ≡ g.nodes → above_at q 0 ≡ 0
    → Between g ms q 1 0
begun {g} {ms} {q} u n clear e z =
    record {
      queue =
          record {
            bounded = u;
            size = n;
            some = omega arith;
            found = λ v h. let d = clear v in absurd (omega arith);
            marked = λ i p l. absurd (omega arith);
            room = omega arith;
            source_node = e;
            source_from = z;
            plain = λ i p l. absurd (omega arith);
            ascending = record { keys = λ i j p l. let d : i ≡ j = omega arith in rw d (omega arith) };
            origin = λ i p l. absurd (omega arith);
          };
      order = omega arith;
      begins = λ l i d. absurd (omega arith);
      near = λ i l.
          let d : i ≡ 0 = omega arith in
          let f : above_at q i ≡ 0 = rw d z in
          let c = u.symbols (node_at q i) in
          omega arith;
      done = λ i w l. absurd (omega arith);
    }

module _ {g : Graph} {ms q : List ℕ} {tail a b t k : ℕ} (s : Stage g ms q tail a b t k) where
  -- After the last member, the next symbol.
  pub next_symbol_lem : b ≤ k → t < 16 → Stage g ms q tail a b (t + 1) a
  next_symbol_lem h low =
      record {
        queue = s.queue;
        group = s.group;
        from = omega arith;
        to = let l = s.group.some in omega arith;
        high = omega arith;
        begins = s.begins;
        near = λ i l. let n = s.near i l in omega arith;
        done = s.done;
        part = λ i w l c. s.here i w (omega arith) (omega arith);
        here = λ i w l c. s.done i w l;
      }

  -- After the last symbol, the next group.
  pub next_group : 16 ≤ t → Between g ms q tail b
  next_group h =
      let u = s.group.some in
      let y = s.high in
      record {
        queue = s.queue;
        order = s.group.ends;
        begins = λ l i d. before l i d (dec_lt i a);
        near = λ i l. let n = s.near i l in omega arith;
        done = λ i w l. s.part i w l (let c = s.queue.bounded.symbols w in omega arith);
      }
    where
      before : b < tail → (i : ℕ) → i < b → Dec (i < a) → key g q i < key g q b
      before l i d (yes e) = let x = s.begins i e in let v = s.group.after b (omega arith) l in omega arith
      before l i d (no n) = let x = s.group.same i (omega arith) d in let v = s.group.after b (omega arith) l in omega arith

-- A group of indices that were not dealt with is entered at symbol 0, first member.
pub enter : {g : Graph} {ms q : List ℕ} {tail a b : ℕ} → Between g ms q tail a → IsGroup g q tail a b → Stage g ms q tail a b 0 a
enter s p =
    let l = p.some in
    let e = p.ends in
    record {
      queue = s.queue;
      group = p;
      from = omega arith;
      to = omega arith;
      high = omega arith;
      begins = s.begins (omega arith);
      near = λ i d. let n = s.near i d in omega arith;
      done = s.done;
      part = λ i w d c. absurd (omega arith);
      here = λ i w d c. s.done i w d;
    }
