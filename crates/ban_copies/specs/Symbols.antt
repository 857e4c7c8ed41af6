-- The words and symbols of a code with copies: refusal 17 by the lengths that the table value has.
use Rattle.std.specs.Prelude.{◌≡◌, Bool, ◌||◌, ℕ, suc, ◌+◌, ◌<◌, ltb, get_or}
use Rattle.std.proofs.Math.Path.{refl, ap, ap₂}
use Rattle.std.proofs.Common.{sym, ◌∙◌}
use mathlib.Core.List.{List, [], ◌∷◌, ◌++◌, map, map-append}
use native.Mathlib.Omega.{arith}
use Rattle.std.proofs.Math.ListN.{length}
use Rattle.code.specs.declared.Code.{Code}
use Rattle.code.specs.declared.Limits.{Limits}
use Rattle.code.specs.Definitions.Lists.{tabulate, sum}
use Rattle.code.specs.Definitions.Tables.{word, table_of}
use Rattle.code.specs.Definitions.Bans.{Ban, Copy, no_copy, banned_by, copies_of, enlarged}
use Rattle.code.specs.Definitions.Enlarged.{refused17}
use Rattle.code.specs.Laws.Lists.{tabulate_same, tabulate-map, sum_append, sum_past}
use Rattle.ban_theory.specs.BanLists.{Known, once_none, copies_once}
use Rattle.code.specs.Laws.WellFormed.{len_of, WellFormed}
use Rattle.code.specs.Laws.Words.{size-count, word-length}

-- the symbols of a copy
abbrev pub copy_length : Code → Copy → ℕ
copy_length c k = len_of c k.of

module _ (l : Limits) (c : Code) where
  unfoldable pub symbols_with : List Copy → ℕ
  symbols_with cs = sum (tabulate (len_of c) l.words) + sum (map (copy_length c) cs)

  -- 17: "the copies pass the limits on words or symbols"
  abbrev pub too_many : List Copy → Bool
  too_many cs = ltb l.words (c.count + length cs) || ltb l.total (symbols_with cs)

  pub symbols_none : symbols_with [] ≡ sum (tabulate (len_of c) l.words)
  unfolding symbols_with sum
  symbols_none = omega arith

  pub symbols_more : (cs : List Copy) (k : Copy) → symbols_with (cs ++ (k ∷ [])) ≡ symbols_with cs + copy_length c k
  unfolding symbols_with sum
  symbols_more cs k = rw (map-append (copy_length c) cs (k ∷ []), sum_append (map (copy_length c) cs) (copy_length c k ∷ [])) (omega arith)

module _ {l : Limits} {c : Code} (well : WellFormed l c) where
  own_symbols : sum (map length (table_of c).words) ≡ sum (tabulate (len_of c) l.words)
  own_symbols =
      ap sum (sym (tabulate-map length (table_of c).words []))
      ∙ ap (λ (n : ℕ). sum (tabulate (λ x. length (word (table_of c) x)) n)) (size-count well)
      ∙ ap sum (tabulate_same (λ x. length (word (table_of c) x)) (len_of c) c.count (word-length well))
      ∙ sym (sum_past (len_of c) c.count l.words well.most (λ k h b. (well.word k b).unused h))

  copied_symbols : (cs : List Copy) → ((i : ℕ) → i < length cs → (get_or cs i no_copy).of < c.count)
      → sum (map length (map (λ (k : Copy). word (table_of c) k.of) cs)) ≡ sum (map (copy_length c) cs)
  unfolding sum
  copied_symbols [] h = refl
  copied_symbols (k ∷ cs) h = ap₂ (λ (i j : ℕ). i + j) (word-length well k.of (h 0 (omega arith))) (copied_symbols cs (λ i b. h (suc i) (omega arith)))

  all_symbols_lem : (cs : List Copy) (b : ℕ → ℕ → ℕ → Bool) → ((i : ℕ) → i < length cs → (get_or cs i no_copy).of < c.count)
      → sum (map length (enlarged (table_of c) cs b).words) ≡ symbols_with l c cs
  unfolding symbols_with
  all_symbols_lem cs b h =
      let copied = map (λ (k : Copy). word (table_of c) k.of) cs in
      ap sum (map-append length (table_of c).words copied)
      ∙ sum_append (map length (table_of c).words) (map length copied)
      ∙ ap₂ (λ (i j : ℕ). i + j) own_symbols (copied_symbols cs h)

  -- The enlarged table passes the limits where the value does.
  pub refused_too_many : (bs : List Ban) → Known c.count bs → refused17 l c bs ≡ too_many l c (copies_of bs)
  refused_too_many bs k =
      let o = copies_once [] bs k (once_none c.count) in
      ap (λ (s : ℕ). ltb l.words (c.count + length (copies_of bs)) || ltb l.total s) (all_symbols_lem (copies_of bs) (banned_by bs) o.of_known)
