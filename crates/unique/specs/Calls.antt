-- Each contract of a function for C leaves one number only, and one content of each buffer.
use Rattle.std.specs.Prelude.{◌≡◌, List, [], ◌∷◌, ◌++◌, ◌⊎◌, ℕ, ◌<◌, ◌≤◌, length, Result}
use Rattle.std.proofs.Common.{sym, ap, ◌∙◌, inl, inr, arith}
use Rattle.code.specs.declared.Enlargement.{Enlargement}
use Rattle.code.specs.declared.Refusal.{Refusal}
use Rattle.code.specs.declared.Readings.{Readings}
use Rattle.code.specs.declared.Verdict.{Verdict}
use Rattle.code.specs.declared.ByteCount.{ByteCount}
use Rattle.code.specs.declared.SymbolCount.{SymbolCount}
use Rattle.code.specs.Definitions.Answers.{refusal_number}
use Rattle.code.specs.Definitions.ClassSheets.{different_bytes}
use Rattle.code.specs.Definitions.Operations.{Condition, written}
use Rattle.code.specs.Definitions.Sheets.{limits}
use Rattle.c_answers.specs.Answers.{answer_length, answer_number, answer_entries, symbols_entries, readings_entries, word_entries, verdict_entries, bytes_entries}
use Rattle.c_image.specs.Image.{image_length, enlarged_in, image_of}
use Rattle.c_short_answers.specs.Untold.{Untold, no_answer}
use Rattle.c_results.specs.Given.{Answered, sheet_number, after_sheet}
use Rattle.code.specs.Laws.Conditions.{lowest_unique}
use Rattle.ban_meaning.specs.Answered.{enlarges_unique}
use Rattle.furlazon.specs.Calls.{EnlargeCall, EncodeCall, ReadCall, NextCall, VerdictCall, SplitCall}
use Rattle.unique.specs.Operations.{encodes_unique, reads_unique, names_unique, judges_unique, splits_text_unique}

untold_unique : (cs : List Condition) (r q : ℕ) → Untold cs r → Untold cs q → r ≡ q
untold_unique cs r q a b = a.number ∙ ap refusal_number (lowest_unique (cs ++ (no_answer ∷ [])) a.refusal b.refusal a.lowest b.lowest) ∙ sym b.number

-- Taking in a code sheet or a class sheet, and giving the built-in code or classes: each contract is `Answered` for its bytes.
pub answered_unique : {a : Result Unit Refusal} {n : ℕ} {bytes b b1 b2 : List ℕ} {r q : ℕ} → Answered a n bytes b b1 r → Answered a n bytes b b2 q → (b1 ≡ b2) × (r ≡ q)
answered_unique x y = (x.buffer ∙ sym y.buffer, x.number ∙ sym y.number)

-- a list that is both too short and long enough
apart : (t : List ℕ) (n : ℕ) → length t < n → n ≤ length t → ⊥
apart t n h k = omega (arith, h, k)

pub encode_call_unique : {t s m a m1 a1 m2 a2 : List ℕ} {r q : ℕ} → EncodeCall t s m a m1 a1 r → EncodeCall t s m a m2 a2 q → (m1 ≡ m2) × (a1 ≡ a2) × (r ≡ q)
encode_call_unique (EncodeCall.unread h k b c) (EncodeCall.unread i j d f) = (b ∙ sym d, c ∙ sym f, k ∙ sym j)
encode_call_unique {t} (EncodeCall.unread h k b c) (EncodeCall.untold i j u d f) = absurd (apart t image_length h i)
encode_call_unique {t} (EncodeCall.unread h k b c) (EncodeCall.answered i j u d f) = absurd (apart t image_length h i)
encode_call_unique {t} (EncodeCall.untold i j u d f) (EncodeCall.unread h k b c) = absurd (apart t image_length h i)
encode_call_unique {t} (EncodeCall.answered i j u d f) (EncodeCall.unread h k b c) = absurd (apart t image_length h i)
encode_call_unique {a = a} (EncodeCall.untold i j u d f) (EncodeCall.answered h k x b c) = absurd (apart a answer_length j k)
encode_call_unique {a = a} (EncodeCall.answered h k x b c) (EncodeCall.untold i j u d f) = absurd (apart a answer_length j k)
encode_call_unique {r = r} {q = q} (EncodeCall.untold i j u d f) (EncodeCall.untold h k v b c) = (d ∙ sym b, f ∙ sym c, untold_unique _ r q u v)
encode_call_unique {t} {a = a} (EncodeCall.answered h k x b c) (EncodeCall.answered i j y d f) =
    let z = encodes_unique limits (enlarged_in t) x y in
    (z.0, c ∙ ap (λ (w : Result SymbolCount Refusal). written (answer_entries symbols_entries w) a) z.1 ∙ sym f, b ∙ ap answer_number z.1 ∙ sym d)

pub verdict_call_unique : {t m f g w a m1 f1 g1 w1 a1 m2 f2 g2 w2 a2 : List ℕ} {r q : ℕ} → VerdictCall t m f g w a m1 f1 g1 w1 a1 r → VerdictCall t m f g w a m2 f2 g2 w2 a2 q
    → ((m1 ≡ m2) × (f1 ≡ f2) × (g1 ≡ g2)) × (w1 ≡ w2) × (a1 ≡ a2) × (r ≡ q)
verdict_call_unique (VerdictCall.unread h k b c d e l) (VerdictCall.unread i j b' c' d' e' l') = ((b ∙ sym b', c ∙ sym c', d ∙ sym d'), e ∙ sym e', l ∙ sym l', k ∙ sym j)
verdict_call_unique {t} (VerdictCall.unread h k b c d e l) (VerdictCall.untold i j u b' c' d' e' l') = absurd (apart t image_length h i)
verdict_call_unique {t} (VerdictCall.unread h k b c d e l) (VerdictCall.answered i j u b' c') = absurd (apart t image_length h i)
verdict_call_unique {t} (VerdictCall.untold i j u b' c' d' e' l') (VerdictCall.unread h k b c d e l) = absurd (apart t image_length h i)
verdict_call_unique {t} (VerdictCall.answered i j u b' c') (VerdictCall.unread h k b c d e l) = absurd (apart t image_length h i)
verdict_call_unique {a = a} (VerdictCall.untold i j u b' c' d' e' l') (VerdictCall.answered h k x b c) = absurd (apart a answer_length j k)
verdict_call_unique {a = a} (VerdictCall.answered h k x b c) (VerdictCall.untold i j u b' c' d' e' l') = absurd (apart a answer_length j k)
verdict_call_unique {r = r} {q = q} (VerdictCall.untold h k v b c d e l) (VerdictCall.untold i j u b' c' d' e' l') =
    ((b ∙ sym b', c ∙ sym c', d ∙ sym d'), e ∙ sym e', l ∙ sym l', untold_unique _ r q v u)
verdict_call_unique {t} {a = a} (VerdictCall.answered h k x b c) (VerdictCall.answered i j y d f) =
    let z = judges_unique limits (enlarged_in t) x y in
    (z.0, z.1, c ∙ ap (λ (w : Result Verdict Refusal). written (answer_entries verdict_entries w) a) z.2 ∙ sym f, b ∙ ap answer_number z.2 ∙ sym d)

pub enlarge_call_unique : {t s b b1 b2 : List ℕ} {r q : ℕ} → EnlargeCall t s b b1 r → EnlargeCall t s b b2 q → (b1 ≡ b2) × (r ≡ q)
enlarge_call_unique (EnlargeCall.unread h k c) (EnlargeCall.unread i j d) = (c ∙ sym d, k ∙ sym j)
enlarge_call_unique {t} (EnlargeCall.unread h k c) (EnlargeCall.answered i j d) = absurd (apart t image_length h i)
enlarge_call_unique {t} (EnlargeCall.answered i j d) (EnlargeCall.unread h k c) = absurd (apart t image_length h i)
enlarge_call_unique {t} {b = b} (EnlargeCall.answered h x c) (EnlargeCall.answered i y d) =
    let z = enlarges_unique x y in (
      c.buffer ∙ ap (λ (w : Enlargement). after_sheet w.answer image_length (image_of w.enlarged) b) z ∙ sym d.buffer,
      c.number ∙ ap (λ (w : Enlargement). sheet_number w.answer image_length b) z ∙ sym d.number,
    )

pub read_call_unique : {t m f g w a f1 g1 w1 a1 f2 g2 w2 a2 : List ℕ} {r q : ℕ} → ReadCall t m f g w a f1 g1 w1 a1 r → ReadCall t m f g w a f2 g2 w2 a2 q
    → (f1 ≡ f2) × (g1 ≡ g2) × (w1 ≡ w2) × (a1 ≡ a2) × (r ≡ q)
read_call_unique (ReadCall.unread h k c d e l) (ReadCall.unread i j c' d' e' l') = (c ∙ sym c', d ∙ sym d', e ∙ sym e', l ∙ sym l', k ∙ sym j)
read_call_unique {t} (ReadCall.unread h k c d e l) (ReadCall.untold i j u c' d' e' l') = absurd (apart t image_length h i)
read_call_unique {t} (ReadCall.unread h k c d e l) (ReadCall.answered i j u b' c') = absurd (apart t image_length h i)
read_call_unique {t} (ReadCall.untold i j u c' d' e' l') (ReadCall.unread h k c d e l) = absurd (apart t image_length h i)
read_call_unique {t} (ReadCall.answered i j u b' c') (ReadCall.unread h k c d e l) = absurd (apart t image_length h i)
read_call_unique {a = a} (ReadCall.untold i j u c' d' e' l') (ReadCall.answered h k x b c) = absurd (apart a answer_length j k)
read_call_unique {a = a} (ReadCall.answered h k x b c) (ReadCall.untold i j u c' d' e' l') = absurd (apart a answer_length j k)
read_call_unique {r = r} {q = q} (ReadCall.untold h k v c d e l) (ReadCall.untold i j u c' d' e' l') =
    (c ∙ sym c', d ∙ sym d', e ∙ sym e', l ∙ sym l', untold_unique _ r q v u)
read_call_unique {t} {a = a} (ReadCall.answered h k x b c) (ReadCall.answered i j y d f) =
    let z = reads_unique limits (enlarged_in t) x y in
    (z.0, z.1, z.2, c ∙ ap (λ (w : Result Readings Refusal). written (answer_entries readings_entries w) a) z.3 ∙ sym f, b ∙ ap answer_number z.3 ∙ sym d)

pub next_call_unique : {t m w a w1 a1 w2 a2 : List ℕ} {r q : ℕ} → NextCall t m w a w1 a1 r → NextCall t m w a w2 a2 q → (w1 ≡ w2) × (a1 ≡ a2) × (r ≡ q)
next_call_unique (NextCall.unread h k b c) (NextCall.unread i j d f) = (b ∙ sym d, c ∙ sym f, k ∙ sym j)
next_call_unique {t} (NextCall.unread h k b c) (NextCall.untold i j u d f) = absurd (apart t image_length h i)
next_call_unique {t} (NextCall.unread h k b c) (NextCall.answered i j u d f) = absurd (apart t image_length h i)
next_call_unique {t} (NextCall.untold i j u d f) (NextCall.unread h k b c) = absurd (apart t image_length h i)
next_call_unique {t} (NextCall.answered i j u d f) (NextCall.unread h k b c) = absurd (apart t image_length h i)
next_call_unique {a = a} (NextCall.untold i j u d f) (NextCall.answered h k x b c) = absurd (apart a answer_length j k)
next_call_unique {a = a} (NextCall.answered h k x b c) (NextCall.untold i j u d f) = absurd (apart a answer_length j k)
next_call_unique {r = r} {q = q} (NextCall.untold i j u d f) (NextCall.untold h k v b c) = (d ∙ sym b, f ∙ sym c, untold_unique _ r q u v)
next_call_unique {t} {a = a} (NextCall.answered h k x b c) (NextCall.answered i j y d f) =
    let z = names_unique limits (enlarged_in t) x y in
    (z.0, c ∙ ap (λ (w : Result ℕ Refusal). written (answer_entries word_entries w) a) z.1 ∙ sym f, b ∙ ap answer_number z.1 ∙ sym d)

either_apart : (t k : List ℕ) → (length t < image_length) ⊎ (length k < different_bytes) → image_length ≤ length t → different_bytes ≤ length k → ⊥
either_apart t k (inl h) i j = apart t image_length h i
either_apart t k (inr h) i j = apart k different_bytes h j

pub split_call_unique : {t k s b m f g w a b1 m1 f1 g1 w1 a1 b2 m2 f2 g2 w2 a2 : List ℕ} {r q : ℕ} → SplitCall t k s b m f g w a b1 m1 f1 g1 w1 a1 r
    → SplitCall t k s b m f g w a b2 m2 f2 g2 w2 a2 q → (b1 ≡ b2) × (m1 ≡ m2) × (f1 ≡ f2) × (g1 ≡ g2) × (w1 ≡ w2) × (a1 ≡ a2) × (r ≡ q)
split_call_unique (SplitCall.unread h n x c d e l p) (SplitCall.unread i j x' c' d' e' l' p') =
    (x ∙ sym x', c ∙ sym c', d ∙ sym d', e ∙ sym e', l ∙ sym l', p ∙ sym p', n ∙ sym j)
split_call_unique {t} {k} (SplitCall.unread h n x c d e l p) (SplitCall.untold i j o u x' c' d' e' l' p') = absurd (either_apart t k h i j)
split_call_unique {t} {k} (SplitCall.unread h n x c d e l p) (SplitCall.answered i j o u x' c') = absurd (either_apart t k h i j)
split_call_unique {t} {k} (SplitCall.untold i j o u x' c' d' e' l' p') (SplitCall.unread h n x c d e l p) = absurd (either_apart t k h i j)
split_call_unique {t} {k} (SplitCall.answered i j o u x' c') (SplitCall.unread h n x c d e l p) = absurd (either_apart t k h i j)
split_call_unique {a = a} (SplitCall.untold i j o u x' c' d' e' l' p') (SplitCall.answered h n v x c y) = absurd (apart a answer_length o v)
split_call_unique {a = a} (SplitCall.answered h n v x c y) (SplitCall.untold i j o u x' c' d' e' l' p') = absurd (apart a answer_length o v)
split_call_unique {r = r} {q = q} (SplitCall.untold h n z v x c d e l p) (SplitCall.untold i j o u x' c' d' e' l' p') =
    (x ∙ sym x', c ∙ sym c', d ∙ sym d', e ∙ sym e', l ∙ sym l', p ∙ sym p', untold_unique _ r q v u)
split_call_unique {t} {a = a} (SplitCall.answered h n v x c y) (SplitCall.answered i j o x' c' y') =
    let z = splits_text_unique limits (enlarged_in t) x x' in
    (z.0, z.1, z.2, z.3, z.4, y ∙ ap (λ (w : Result ByteCount Refusal). written (answer_entries bytes_entries w) a) z.5 ∙ sym y', c ∙ ap answer_number z.5 ∙ sym c')
