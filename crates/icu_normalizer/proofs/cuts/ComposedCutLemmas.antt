-- Where a composed list is cut: weights of characters that composing adds up.
use Rattle.std.proofs.Common.{◌≡◌, ℕ, ◌+◌, ◌<◌, ◌≤◌, true, ltb, List, [], ◌∷◌, ◌++◌, Some, refl, sym, ap, ◌∙◌, arith, inl, inr}
use Rattle.std.proofs.lemmas.Bool.{cases_lt, and_parts, ltb-true}
use Rattle.std.specs.List.{list_all}
use Rattle.icu_normalizer_core.specs.Canonical.{Canonical, composing, recomposed}
use Rattle.icu_normalizer.specs.Composing.{composed_with}
use Rattle.icu_normalizer.proofs.composed.ComposingLemmas.{composing_end, composing_cases, recomposed_nothing, recomposed_begun, recomposed_passed, seen_over}

abbrev pub total : (ℕ → ℕ) → List ℕ → ℕ
total weight [] = 0
total weight (c ∷ cs) = weight c + total weight cs

pub total_append : (weight : ℕ → ℕ) (xs ys : List ℕ) → total weight (xs ++ ys) ≡ total weight xs + total weight ys
total_append weight [] ys = omega arith
total_append weight (x ∷ xs) ys = omega (arith, total_append weight xs ys)

-- a front that is no heavier is the shorter one
pub longer : (weight : ℕ → ℕ) → ((c : ℕ) → 0 < weight c) → (xs ys front rest : List ℕ) → xs ++ ys ≡ front ++ rest → total weight xs ≤ total weight front
    → (more : List ℕ) × (front ≡ xs ++ more) × (ys ≡ more ++ rest)
longer weight positive [] ys front rest e le = (front, refl, e)
longer weight positive (x ∷ xs) ys [] rest e le = let h = positive x in absurd (omega (arith, h, le))
longer weight positive (x ∷ xs) ys (f ∷ fs) rest e le =
    let head : x ≡ f = cc in
    let tail : xs ++ ys ≡ fs ++ rest = cc in
    let same : weight x ≡ weight f = ap weight head in
    let behind = longer weight positive xs ys fs rest tail (omega (arith, le, same)) in
    (behind.0, (cc), behind.2)

-- fronts of one weight are one
pub same_front : (weight : ℕ → ℕ) → ((c : ℕ) → 0 < weight c) → (xs ys front rest : List ℕ) → xs ++ ys ≡ front ++ rest → total weight front ≡ total weight xs → rest ≡ ys
same_front weight positive [] ys [] rest e n = sym e
same_front weight positive [] ys (f ∷ fs) rest e n = let h = positive f in absurd (omega (arith, h, n))
same_front weight positive (x ∷ xs) ys [] rest e n = let h = positive x in absurd (omega (arith, h, n))
same_front weight positive (x ∷ xs) ys (f ∷ fs) rest e n =
    let head : x ≡ f = cc in
    let tail : xs ++ ys ≡ fs ++ rest = cc in
    let same : weight x ≡ weight f = ap weight head in
    same_front weight positive xs ys fs rest tail (omega (arith, n, same))

module _ (canonical : Canonical) (weight : ℕ → ℕ) (positive : (c : ℕ) → 0 < weight c) (adds : (a b c : ℕ) → canonical.pair a b ≡ Some c → weight c ≡ weight a + weight b) where
  -- the first character of what a starter becomes is no lighter
  heavier : (s : ℕ) (ms cs : List ℕ) → (first : ℕ) × (others : List ℕ) × (composing canonical s ms cs ≡ first ∷ others) × (weight s ≤ weight first)
  heavier s ms [] = (s, ms, composing_end canonical s ms, omega arith)
  heavier s ms (c ∷ cs) =
      composing_cases canonical s ms c cs (λ l. (first : ℕ) × (others : List ℕ) × (l ≡ first ∷ others) × (weight s ≤ weight first))
      (λ z joins. let now = heavier z ms cs in let sum : weight z ≡ weight s + weight c = adds s c z (seen_over _ _ z joins).1 in (now.0, now.1, now.2, omega (arith, now.3, sum)))
      (λ none starter. (s, ms ++ composing canonical c [] cs, refl, omega arith))
      (λ none mark. heavier s (ms ++ c ∷ []) cs)

  -- composing keeps the weight
  total_composing : (s : ℕ) (ms cs : List ℕ) → total weight (composing canonical s ms cs) ≡ weight s + total weight ms + total weight cs
  total_composing s ms [] = ap (total weight) (composing_end canonical s ms) ∙ omega arith
  total_composing s ms (c ∷ cs) =
      composing_cases canonical s ms c cs (λ l. total weight l ≡ weight s + total weight ms + (weight c + total weight cs))
      (λ z joins. let sum : weight z ≡ weight s + weight c = adds s c z (seen_over _ _ z joins).1 in let behind = total_composing z ms cs in omega (arith, behind, sum))
      (λ none starter. let whole = total_append weight (s ∷ ms) (composing canonical c [] cs) in let behind = total_composing c [] cs in omega (arith, whole, behind))
      (λ none mark. let more = total_append weight ms (c ∷ []) in let behind = total_composing s (ms ++ c ∷ []) cs in omega (arith, behind, more))

  pub total_recomposed : (cs : List ℕ) → total weight (recomposed canonical cs) ≡ total weight cs
  total_recomposed [] = ap (total weight) (recomposed_nothing canonical)
  total_recomposed (c ∷ cs) =
      elim (cases_lt 0 (canonical.class c)) [
        | inl mark ↦ let behind = total_recomposed cs in ap (total weight) (recomposed_passed canonical c cs mark) ∙ omega (arith, behind)
        | inr first ↦ let behind = total_composing c [] cs in ap (total weight) (recomposed_begun canonical c cs first) ∙ omega (arith, behind)
      ]

  -- nothing is seen over by a starter
  seen_by_starter : (ms : List ℕ) (d : ℕ) → canonical.class d ≡ 0 → list_all (λ m. ltb (canonical.class m) (canonical.class d)) ms ≡ true → ms ≡ []
  seen_by_starter [] d starter h = refl
  seen_by_starter (m ∷ ms) d starter h =
      let both = and_parts (ltb (canonical.class m) (canonical.class d)) (list_all (λ m. ltb (canonical.class m) (canonical.class d)) ms) h in
      let lower = ltb-true (canonical.class m) (canonical.class d) both.0 in
      absurd (omega (arith, lower, starter))

  cut_joined : (s : ℕ) (ms : List ℕ) (d z : ℕ) (ys front rest : List ℕ) → canonical.class d ≡ 0 → composed_with canonical s ms d ≡ Some z → composing canonical z ms ys ≡ front ++ rest
      → total weight front ≡ weight s + total weight ms + 0 → rest ≡ composing canonical d [] ys
  cut_joined s ms d z ys [] rest starter joins e n = let h = positive s in absurd (omega (arith, h, n))
  cut_joined s ms d z ys (f ∷ fs) rest starter joins e n =
      let both = seen_over _ _ z joins in
      let sum = adds s d z both.1 in
      let none = seen_by_starter ms d starter both.0 in
      let weighs : total weight ms ≡ 0 = ap (total weight) none in
      let now = heavier z ms ys in
      let first : f ≡ now.0 = cc in
      let same : weight f ≡ weight now.0 = ap weight first in
      let h = positive d in
      absurd (omega (arith, h, n, sum, weighs, same, now.3))

  -- where the front of a composed list stands for all that stands before a starter, the rest is composed from that starter on
  pub cut_at_starter : (s : ℕ) (ms xs : List ℕ) (d : ℕ) (ys front rest : List ℕ) → canonical.class d ≡ 0 → composing canonical s ms (xs ++ d ∷ ys) ≡ front ++ rest
      → total weight front ≡ weight s + total weight ms + total weight xs → rest ≡ composing canonical d [] ys
  cut_at_starter s ms [] d ys front rest starter e n =
      composing_cases canonical s ms d ys (λ l. l ≡ front ++ rest → rest ≡ composing canonical d [] ys)
      (λ z joins f. cut_joined s ms d z ys front rest starter joins f n)
      (λ none _ f. same_front weight positive (s ∷ ms) (composing canonical d [] ys) front rest f (omega (arith, n)))
      (λ none mark f. absurd (omega (arith, mark, starter)))
      e
  cut_at_starter s ms (c ∷ cs) d ys front rest starter e n =
      composing_cases canonical s ms c (cs ++ d ∷ ys) (λ l. l ≡ front ++ rest → rest ≡ composing canonical d [] ys)
      (λ z joins f. let sum = adds s c z (seen_over _ _ z joins).1 in cut_at_starter z ms cs d ys front rest starter f (omega (arith, n, sum)))
      (λ none _ f.
      let parts = longer weight positive (s ∷ ms) (composing canonical c [] (cs ++ d ∷ ys)) front rest f (omega (arith, n)) in
      let whole : total weight front ≡ total weight (s ∷ ms) + total weight parts.0 = ap (total weight) parts.1 ∙ total_append weight (s ∷ ms) parts.0 in
      cut_at_starter c [] cs d ys parts.0 rest starter parts.2 (omega (arith, n, whole)))
      (λ none mark f. let more = total_append weight ms (c ∷ []) in cut_at_starter s (ms ++ c ∷ []) cs d ys front rest starter f (omega (arith, n, more)))
      e

  pub cut_recomposed : (xs : List ℕ) (d : ℕ) (ys front rest : List ℕ) → canonical.class d ≡ 0 → recomposed canonical (xs ++ d ∷ ys) ≡ front ++ rest
      → total weight front ≡ total weight xs → rest ≡ recomposed canonical (d ∷ ys)
  cut_recomposed [] d ys front rest starter e n = same_front weight positive [] (recomposed canonical (d ∷ ys)) front rest e n
  cut_recomposed (c ∷ cs) d ys front rest starter e n =
      elim (cases_lt 0 (canonical.class c)) [
        | inl mark ↦
            let parts = longer weight positive (c ∷ []) (recomposed canonical (cs ++ d ∷ ys)) front rest (sym (recomposed_passed canonical c (cs ++ d ∷ ys) mark) ∙ e) (omega (arith, n)) in
            let whole : total weight front ≡ total weight (c ∷ []) + total weight parts.0 = ap (total weight) parts.1 ∙ total_append weight (c ∷ []) parts.0 in
            cut_recomposed cs d ys parts.0 rest starter parts.2 (omega (arith, n, whole))
        | inr first ↦
            cut_at_starter c [] cs d ys front rest starter (sym (recomposed_begun canonical c (cs ++ d ∷ ys) first) ∙ e) (omega (arith, n))
            ∙ sym (recomposed_begun canonical d ys (omega (arith, starter)))
      ]
