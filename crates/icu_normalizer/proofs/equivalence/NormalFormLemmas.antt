-- Normal forms: they are lists of scalar values and their own normal forms, and equivalent texts are those with one of them.
use Rattle.std.proofs.Common.{◌≡◌, ℕ, cond, ltb, List, [], ◌∷◌, ◌++◌, sym, ap, ◌∙◌, Some, None}
use Rattle.std.specs.Prelude.{◌↔◌, All}
use Rattle.std.specs.List.{list_all}
use Rattle.std.specs.Char.{IsScalar}
use Rattle.std.proofs.lemmas.Bool.{cond_both}
use Rattle.std.proofs.lemmas.List.Elements.{recursion_from_All, All-from_recursion}
use Rattle.icu_normalizer_core.specs.Canonical.{Canonical, IsCanonical, IsDecomposing, is_starter, decomposed, composing, recomposed, composed}
use Rattle.icu_normalizer.specs.Equivalence.{IsEquivalent}
use Rattle.icu_normalizer_core.proofs.decomposed_lists.DecomposedLemmas.{AreScalar, all_append, decomposed_all_scalars, decomposed_scalars}
use Rattle.icu_normalizer.proofs.equivalence.EquivalenceLemmas.{decomposed_equivalent, decomposed_one, equivalent_one}
use Rattle.icu_normalizer.proofs.equivalence.ComposedLemmas.{either_way, where_seen, composed_equivalent}

-- composing scalar values makes scalar values
composing_scalars : (canonical : Canonical) (s : ℕ) (ms cs : List ℕ) → ((a b z : ℕ) → canonical.pair a b ≡ Some z → IsScalar z) → IsScalar s → AreScalar ms → AreScalar cs
    → AreScalar (composing canonical s ms cs)
unfolding composing
composing_scalars canonical s ms [] d h hm hs = (h, hm)
composing_scalars canonical s ms (c ∷ cs) d h hm hs =
    let is_seen = list_all (λ m. ltb (canonical.class m) (canonical.class c)) ms
    in either_way (cond is_seen (canonical.pair s c) None) (λ z. composing canonical z ms cs) _ AreScalar
    (λ z e. composing_scalars canonical z ms cs d (d s c z (where_seen is_seen (canonical.pair s c) z e).1) hm hs.1)
    (cond_both (is_starter canonical c) ((s ∷ ms) ++ composing canonical c [] cs) (composing canonical s (ms ++ c ∷ []) cs) AreScalar
    (λ _. all_append IsScalar (s ∷ ms) (composing canonical c [] cs) (h, hm) (composing_scalars canonical c [] cs d hs.0 tt hs.1))
    (λ _. composing_scalars canonical s (ms ++ c ∷ []) cs d h (all_append IsScalar ms (c ∷ []) hm (hs.0, tt)) hs.1))

pub recomposed_scalars : (canonical : Canonical) (cs : List ℕ) → ((a b z : ℕ) → canonical.pair a b ≡ Some z → IsScalar z) → AreScalar cs → AreScalar (recomposed canonical cs)
unfolding recomposed
recomposed_scalars canonical [] d hs = tt
recomposed_scalars canonical (c ∷ cs) d hs =
    cond_both (is_starter canonical c) (composing canonical c [] cs) (c ∷ recomposed canonical cs) AreScalar
    (λ _. composing_scalars canonical c [] cs d hs.0 tt hs.1) (λ _. (hs.0, recomposed_scalars canonical cs d hs.1))

-- the composed list of scalar values has scalar values
pub composed_scalars : (canonical : Canonical) (xs : List ℕ) → IsCanonical canonical → All IsScalar xs → All IsScalar (composed canonical xs)
unfolding composed
composed_scalars canonical xs d s =
    All-from_recursion IsScalar (recomposed canonical (decomposed canonical xs))
    (recomposed_scalars canonical (decomposed canonical xs) d.composing.scalars (decomposed_scalars canonical xs d.decomposing (recursion_from_All IsScalar xs s)))

-- each normal form of a normal form is that of the text
pub decomposed_twice : (canonical : Canonical) (xs : List ℕ) → IsDecomposing canonical → All IsScalar xs
    → decomposed canonical (decomposed canonical xs) ≡ decomposed canonical xs
decomposed_twice canonical xs d s =
    sym (decomposed_one canonical xs (decomposed canonical xs) d s (decomposed_all_scalars canonical xs d s) (decomposed_equivalent canonical xs d s))

pub composed_decomposed : (canonical : Canonical) (xs : List ℕ) → IsCanonical canonical → All IsScalar xs
    → decomposed canonical (composed canonical xs) ≡ decomposed canonical xs
composed_decomposed canonical xs d s =
    sym (decomposed_one canonical xs (composed canonical xs) d.decomposing s (composed_scalars canonical xs d s) (composed_equivalent canonical xs d s))

-- the composed list goes by the decomposed one
by_decomposed : (canonical : Canonical) (xs ys : List ℕ) → decomposed canonical xs ≡ decomposed canonical ys → composed canonical xs ≡ composed canonical ys
unfolding composed
by_decomposed canonical xs ys e = ap (recomposed canonical) e

pub decomposed_composed : (canonical : Canonical) (xs : List ℕ) → IsDecomposing canonical → All IsScalar xs
    → composed canonical (decomposed canonical xs) ≡ composed canonical xs
decomposed_composed canonical xs d s = by_decomposed canonical (decomposed canonical xs) xs (decomposed_twice canonical xs d s)

pub composed_twice : (canonical : Canonical) (xs : List ℕ) → IsCanonical canonical → All IsScalar xs
    → composed canonical (composed canonical xs) ≡ composed canonical xs
composed_twice canonical xs d s = by_decomposed canonical (composed canonical xs) xs (composed_decomposed canonical xs d s)

-- texts with one composed list are those with one decomposed list
pub one_composed : (canonical : Canonical) (xs ys : List ℕ) → IsCanonical canonical → All IsScalar xs → All IsScalar ys
    → (composed canonical xs ≡ composed canonical ys) ↔ (decomposed canonical xs ≡ decomposed canonical ys)
one_composed canonical xs ys d sx sy = (
  λ e. sym (composed_decomposed canonical xs d sx) ∙ ap (decomposed canonical) e ∙ composed_decomposed canonical ys d sy,
  by_decomposed canonical xs ys,
)

-- equivalent texts are those with one composed list
pub composed_one : (canonical : Canonical) (xs ys : List ℕ) → IsCanonical canonical → All IsScalar xs → All IsScalar ys
    → IsEquivalent canonical xs ys ↔ (composed canonical xs ≡ composed canonical ys)
composed_one canonical xs ys d sx sy = (
  λ h. by_decomposed canonical xs ys (decomposed_one canonical xs ys d.decomposing sx sy h),
  λ e. equivalent_one canonical xs ys d.decomposing sx sy ((one_composed canonical xs ys d sx sy).0 e),
)
