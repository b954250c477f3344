-- The composed list of a text is equivalent to it.
use Rattle.std.proofs.Common.{◌≡◌, ℕ, ◌<◌, Bool, true, false, cond, ltb, List, [], ◌∷◌, ◌++◌, refl, sym, subst, arith, Option, Some, None, append_assoc}
use Rattle.std.specs.Prelude.{◌≢◌, All}
use Rattle.std.specs.List.{list_all}
use Rattle.std.specs.Char.{IsScalar}
use Rattle.std.proofs.lemmas.Bool.{cond_both, ltb-true, eqb-false, and_parts}
use Rattle.std.proofs.lemmas.List.{append-nil}
use Rattle.icu_normalizer_core.specs.Canonical.{Canonical, IsCanonical, IsComposing, is_starter, decomposed, composing, recomposed, composed}
use Rattle.icu_normalizer.specs.Equivalence.{IsEquivalent, same, turned, joined, stepped, swapped}
use Rattle.icu_normalizer_core.proofs.decomposed_lists.DecomposedLemmas.{AreUnmapped, decomposed_unmapped}
use Rattle.icu_normalizer.proofs.equivalence.EquivalenceLemmas.{front_kept, decomposed_equivalent}

-- marks that are not mapped
abbrev AreMarks : Canonical → List ℕ → Type 0
AreMarks canonical [] = Unit {0}
AreMarks canonical (m ∷ ms) = ((canonical.step m ≡ []) × (0 < canonical.class m)) × AreMarks canonical ms

marks_behind : (canonical : Canonical) (ms : List ℕ) (c : ℕ) → AreMarks canonical ms → canonical.step c ≡ [] → 0 < canonical.class c
    → AreMarks canonical (ms ++ c ∷ [])
marks_behind canonical [] c h u p = ((u, p), tt)
marks_behind canonical (m ∷ ms) c h u p = (h.0, marks_behind canonical ms c h.1 u p)

-- a mark goes before others of lower classes
moved_front : (canonical : Canonical) (ms cs : List ℕ) (c : ℕ) → AreMarks canonical ms → canonical.step c ≡ []
    → list_all (λ m. ltb (canonical.class m) (canonical.class c)) ms ≡ true
    → IsEquivalent canonical (ms ++ c ∷ cs) (c ∷ (ms ++ cs))
moved_front canonical [] cs c h u e = same _
moved_front canonical (m ∷ ms) cs c h u e =
    let both = and_parts (ltb (canonical.class m) (canonical.class c)) (list_all (λ m. ltb (canonical.class m) (canonical.class c)) ms) e
    in let lower = ltb-true (canonical.class m) (canonical.class c) both.0
    in let positive = h.0.1
    in let above : 0 < canonical.class c = omega arith
    in let apart : canonical.class m ≢ canonical.class c = omega arith
    in joined _ _ _ (front_kept canonical m _ _ (moved_front canonical ms cs c h.1 u both.1)) (swapped [] (ms ++ cs) m c h.0.0 u positive above apart)

-- characters in front keep equivalence
front_all_kept : (canonical : Canonical) (front xs ys : List ℕ) → IsEquivalent canonical xs ys → IsEquivalent canonical (front ++ xs) (front ++ ys)
front_all_kept canonical [] xs ys h = h
front_all_kept canonical (x ∷ front) xs ys h = front_kept canonical x _ _ (front_all_kept canonical front xs ys h)

-- a pair is composed where only marks of lower classes stand between
pair_composed : (canonical : Canonical) (s c z : ℕ) (ms cs : List ℕ) → IsComposing canonical → AreMarks canonical ms → canonical.step c ≡ []
    → list_all (λ m. ltb (canonical.class m) (canonical.class c)) ms ≡ true → canonical.pair s c ≡ Some z
    → IsEquivalent canonical (s ∷ (ms ++ c ∷ cs)) (z ∷ (ms ++ cs))
pair_composed canonical s c z ms cs d h u e p =
    joined _ _ _ (front_kept canonical s _ _ (moved_front canonical ms cs c h u e))
    (turned _ _ (stepped [] (ms ++ cs) z s (c ∷ []) (d.mapped s c z p)))

-- a choice by what may be composed
pub either_way : (o : Option ℕ) (f : ℕ → List ℕ) (n : List ℕ) (P : List ℕ → Type 0) → ((z : ℕ) → o ≡ Some z → P (f z)) → P n
    → P (elim o as (λ _. List ℕ) [ Some z ↦ f z | None ↦ n ])
either_way (Some z) f n P h g = h z refl
either_way None f n P h g = g

pub where_seen : (b : Bool) (o : Option ℕ) (z : ℕ) → cond b o None ≡ Some z → (b ≡ true) × (o ≡ Some z)
where_seen true o z e = (refl, e)
where_seen false o z e = cc

composing_equivalent : (canonical : Canonical) (s : ℕ) (ms cs : List ℕ) → IsComposing canonical → AreMarks canonical ms → AreUnmapped canonical cs
    → IsEquivalent canonical (s ∷ (ms ++ cs)) (composing canonical s ms cs)
unfolding composing
composing_equivalent canonical s ms [] d h hs = subst (λ (w : List ℕ). IsEquivalent canonical (s ∷ w) (s ∷ ms)) (sym (append-nil ms)) (same (s ∷ ms))
composing_equivalent canonical s ms (c ∷ cs) d h hs =
    let is_seen = list_all (λ m. ltb (canonical.class m) (canonical.class c)) ms
    in let begun = composing_equivalent canonical c [] cs d tt hs.1
    in either_way (cond is_seen (canonical.pair s c) None) (λ z. composing canonical z ms cs) _
    (λ (w : List ℕ). IsEquivalent canonical (s ∷ (ms ++ c ∷ cs)) w)
    (λ z e. let found = where_seen is_seen (canonical.pair s c) z e
    in joined _ _ _ (pair_composed canonical s c z ms cs d h hs.0 found.0 found.1) (composing_equivalent canonical z ms cs d h hs.1))
    (cond_both (is_starter canonical c) ((s ∷ ms) ++ composing canonical c [] cs) (composing canonical s (ms ++ c ∷ []) cs)
    (λ (w : List ℕ). IsEquivalent canonical (s ∷ (ms ++ c ∷ cs)) w)
    (λ _. front_all_kept canonical (s ∷ ms) (c ∷ cs) (composing canonical c [] cs) begun)
    (λ n. let ne = eqb-false (canonical.class c) 0 n
    in let positive : 0 < canonical.class c = omega arith
    in subst (λ (w : List ℕ). IsEquivalent canonical (s ∷ w) (composing canonical s (ms ++ c ∷ []) cs)) (append_assoc ms (c ∷ []) cs)
    (composing_equivalent canonical s (ms ++ c ∷ []) cs d (marks_behind canonical ms c h hs.0 positive) hs.1)))

recomposed_equivalent : (canonical : Canonical) (cs : List ℕ) → IsComposing canonical → AreUnmapped canonical cs → IsEquivalent canonical cs (recomposed canonical cs)
unfolding recomposed
recomposed_equivalent canonical [] d hs = same []
recomposed_equivalent canonical (c ∷ cs) d hs =
    cond_both (is_starter canonical c) (composing canonical c [] cs) (c ∷ recomposed canonical cs) (λ (w : List ℕ). IsEquivalent canonical (c ∷ cs) w)
    (λ _. composing_equivalent canonical c [] cs d tt hs.1)
    (λ _. front_kept canonical c cs (recomposed canonical cs) (recomposed_equivalent canonical cs d hs.1))

-- the composed list is equivalent to the text
pub composed_equivalent : (canonical : Canonical) (xs : List ℕ) → IsCanonical canonical → All IsScalar xs → IsEquivalent canonical xs (composed canonical xs)
unfolding composed
composed_equivalent canonical xs d s =
    joined _ _ _ (decomposed_equivalent canonical xs d.decomposing s)
    (recomposed_equivalent canonical (decomposed canonical xs) d.composing (decomposed_unmapped canonical xs d.decomposing s))
