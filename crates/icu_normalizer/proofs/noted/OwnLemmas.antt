-- The characters of decomposed lists.
use Rattle.std.proofs.Common.{◌≡◌, ℕ, ltb, ◌&&◌, List, [], ◌∷◌, flat_map}
use Rattle.std.proofs.lemmas.Bool.{cond_both}
use Rattle.std.proofs.lemmas.List.Elements.{recursion_from_All, All-weaker, All-contains_itself}
use Rattle.std.specs.Prelude.{Contains}
use Rattle.std.specs.Char.{IsScalar}
use Rattle.std.specs.List.{AllByRecursion}
use Rattle.icu_normalizer_core.specs.Canonical.{Canonical, put_in_order, marks_in_order, decomposed}
use Rattle.icu_normalizer_core.specs.Forming.{IsForming}
use Rattle.icu_normalizer_core.proofs.decomposed_lists.DecomposedLemmas.{AreScalar, all_append}

-- each character is its own full list
abbrev pub AreOwn : Canonical → List ℕ → Type 0
AreOwn canonical cs = AllByRecursion (λ c. canonical.full c ≡ c ∷ []) cs

-- what holds of each character holds of each, marks in order
module _ (P : ℕ → Type 0) (class : ℕ → ℕ) where
  put_all : (c : ℕ) (ds : List ℕ) → P c → AllByRecursion P ds → AllByRecursion P (put_in_order class c ds)
  unfolding put_in_order
  put_all c [] p h = (p, tt)
  put_all c (d ∷ ds) p h =
      cond_both (ltb 0 (class d) && ltb (class d) (class c)) (d ∷ put_in_order class c ds) (c ∷ d ∷ ds) (AllByRecursion P) (λ _. (h.0, put_all c ds p h.1)) (λ _. (p, h))

  pub order_all : (cs : List ℕ) → AllByRecursion P cs → AllByRecursion P (marks_in_order class cs)
  unfolding marks_in_order
  order_all [] h = tt
  order_all (c ∷ cs) h = put_all c (marks_in_order class cs) h.0 (order_all cs h.1)

module _ (canonical : Canonical) (ok : IsForming canonical) where
  -- and of each character of full lists, where it holds of those of each
  full_all : (P : ℕ → Type 0) → ((c : ℕ) → IsScalar c → AllByRecursion P (canonical.full c)) → (cs : List ℕ) → AreScalar cs → AllByRecursion P (flat_map canonical.full cs)
  full_all P each [] s = tt
  full_all P each (c ∷ cs) s = all_append P (canonical.full c) (flat_map canonical.full cs) (each c s.0) (full_all P each cs s.1)

  each_own : (c : ℕ) → IsScalar c → AreOwn canonical (canonical.full c)
  each_own c one =
      recursion_from_All (λ d. canonical.full d ≡ d ∷ []) (canonical.full c)
      (All-weaker (Contains (canonical.full c)) (λ d. canonical.full d ≡ d ∷ []) (λ d in_full. ok.own c d one in_full) (canonical.full c) (All-contains_itself (canonical.full c)))

  -- of a decomposed list each character is its own full list, and a scalar value
  pub decomposed_own : (cs : List ℕ) → AreScalar cs → AreOwn canonical (decomposed canonical cs)
  unfolding decomposed
  decomposed_own cs s =
      order_all (λ c. canonical.full c ≡ c ∷ []) canonical.class (flat_map canonical.full cs)
      (full_all (λ c. canonical.full c ≡ c ∷ []) each_own cs s)

  pub full_scalar : (cs : List ℕ) → AreScalar cs → AreScalar (flat_map canonical.full cs)
  full_scalar cs s = full_all IsScalar (λ c one. recursion_from_All IsScalar (canonical.full c) (ok.scalars c one)) cs s

  pub decomposed_scalar : (cs : List ℕ) → AreScalar cs → AreScalar (decomposed canonical cs)
  unfolding decomposed
  decomposed_scalar cs s =
      order_all IsScalar canonical.class (flat_map canonical.full cs) (full_scalar cs s)
