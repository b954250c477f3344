-- The weights of elements on a level, put in order.
use Rattle.std.proofs.Common.{◌≡◌, ◌↔◌, ℕ, ◌<◌, Bool, true, ◌&&◌, List, length, map, sym, ap, ◌∙◌, subst, arith, nat_cmp, IsTrue}
use Rattle.std.specs.List.{Contains}
use Rattle.std.specs.List.Sorted.{IsPermutation, IsSorted}
use Rattle.std.proofs.lemmas.Bool.{and_from, and_parts}
use Rattle.std.proofs.lemmas.List.{length-map, get_or-map}
use Rattle.std.proofs.lemmas.List.Sorted.{Contains-permutation, IsPermutation-sym}
use Rattle.icu_collator_types.specs.declared.elements.Element.{Element}
use Rattle.icu_collator_core.specs.declared.check.apart.levels.Level.{Level}
use Rattle.icu_collator_core.specs.declared.check.apart.levels.Level.TheVariants.{Primary, Secondary, Tertiary}
use Rattle.icu_collator_core.specs.WeightLists.{are_steps_apart, weight_on}
use Rattle.icu_collator_core.specs.WeightRules.{are_apart, are_apart_elements, primary_bytes, weight_bytes}
use Rattle.icu_collator_core.proofs.apart.BeginningLemmas.{apart_from, none_begun, weights_as_primaries}
use Rattle.icu_collator_core.proofs.apart.GrowthLemmas.{item_at}
use Rattle.icu_collator_core.proofs.apart.ApartOrderLemmas.{steps_tell}

module _ {X Y : Type 0} (f : X → Y) where
  pub mapped_in : (xs : List X) (x : X) → Contains xs x → Contains (map f xs) (f x)
  mapped_in xs x w =
      let many = length-map xs f in
      (w.0, (let lt = w.1 in omega (arith, many, lt)), get_or-map f xs w.0 x (f x) w.1 ∙ ap f w.2)

  pub from_mapped : (xs : List X) (y : Y) → Contains (map f xs) y → (x : X) × Contains xs x × (f x ≡ y)
  from_mapped xs y w =
      let many = length-map xs f in
      let lt : w.0 < length xs = let l = w.1 in omega (arith, many, l) in
      let found = item_at xs w.0 lt in
      (found.0, (w.0, lt, found.1 found.0), ap f (sym (found.1 found.0)) ∙ sym (get_or-map f xs w.0 found.0 y lt) ∙ w.2)

abbrev AreApartOn : Level → List Element → Type 0
AreApartOn level elements =
    (d e : Element) → Contains elements d → Contains elements e → are_apart primary_bytes (weight_on level d) (weight_on level e) ≡ true

-- none of the weights begins another one
abbrev AreAllApart : List ℕ → Type 0
AreAllApart weights = (v w : ℕ) → Contains weights v → Contains weights w → are_apart primary_bytes v w ≡ true

-- weights put in order tell whether they keep apart
pub order_tells : (weights ws : List ℕ) (told : Bool) → IsPermutation weights ws → IsSorted nat_cmp ws → told ≡ are_steps_apart 0 ws
    → IsTrue told ↔ AreAllApart weights
order_tells weights ws told moved sorted answer = (
  λ t v w c k.
      let nones = (steps_tell ws sorted).0 (sym answer ∙ t) in
      let is_in : (x : ℕ) → Contains weights x → Contains ws x = λ x h. Contains-permutation weights ws x moved h in
      apart_from v w (nones _ _ (is_in v c) (is_in w k)) (nones _ _ (is_in w k) (is_in v c)),
  λ apart.
      let was_in : (x : ℕ) → Contains ws x → Contains weights x = λ x h. Contains-permutation ws weights x (IsPermutation-sym weights ws moved) h in
      answer ∙ (steps_tell ws sorted).1 (λ x y c k. none_begun x y (apart x y (was_in x c) (was_in y k))),
)

-- so do the weights of elements on a level
pub level_tells : (level : Level) (elements : List Element) (weights : List ℕ) (told : Bool) → weights ≡ map (weight_on level) elements
    → IsTrue told ↔ AreAllApart weights → IsTrue told ↔ AreApartOn level elements
level_tells level elements weights told made tells = (
  λ t d e c k.
      let is_in : (f : Element) → Contains elements f → Contains weights (weight_on level f) =
      λ f h. subst (λ xs. Contains xs (weight_on level f)) (sym made) (mapped_in (weight_on level) elements f h) in
      tells.0 t (weight_on level d) (weight_on level e) (is_in d c) (is_in e k),
  λ apart.
      let element_of : (w : ℕ) → Contains weights w → (e : Element) × Contains elements e × (weight_on level e ≡ w) =
      λ w h. from_mapped (weight_on level) elements w (subst (λ xs. Contains xs w) made h) in
      tells.1 (λ v w c k.
      let a = element_of v c in
      let b = element_of w k in
      subst (λ v. are_apart primary_bytes v w ≡ true) a.2 (subst (λ w. are_apart primary_bytes (weight_on level a.0) w ≡ true) b.2 (apart a.0 b.0 a.1 b.1))),
)

-- all levels together
pub all_levels : (elements : List Element) (p s t : Bool) → (IsTrue p ↔ AreApartOn Primary elements) → (IsTrue s ↔ AreApartOn Secondary elements)
    → (IsTrue t ↔ AreApartOn Tertiary elements)
    → IsTrue ((p && s) && t) ↔ ((d e : Element) → Contains elements d → Contains elements e → are_apart_elements d e ≡ true)
all_levels elements p s t by_p by_s by_t = (
  λ h d e c k.
      let b = and_parts (p && s) t h in
      let a = and_parts p s b.0 in
      and_from (are_apart primary_bytes d.primary e.primary && are_apart weight_bytes d.secondary e.secondary) (are_apart weight_bytes d.tertiary e.tertiary)
      (and_from (are_apart primary_bytes d.primary e.primary) (are_apart weight_bytes d.secondary e.secondary) (by_p.0 a.0 d e c k)
      (weights_as_primaries d.secondary e.secondary ∙ by_s.0 a.1 d e c k))
      (weights_as_primaries d.tertiary e.tertiary ∙ by_t.0 b.1 d e c k),
  λ all.
      let split : (d e : Element) → Contains elements d → Contains elements e
      → (are_apart primary_bytes d.primary e.primary ≡ true)
      × (are_apart weight_bytes d.secondary e.secondary ≡ true)
      × (are_apart weight_bytes d.tertiary e.tertiary ≡ true) =
      λ d e c k.
      let b = and_parts (are_apart primary_bytes d.primary e.primary && are_apart weight_bytes d.secondary e.secondary) (are_apart weight_bytes d.tertiary e.tertiary) (all d e c k) in
      let a = and_parts (are_apart primary_bytes d.primary e.primary) (are_apart weight_bytes d.secondary e.secondary) b.0 in
      (a.0, a.1, b.1) in
      and_from (p && s) t
      (and_from p s
      (by_p.1 (λ d e c k. (split d e c k).0))
      (by_s.1 (λ d e c k. sym (weights_as_primaries d.secondary e.secondary) ∙ (split d e c k).1)))
      (by_t.1 (λ d e c k. sym (weights_as_primaries d.tertiary e.tertiary) ∙ (split d e c k).2)),
)
