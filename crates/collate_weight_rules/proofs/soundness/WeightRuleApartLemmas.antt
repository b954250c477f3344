-- Whether the weights of elements keep apart, told by the weights alone.
use Rattle.std.proofs.Common.{◌≡◌, ◌↔◌, ℕ, Bool, true, List, map, sym, subst, IsTrue}
use Rattle.std.specs.List.{Contains}
use Rattle.icu_collator_types.specs.declared.elements.Element.{Element}
use Rattle.icu_collator_core.specs.WeightRules.{are_apart, primary_bytes}
use Rattle.icu_collator_core.proofs.apart.LevelLemmas.{from_mapped, mapped_in}

-- none of the weights begins another one
abbrev pub AreAllApart : List ℕ → Type 0
AreAllApart weights = (v w : ℕ) → Contains weights v → Contains weights w → are_apart primary_bytes v w ≡ true

-- none that elements have begins another one
abbrev pub ApartBy : (Element → ℕ) → List Element → Type 0
ApartBy weight es = (d e : Element) → Contains es d → Contains es e → are_apart primary_bytes (weight d) (weight e) ≡ true

pub told_by : (weight : Element → ℕ) (es : List Element) (weights : List ℕ) (told : Bool) → weights ≡ map weight es
    → IsTrue told ↔ AreAllApart weights → IsTrue told ↔ ApartBy weight es
told_by weight es weights told made tells = (
  λ t d e c k.
      let is_in : (f : Element) → Contains es f → Contains weights (weight f) =
      λ f h. subst (λ xs. Contains xs (weight f)) (sym made) (mapped_in weight es f h) in
      tells.0 t (weight d) (weight e) (is_in d c) (is_in e k),
  λ apart.
      let element_of : (w : ℕ) → Contains weights w → (e : Element) × Contains es e × (weight e ≡ w) =
      λ w h. from_mapped weight es w (subst (λ xs. Contains xs w) made h) in
      tells.1 (λ v w c k.
      let a = element_of v c in
      let b = element_of w k in
      subst (λ v. are_apart primary_bytes v w ≡ true) a.2 (subst (λ w. are_apart primary_bytes (weight a.0) w ≡ true) b.2 (apart a.0 b.0 a.1 b.1))),
)
