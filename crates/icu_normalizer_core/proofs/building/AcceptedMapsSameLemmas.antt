-- Canonical data that say the same of scalar values compose alike. Maps mean one thing.
use Rattle.std.proofs.Common.{◌≡◌, ℕ, Bool, true, false, cond, ltb, ◌==◌, List, [], ◌∷◌, ◌++◌, Option, Some, None, refl, sym, ap, ◌∙◌}
use Rattle.std.specs.List.{All, list_all}
use Rattle.std.specs.Char.{IsScalar}
use Rattle.std.proofs.lemmas.Option.{none-some}
use Rattle.icu_normalizer_core.specs.Canonical.{Canonical, IsDecomposing, composed, composing, decomposed, recomposed}
use Rattle.icu_normalizer_core.specs.CanonicalMaps.{CanonicalMaps, AreMeaning, step_of}
use Rattle.icu_normalizer_core.specs.Sameness.{AreSameCanonical}
use Rattle.icu_normalizer_core.proofs.decomposed_lists.DecomposedLemmas.{AreScalar, decomposed_same, decomposed_scalars, left_one}
use Rattle.std.proofs.lemmas.List.Elements.{recursion_from_All}

-- the same of pairs too, which compose to scalar values
pub record AreAlike (a b : Canonical) : Type 0 where
  pub class : (c : ℕ) → IsScalar c → a.class c ≡ b.class c
  pub pair : (x y : ℕ) → IsScalar x → IsScalar y → a.pair x y ≡ b.pair x y
  pub scalars : (x y z : ℕ) → b.pair x y ≡ Some z → IsScalar z

pushed_scalars : (xs : List ℕ) (c : ℕ) → AreScalar xs → IsScalar c → AreScalar (xs ++ c ∷ [])
pushed_scalars [] c h s = (s, tt)
pushed_scalars (x ∷ xs) c h s = (h.0, pushed_scalars xs c h.1 s)

-- what is composed, else what is left
abbrev composed_else : Option ℕ → (ℕ → List ℕ) → List ℕ → List ℕ
composed_else o further left = elim o [ Some z ↦ further z | None ↦ left ]

else_same : (o : Option ℕ) (f g : ℕ → List ℕ) (xs ys : List ℕ) → ((z : ℕ) → o ≡ Some z → f z ≡ g z) → xs ≡ ys → composed_else o f xs ≡ composed_else o g ys
else_same (Some z) f g xs ys same left = same z refl
else_same None f g xs ys same left = left

module _ (a b : Canonical) (alike : AreAlike a b) where
  seen_same : (marks : List ℕ) (c : ℕ) → IsScalar c → AreScalar marks
      → list_all (λ m. ltb (a.class m) (a.class c)) marks ≡ list_all (λ m. ltb (b.class m) (b.class c)) marks
  seen_same [] c s h = refl
  seen_same (m ∷ ms) c s h = cc (alike.class m h.0, alike.class c s, seen_same ms c s h.1)

  found_scalar : (seen : Bool) (x y z : ℕ) → cond seen (b.pair x y) None ≡ Some z → IsScalar z
  found_scalar true x y z e = alike.scalars x y z e
  found_scalar false x y z e = absurd (none-some z e)

  composing_same : (starter : ℕ) (marks cs : List ℕ) → IsScalar starter → AreScalar marks → AreScalar cs → composing a starter marks cs ≡ composing b starter marks cs
  unfolding composing
  composing_same starter marks [] s ms h = refl
  composing_same starter marks (c ∷ cs) s ms h =
      let seen : Canonical → Bool = λ x. list_all (λ m. ltb (x.class m) (x.class c)) marks in
      let begun : Canonical → List ℕ = λ x. (starter ∷ marks) ++ composing x c [] cs in
      let kept : Canonical → List ℕ = λ x. composing x starter (marks ++ c ∷ []) cs in
      let begun_same : begun a ≡ begun b = ap (λ (t : List ℕ). (starter ∷ marks) ++ t) (composing_same c [] cs h.0 tt h.1) in
      let kept_same : kept a ≡ kept b = composing_same starter (marks ++ c ∷ []) cs s (pushed_scalars marks c ms h.0) h.1 in
      let left_same : cond (a.class c == 0) (begun a) (kept a) ≡ cond (b.class c == 0) (begun b) (kept b) =
      ap (λ (k : ℕ). cond (k == 0) (begun a) (kept a)) (alike.class c h.0)
      ∙ ap (λ (t : List ℕ). cond (b.class c == 0) t (kept a)) begun_same
      ∙ ap (λ (t : List ℕ). cond (b.class c == 0) (begun b) t) kept_same in
      let found_same : cond (seen a) (a.pair starter c) None ≡ cond (seen b) (b.pair starter c) None =
      ap (λ (t : Bool). cond t (a.pair starter c) None) (seen_same marks c h.0 ms) ∙ ap (λ (o : Option ℕ). cond (seen b) o None) (alike.pair starter c s h.0) in
      ap (λ (o : Option ℕ). composed_else o (λ z. composing a z marks cs) (cond (a.class c == 0) (begun a) (kept a))) found_same
      ∙ else_same (cond (seen b) (b.pair starter c) None) (λ z. composing a z marks cs) (λ z. composing b z marks cs) _ _
      (λ z e. composing_same z marks cs (found_scalar (seen b) starter c z e) ms h.1) left_same

  pub recomposed_same : (cs : List ℕ) → AreScalar cs → recomposed a cs ≡ recomposed b cs
  unfolding recomposed
  recomposed_same [] h = refl
  recomposed_same (c ∷ cs) h =
      ap (λ (k : ℕ). cond (k == 0) (composing a c [] cs) (c ∷ recomposed a cs)) (alike.class c h.0)
      ∙ ap (λ (t : List ℕ). cond (b.class c == 0) t (c ∷ recomposed a cs)) (composing_same c [] cs h.0 tt h.1)
      ∙ ap (λ (t : List ℕ). cond (b.class c == 0) (composing b c [] cs) (c ∷ t)) (recomposed_same cs h.1)

  pub composed_same : (text : List ℕ) → AreSameCanonical a b → IsDecomposing b → All IsScalar text → composed a text ≡ composed b text
  unfolding composed
  composed_same text same d h =
      ap (recomposed a) (decomposed_same a b text same d h) ∙ recomposed_same (decomposed b text) (decomposed_scalars b text d (recursion_from_All IsScalar text h))

-- what maps mean is one thing
pub one_meaning : (maps : CanonicalMaps) (a b : Canonical) → AreMeaning maps a → AreMeaning maps b → AreSameCanonical a b
one_meaning maps a b is other = record {
  class = λ c scalar. is.class c scalar ∙ sym (other.class c scalar);
  full = λ c scalar. left_one (step_of maps) (c ∷ []) (a.full c) (b.full c) (is.full c scalar) (other.full c scalar);
}
