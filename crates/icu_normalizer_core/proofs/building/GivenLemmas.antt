-- Classes and mappings that are given one for a character.
use Rattle.std.proofs.Common.{◌≡◌, ℕ, ◌==◌, false, List, [], ◌∷◌, map, Some, refl, subst, ◌∙◌, arith}
use Rattle.std.specs.Prelude.{nat_eq}
use Rattle.std.specs.List.{All, AllByRecursion, IsDistinct}
use Rattle.std.proofs.lemmas.Bool.{cond-false, cond-true, eq-eqb, eqb-true}
use Rattle.std.proofs.lemmas.Bool.Decides.{nat_tests}
use Rattle.std.proofs.lemmas.List.Elements.{All-cons, All-head, All-nil, All-tail}
use Rattle.icu_normalizer_core.specs.declared.builder.given.GivenClass.{GivenClass}
use Rattle.icu_normalizer_core.specs.declared.builder.given.GivenMapping.{GivenMapping}
use Rattle.icu_normalizer_core.specs.CanonicalMaps.{HaveOneMapping, first_class, first_mapping}
use Rattle.icu_normalizer_core.proofs.building.AcceptedMappingLemmas.{find_true}
use Rattle.icu_normalizer_core.proofs.building.MapNumberLemmas.{found_all}

-- what holds of each class that is given holds of the one that counts
pub counted : (P : ℕ → GivenClass → Type 0) (classes : List GivenClass) → All (λ g. P g.character g) classes → (c : ℕ) (g : GivenClass) → first_class classes c ≡ Some g → P c g
counted P classes all c g e =
    let at : g.character ≡ c = eqb-true g.character c (find_true (λ h. h.character == c) classes g e) in
    subst (λ (k : ℕ). P k g) at (found_all (λ h. P h.character h) (λ h. h.character == c) classes g all e)

other : (a b : ℕ) → nat_eq a b ≡ false → (a == b) ≡ false
other a b e = grind (arith, nat_tests)

one_along : (g : GivenMapping) (ms hs : List GivenMapping) → AllByRecursion (λ y. nat_eq g.character y ≡ false) (map (λ h. h.character) hs)
    → All (λ h. first_mapping ms h.character ≡ Some h) hs → All (λ h. first_mapping (g ∷ ms) h.character ≡ Some h) hs
one_along g ms [] apart all = All-nil (λ h. first_mapping (g ∷ ms) h.character ≡ Some h)
one_along g ms (h ∷ hs) apart all =
    All-cons (λ x. first_mapping (g ∷ ms) x.character ≡ Some x) h hs
    (cond-false (g.character == h.character) (Some g) (first_mapping ms h.character) (other g.character h.character apart.0) ∙ All-head (λ x. first_mapping ms x.character ≡ Some x) h hs all)
    (one_along g ms hs apart.1 (All-tail (λ x. first_mapping ms x.character ≡ Some x) h hs all))

-- mappings of different characters are one for each
pub one_each : (ms : List GivenMapping) → IsDistinct nat_eq (map (λ g. g.character) ms) → HaveOneMapping ms
unfolding IsDistinct
one_each [] distinct = All-nil (λ g. first_mapping [] g.character ≡ Some g)
one_each (g ∷ gs) distinct =
    All-cons (λ h. first_mapping (g ∷ gs) h.character ≡ Some h) g gs
    (cond-true (g.character == g.character) (Some g) (first_mapping gs g.character) (eq-eqb g.character g.character refl))
    (one_along g gs gs distinct.0 (one_each gs distinct.1))
