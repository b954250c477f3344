-- A map of the first class that is given for each character: one class more, and the class that it has.
use Rattle.std.proofs.Common.{◌≡◌, ℕ, ◌+◌, ◌<◌, Bool, true, false, cond, List, length, take, get_or, Option, Some, None, ◌==◌, refl, sym, ap, ◌∙◌}
use Rattle.std.specs.Prelude.{option_map}
use Rattle.std.specs.BTreeMap.{BTreeMap, get}
use Rattle.std.specs.Option.{option_or, unwrap_or}
use Rattle.std.specs.Ordering.{nat_cmp}
use Rattle.icu_normalizer_core.specs.declared.builder.given.GivenClass.{GivenClass}
use Rattle.icu_normalizer_core.specs.CanonicalMaps.{first_class, given_class}
use Rattle.icu_normalizer_core.specs.FirstClasses.{HasFirstClasses}
use Rattle.icu_normalizer_core.proofs.building.FirstMappingLemmas.{find_more}

class_or : (b : Bool) (o : Option GivenClass) (given : GivenClass)
    → option_or (option_map (λ g. g.class) o) (cond b (Some given.class) None) ≡ option_map (λ g. g.class) (option_or o (cond b (Some given) None))
class_or b (Some g) given = refl
class_or true None given = refl
class_or false None given = refl

pub class_noted : (classes : List GivenClass) (i : ℕ) (given d : GivenClass) (old new : BTreeMap ℕ ℕ) → i < length classes → given ≡ get_or classes i d
    → HasFirstClasses (take i classes) old
    → ((c : ℕ) → get nat_cmp new c ≡ option_or (get nat_cmp old c) (cond (given.character == c) (Some given.class) None)) → HasFirstClasses (take (i + 1) classes) new
class_noted classes i given d old new h is has noted c =
    noted c ∙ ap (λ (o : Option ℕ). option_or o (cond (given.character == c) (Some given.class) None)) (has c)
    ∙ class_or (given.character == c) (first_class (take i classes) c) given
    ∙ ap (λ (o : Option GivenClass). option_map (λ g. g.class) o) (sym (find_more (λ g. g.character == c) classes i given d h is))

found : (o : Option GivenClass) → unwrap_or (option_map (λ g. g.class) o) 0 ≡ elim o [ Some g ↦ g.class | None ↦ 0 ]
found (Some g) = refl
found None = refl

pub class_found : (classes : List GivenClass) (firsts : BTreeMap ℕ ℕ) (c : ℕ) → HasFirstClasses classes firsts → unwrap_or (get nat_cmp firsts c) 0 ≡ given_class classes c
class_found classes firsts c has = ap (λ (o : Option ℕ). unwrap_or o 0) (has c) ∙ found (first_class classes c)
