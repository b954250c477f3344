-- What a line gives to the maps of its file.
use Rattle.std.proofs.Common.{◌≡◌, ℕ, ◌≤◌, Bool, true, false, not, cond, ◌==◌, eqb, List, [], ◌∷◌, length, map, take, All, Option, Some, None, refl, ap, ◌∙◌, arith}
use Rattle.std.specs.Prelude.{flat_map}
use Rattle.std.specs.List.{find}
use Rattle.std.specs.Option.{unwrap_or}
use Rattle.std.proofs.lemmas.List.{take_all}
use Rattle.std.proofs.lemmas.List.Elements.{All-nil, All-head, All-tail, All-append}
use Rattle.std.specs.Cmp.{nat_eq_equiv}
use Rattle.icu_normalizer_core.specs.declared.builder.given.GivenClass.{GivenClass}
use Rattle.icu_normalizer_core.specs.declared.builder.given.GivenMapping.{GivenMapping}
use Rattle.icu_normalizer_core.specs.CanonicalMaps.{CanonicalMaps, given_class, given_step, mapping_given}
use Rattle.collate_lines.specs.Record.{Record, nothing, class, mapping, compatibility, weights, range, digit, setting}
use Rattle.collate_rules.specs.Meaning.{first_found, class_in, mapping_in}
use Rattle.collate_records.specs.Maps.{classes_in, mappings_in, maps_of}
use Rattle.collate_lines.specs.Keys.{class_key, mapping_key}

-- a line maps to one character or to two
abbrev pub MapsToFew : Record → Type 0
MapsToFew (mapping c ds x) = (length ds ≤ 2) × (1 ≤ length ds)
MapsToFew _ = Unit {0}

-- what holds of each item that a line gives holds of all items
pub All-flat_map : {A B : Type 0} (P : B → Type 0) (f : A → List B) (xs : List A) → All (λ x. All P (f x)) xs → All P (flat_map f xs)
All-flat_map P f [] h = All-nil P
All-flat_map P f (x ∷ xs) h =
    All-append P (f x) (flat_map f xs) (All-head (λ y. All P (f y)) x xs h) (All-flat_map P f xs (All-tail (λ y. All P (f y)) x xs h))

-- ---- What is found

abbrev class_among : Option GivenClass → ℕ
class_among o = elim o [ Some g ↦ g.class | None ↦ 0 ]

class_by : (s t : Bool) (g : GivenClass) (later : Option GivenClass) (after : Option ℕ) → s ≡ t → class_among later ≡ unwrap_or after 0
    → class_among (cond s (Some g) later) ≡ unwrap_or (elim (cond t (Some g.class) None) as (λ _. Option ℕ) [ Some y ↦ Some y | None ↦ after ]) 0
class_by true true g later after e h = refl
class_by false false g later after e h = h
class_by true false g later after e h = absurd (cc)
class_by false true g later after e h = absurd (cc)

-- the class that maps give is the one that a line gives first
pub given_class-maps : (c : ℕ) (records : List Record) → given_class (flat_map classes_in records) c ≡ unwrap_or (first_found (class_in c) records) 0
given_class-maps c [] = refl
given_class-maps c (nothing ∷ rs) = given_class-maps c rs
given_class-maps c (class d k ∷ rs) =
    class_by (eqb d c) (eqb c d) (record { character = d; class = k }) (find (λ g. g.character == c) (flat_map classes_in rs)) (first_found (class_in c) rs) (nat_eq_equiv.symm d c) (given_class-maps c rs)
given_class-maps c (mapping d ds x ∷ rs) = given_class-maps c rs
given_class-maps c (compatibility d ds ∷ rs) = given_class-maps c rs
given_class-maps c (weights l p t es ∷ rs) = given_class-maps c rs
given_class-maps c (range r ∷ rs) = given_class-maps c rs
given_class-maps c (digit d v ∷ rs) = given_class-maps c rs
given_class-maps c (setting s ∷ rs) = given_class-maps c rs

abbrev step_among : Option GivenMapping → List ℕ
step_among o = elim o [ Some g ↦ mapping_given g | None ↦ [] ]

step_by : (s t : Bool) (g : GivenMapping) (later : Option GivenMapping) (after : Option (List ℕ)) → s ≡ t → step_among later ≡ unwrap_or after []
    → step_among (cond s (Some g) later) ≡ unwrap_or (elim (cond t (Some (mapping_given g)) None) as (λ _. Option (List ℕ)) [ Some y ↦ Some y | None ↦ after ]) []
step_by true true g later after e h = refl
step_by false false g later after e h = h
step_by true false g later after e h = absurd (cc)
step_by false true g later after e h = absurd (cc)

-- the mapping that maps give is the one that a line gives first
pub given_step-maps : (c : ℕ) (records : List Record) → All MapsToFew records → given_step (flat_map mappings_in records) c ≡ unwrap_or (first_found (mapping_in c) records) []
given_step-maps c [] few = refl
given_step-maps c (nothing ∷ rs) few = given_step-maps c rs (All-tail MapsToFew _ rs few)
given_step-maps c (class d k ∷ rs) few = given_step-maps c rs (All-tail MapsToFew _ rs few)
given_step-maps c (mapping d [] x ∷ rs) few = absurd (let h = All-head MapsToFew (mapping d [] x) rs few in omega (arith, h.1))
given_step-maps c (mapping d (e ∷ []) x ∷ rs) few =
    step_by (eqb d c) (eqb c d) (record { character = d; first = e; second = None; is_composed = false })
    (find (λ g. g.character == c) (flat_map mappings_in rs)) (first_found (mapping_in c) rs) (nat_eq_equiv.symm d c) (given_step-maps c rs (All-tail MapsToFew _ rs few))
given_step-maps c (mapping d (e ∷ f ∷ []) x ∷ rs) few =
    step_by (eqb d c) (eqb c d) (record { character = d; first = e; second = Some f; is_composed = not x })
    (find (λ g. g.character == c) (flat_map mappings_in rs)) (first_found (mapping_in c) rs) (nat_eq_equiv.symm d c) (given_step-maps c rs (All-tail MapsToFew _ rs few))
given_step-maps c (mapping d (e ∷ f ∷ g ∷ ds) x ∷ rs) few = absurd (let h = All-head MapsToFew (mapping d (e ∷ f ∷ g ∷ ds) x) rs few in omega (arith, h.0))
given_step-maps c (compatibility d ds ∷ rs) few = given_step-maps c rs (All-tail MapsToFew _ rs few)
given_step-maps c (weights l p t es ∷ rs) few = given_step-maps c rs (All-tail MapsToFew _ rs few)
given_step-maps c (range r ∷ rs) few = given_step-maps c rs (All-tail MapsToFew _ rs few)
given_step-maps c (digit d v ∷ rs) few = given_step-maps c rs (All-tail MapsToFew _ rs few)
given_step-maps c (setting s ∷ rs) few = given_step-maps c rs (All-tail MapsToFew _ rs few)

-- ---- Whose they are

-- the characters of the classes are those of the lines that give a class
pub class_keys : (records : List Record) → map (λ g. g.character) (flat_map classes_in records) ≡ flat_map class_key records
class_keys [] = refl
class_keys (nothing ∷ rs) = class_keys rs
class_keys (class d k ∷ rs) = ap (λ (cs : List ℕ). d ∷ cs) (class_keys rs)
class_keys (mapping d ds x ∷ rs) = class_keys rs
class_keys (compatibility d ds ∷ rs) = class_keys rs
class_keys (weights l p t es ∷ rs) = class_keys rs
class_keys (range r ∷ rs) = class_keys rs
class_keys (digit d v ∷ rs) = class_keys rs
class_keys (setting s ∷ rs) = class_keys rs

-- the characters of the mappings are those of the lines that give a mapping
pub mapping_keys : (records : List Record) → All MapsToFew records → map (λ g. g.character) (flat_map mappings_in records) ≡ flat_map mapping_key records
mapping_keys [] few = refl
mapping_keys (nothing ∷ rs) few = mapping_keys rs (All-tail MapsToFew _ rs few)
mapping_keys (class d k ∷ rs) few = mapping_keys rs (All-tail MapsToFew _ rs few)
mapping_keys (mapping d [] x ∷ rs) few = absurd (let h = All-head MapsToFew (mapping d [] x) rs few in omega (arith, h.1))
mapping_keys (mapping d (e ∷ []) x ∷ rs) few = ap (λ (cs : List ℕ). d ∷ cs) (mapping_keys rs (All-tail MapsToFew _ rs few))
mapping_keys (mapping d (e ∷ f ∷ []) x ∷ rs) few = ap (λ (cs : List ℕ). d ∷ cs) (mapping_keys rs (All-tail MapsToFew _ rs few))
mapping_keys (mapping d (e ∷ f ∷ g ∷ ds) x ∷ rs) few = absurd (let h = All-head MapsToFew (mapping d (e ∷ f ∷ g ∷ ds) x) rs few in omega (arith, h.0))
mapping_keys (compatibility d ds ∷ rs) few = mapping_keys rs (All-tail MapsToFew _ rs few)
mapping_keys (weights l p t es ∷ rs) few = mapping_keys rs (All-tail MapsToFew _ rs few)
mapping_keys (range r ∷ rs) few = mapping_keys rs (All-tail MapsToFew _ rs few)
mapping_keys (digit d v ∷ rs) few = mapping_keys rs (All-tail MapsToFew _ rs few)
mapping_keys (setting s ∷ rs) few = mapping_keys rs (All-tail MapsToFew _ rs few)

-- ---- All lines

-- what all lines give is their maps
pub all_given : (lines : List Record) (i : ℕ) (maps : CanonicalMaps) → length lines ≤ i
    → maps.classes ≡ flat_map classes_in (take i lines) → maps.mappings ≡ flat_map mappings_in (take i lines) → maps ≡ maps_of lines
all_given lines i maps whole classes mappings =
    let all : take i lines ≡ lines = take_all i lines whole in
    ap (λ (gs : List GivenClass). record { classes = gs; mappings = maps.mappings }) (classes ∙ ap (flat_map classes_in) all)
    ∙ ap (λ (gs : List GivenMapping). record { classes = flat_map classes_in lines; mappings = gs }) (mappings ∙ ap (flat_map mappings_in) all)
