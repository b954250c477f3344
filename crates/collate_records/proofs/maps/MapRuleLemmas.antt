-- Maps of lines that keep the rules of single lines keep the same rules of maps.
use Rattle.std.proofs.Common.{◌≡◌, ◌≢◌, ℕ, ◌<◌, ◌≤◌, ◌⊎◌, inl, inr, ⊎_elim, Bool, true, false, not, cond, ◌||◌, ◌&&◌, ◌==◌, List, [], ◌∷◌, length, All, Option, Some, None, IfSome, refl, sym, ap, ◌∙◌, arith}
use Rattle.std.specs.Prelude.{flat_map}
use Rattle.std.specs.List.{list_any}
use Rattle.std.specs.Bool.{IsTrue}
use Rattle.std.specs.Option.{is_some}
use Rattle.std.specs.Str.{bytes_eq}
use Rattle.std.proofs.lemmas.Bool.{cases_Bool, cases_eq, cases_lt, ne_eqb, false_from_ne_true, false≢true, true_from_ne_false}
use Rattle.std.proofs.lemmas.Bool.Decides.{nat_tests}
use Rattle.std.proofs.lemmas.Option.{none-some, same_Some}
use Rattle.std.proofs.lemmas.List.Elements.{All-nil, All-cons, All-weaker}
use Rattle.std.proofs.Math.Bool.{and-true}
use Rattle.icu_normalizer_core.specs.declared.builder.given.GivenClass.{GivenClass}
use Rattle.icu_normalizer_core.specs.declared.builder.given.GivenMapping.{GivenMapping}
use Rattle.icu_normalizer_core.specs.BuiltIn.{built_in_class, built_in_step, is_syllable, is_jamo, is_built_in}
use Rattle.icu_normalizer_core.specs.CanonicalMaps.{mapping_given, is_built_in_mapping}
use Rattle.icu_normalizer_core.proofs.built.BuiltInFacts.{syllable_cases, syllable_mapped}
use Rattle.collate_lines.specs.Record.{Record, nothing, class, mapping, compatibility, weights, range, digit, setting}
use Rattle.collate_records.specs.Maps.{classes_in, mappings_in}
use Rattle.collate_rules.specs.Rules.{is_built_in_record, IsBadClass, MapsHangul}
use Rattle.collate_records.proofs.maps.MapLineLemmas.{All-flat_map}
use Rattle.collate_records.proofs.maps.MapMeaningLemmas.{IsConsistent}

-- ---- Classes

-- the class is 1 to 254, or built in
abbrev IsGoodClass : GivenClass → Type 0
IsGoodClass g = ((0 < g.class) × (g.class ≤ 254)) ⊎ (built_in_class g.character ≡ Some g.class)

either_class : (o : Option ℕ) (k : ℕ) → (o ≡ Some k) ⊎ (o ≢ Some k)
either_class None k = inr (λ e. none-some k e)
either_class (Some l) k = ⊎_elim (λ e. inl (ap Some e)) (λ apart. inr (λ e. apart (same_Some l k e))) (cases_eq l k)

good_class : (c k : ℕ) → (IsBadClass (class c k) → ⊥) → IsGoodClass (record { character = c; class = k })
good_class c k good =
    ⊎_elim
    (λ same. inr same)
    (λ apart. inl (
      ⊎_elim (λ above. above) (λ none. absurd (good (inl (omega arith), apart))) (cases_lt 0 k),
      ⊎_elim (λ past. absurd (good (inr past, apart))) (λ within. within) (cases_lt 254 k),
    ))
    (either_class (built_in_class c) k)

line_classes : (r : Record) → (IsBadClass r → ⊥) → All IsGoodClass (classes_in r)
line_classes nothing good = All-nil IsGoodClass
line_classes (class c k) good = All-cons IsGoodClass (record { character = c; class = k }) [] (good_class c k good) (All-nil IsGoodClass)
line_classes (mapping c ds x) good = All-nil IsGoodClass
line_classes (compatibility c ds) good = All-nil IsGoodClass
line_classes (weights l p t es) good = All-nil IsGoodClass
line_classes (range s) good = All-nil IsGoodClass
line_classes (digit c v) good = All-nil IsGoodClass
line_classes (setting s) good = All-nil IsGoodClass

pub maps_classes : (records : List Record) → All (λ r. IsBadClass r → ⊥) records → All IsGoodClass (flat_map classes_in records)
maps_classes records good = All-flat_map IsGoodClass classes_in records (All-weaker _ (λ r. All IsGoodClass (classes_in r)) line_classes records good)

-- the class is the built-in one, if there is one
abbrev IsAgreedClass : GivenClass → Type 0
IsAgreedClass g = IfSome (built_in_class g.character) (λ k. g.class ≡ k)

agreed_class : (o : Option ℕ) (k : ℕ) → (IsTrue (is_some o) × (elim o [ Some l ↦ k == l | None ↦ false ] ≡ false) → ⊥) → IfSome o (λ l. k ≡ l)
agreed_class None k consistent = tt
agreed_class (Some l) k consistent = ⊎_elim (λ e. e) (λ apart. absurd (consistent (refl, ne_eqb k l apart))) (cases_eq k l)

line_agreed : (r : Record) → IsConsistent r → All IsAgreedClass (classes_in r)
line_agreed nothing good = All-nil IsAgreedClass
line_agreed (class c k) good = All-cons IsAgreedClass (record { character = c; class = k }) [] (agreed_class (built_in_class c) k good) (All-nil IsAgreedClass)
line_agreed (mapping c ds x) good = All-nil IsAgreedClass
line_agreed (compatibility c ds) good = All-nil IsAgreedClass
line_agreed (weights l p t es) good = All-nil IsAgreedClass
line_agreed (range s) good = All-nil IsAgreedClass
line_agreed (digit c v) good = All-nil IsAgreedClass
line_agreed (setting s) good = All-nil IsAgreedClass

pub maps_built_in_classes : (records : List Record) → All IsConsistent records → All IsAgreedClass (flat_map classes_in records)
maps_built_in_classes records good = All-flat_map IsAgreedClass classes_in records (All-weaker IsConsistent (λ r. All IsAgreedClass (classes_in r)) line_agreed records good)

-- ---- Mappings: a line says what is built in exactly if its mapping does

abbrev one_of : ℕ → ℕ → GivenMapping
one_of c d = record { character = c; first = d; second = None; is_composed = false }

abbrev two_of : ℕ → ℕ → ℕ → Bool → GivenMapping
two_of c d e x = record { character = c; first = d; second = Some e; is_composed = not x }

never : (p q : Bool) → p ≡ false → (p && q) ≡ false
never true q e = absurd (false≢true (sym e))
never false q e = refl

no_syllable : (c e : ℕ) → built_in_step c ≡ Some (e ∷ []) → is_syllable c ≡ false
no_syllable c e is =
    ⊎_elim
    (λ syllable.
    let w = syllable_cases c syllable in
    let same = same_Some _ _ (sym is ∙ syllable_mapped c syllable) ∙ w.2 in
    absurd (omega (arith, ap length same)))
    (λ other. other)
    (cases_Bool (is_syllable c))

one_said : (c d : ℕ) (x : Bool) → is_built_in_mapping (one_of c d) ≡ is_built_in_record (mapping c (d ∷ []) x)
one_said c d x = by (built_in_step c) refl
  where
    one_pair : (e : ℕ) → bytes_eq (d ∷ []) (e ∷ []) ≡ (d == e)
    one_pair e = grind (arith, nat_tests)

    longer : (e f : ℕ) (ds : List ℕ) → bytes_eq (d ∷ []) (e ∷ f ∷ ds) ≡ false
    longer e f ds = grind (arith, nat_tests)

    by : (o : Option (List ℕ)) → built_in_step c ≡ o
        → elim o as (λ _. Bool) [ Some ds ↦ bytes_eq (d ∷ []) ds && cond (is_syllable c) false true | None ↦ false ]
        ≡ elim o as (λ _. Bool) [ Some (e ∷ []) ↦ d == e | _ ↦ false ]
    by None h = refl
    by (Some []) h = refl
    by (Some (e ∷ [])) h =
        ap (λ (t : Bool). bytes_eq (d ∷ []) (e ∷ []) && cond t false true) (no_syllable c e h) ∙ and-true (bytes_eq (d ∷ []) (e ∷ [])) ∙ one_pair e
    by (Some (e ∷ f ∷ ds)) h = never _ (cond (is_syllable c) false true) (longer e f ds)

two_said : (c d e : ℕ) (x : Bool) → is_built_in_mapping (two_of c d e x) ≡ is_built_in_record (mapping c (d ∷ e ∷ []) x)
two_said c d e x = by (built_in_step c)
  where
    shorter : (f : ℕ) → bytes_eq (d ∷ e ∷ []) (f ∷ []) ≡ false
    shorter f = grind (arith, nat_tests)

    longer : (f g h : ℕ) (ds : List ℕ) → bytes_eq (d ∷ e ∷ []) (f ∷ g ∷ h ∷ ds) ≡ false
    longer f g h ds = grind (arith, nat_tests)

    same_pair : (f g : ℕ) → bytes_eq (d ∷ e ∷ []) (f ∷ g ∷ []) ≡ ((d == f) && (e == g))
    same_pair f g = grind (arith, nat_tests)

    regrouped : (p q r s y : Bool) → p ≡ (q && r) → (p && cond s (not y) (not (not y))) ≡ (q && r && cond s (not y) y)
    regrouped p q r s true e = ap (λ (t : Bool). t && cond s false true) e
    regrouped p q r s false e = ap (λ (t : Bool). t && cond s true false) e

    by : (o : Option (List ℕ))
        → elim o as (λ _. Bool) [ Some ds ↦ bytes_eq (d ∷ e ∷ []) ds && cond (is_syllable c) (not x) (not (not x)) | None ↦ false ]
        ≡ elim o as (λ _. Bool) [ Some (f ∷ g ∷ []) ↦ (d == f) && (e == g) && cond (is_syllable c) (not x) x | _ ↦ false ]
    by None = refl
    by (Some []) = refl
    by (Some (f ∷ [])) = never _ (cond (is_syllable c) (not x) (not (not x))) (shorter f)
    by (Some (f ∷ g ∷ [])) = regrouped _ (d == f) (e == g) (is_syllable c) x (same_pair f g)
    by (Some (f ∷ g ∷ h ∷ ds)) = never _ (cond (is_syllable c) (not x) (not (not x))) (longer f g h ds)

-- what holds of a mapping to one character or to two holds of each that a line gives
line_mappings : (P : GivenMapping → Type 0) (Q : Record → Type 0) → ((c d : ℕ) (x : Bool) → Q (mapping c (d ∷ []) x) → P (one_of c d))
    → ((c d e : ℕ) (x : Bool) → Q (mapping c (d ∷ e ∷ []) x) → P (two_of c d e x)) → (r : Record) → Q r → All P (mappings_in r)
line_mappings P Q one two nothing q = All-nil P
line_mappings P Q one two (class c k) q = All-nil P
line_mappings P Q one two (mapping c [] x) q = All-nil P
line_mappings P Q one two (mapping c (d ∷ []) x) q = All-cons P (one_of c d) [] (one c d x q) (All-nil P)
line_mappings P Q one two (mapping c (d ∷ e ∷ []) x) q = All-cons P (two_of c d e x) [] (two c d e x q) (All-nil P)
line_mappings P Q one two (mapping c (d ∷ e ∷ f ∷ ds) x) q = All-nil P
line_mappings P Q one two (compatibility c ds) q = All-nil P
line_mappings P Q one two (weights l p t es) q = All-nil P
line_mappings P Q one two (range s) q = All-nil P
line_mappings P Q one two (digit c v) q = All-nil P
line_mappings P Q one two (setting s) q = All-nil P

pub all_mappings : (P : GivenMapping → Type 0) (Q : Record → Type 0) → ((c d : ℕ) (x : Bool) → Q (mapping c (d ∷ []) x) → P (one_of c d))
    → ((c d e : ℕ) (x : Bool) → Q (mapping c (d ∷ e ∷ []) x) → P (two_of c d e x)) → (records : List Record) → All Q records → All P (flat_map mappings_in records)
all_mappings P Q one two records all = All-flat_map P mappings_in records (All-weaker Q (λ r. All P (mappings_in r)) (line_mappings P Q one two) records all)

pub maps_built_in_mappings : (records : List Record) → All IsConsistent records
    → All (λ g. is_built_in g.character ≡ true → is_built_in_mapping g ≡ true) (flat_map mappings_in records)
maps_built_in_mappings =
    all_mappings (λ g. is_built_in g.character ≡ true → is_built_in_mapping g ≡ true) IsConsistent
    (λ c d x consistent built. one_said c d x ∙ true_from_ne_false _ (λ off. consistent (built, off)))
    (λ c d e x consistent built. two_said c d e x ∙ true_from_ne_false _ (λ off. consistent (built, off)))

pub maps_letters : (records : List Record) → All (λ r. MapsHangul r → ⊥) records
    → All (λ g. is_built_in_mapping g ≡ false → list_any (λ d. is_jamo d || is_syllable d) (g.character ∷ mapping_given g) ≡ false) (flat_map mappings_in records)
maps_letters =
    all_mappings (λ g. is_built_in_mapping g ≡ false → list_any (λ d. is_jamo d || is_syllable d) (g.character ∷ mapping_given g) ≡ false) (λ r. MapsHangul r → ⊥)
    (λ c d x good off. false_from_ne_true _ (λ named. good (named, sym (one_said c d x) ∙ off)))
    (λ c d e x good off. false_from_ne_true _ (λ named. good (named, sym (two_said c d e x) ∙ off)))
