-- What the maps of lines mean is what the lines mean.
use Rattle.std.proofs.Common.{◌≡◌, ℕ, ◌<◌, ⊎_elim, Bool, true, false, not, cond, ◌||◌, ◌&&◌, ◌==◌, List, [], ◌∷◌, length, All, Option, Some, None, refl, sym, ap, ◌∙◌, arith, subst, get_or}
use Rattle.std.specs.Prelude.{flat_map}
use Rattle.std.specs.List.{find}
use Rattle.std.specs.Option.{is_some, unwrap_or}
use Rattle.std.specs.Str.{bytes_eq}
use Rattle.std.proofs.lemmas.Bool.{cases_Bool}
use Rattle.std.proofs.lemmas.Bool.Decides.{nat_tests}
use Rattle.std.proofs.lemmas.Option.{unwrap_or-slice_get}
use Rattle.std.proofs.lemmas.List.Elements.{All-head, All-tail, All-get_or}
use Rattle.std.proofs.Math.Bool.{and-false}
use Rattle.icu_normalizer_core.specs.declared.builder.given.GivenMapping.{GivenMapping}
use Rattle.icu_normalizer_core.specs.BuiltIn.{built_in_class, built_in_step, built_in_compatibility_step, syllable_of, is_built_in}
use Rattle.icu_normalizer_core.specs.Canonical.{IsDecomposing}
use Rattle.icu_normalizer_core.specs.CanonicalMaps.{AreMeaning, given_step, given_pair, composes, class_of as class_of_maps, step_of as step_of_maps, pair_of as pair_of_maps}
use Rattle.icu_normalizer_core.proofs.settling.LeftLemmas.{left_same}
use Rattle.collate_lines.specs.Record.{Record, nothing, class, mapping, compatibility, weights, range, digit, setting}
use Rattle.collate_rules.specs.Meaning.{first_found, mapping_in, composed_in, class_of, step_of, pair_of, canonical_of}
use Rattle.collate_records.specs.Maps.{mappings_in, maps_of}
use Rattle.collate_lines.specs.Repeats.{record_at}
use Rattle.collate_rules.specs.Rules.{Contradicts}
use Rattle.collate_records.proofs.maps.MapLineLemmas.{MapsToFew, given_class-maps, given_step-maps}
use Rattle.collate_rules.proofs.lookups.FoundLemmas.{mapping_line}
use Rattle.collate_records.proofs.mappings.MappingStepLemmas.{free_not_said}

-- a line contradicts nothing that is built in
abbrev pub IsConsistent : Record → Type 0
IsConsistent r = Contradicts r → ⊥

pub class_of-maps : (records : List Record) (c : ℕ) → class_of_maps (maps_of records) c ≡ class_of records c
class_of-maps records c = ap (λ (k : ℕ). unwrap_or (built_in_class c) k) (given_class-maps c records)

-- where a line contradicts nothing that is built in, and no mapping of its character is built in, nothing at all is built in of it
pub line_free : (c : ℕ) (ds : List ℕ) (x : Bool) → IsConsistent (mapping c ds x) → built_in_step c ≡ None → is_built_in c ≡ false
line_free c ds x consistent free =
    ⊎_elim (λ built. absurd (consistent (built, free_not_said c ds x free))) (λ none. none) (cases_Bool (is_built_in c))

module _ (records : List Record) (few : All MapsToFew records) (consistent : All IsConsistent records) where
  consistent_at : (i : ℕ) (s : Record) → i < length records → record_at records i ≡ s → IsConsistent s
  consistent_at i s lt e =
      let here : IsConsistent (get_or records i nothing) = All-get_or IsConsistent records i nothing lt consistent in
      subst IsConsistent (sym (unwrap_or-slice_get records i nothing) ∙ e) here

  -- no line maps a character that is built in to have a compatibility mapping
  found_none : (c : ℕ) → is_built_in c ≡ true → built_in_step c ≡ None → (o : Option (List ℕ)) → first_found (mapping_in c) records ≡ o → unwrap_or o [] ≡ []
  found_none c built free None e = refl
  found_none c built free (Some ds) e =
      let w = mapping_line records c ds e in
      absurd (consistent_at w.0 (mapping c ds w.1) w.2 w.3 (built, free_not_said c ds w.1 free))

  step_by : (c : ℕ) (o : Option (List ℕ)) (b : Bool) → built_in_step c ≡ o → is_some o || is_some (built_in_compatibility_step c) ≡ b
      → unwrap_or o (given_step (flat_map mappings_in records) c) ≡ cond b (unwrap_or o []) (unwrap_or (first_found (mapping_in c) records) [])
  step_by c (Some ds) true e t = refl
  step_by c (Some ds) false e t = absurd (cc)
  step_by c None false e t = given_step-maps c records few
  step_by c None true e t =
      given_step-maps c records few ∙ found_none c (ap (λ (o : Option (List ℕ)). is_some o || is_some (built_in_compatibility_step c)) e ∙ t) e (first_found (mapping_in c) records) refl

  pub step_of-maps : (c : ℕ) → step_of_maps (maps_of records) c ≡ step_of records c
  step_of-maps c = step_by c (built_in_step c) (is_built_in c) refl refl

-- ---- Composed pairs

abbrev character_of : Option GivenMapping → Option ℕ
character_of o = elim o [ Some g ↦ Some g.character | None ↦ None ]

pair_by : (s t : Bool) (g : GivenMapping) (later : Option GivenMapping) (after : Option ℕ) → s ≡ t → character_of later ≡ after
    → character_of (cond s (Some g) later) ≡ elim (cond t (Some g.character) None) as (λ _. Option ℕ) [ Some y ↦ Some y | None ↦ after ]
pair_by true true g later after e h = refl
pair_by false false g later after e h = h
pair_by true false g later after e h = absurd (cc)
pair_by false true g later after e h = absurd (cc)

-- a line that is composed is so in the maps
pub composes_same : (a b c d e : ℕ) → IsConsistent (mapping c (d ∷ e ∷ []) false)
    → (bytes_eq (d ∷ e ∷ []) (a ∷ b ∷ []) && not (is_some (built_in_step c))) ≡ ((a == d) && (b == e) && not (is_built_in c))
composes_same a b c d e consistent = by (built_in_step c) refl
  where
    same_pair : bytes_eq (d ∷ e ∷ []) (a ∷ b ∷ []) ≡ ((a == d) && (b == e))
    same_pair = grind (arith, nat_tests)

    by : (o : Option (List ℕ)) → built_in_step c ≡ o
        → (bytes_eq (d ∷ e ∷ []) (a ∷ b ∷ []) && not (is_some o)) ≡ ((a == d) && (b == e) && not (is_some o || is_some (built_in_compatibility_step c)))
    by (Some ds) h = and-false _ ∙ sym (and-false _)
    by None h =
        let free : (is_some (built_in_step c) || is_some (built_in_compatibility_step c)) ≡ false = line_free c (d ∷ e ∷ []) false consistent h in
        let none : is_some (built_in_compatibility_step c) ≡ false = sym (ap (λ (o : Option (List ℕ)). is_some o || is_some (built_in_compatibility_step c)) h) ∙ free in
        ap (λ (p : Bool). p && true) same_pair ∙ sym (ap (λ (p : Bool). ((a == d) && (b == e)) && not p) none)

given_pair-maps : (a b : ℕ) (records : List Record) → All MapsToFew records → All IsConsistent records
    → given_pair (flat_map mappings_in records) a b ≡ first_found (composed_in a b) records
given_pair-maps a b [] few consistent = refl
given_pair-maps a b (nothing ∷ rs) few consistent = given_pair-maps a b rs (All-tail MapsToFew _ rs few) (All-tail IsConsistent _ rs consistent)
given_pair-maps a b (class d k ∷ rs) few consistent = given_pair-maps a b rs (All-tail MapsToFew _ rs few) (All-tail IsConsistent _ rs consistent)
given_pair-maps a b (mapping d [] x ∷ rs) few consistent = absurd (let h = All-head MapsToFew (mapping d [] x) rs few in omega (arith, h.1))
given_pair-maps a b (mapping d (e ∷ []) x ∷ rs) few consistent = given_pair-maps a b rs (All-tail MapsToFew _ rs few) (All-tail IsConsistent _ rs consistent)
given_pair-maps a b (mapping d (e ∷ f ∷ []) true ∷ rs) few consistent = given_pair-maps a b rs (All-tail MapsToFew _ rs few) (All-tail IsConsistent _ rs consistent)
given_pair-maps a b (mapping d (e ∷ f ∷ []) false ∷ rs) few consistent =
    pair_by _ _ (record { character = d; first = e; second = Some f; is_composed = true })
    (find (composes a b) (flat_map mappings_in rs)) (first_found (composed_in a b) rs) (composes_same a b d e f (All-head IsConsistent _ rs consistent))
    (given_pair-maps a b rs (All-tail MapsToFew _ rs few) (All-tail IsConsistent _ rs consistent))
given_pair-maps a b (mapping d (e ∷ f ∷ g ∷ ds) x ∷ rs) few consistent = absurd (let h = All-head MapsToFew (mapping d (e ∷ f ∷ g ∷ ds) x) rs few in omega (arith, h.0))
given_pair-maps a b (compatibility d ds ∷ rs) few consistent = given_pair-maps a b rs (All-tail MapsToFew _ rs few) (All-tail IsConsistent _ rs consistent)
given_pair-maps a b (weights l p t es ∷ rs) few consistent = given_pair-maps a b rs (All-tail MapsToFew _ rs few) (All-tail IsConsistent _ rs consistent)
given_pair-maps a b (range r ∷ rs) few consistent = given_pair-maps a b rs (All-tail MapsToFew _ rs few) (All-tail IsConsistent _ rs consistent)
given_pair-maps a b (digit d v ∷ rs) few consistent = given_pair-maps a b rs (All-tail MapsToFew _ rs few) (All-tail IsConsistent _ rs consistent)
given_pair-maps a b (setting s ∷ rs) few consistent = given_pair-maps a b rs (All-tail MapsToFew _ rs few) (All-tail IsConsistent _ rs consistent)

pub pair_of-maps : (records : List Record) → All MapsToFew records → All IsConsistent records → (a b : ℕ) → pair_of_maps (maps_of records) a b ≡ pair_of records a b
pair_of-maps records few consistent a b =
    ap (λ (o : Option ℕ). elim (syllable_of a b) as (λ _. Option ℕ) [ Some c ↦ Some c | None ↦ o ]) (given_pair-maps a b records few consistent)

-- the maps of lines mean what the lines mean
pub maps_mean : (records : List Record) → All MapsToFew records → All IsConsistent records → IsDecomposing (canonical_of records) → AreMeaning (maps_of records) (canonical_of records)
maps_mean records few consistent decomposing = record {
  class = λ c scalar. sym (class_of-maps records c);
  step = λ c scalar. sym (step_of-maps records few consistent c);
  full = λ c scalar. left_same (step_of records) (step_of_maps (maps_of records)) (c ∷ []) _ (λ d. sym (step_of-maps records few consistent d)) (decomposing.ends c scalar);
  pair = λ a b first second. sym (pair_of-maps records few consistent a b);
}
