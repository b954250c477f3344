-- Maps of at most 150 characters never lack room.
use Rattle.std.proofs.Common.{◌≡◌, ◌≢◌, ℕ, ◌≤◌, ◌==◌, ◌||◌, ⊎_elim, Bool, true, false, cond, ltb, List, [], ◌∷◌, length, map, flat_map, nat_eq, Option, Some, None, refl, sym, ap, subst, ◌∙◌, arith}
use Rattle.std.specs.Char.{IsScalar}
use Rattle.std.specs.List.{All, find, list_any}
use Rattle.std.specs.Option.{is_some, unwrap_or}
use Rattle.std.specs.Set.{distinct_count, is_member}
use Rattle.std.proofs.lemmas.Bool.{eqb-true, or_left, or_right}
use Rattle.std.proofs.lemmas.Bool.Decides.{nat_tests}
use Rattle.std.proofs.lemmas.List.Elements.{All-cons, All-head, All-nil, All-tail}
use Rattle.std.proofs.lemmas.List.Sums.{sum_by-le}
use Rattle.icu_normalizer_core.specs.declared.builder.given.GivenCompatibility.{GivenCompatibility}
use Rattle.icu_normalizer_core.specs.declared.builder.given.GivenMapping.{GivenMapping}
use Rattle.icu_normalizer_core.specs.BuiltIn.{built_in_compatibility_step, built_in_step, is_built_in}
use Rattle.icu_normalizer_core.specs.Canonical.{IsFree}
use Rattle.icu_normalizer_core.specs.CanonicalMaps.{CanonicalMaps, IsMapped, KeepRules, KeepRulesWithin, given_step, mapping_given, named, step_of}
use Rattle.icu_normalizer_core.specs.CompatibilityMaps.{AllMaps, IsMappedAtAll, KeepAllRules, KeepAllRulesWithin, KeepCompatibilityRulesWithin, all_named, all_steps_of, given_compatibility}
use Rattle.icu_normalizer_core.specs.ListRoom.{HasRoom, list_room}
use Rattle.icu_normalizer_core.specs.ListWords.{slots_of}
use Rattle.icu_normalizer_core.specs.Named.{narrow_block, wide_block}
use Rattle.icu_normalizer_core.proofs.building.AcceptedMapsLimitLemmas.{behind_named, distinct_among, front_named, keys_named}
use Rattle.icu_normalizer_core.proofs.building.AcceptedMappingLemmas.{find_true}
use Rattle.icu_normalizer_core.proofs.building.AllStepLemmas.{all_first, all_second, cases_list, cases_step, step_given}
use Rattle.icu_normalizer_core.proofs.building.ListRoomLemmas.{left_of_step, slots_most}
use Rattle.icu_normalizer_core.proofs.building.MapNumberLemmas.{found_all}
use Rattle.icu_normalizer_core.proofs.building.NamedLemmas.{count_image}

-- ---- Room by numbers

-- where lists have at most eight slots, and mapped characters are named
few_names : (step : ℕ → List ℕ) (IsMapped : ℕ → Type 0) (names : List ℕ) → distinct_count nat_eq names ≤ 150
    → ((c : ℕ) → IsMapped c → is_member nat_eq names c ≡ true) → ((c : ℕ) → IsMapped c → list_room step (step c) ≤ 8) → HasRoom step IsMapped names
few_names step IsMapped names few there short = record {
  wide = omega (arith, few, count_image wide_block names);
  narrow = omega (arith, few, count_image narrow_block names);
  lists = λ cs distinct mapped.
      let most : length cs ≤ distinct_count nat_eq names = distinct_among cs names distinct (λ q m. there q (one_of cs q mapped m)) in
      omega (arith, few, most, sum_by-le (λ c. list_room step (step c)) 8 cs (each cs mapped));
}
  where
    one_of : (cs : List ℕ) (q : ℕ) → All IsMapped cs → is_member nat_eq cs q ≡ true → IsMapped q
    one_of [] q all e = absurd cc
    one_of (c ∷ cs) q all e = by (nat_eq q c) refl (one_of cs q (All-tail IsMapped c cs all)) e
      where
        same : (a b : ℕ) → nat_eq a b ≡ true → b ≡ a
        same a b t = grind (arith, nat_tests)

        by : (b : Bool) → nat_eq q c ≡ b → (is_member nat_eq cs q ≡ true → IsMapped q) → (b || is_member nat_eq cs q) ≡ true → IsMapped q
        by true t later h = subst IsMapped (same q c t) (All-head IsMapped c cs all)
        by false t later h = later h

    each : (cs : List ℕ) → All IsMapped cs → All (λ c. list_room step (step c) ≤ 8) cs
    each [] all = All-nil (λ c. list_room step (step c) ≤ 8)
    each (c ∷ cs) all = All-cons (λ d. list_room step (step d) ≤ 8) c cs (short c (All-head IsMapped c cs all)) (each cs (All-tail IsMapped c cs all))

short_room : (step : ℕ → List ℕ) (ds : List ℕ) → (list_any (λ d. ltb 0 (length (step d))) ds ≡ false → length ds ≤ 8) → list_room step ds ≤ 8
short_room step ds short = by (list_any (λ d. ltb 0 (length (step d))) ds) refl
  where
    by : (b : Bool) → list_any (λ d. ltb 0 (length (step d))) ds ≡ b → cond b 8 (slots_of ds) ≤ 8
    by true e = omega arith
    by false e = omega (arith, slots_most ds, short e)

-- the key of what is found is among the keys
found_key : {X : Type 0} (key : X → ℕ) (xs : List X) (c : ℕ) (x : X) → find (λ y. key y == c) xs ≡ Some x → is_member nat_eq (map key xs) c ≡ true
found_key key [] c x e = absurd cc
found_key {X} key (y ∷ ys) c x e = by (key y == c) refl e (found_key key ys c x)
  where
    equal : (a b : ℕ) → (a == b) ≡ true → nat_eq b a ≡ true
    equal a b t = grind (arith, nat_tests)

    by : (b : Bool) → (key y == c) ≡ b → cond b (Some y) (find (λ z. key z == c) ys) ≡ Some x → (find (λ z. key z == c) ys ≡ Some x → is_member nat_eq (map key ys) c ≡ true)
        → (nat_eq c (key y) || is_member nat_eq (map key ys) c) ≡ true
    by true t found later = or_left (nat_eq c (key y)) (is_member nat_eq (map key ys) c) (equal (key y) c t)
    by false t found later = or_right (nat_eq c (key y)) (is_member nat_eq (map key ys) c) (later found)

-- ---- Canonical mappings

record IsGiven (mappings : List GivenMapping) (c : ℕ) : Type 0 where
  short : length (given_step mappings c) ≤ 2
  key : is_member nat_eq (map (λ g. g.character) mappings) c ≡ true

mapping_short : (g : GivenMapping) → length (mapping_given g) ≤ 2
mapping_short g = by g.second
  where
    by : (o : Option ℕ) → length (g.first ∷ elim o [ Some d ↦ d ∷ [] | None ↦ [] ]) ≤ 2
    by (Some d) = omega arith
    by None = omega arith

given_facts : (mappings : List GivenMapping) (c : ℕ) → given_step mappings c ≢ [] → IsGiven mappings c
given_facts mappings c some = by (find (λ g. g.character == c) mappings) refl
  where
    by : (o : Option GivenMapping) → find (λ g. g.character == c) mappings ≡ o → IsGiven mappings c
    by None e = absurd (some (ap (λ (o : Option GivenMapping). elim o [ Some g ↦ mapping_given g | None ↦ [] ]) e))
    by (Some g) e = record {
      short = subst (λ (xs : List ℕ). length xs ≤ 2) (sym (ap (λ (o : Option GivenMapping). elim o [ Some h ↦ mapping_given h | None ↦ [] ]) e)) (mapping_short g);
      key = found_key (λ h. h.character) mappings c g e;
    }

free_step : (maps : CanonicalMaps) (c : ℕ) → IsFree c → step_of maps c ≡ given_step maps.mappings c
free_step maps c free = ap (λ (o : Option (List ℕ)). unwrap_or o (given_step maps.mappings c)) free

key_there : (maps : CanonicalMaps) (c : ℕ) → is_member nat_eq (map (λ g. g.character) maps.mappings) c ≡ true → is_member nat_eq (named maps) c ≡ true
key_there maps c m =
    behind_named (map (λ g. g.character) maps.classes) (flat_map (λ g. g.character ∷ mapping_given g) maps.mappings) c (keys_named (λ g. g.character) mapping_given maps.mappings c m)

-- 150 characters keep the rules within the standard limit
pub within_standard : (maps : CanonicalMaps) → KeepRules maps → KeepRulesWithin 150 maps
within_standard maps kept = record {
  few = kept.few;
  room = few_names (step_of maps) (IsMapped maps) (named maps) kept.few
      (λ c mapped. key_there maps c (given_facts maps.mappings c mapped.1).key)
      (λ c mapped. short_room (step_of maps) (step_of maps c) (λ none. omega (arith, ap length (free_step maps c mapped.0), (given_facts maps.mappings c mapped.1).short)));
  rules = kept.rules;
}

-- ---- Mappings of both kinds

module _ (maps : AllMaps) (chars : All (λ g. IsScalar g.character) maps.compatibilities) (kept : KeepAllRules maps) where
  abbrev steps : ℕ → List ℕ
  steps = all_steps_of maps

  record IsShort (c : ℕ) : Type 0 where
    there : is_member nat_eq (all_named maps) c ≡ true
    room : list_room steps (steps c) ≤ 8

  canonical_front : (c : ℕ) → is_member nat_eq (named maps.canonical) c ≡ true → is_member nat_eq (all_named maps) c ≡ true
  canonical_front c m = front_named (named maps.canonical) (flat_map (λ g. g.character ∷ g.mapping.items) maps.compatibilities) c m

  by_canonical : (c d : ℕ) (ds : List ℕ) → IsFree c → step_of maps.canonical c ≡ d ∷ ds → IsShort c
  by_canonical c d ds free e =
      let given : given_step maps.canonical.mappings c ≡ d ∷ ds = sym (free_step maps.canonical c free) ∙ e in
      let facts = given_facts maps.canonical.mappings c (λ none. let bad : [] ≡ d ∷ ds = sym none ∙ given in absurd cc) in
      let whole : steps c ≡ d ∷ ds = all_first (step_of maps.canonical) maps.compatibilities c d ds e in
      record {
        there = canonical_front c (key_there maps.canonical c facts.key);
        room = short_room steps (steps c) (λ none. omega (arith, ap length whole, ap length given, facts.short));
      }

  by_compatibility : (c : ℕ) → is_built_in c ≡ false → IsFree c → steps c ≢ [] → given_compatibility maps.compatibilities c ≢ [] → IsShort c
  by_compatibility c bound free some given = by (find (λ g. g.character == c) maps.compatibilities) refl
    where
      by : (o : Option GivenCompatibility) → find (λ g. g.character == c) maps.compatibilities ≡ o → IsShort c
      by None e = absurd (given (ap (λ (o : Option GivenCompatibility). elim o [ Some g ↦ g.mapping.items | None ↦ [] ]) e))
      by (Some g) e =
          let at : g.character ≡ c = eqb-true g.character c (find_true (λ h. h.character == c) maps.compatibilities g e) in
          let scalar : IsScalar c = subst IsScalar at (found_all (λ h. IsScalar h.character) (λ h. h.character == c) maps.compatibilities g chars e) in
          record {
            there = behind_named (named maps.canonical) (flat_map (λ h. h.character ∷ h.mapping.items) maps.compatibilities) c
                (keys_named (λ h. h.character) (λ h. h.mapping.items) maps.compatibilities c (found_key (λ h. h.character) maps.compatibilities c g e));
            room = short_room steps (steps c) (λ none. (kept.1.full_lists c (steps c) scalar (bound, some) (left_of_step steps c (steps c) refl some none)).0);
          }

  short : (c : ℕ) → IsMappedAtAll maps c → IsShort c
  short c mapped =
      ⊎_elim
      (λ free. ⊎_elim
      (λ none. ⊎_elim
      (λ other.
      let is : steps c ≡ given_compatibility maps.compatibilities c =
      all_second (step_of maps.canonical) maps.compatibilities c none ∙ step_given maps.compatibilities c free other in
      by_compatibility c mapped.0 free mapped.1 (λ empty. mapped.1 (is ∙ empty)))
      (λ w. absurd (let bad : true ≡ false = sym (or_right (is_some (built_in_step c)) (is_some (built_in_compatibility_step c)) (ap is_some w.1)) ∙ mapped.0 in cc))
      (cases_step (built_in_compatibility_step c)))
      (λ w. by_canonical c w.0 w.1 free w.2)
      (cases_list (step_of maps.canonical c)))
      (λ w. absurd (let bad : true ≡ false = sym (or_left (is_some (built_in_step c)) (is_some (built_in_compatibility_step c)) (ap is_some w.1)) ∙ mapped.0 in cc))
      (cases_step (built_in_step c))

  within_compatibilities : KeepCompatibilityRulesWithin 150 maps
  within_compatibilities = record {
    few = kept.1.few;
    room = few_names steps (IsMappedAtAll maps) (all_named maps) kept.1.few (λ c mapped. (short c mapped).there) (λ c mapped. (short c mapped).room);
    rules = kept.1.rules;
  }

  pub all_within_standard : KeepAllRulesWithin 150 maps
  all_within_standard = (within_standard maps.canonical kept.0, within_compatibilities)

-- ---- And back

pub standard_within : (maps : CanonicalMaps) → KeepRulesWithin 150 maps → KeepRules maps
standard_within maps kept = record { few = kept.few; rules = kept.rules }

pub all_standard_within : (maps : AllMaps) → KeepAllRulesWithin 150 maps → KeepAllRules maps
all_standard_within maps kept = (standard_within maps.canonical kept.0, record { few = kept.1.few; rules = kept.1.rules })
