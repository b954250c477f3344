-- The maps of both kinds of accepted lines: what they mean, and the rules that they keep.
use Rattle.std.proofs.Common.{◌≡◌, ℕ, ◌≤◌, inl, inr, ⊎_elim, Bool, true, false, ◌||◌, ◌&&◌, List, [], ◌∷◌, ◌++◌, length, All, Option, Some, None, map, refl, sym, ap, ◌∙◌, arith, subst}
use Rattle.std.specs.Prelude.{flat_map, nat_eq, sum_by}
use Rattle.std.proofs.Math.Path.{fun_ext}
use Rattle.std.specs.Char.{IsScalar}
use Rattle.std.specs.List.{list_any}
use Rattle.std.specs.Option.{is_some, unwrap_or}
use Rattle.std.specs.Set.{distinct_count}
use Rattle.std.specs.Str.{bytes_eq}
use Rattle.std.proofs.lemmas.Bool.{cases_eq, cond-false, cond-true, false_from_ne_true, or_left, or_right, true_from_ne_false}
use Rattle.std.proofs.lemmas.List.Elements.{All-weaker}
use Rattle.std.proofs.lemmas.List.Folds.{flat_map-map}
use Rattle.icu_normalizer_core.specs.declared.builder.given.GivenMapping.{GivenMapping}
use Rattle.icu_normalizer_core.specs.BuiltIn.{built_in_compatibility_step, built_in_step, is_jamo, is_syllable, is_built_in}
use Rattle.icu_normalizer_core.specs.Canonical.{Leaves}
use Rattle.icu_normalizer_core.specs.CanonicalMaps.{BeginsWithStarter, CanonicalMaps, KeepRulesWithin, class_of as class_of_maps, first_mapping, mapping_given, named as named_by, step_of as step_of_maps}
use Rattle.icu_normalizer_core.specs.CompatibilityMaps.{AllMaps, AreApart, AreMeaningOf, HaveOneCompatibility, IsMappedAtAll, KeepAllRulesWithin, KeepCompatibleRules, all_named, all_steps_of, compatibility_step, else_mapped, given_compatibility, is_built_in_compatibility}
use Rattle.icu_normalizer_core.specs.ListRoom.{HasRoom, list_room}
use Rattle.icu_normalizer_core.specs.Named.{narrow_block, wide_block}
use Rattle.icu_normalizer_core.specs.Words.{WordLists}
use Rattle.icu_normalizer_core.proofs.settling.LeftLemmas.{left_one, left_same}
use Rattle.icu_normalizer_core.proofs.building.AllStepLemmas.{all_second, cases_step, step_apart, step_fixed, step_given, unbound}
use Rattle.collate_lines.specs.declared.rule.Rule.TheVariants.{C9, Limit, V14}
use Rattle.collate_lines.specs.Record.{Record, mapping, compatibility}
use Rattle.collate_rules.specs.Meaning.{any_step, class_of, compatibility_in, compatibility_of, first_found, mapping_in, step_of}
use Rattle.collate_rules.specs.Rules.{MapsHangul, blocks_in, compatibility_full_of, is_mapped, mapping_room, names_in}
use Rattle.collate_rules.proofs.lookups.FoundLemmas.{mapping_line}
use Rattle.collate_rules.proofs.offenders.RoomLemmas.{all_fit}
use Rattle.collate_rules.proofs.offenders.LineRuleLemmas.{each_line}
use Rattle.collate_rules.specs.Accepted.{AreAccepted}
use Rattle.collate_records.specs.Maps.{AreAllMapsOf, AreWordsOf, compatibilities_in, compatibility_pair, mappings_in, maps_of}
use Rattle.collate_records.proofs.mappings.MappingStepLemmas.{step_of-compatibility}
use Rattle.collate_records.proofs.maps.AcceptedAllMapsLemmas.{accepted_consistent, accepted_few, accepted_maps}
use Rattle.collate_records.proofs.maps.AnyStepLemmas.{any_begins, any_built_in, any_by_lines, any_ends, any_free, any_short, low_compatibility, low_unmapped, mapped_by_line, no_marks}
use Rattle.collate_records.proofs.maps.CompatibilityLineLemmas.{all_pairs, compatibility_line, each_found, each_mapped, first_for, first_for-lines, given_for}
use Rattle.collate_records.proofs.maps.MapLineLemmas.{given_step-maps}
use Rattle.collate_records.proofs.maps.MapMeaningLemmas.{IsConsistent, class_of-maps, step_of-maps}
use Rattle.collate_records.proofs.maps.MapNameLemmas.{all_maps_few, all_maps_few_blocks, both_named, pair_names}
use Rattle.collate_records.proofs.maps.RoomMapLemmas.{line_room, room_for, rooms_within}

-- whether a compatibility mapping says exactly what is built in
abbrev said_as_built_in : (c : ℕ) (ds : List ℕ) → Bool
said_as_built_in c ds = elim (built_in_compatibility_step c) [ Some es ↦ bytes_eq ds es | None ↦ false ]

-- a mapping that is given is one of some characters
some_given : (o : Option GivenMapping) (p : Option (List ℕ)) → elim o as (λ _. List ℕ) [ Some g ↦ mapping_given g | None ↦ [] ] ≡ unwrap_or p [] → p ≡ None → o ≡ None
some_given None p e none = refl
some_given (Some g) p e none = let off : mapping_given g ≡ [] = e ∙ ap (λ (q : Option (List ℕ)). unwrap_or q []) none in absurd (cc)

module _ (records : List Record) (maps : AllMaps) (accepted : AreAccepted records) (are : AreAllMapsOf records maps) where
  -- ---- Meaning

  canonical_step : (c : ℕ) → step_of_maps maps.canonical c ≡ step_of records c
  canonical_step c =
      ap (λ (m : CanonicalMaps). step_of_maps m c) are.canonical ∙ step_of-maps records (accepted_few records accepted) (accepted_consistent records accepted) c

  class_same : (c : ℕ) → class_of_maps maps.canonical c ≡ class_of records c
  class_same c = ap (λ (m : CanonicalMaps). class_of_maps m c) are.canonical ∙ class_of-maps records c

  given_same : (c : ℕ) → given_compatibility maps.compatibilities c ≡ unwrap_or (first_found (compatibility_in c) records) []
  given_same c =
      given_for c maps.compatibilities
      ∙ ap (λ (pairs : List (ℕ × List ℕ)). unwrap_or (first_for c pairs) []) are.compatibilities
      ∙ ap (λ (o : Option (List ℕ)). unwrap_or o []) (first_for-lines c records)

  compatibility_same : (c : ℕ) → built_in_compatibility_step c ≡ None → compatibility_step maps.compatibilities c ≡ compatibility_of records c
  compatibility_same c none =
      ⊎_elim
      (λ free.
      step_given maps.compatibilities c free none ∙ given_same c
      ∙ sym (cond-false (is_built_in c) [] (unwrap_or (first_found (compatibility_in c) records) []) (unbound c free none)))
      (λ w.
      step_apart maps.compatibilities c w.0 w.1
      ∙ sym (cond-true (is_built_in c) [] (unwrap_or (first_found (compatibility_in c) records) []) (or_left (is_some (built_in_step c)) _ (ap is_some w.1))))
      (cases_step (built_in_step c))

  -- steps of both kinds are what the lines say
  pub all_steps_same : (c : ℕ) → all_steps_of maps c ≡ any_step records c
  all_steps_same c =
      ⊎_elim
      (λ none.
      ap (λ (ds : List ℕ). else_mapped ds (compatibility_step maps.compatibilities c)) (canonical_step c)
      ∙ ap (λ (es : List ℕ). else_mapped (step_of records c) es) (compatibility_same c none)
      ∙ sym (any_by_lines records c none))
      (λ w.
      all_second (step_of_maps maps.canonical) maps.compatibilities c (canonical_step c ∙ step_of-compatibility records c (ap is_some w.1))
      ∙ step_fixed maps.compatibilities c w.0 w.1 ∙ sym (any_built_in records c w.0 w.1))
      (cases_step (built_in_compatibility_step c))

  -- words that mean the maps say what the lines say
  pub words_of_maps : (words : WordLists) → AreMeaningOf maps words → AreWordsOf records words
  words_of_maps words mean = record {
    class = λ c scalar. mean.class c scalar ∙ class_same c;
    full = λ c scalar. left_same (all_steps_of maps) (any_step records) (c ∷ []) _ all_steps_same (mean.full c scalar);
  }

  -- ---- Rules

  -- each compatibility mapping is what a line says first of its character
  found_each : All (λ g. first_found (compatibility_in g.character) records ≡ Some g.mapping.items) maps.compatibilities
  found_each =
      each_mapped (λ p. first_found (compatibility_in p.0) records ≡ Some p.1) compatibility_pair maps.compatibilities
      (subst (All (λ p. first_found (compatibility_in p.0) records ≡ Some p.1)) (sym are.compatibilities) (each_found records (accepted.keep_rules V14)))

  -- what holds of what a line says holds of what is given
  each_said : (P : ℕ → List ℕ → Type 0) (Q : Record → Type 0) → ((c : ℕ) (ds : List ℕ) → Q (compatibility c ds) → P c ds) → All Q records
      → All (λ g. P g.character g.mapping.items) maps.compatibilities
  each_said P Q one all =
      each_mapped (λ p. P p.0 p.1) compatibility_pair maps.compatibilities
      (subst (All (λ p. P p.0 p.1)) (sym are.compatibilities) (all_pairs (λ p. P p.0 p.1) Q one records all))

  names_same : all_named maps ≡ both_named records
  names_same =
      let pairs : flat_map (λ g. g.character ∷ g.mapping.items) maps.compatibilities ≡ pair_names (flat_map compatibilities_in records) =
      sym (flat_map-map (λ (p : ℕ × List ℕ). p.0 ∷ p.1) compatibility_pair maps.compatibilities) ∙ ap pair_names are.compatibilities in
      ap (λ (m : CanonicalMaps). named_by m ++ flat_map (λ g. g.character ∷ g.mapping.items) maps.compatibilities) are.canonical
      ∙ ap (λ (names : List ℕ). named_by (maps_of records) ++ names) pairs

  few_names : (limit : ℕ) → names_in records ≤ limit → distinct_count nat_eq (all_named maps) ≤ limit
  few_names limit few = subst (λ (names : List ℕ). distinct_count nat_eq names ≤ limit) (sym names_same) (all_maps_few records limit few)

  few_blocks : (block_of : ℕ → ℕ) (limit : ℕ) → blocks_in block_of records ≤ limit → distinct_count nat_eq (map block_of (all_named maps)) ≤ limit
  few_blocks block_of limit few =
      subst (λ (names : List ℕ). distinct_count nat_eq (map block_of names) ≤ limit) (sym names_same) (all_maps_few_blocks records block_of limit few)

  -- the character that a line maps
  abbrev either_key : Record → Option ℕ
  either_key (mapping c ds x) = Some c
  either_key (compatibility c ds) = Some c
  either_key _ = None

  mapped_room : (c : ℕ) → IsMappedAtAll maps c → list_room (all_steps_of maps) (all_steps_of maps c) ≤ sum_by (room_for either_key (mapping_room records) c) records
  mapped_room c mapped = by (first_found (mapping_in c) records) (first_found (compatibility_in c) records) refl refl
    where
      free : (o p : Option (List ℕ)) → first_found (mapping_in c) records ≡ o → first_found (compatibility_in c) records ≡ p
          → all_steps_of maps c ≡ else_mapped (unwrap_or o []) (unwrap_or p [])
      free o p e f =
          all_steps_same c ∙ any_free records c mapped.0
          ∙ ap (λ (q : Option (List ℕ)). else_mapped (unwrap_or q []) (unwrap_or (first_found (compatibility_in c) records) [])) e
          ∙ ap (λ (q : Option (List ℕ)). else_mapped (unwrap_or o []) (unwrap_or q [])) f

      room_same : (ds : List ℕ) → all_steps_of maps c ≡ ds → list_room (all_steps_of maps) (all_steps_of maps c) ≡ list_room (any_step records) ds
      room_same ds is =
          ap (λ (step : ℕ → List ℕ). list_room step (all_steps_of maps c)) (fun_ext all_steps_same) ∙ ap (list_room (any_step records)) is

      by_mapping : (ds : List ℕ) → first_found (mapping_in c) records ≡ Some ds → all_steps_of maps c ≡ ds → list_room (all_steps_of maps) (all_steps_of maps c) ≤ sum_by (room_for either_key (mapping_room records) c) records
      by_mapping ds e is =
          let w = mapping_line records c ds e in
          let below = line_room either_key (mapping_room records) records w.0 c (mapping c ds w.1) w.2 w.3 refl in
          omega (arith, below, room_same ds is)

      by_compatibility : (ds : List ℕ) → first_found (compatibility_in c) records ≡ Some ds → all_steps_of maps c ≡ ds → list_room (all_steps_of maps) (all_steps_of maps c) ≤ sum_by (room_for either_key (mapping_room records) c) records
      by_compatibility ds e is =
          let w = compatibility_line records c ds e in
          let below = line_room either_key (mapping_room records) records w.0 c (compatibility c ds) w.1 w.2 refl in
          omega (arith, below, room_same ds is)

      by : (o p : Option (List ℕ)) → first_found (mapping_in c) records ≡ o → first_found (compatibility_in c) records ≡ p → list_room (all_steps_of maps) (all_steps_of maps c) ≤ sum_by (room_for either_key (mapping_room records) c) records
      by (Some (d ∷ ds)) p e f = by_mapping (d ∷ ds) e (free (Some (d ∷ ds)) p e f)
      by (Some []) (Some es) e f = by_compatibility es f (free (Some []) (Some es) e f)
      by (Some []) None e f = absurd (mapped.1 (free (Some []) None e f))
      by None (Some es) e f = by_compatibility es f (free None (Some es) e f)
      by None None e f = absurd (mapped.1 (free None None e f))

  has_room : HasRoom (all_steps_of maps) (IsMappedAtAll maps) (all_named maps)
  has_room =
      let fit = all_fit records (accepted.keep_rules Limit) in
      record {
        wide = few_blocks wide_block 700 fit.wide;
        narrow = few_blocks narrow_block 11000 fit.narrow;
        lists = λ cs distinct all.
            let below = rooms_within either_key (mapping_room records) records (λ c. list_room (all_steps_of maps) (all_steps_of maps c)) (IsMappedAtAll maps) mapped_room cs distinct all in
            omega (arith, below, fit.mappings);
      }

  one_compatibility : HaveOneCompatibility maps.compatibilities
  one_compatibility =
      All-weaker (λ g. first_found (compatibility_in g.character) records ≡ Some g.mapping.items)
      (λ g. given_compatibility maps.compatibilities g.character ≡ g.mapping.items)
      (λ g found. given_same g.character ∙ ap (λ (o : Option (List ℕ)). unwrap_or o []) found) maps.compatibilities found_each

  -- a character of a compatibility mapping is mapped
  mapped_here : (c : ℕ) (ds : List ℕ) → first_found (compatibility_in c) records ≡ Some ds → is_mapped records c ≡ true
  mapped_here c ds found = or_right (is_some (first_found (mapping_in c) records)) _ (ap is_some found)

  no_canonical : (c : ℕ) (ds : List ℕ) → first_found (compatibility_in c) records ≡ Some ds → is_built_in c ≡ false
      → (o : Option (List ℕ)) → first_found (mapping_in c) records ≡ o → o ≡ None
  no_canonical c ds found free None e = refl
  no_canonical c ds found free (Some es) e =
      let both : (is_some (first_found (mapping_in c) records) && is_some (first_found (compatibility_in c) records)) ≡ true =
      ap (λ (o : Option (List ℕ)). is_some o && is_some (first_found (compatibility_in c) records)) e
      ∙ ap (λ (o : Option (List ℕ)). is_some o) found in
      absurd (no_marks records accepted (c, (mapped_here c ds found, free, inr both)))

  apart : AreApart maps
  apart =
      All-weaker (λ g. first_found (compatibility_in g.character) records ≡ Some g.mapping.items)
      (λ g. is_built_in g.character ≡ false → first_mapping maps.canonical.mappings g.character ≡ None)
      (λ g found free.
      let none : first_found (mapping_in g.character) records ≡ None = no_canonical g.character g.mapping.items found free (first_found (mapping_in g.character) records) refl in
      ap (λ (m : CanonicalMaps). first_mapping m.mappings g.character) are.canonical
      ∙ some_given (first_mapping (flat_map mappings_in records) g.character) (first_found (mapping_in g.character) records)
      (given_step-maps g.character records (accepted_few records accepted)) none)
      maps.compatibilities found_each

  on_starters : All (λ g. is_built_in g.character ≡ false → class_of_maps maps.canonical g.character ≡ 0) maps.compatibilities
  on_starters =
      All-weaker (λ g. first_found (compatibility_in g.character) records ≡ Some g.mapping.items)
      (λ g. is_built_in g.character ≡ false → class_of_maps maps.canonical g.character ≡ 0)
      (λ g found free.
      class_same g.character
      ∙ ⊎_elim (λ zero. zero)
      (λ mark. absurd (no_marks records accepted (g.character, (mapped_here g.character g.mapping.items found, free, inl mark))))
      (cases_eq (class_of records g.character) 0))
      maps.compatibilities found_each

  short_lists : (c : ℕ) (list : List ℕ) → IsScalar c → IsMappedAtAll maps c → Leaves (all_steps_of maps) (c ∷ []) list
      → (length list ≤ 8) × BeginsWithStarter maps.canonical list
  short_lists c list scalar mapped left =
      let same : list ≡ compatibility_full_of records c =
      left_one (any_step records) (c ∷ []) list (compatibility_full_of records c)
      (left_same (all_steps_of maps) (any_step records) (c ∷ []) list all_steps_same left) (any_ends records accepted c scalar) in
      let is : is_mapped records c ≡ true = mapped_by_line records c mapped.0 (λ none. mapped.1 (all_steps_same c ∙ none)) in
      let short = any_short records accepted c is mapped.0 in (
        omega (arith, ap length same, short),
        λ d ds e. class_same d ∙ any_begins records accepted c d ds is mapped.0 (sym same ∙ e),
      )

  -- a compatibility mapping of a character that is built in says what is built in
  built_ins : All (λ g. is_built_in g.character ≡ true → is_built_in_compatibility g ≡ true) maps.compatibilities
  built_ins =
      each_said (λ c ds. is_built_in c ≡ true → said_as_built_in c ds ≡ true) IsConsistent
      (λ c ds consistent built. true_from_ne_false _ (λ off. consistent (built, off)))
      (accepted_consistent records accepted)

  no_letters : All (λ g. is_built_in_compatibility g ≡ false → list_any (λ d. is_jamo d || is_syllable d) (g.character ∷ g.mapping.items) ≡ false) maps.compatibilities
  no_letters =
      each_said (λ c ds. said_as_built_in c ds ≡ false → list_any (λ d. is_jamo d || is_syllable d) (c ∷ ds) ≡ false) (λ r. MapsHangul r → ⊥)
      (λ c ds good off. false_from_ne_true _ (λ named. good (named, off)))
      (each_line (λ r. MapsHangul r → ⊥) records (accepted.keep_rules C9))

  keep_compatible : KeepCompatibleRules maps
  keep_compatible = record {
    one_mapping = one_compatibility;
    apart = apart;
    starters = on_starters;
    ends = λ c scalar. (
      compatibility_full_of records c,
      left_same (any_step records) (all_steps_of maps) (c ∷ []) (compatibility_full_of records c) (λ d. sym (all_steps_same d)) (any_ends records accepted c scalar),
    );
    full_lists = short_lists;
    unmapped = λ c low. compatibility_same c (low_compatibility c low) ∙ low_unmapped records accepted c low;
    built_ins = built_ins;
    letters = no_letters;
  }

  -- maps of both kinds of accepted lines keep all rules, and have room in tables
  pub keep_all : (limit : ℕ) → names_in records ≤ limit → KeepAllRulesWithin limit maps
  keep_all limit few = (
    subst (KeepRulesWithin limit) (sym are.canonical) (accepted_maps records limit accepted few),
    record { few = few_names limit few; room = has_room; rules = keep_compatible },
  )
