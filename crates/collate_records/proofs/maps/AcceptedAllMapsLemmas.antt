-- The maps of accepted lines.
use Rattle.std.proofs.Common.{◌≡◌, ◌≢◌, ℕ, ◌<◌, ◌≤◌, ◌⊎◌, List, [], ◌∷◌, All, Option, Some, None, length, flat_map, refl, sym, ap, ◌∙◌, arith}
use Rattle.std.specs.Prelude.{sum_by}
use Rattle.std.specs.Char.{IsScalar}
use Rattle.std.proofs.Math.Path.{fun_ext}
use Rattle.std.specs.Option.{unwrap_or, IfSome}
use lib.Utf8.{low_scalar}
use Rattle.std.proofs.lemmas.List.Elements.{All-weaker, All-cons, All-nil}
use Rattle.icu_normalizer_core.specs.BuiltIn.{built_in_class}
use Rattle.icu_normalizer_core.specs.Canonical.{Canonical, Leaves, composed}
use Rattle.icu_normalizer_core.specs.CanonicalMaps.{AreMeaning, KeepRulesWithin, IsMapped, BeginsWithStarter, given_step, named as named_by, step_of as step_of_maps}
use Rattle.icu_normalizer_core.specs.ListRoom.{HasRoom, list_room}
use Rattle.icu_normalizer_core.specs.Named.{narrow_block, wide_block}
use Rattle.icu_normalizer_core.specs.Sameness.{AreSameCanonical}
use Rattle.icu_normalizer_core.proofs.settling.LeftLemmas.{left_one}
use Rattle.icu_normalizer_core.proofs.building.AcceptedMapsSameLemmas.{AreAlike, composed_same, one_meaning}
use Rattle.icu_normalizer_core.proofs.building.GivenLemmas.{counted, one_each}
use Rattle.collate_lines.specs.declared.rule.Rule.{Rule}
use Rattle.collate_lines.specs.declared.rule.Rule.TheVariants.{Limit, C3, C5, C6, C8, C9, V14}
use Rattle.collate_lines.specs.Record.{Record, nothing, class, mapping, compatibility, weights, range, digit, setting}
use Rattle.collate_rules.specs.Accepted.{AreAccepted, IsSaid}
use Rattle.collate_rules.specs.Meaning.{canonical_of, first_found, mapping_in, step_of, pair_of, full_of}
use Rattle.collate_records.specs.Maps.{classes_in, mappings_in, maps_of}
use Rattle.collate_rules.specs.Offenders.{NoneOffends}
use Rattle.collate_rules.specs.Rules.{IsBadClass, IsBadlyComposed, MapsHangul, canonical_room, names_in}
use Rattle.collate_rules.proofs.lookups.FoundLemmas.{mapping_line}
use Rattle.collate_rules.proofs.offenders.RoomLemmas.{all_fit}
use Rattle.collate_records.proofs.maps.MapLineLemmas.{MapsToFew, given_step-maps}
use Rattle.collate_records.proofs.maps.MapMeaningLemmas.{IsConsistent, maps_mean, class_of-maps, step_of-maps}
use Rattle.collate_records.proofs.maps.MapNameLemmas.{maps_few, maps_few_blocks, maps_one_mapping}
use Rattle.collate_records.proofs.maps.MapPairLemmas.{maps_seconds, maps_pairs}
use Rattle.collate_records.proofs.maps.MapRuleLemmas.{maps_classes, maps_built_in_classes, maps_built_in_mappings, maps_letters}
use Rattle.collate_records.proofs.maps.RoomMapLemmas.{line_room, room_for, rooms_within}
use Rattle.collate_records.proofs.reading.ReadingAcceptedLemmas.{accepted_decompose, accepted_compose}
use Rattle.collate_records.proofs.reading.ReadingScalarLemmas.{mapped_some}
use Rattle.collate_rules.proofs.offenders.LineRuleLemmas.{each_line}

-- a line that is read maps to one character or to two
pub said_few : (s : Record) → IsSaid s → MapsToFew s
said_few nothing said = tt
said_few (class c k) said = tt
said_few (mapping c ds x) said = mapped_some (said.0) c ds x (said.1)
said_few (compatibility c ds) said = tt
said_few (weights l p t es) said = tt
said_few (range r) said = tt
said_few (digit c v) said = tt
said_few (setting v) said = tt

pub accepted_few : (records : List Record) → AreAccepted records → All MapsToFew records
accepted_few records accepted = All-weaker IsSaid MapsToFew said_few records accepted.in_grammar

pub accepted_consistent : (records : List Record) → AreAccepted records → All IsConsistent records
accepted_consistent records accepted = each_line IsConsistent records (accepted.keep_rules C8)

-- they mean what the lines mean
pub accepted_maps_mean : (records : List Record) → AreAccepted records → AreMeaning (maps_of records) (canonical_of records)
accepted_maps_mean records accepted =
    maps_mean records (accepted_few records accepted) (accepted_consistent records accepted) (accepted_decompose records accepted)

module _ (records : List Record) (accepted : AreAccepted records) where
  meaning : AreMeaning (maps_of records) (canonical_of records)
  meaning = accepted_maps_mean records accepted

  step_same : (c : ℕ) → step_of_maps (maps_of records) c ≡ step_of records c
  step_same = step_of-maps records (accepted_few records accepted) (accepted_consistent records accepted)

  -- a character that maps map has a mapping by the lines
  some_step : (ds : List ℕ) → ds ≢ [] → (d : ℕ) × (es : List ℕ) × (ds ≡ d ∷ es)
  some_step [] some = absurd (some refl)
  some_step (d ∷ es) some = (d, es, refl)

  mapped_step : (c : ℕ) → IsMapped (maps_of records) c → (d : ℕ) × (es : List ℕ) × (step_of records c ≡ d ∷ es)
  mapped_step c mapped =
      let given : step_of_maps (maps_of records) c ≡ given_step (flat_map mappings_in records) c =
      ap (λ (o : Option (List ℕ)). unwrap_or o (given_step (flat_map mappings_in records) c)) mapped.0 in
      some_step (step_of records c) (λ none. mapped.1 (sym given ∙ step_same c ∙ none))

  begins : (c : ℕ) (list : List ℕ) → IsScalar c → IsMapped (maps_of records) c → list ≡ full_of records c → BeginsWithStarter (maps_of records) list
  begins c list scalar mapped same d ds e =
      let w = mapped_step c mapped in
      class_of-maps records d ∙ (accepted_decompose records accepted).begins c w.0 w.1 scalar mapped.0 w.2 d ds (sym same ∙ e)

  full_lists : (c : ℕ) (list : List ℕ) → IsScalar c → IsMapped (maps_of records) c → Leaves (step_of_maps (maps_of records)) (c ∷ []) list
      → (length list ≤ 8) × BeginsWithStarter (maps_of records) list
  full_lists c list scalar mapped left =
      let same : list ≡ full_of records c = left_one (step_of_maps (maps_of records)) (c ∷ []) list (full_of records c) left (meaning.full c scalar) in
      let bound = (accepted_decompose records accepted).bounded c scalar in
      (omega (arith, ap length same, bound), begins c list scalar mapped same)

  -- ---- Room

  -- the character that a line maps canonically
  abbrev canonical_key : Record → Option ℕ
  canonical_key (mapping c ds x) = Some c
  canonical_key _ = None

  mapped_room : (c : ℕ) → IsMapped (maps_of records) c → list_room (step_of_maps (maps_of records)) (step_of_maps (maps_of records) c) ≤ sum_by (room_for canonical_key (canonical_room records) c) records
  mapped_room c mapped = by (first_found (mapping_in c) records) refl
    where
      steps : step_of_maps (maps_of records) ≡ step_of records
      steps = fun_ext step_same

      given : given_step (flat_map mappings_in records) c ≡ unwrap_or (first_found (mapping_in c) records) []
      given = given_step-maps c records (accepted_few records accepted)

      mapping_is : step_of_maps (maps_of records) c ≡ given_step (flat_map mappings_in records) c
      mapping_is = ap (λ (o : Option (List ℕ)). unwrap_or o (given_step (flat_map mappings_in records) c)) mapped.0

      by : (o : Option (List ℕ)) → first_found (mapping_in c) records ≡ o → list_room (step_of_maps (maps_of records)) (step_of_maps (maps_of records) c) ≤ sum_by (room_for canonical_key (canonical_room records) c) records
      by None e = absurd (mapped.1 (given ∙ ap (λ (p : Option (List ℕ)). unwrap_or p []) e))
      by (Some ds) e =
          let w = mapping_line records c ds e in
          let below = line_room canonical_key (canonical_room records) records w.0 c (mapping c ds w.1) w.2 w.3 refl in
          let is : step_of_maps (maps_of records) c ≡ ds = mapping_is ∙ given ∙ ap (λ (p : Option (List ℕ)). unwrap_or p []) e in
          let same : list_room (step_of_maps (maps_of records)) (step_of_maps (maps_of records) c) ≡ list_room (step_of records) ds =
          ap (λ (step : ℕ → List ℕ). list_room step (step_of_maps (maps_of records) c)) steps ∙ ap (list_room (step_of records)) is in
          omega (arith, below, same)

  -- tables have room for them
  has_room : HasRoom (step_of_maps (maps_of records)) (IsMapped (maps_of records)) (named_by (maps_of records))
  has_room =
      let fit = all_fit records (accepted.keep_rules Limit) in
      record {
        wide = maps_few_blocks records wide_block 700 (omega (arith, fit.wide));
        narrow = maps_few_blocks records narrow_block 11000 (omega (arith, fit.narrow));
        lists = λ cs distinct all.
            let below = rooms_within canonical_key (canonical_room records) records (λ c. list_room (step_of_maps (maps_of records)) (step_of_maps (maps_of records) c)) (IsMapped (maps_of records)) mapped_room cs distinct all in
            omega (arith, below, fit.canonical);
      }

  -- the maps of accepted lines keep the rules, where characters below U+0300 are their own composed lists
  pub accepted_maps_by : (limit : ℕ) → names_in records ≤ limit → ((canonical : Canonical) → AreMeaning (maps_of records) canonical → (c : ℕ) → c < 0x300 → composed canonical (c ∷ []) ≡ c ∷ []) → KeepRulesWithin limit (maps_of records)
  accepted_maps_by limit few_names own =
      let keep : (rule : Rule) → NoneOffends rule records = accepted.keep_rules in
      let few = accepted_few records accepted in
      let consistent = accepted_consistent records accepted in
      let decomposing = accepted_decompose records accepted in
      let composing = accepted_compose records accepted in
      record {
        few = maps_few records limit few_names;
        room = has_room;
        rules = record {
          one_mapping = one_each (flat_map mappings_in records) (maps_one_mapping records few (keep V14));
          starters = λ c scalar mapped. let w = mapped_step c mapped in class_of-maps records c ∙ decomposing.starters c w.0 w.1 scalar mapped.0 w.2;
          ends = λ c scalar. (full_of records c, meaning.full c scalar);
          classes =
              counted (λ c g. ((0 < g.class) × (g.class ≤ 254)) ⊎ (built_in_class c ≡ Some g.class)) (flat_map classes_in records)
              (maps_classes records (each_line (λ r. IsBadClass r → ⊥) records (keep C3)));
          full_lists = full_lists;
          pairs = maps_pairs records consistent (keep C5);
          seconds = λ a b. maps_seconds a b records (each_line (λ r. IsConsistent r × (IsBadlyComposed r → ⊥)) records (λ i lt. (keep C8 i lt, keep C6 i lt)));
          low = λ c below. class_of-maps records c ∙ composing.starters c below;
          own = own;
          unmapped = λ c below. step_same c ∙ composing.unmapped c below;
          built_in_classes = counted (λ c g. IfSome (built_in_class c) (λ k. g.class ≡ k)) (flat_map classes_in records) (maps_built_in_classes records consistent);
          built_in_mappings = maps_built_in_mappings records consistent;
          letters = maps_letters records (each_line (λ r. MapsHangul r → ⊥) records (keep C9));
        };
      }

-- a character below U+0300 is its own composed list in all that the maps mean
composed_own : (records : List Record) → AreAccepted records → (canonical : Canonical) → AreMeaning (maps_of records) canonical → (c : ℕ) → c < 0x300 → composed canonical (c ∷ []) ≡ c ∷ []
composed_own records accepted canonical other c low =
    let composing = accepted_compose records accepted in
    let mean = accepted_maps_mean records accepted in
    let alike : AreAlike canonical (canonical_of records) =
    record {
      class = λ d s. other.class d s ∙ sym (mean.class d s);
      pair = λ a b s t. other.pair a b s t ∙ sym (mean.pair a b s t);
      scalars = composing.scalars;
    } in
    composed_same canonical (canonical_of records) alike (c ∷ []) (one_meaning (maps_of records) canonical (canonical_of records) other mean)
    (accepted_decompose records accepted) (All-cons IsScalar c [] (low_scalar c (omega arith)) (All-nil IsScalar))
    ∙ composing.own c low

-- the maps of accepted lines keep the rules of maps
pub accepted_maps : (records : List Record) (limit : ℕ) → AreAccepted records → names_in records ≤ limit → KeepRulesWithin limit (maps_of records)
accepted_maps records limit accepted few = accepted_maps_by records accepted limit few (composed_own records accepted)

-- ---- What means the maps of accepted lines says of scalar values what the lines say

pub accepted_same : (records : List Record) (canonical : Canonical) → AreAccepted records → AreMeaning (maps_of records) canonical → AreSameCanonical canonical (canonical_of records)
accepted_same records canonical accepted mean = one_meaning (maps_of records) canonical (canonical_of records) mean (accepted_maps_mean records accepted)

pub accepted_steps : (records : List Record) (canonical : Canonical) → AreAccepted records → AreMeaning (maps_of records) canonical
    → (c : ℕ) → IsScalar c → canonical.step c ≡ step_of records c
accepted_steps records canonical accepted mean c scalar = mean.step c scalar ∙ sym ((accepted_maps_mean records accepted).step c scalar)

pub accepted_pairs : (records : List Record) (canonical : Canonical) → AreAccepted records → AreMeaning (maps_of records) canonical
    → (a b : ℕ) → IsScalar a → IsScalar b → canonical.pair a b ≡ pair_of records a b
accepted_pairs records canonical accepted mean a b s t = mean.pair a b s t ∙ sym ((accepted_maps_mean records accepted).pair a b s t)
