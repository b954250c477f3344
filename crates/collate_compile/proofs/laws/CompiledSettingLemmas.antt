-- Settings, reordering, diacritics and jamo of compiled tables pass their checks.
use Rattle.std.proofs.Common.{◌≡◌, ℕ, ◌+◌, ◌*◌, ◌/◌, ◌%◌, ◌^◌, ◌<◌, Bool, true, false, ◌&&◌, List, [], ◌∷◌, length, Option, Some, None, refl, sym, ap, subst, ◌∙◌, arith, All}
use Rattle.std.specs.Prelude.{slice_index, IfSome, MatchOption}
use Rattle.std.specs.List.{Contains, list_all}
use Rattle.std.proofs.lemmas.Bool.{and_from, le-leb, or_left, or_right}
use Rattle.icu_normalizer_core.specs.BuiltIn.{is_jamo}
use Rattle.icu_collator_types.specs.declared.elements.Element.{Element}
use Rattle.icu_collator_core.specs.declared.tables.CollationTables.{CollationTables}
use Rattle.icu_collator_core.specs.declared.tables.reordering.CollationReordering.{CollationReordering}
use Rattle.icu_collator_core.specs.declared.tables.special_primaries.CollationSpecialPrimaries.{CollationSpecialPrimaries}
use Rattle.icu_collator_core.specs.Collation.{with_lead}
use Rattle.icu_collator_core.specs.Defaults.{jamo_primary, primary_element}
use Rattle.icu_collator_core.specs.SettingRules.{are_sound_groups}
use Rattle.icu_collator_core.specs.TableMeaning.{is_primary_alone, own_primary}
use Rattle.icu_collator_core.specs.TableSettings.{groups_of, has_bit, is_compressible_in, reordered_by, reordered_in}
use Rattle.icu_collator_core.specs.WeightFaults.{AreSoundJamo, AreSoundSpecialPrimaries, HasSoundReordering, IsSoundReordering, are_sound_diacritics, are_sound_spelled, is_diacritic_count, is_own_alone, is_primary_element, is_sound_diacritic, is_sound_jamo, is_sound_spelled}
use Rattle.icu_collator_core.specs.WeightRules.{AreSoundWeights, is_letter_lead}
use Rattle.icu_collator_core.specs.WholeLeads.{MovesOnlyWholeLeads, MovesWholeLeads, lead_in_place}
use Rattle.icu_collator_core.specs.WordForms.{states_element}
use Rattle.icu_collator_core.proofs.apart.GrowthLemmas.{first_in}
use Rattle.collate_lines.specs.Record.{Record}
use Rattle.collate_rules.specs.KeptSettings.{AreSoundlySet}
use Rattle.collate_rules.specs.Meaning as lines
use Rattle.collate_rules.specs.SettingLines as set
use Rattle.collate_compile.specs.Compiled.{AreCompiledFrom, ArePrimariesOf}
use Rattle.collate_compile.proofs.laws.JamoLemmas.{StatesJamo, alone_itself, jamo_own, jamo_stated}
use Rattle.collate_compile.proofs.laws.CompiledLeadLemmas.{recorded_spelled}

module _ (records : List Record) (soundly : AreSoundlySet records) where
  pub primaries_pass : (special : CollationSpecialPrimaries) → ArePrimariesOf records special
      → AreSoundSpecialPrimaries special
  primaries_pass special alike = record {
    groups =
        ap (λ (n : ℕ). are_sound_groups n (groups_of special.last_primaries)) alike.numeric
        ∙ ap (are_sound_groups (set.numeric_of records)) alike.groups ∙ soundly.groups;
    numeric = ap is_letter_lead alike.numeric ∙ soundly.numeric_lead;
    compressible = λ lead h. soundly.compressible lead (sym (alike.compressible lead) ∙ h);
  }

  -- ---- Reordering

  abbrev place : ℕ → ℕ
  place = lines.place_among (set.reorder_of records)

  halves : (p : ℕ) → with_lead place p / 2 ^ 16 ≡ place (p / 2 ^ 24) * 2 ^ 8 + p % 2 ^ 24 / 2 ^ 16
  halves p = at (place (p / 2 ^ 24))
    where
      at : (l : ℕ) → (l * 2 ^ 24 + p % 2 ^ 24) / 2 ^ 16 ≡ l * 2 ^ 8 + p % 2 ^ 24 / 2 ^ 16
      at l = omega arith

  new_lead : (p : ℕ) → with_lead place p / 2 ^ 24 ≡ place (p / 2 ^ 24)
  new_lead p = at (place (p / 2 ^ 24))
    where
      at : (l : ℕ) → (l * 2 ^ 24 + p % 2 ^ 24) / 2 ^ 24 ≡ l
      at l = omega arith

  same_halves : (p q a b : ℕ) → a * 2 ^ 8 + p % 2 ^ 24 / 2 ^ 16 ≡ b * 2 ^ 8 + q % 2 ^ 24 / 2 ^ 16
      → (a ≡ b) × (p % 2 ^ 24 / 2 ^ 16 ≡ q % 2 ^ 24 / 2 ^ 16)
  same_halves p q a b same = (omega (arith, same), omega (arith, same))

  joined : (p q : ℕ) → p / 2 ^ 24 ≡ q / 2 ^ 24 → p % 2 ^ 24 / 2 ^ 16 ≡ q % 2 ^ 24 / 2 ^ 16 → p / 2 ^ 16 ≡ q / 2 ^ 16
  joined p q one other = omega (arith, one, other)

  apart : (p q : ℕ) → with_lead place p / 2 ^ 16 ≡ with_lead place q / 2 ^ 16 → p / 2 ^ 16 ≡ q / 2 ^ 16
  apart p q same =
      let parts = same_halves p q (place (p / 2 ^ 24)) (place (q / 2 ^ 24)) (sym (halves p) ∙ same ∙ halves q) in
      joined p q (soundly.leads.one_to_one (p / 2 ^ 24) (q / 2 ^ 24) parts.0) parts.1

  together : (p q : ℕ) → p / 2 ^ 16 ≡ q / 2 ^ 16 → with_lead place p / 2 ^ 16 ≡ with_lead place q / 2 ^ 16
  together p q same =
      let leads : p / 2 ^ 24 ≡ q / 2 ^ 24 = omega (arith, same) in
      let rests : p % 2 ^ 24 / 2 ^ 16 ≡ q % 2 ^ 24 / 2 ^ 16 = omega (arith, same) in
      halves p
      ∙ ap (λ (l : ℕ). place l * 2 ^ 8 + p % 2 ^ 24 / 2 ^ 16) leads
      ∙ ap (λ (r : ℕ). place (q / 2 ^ 24) * 2 ^ 8 + r) rests
      ∙ sym (halves q)

  kept : (p : ℕ) → is_letter_lead (p / 2 ^ 24) ≡ false → with_lead place p ≡ p
  kept p other =
      ap (λ (l : ℕ). l * 2 ^ 24 + p % 2 ^ 24) (soundly.leads.outside (p / 2 ^ 24) other)
      ∙ (let whole : p / 2 ^ 24 * 2 ^ 24 + p % 2 ^ 24 ≡ p = omega arith in whole)

  module _ (special : CollationSpecialPrimaries) (reordering : CollationReordering) (moved : (p : ℕ) → reordered_by reordering p ≡ with_lead place p) where
    upper_half : (p : ℕ) → reordered_by reordering p / 2 ^ 16 ≡ with_lead place p / 2 ^ 16
    upper_half p = ap (λ (n : ℕ). n / 2 ^ 16) (moved p)

    its_lead : (p : ℕ) → reordered_by reordering p / 2 ^ 24 ≡ place (p / 2 ^ 24)
    its_lead p = ap (λ (n : ℕ). n / 2 ^ 24) (moved p) ∙ new_lead p

    reordering_sound : length reordering.reorder_table ≡ 256 → IsSoundReordering special reordering
    reordering_sound count = record {
      count = count;
      apart = λ p q _ _. (
        λ same. apart p q (sym (upper_half p) ∙ same ∙ upper_half q),
        λ same. upper_half p ∙ together p q same ∙ sym (upper_half q),
      );
      others = λ p _ other. moved p ∙ kept p other;
      compressible = λ p q _ _ same.
          ap (is_compressible_in special.last_primaries)
          (soundly.leads.one_to_one (p / 2 ^ 24) (q / 2 ^ 24) (sym (its_lead p) ∙ same ∙ its_lead q));
    }

  pub reordering_passes : (tables : CollationTables) → AreCompiledFrom records tables → HasSoundReordering tables
  reordering_passes tables compiled = at tables.reordering compiled.reordering.moved compiled.reordering.count
    where
      at : (o : Option CollationReordering) → ((p : ℕ) → reordered_in o p ≡ with_lead place p)
          → IfSome o (λ r. length r.reorder_table ≡ 256) → IfSome o (IsSoundReordering tables.special_primaries)
      at None moved count = count
      at (Some reordering) moved count = reordering_sound tables.special_primaries reordering moved count

-- ---- Whole leads

module _ (records : List Record) (soundly : AreSoundlySet records) (tables : CollationTables) (compiled : AreCompiledFrom records tables) where
  pub whole_leads : MovesOnlyWholeLeads tables
  whole_leads = at tables.reordering compiled.reordering.moved compiled.reordering.bytes
    where
      at : (o : Option CollationReordering) → ((p : ℕ) → reordered_in o p ≡ with_lead (place records soundly) p)
          → IfSome o (λ r. All (λ byte. byte < 2 ^ 8) r.reorder_table) → IfSome o (MovesWholeLeads tables.special_primaries)
      at None moved bytes = bytes
      at (Some reordering) moved bytes =
          let special = tables.special_primaries in
          let in_place : (lead : ℕ) → lead_in_place reordering lead ≡ place records soundly lead =
          λ lead.
          its_lead records soundly special reordering moved (lead * 2 ^ 24)
          ∙ ap (place records soundly) (let back : lead * 2 ^ 24 / 2 ^ 24 ≡ lead = omega arith in back) in
          record {
            bytes = bytes;
            whole = λ p _. its_lead records soundly special reordering moved p ∙ sym (in_place (p / 2 ^ 24));
            alike = λ lead _.
                compiled.special_primaries.compressible (lead_in_place reordering lead)
                ∙ ap (lines.is_compressible_in records) (in_place lead)
                ∙ soundly.leads.alike lead
                ∙ sym (compiled.special_primaries.compressible lead);
          }

-- ---- Diacritics

pub diacritics_pass : (records : List Record) (tables : CollationTables) → AreCompiledFrom records tables
    → are_sound_diacritics tables ≡ true
diacritics_pass records tables compiled =
    ap (λ (list : List ℕ). is_diacritic_count tables.metadata (length list) && list_all is_sound_diacritic list) compiled.no_diacritics
    ∙ and_from _ _ (or_left (has_bit 4 tables.metadata.bits) _ compiled.settings.diacritics) refl

-- ---- Jamo

module _ (records : List Record) (sound : AreSoundWeights (lines.weights_of records)) (tables : CollationTables) (compiled : AreCompiledFrom records tables) where
  element_passes : (c word : ℕ) → is_jamo c ≡ true → (states : StatesJamo records c word)
      → are_sound_spelled tables.special_primaries (Some (own_primary c)) (states.element ∷ []) ≡ true
  unfolding is_primary_element
  element_passes c word jamo states = at (lines.recorded_in records [] (c ∷ [])) refl states.told
    where
      at : (o : Option (List Element)) → lines.recorded_in records [] (c ∷ []) ≡ o
          → MatchOption o (states.element ≡ primary_element (jamo_primary c)) (λ es. es ≡ states.element ∷ [])
          → are_sound_spelled tables.special_primaries (Some (own_primary c)) (states.element ∷ []) ≡ true
      at None none same =
          or_left (is_own_alone (Some (own_primary c)) (states.element ∷ [])) _
          (ap (λ (e : Element). is_primary_alone (own_primary c) (e ∷ [])) same
          ∙ ap (λ (p : ℕ). is_primary_alone p (primary_element (jamo_primary c) ∷ [])) (jamo_own c jamo)
          ∙ alone_itself (jamo_primary c))
      at (Some es) some same =
          or_right (is_own_alone (Some (own_primary c)) (states.element ∷ [])) _
          (and_from (is_sound_spelled tables.special_primaries states.element) true
          (recorded_spelled records tables.special_primaries compiled.special_primaries sound states.element (
            [],
            c ∷ [],
            es,
            some,
            subst (λ (fs : List Element). Contains fs states.element) (sym same)
                (first_in states.element []),
          )) refl)

  jamo_passes : (k : ℕ) → k < 256 → is_sound_jamo tables k ≡ true
  unfolding is_sound_jamo
  jamo_passes k lt =
      let word = slice_index tables.jamo.ce32s k in
      let jamo : is_jamo (0x1100 + k) ≡ true =
      and_from _ _ (le-leb 0x1100 (0x1100 + k) (omega arith)) (le-leb (0x1100 + k) 0x11ff (omega (arith, lt))) in
      let states = jamo_stated records (0x1100 + k) word jamo (compiled.jamo.each k lt) in
      and_from (states_element word) _ states.states
      (ap
      (λ (o : Option Element).
      elim o as (λ _. Bool) [ Some e ↦ are_sound_spelled tables.special_primaries (Some (own_primary (0x1100 + k))) (e ∷ []) | None ↦ false ])
      states.stated
      ∙ element_passes (0x1100 + k) word jamo states)

  pub all_jamo_pass : AreSoundJamo tables
  all_jamo_pass = record { count = compiled.jamo.count; sound = jamo_passes }
