-- The same lines in another order say the same, as functions of what they are asked.
use Rattle.std.proofs.Common.{◌≡◌, ℕ, cond, List, [], Option, refl, ap, ◌∙◌}
use Rattle.std.specs.List.Sorted.{IsPermutation}
use Rattle.std.specs.Option.{is_some, unwrap_or}
use Rattle.std.proofs.Math.Path.{fun_ext}
use Rattle.std.proofs.lemmas.List.Sorted.{list_any-IsPermutation}
use Rattle.icu_normalizer_core.specs.BuiltIn.{built_in_class, built_in_compatibility_step, built_in_step, is_built_in}
use Rattle.icu_normalizer_core.specs.Canonical.{Canonical}
use Rattle.icu_collator_types.specs.declared.elements.Element.{Element}
use Rattle.icu_collator_core.specs.ContextRules.{is_recorded_in}
use Rattle.collate_lines.specs.declared.rule.Rule.TheVariants.{C5, V14}
use Rattle.collate_lines.specs.Record.{Record, Layer, root, tailoring}
use Rattle.collate_rules.specs.CanonicalParts.{SaysSame}
use Rattle.collate_rules.specs.Meaning.{any_step, canonical_of, class_in, class_of, compatibility_in, compatibility_of, composed_in, digit_in, elements_in, else_mapped, expanded, first_found, mapping_in, pair_of, step_of, weights_of}
use Rattle.collate_rules.specs.Offenders.{NoneOffends}
use Rattle.collate_rules.specs.RecordRules.{digit_of, has_mapping, is_replaced, is_to_some}
use Rattle.collate_rules.specs.Rules.{is_same_pair, pair_in}
use Rattle.collate_rules.proofs.mappings.CanonicalPartLemmas.{class_of-same, pair_of-same, step_of-same}
use Rattle.collate_records.proofs.comparing.LineOrderLemmas.{pair_second, recorded_alike, said_alike}
use Rattle.collate_records.proofs.comparing.OneLineLemmas.{class_second, compatibility_second, digit_second, found_alike, mapping_second, says_once}

-- the mappings of either kind, by those of each
abbrev either_step : (ℕ → List ℕ) → (ℕ → List ℕ) → ℕ → List ℕ
either_step canonical compatible c = unwrap_or (built_in_compatibility_step c) (else_mapped (canonical c) (compatible c))

-- canonical data by classes, mappings and pairs
abbrev data_by : (ℕ → ℕ) → (ℕ → List ℕ) → (ℕ → ℕ → Option ℕ) → Canonical
data_by class step pair = record { class = class; step = step; full = λ c. expanded step 0x110000 c; pair = pair }

module _ (a b : List Record) (moved : IsPermutation a b) (once : NoneOffends V14 a) where
  mapping_alike : (c : ℕ) → first_found (mapping_in c) a ≡ first_found (mapping_in c) b
  mapping_alike c = said_alike a b moved once (mapping_in c) (mapping_second c)

  digit_alike : (c : ℕ) → first_found (digit_in c) a ≡ first_found (digit_in c) b
  digit_alike c = said_alike a b moved once (digit_in c) (digit_second c)

  -- where no pair is repeated either, lines say the same of all that canonical data are made of
  pub says_same : NoneOffends C5 a → SaysSame a b
  says_same pairs = record {
    classes = λ c. said_alike a b moved once (class_in c) (class_second c);
    mappings = mapping_alike;
    compatibilities = λ c. said_alike a b moved once (compatibility_in c) (compatibility_second c);
    pairs = λ x y. found_alike (composed_in x y) a b moved (says_once (composed_in x y) (λ s t. is_same_pair (pair_in s) (pair_in t)) (pair_second x y) a pairs);
  }

  pub classes_same : class_of a ≡ class_of b
  classes_same =
      fun_ext (λ c. ap (λ (o : Option ℕ). unwrap_or (built_in_class c) (unwrap_or o 0)) (said_alike a b moved once (class_in c) (class_second c)))

  pub canonical_same : NoneOffends C5 a → canonical_of a ≡ canonical_of b
  canonical_same pairs =
      let same = says_same pairs in
      ap (λ class. data_by class (step_of a) (pair_of a)) (fun_ext (λ c. class_of-same a b c same))
      ∙ ap (λ step. data_by (class_of b) step (pair_of a)) (fun_ext (λ c. step_of-same a b c same))
      ∙ ap (λ pair. data_by (class_of b) (step_of b) pair) (fun_ext (λ x. fun_ext (λ y. pair_of-same a b x y same)))

  pub steps_same : step_of a ≡ step_of b
  steps_same =
      fun_ext (λ c. ap (λ (o : Option (List ℕ)). cond (is_built_in c) (unwrap_or (built_in_step c) []) (unwrap_or o [])) (mapping_alike c))

  compatibilities_same : compatibility_of a ≡ compatibility_of b
  compatibilities_same =
      fun_ext (λ c. ap (λ (o : Option (List ℕ)). cond (is_built_in c) [] (unwrap_or o [])) (said_alike a b moved once (compatibility_in c) (compatibility_second c)))

  pub any_steps_same : any_step a ≡ any_step b
  any_steps_same =
      ap (λ (step : ℕ → List ℕ). either_step step (compatibility_of a)) steps_same ∙ ap (either_step (step_of b)) compatibilities_same

  pub mapped_same : has_mapping a ≡ has_mapping b
  mapped_same =
      fun_ext (λ c. ap (λ (o : Option (List ℕ)). cond (is_built_in c) (is_to_some (built_in_step c)) (is_some o)) (mapping_alike c))

  pub digits_same : digit_of a ≡ digit_of b
  digits_same = fun_ext digit_alike

  -- what is recorded
  pub recorded_same : is_recorded_in (weights_of a) ≡ is_recorded_in (weights_of b)
  recorded_same =
      fun_ext (λ prefix. fun_ext (λ text. ap (λ (o : Option (List Element)). is_some o) (recorded_alike a b moved once prefix text)))

  pub replaced_same : is_replaced a ≡ is_replaced b
  replaced_same = fun_ext by
    where
      by : (layer : Layer) → is_replaced a layer ≡ is_replaced b layer
      by tailoring = refl
      by root =
          fun_ext (λ prefix. fun_ext (λ text.
          list_any-IsPermutation (λ line. is_some (elements_in tailoring prefix text line)) a b moved))
