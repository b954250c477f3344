-- The lines of a file that keep the rules mean the same in another order.
use Rattle.std.proofs.Common.{◌≡◌, ℕ, zero, suc, Bool, true, false, cond, ◌==◌, ◌||◌, List, [], ◌∷◌, ◌++◌, Option, Some, None, refl, sym, ap, ◌∙◌, codes, replicate, flat_map}
use Rattle.std.specs.List.{list_all, list_any}
use Rattle.std.specs.List.Sorted.{IsPermutation}
use Rattle.std.specs.Option.{unwrap_or}
use Rattle.std.proofs.lemmas.Bool.{and_from, and_parts, false≢true, true_from_ne_false}
use Rattle.std.proofs.lemmas.Bool.Decides.{Decides-eqb}
use Rattle.std.proofs.lemmas.Option.{none-some}
use Rattle.icu_collator_types.specs.declared.elements.Element.{Element}
use Rattle.icu_collator_types.specs.declared.options.AlternateHandling.{AlternateHandling}
use Rattle.icu_collator_types.specs.declared.options.CollationCaseFirst.{CollationCaseFirst}
use Rattle.icu_collator_types.specs.declared.options.MaxVariable.{MaxVariable}
use Rattle.icu_collator_types.specs.Options.{default_settings}
use Rattle.icu_normalizer_core.specs.BuiltIn.{built_in_class, built_in_step, syllable_of, is_built_in}
use Rattle.icu_normalizer_core.specs.Sameness.{AreSameCanonical, AreSameComposing}
use Rattle.icu_collator_core.specs.Sameness.{AreSameWeights}
use Rattle.icu_collator_core.specs.SameSettings.{AreSameWithOptions}
use Rattle.icu_collator_core.specs.WeightRules.{is_of_other_lead, is_sound_range}
use Rattle.collate_lines.specs.declared.rule.Rule.TheVariants.{C5, V6, V14}
use Rattle.collate_lines.specs.Record.{Record, setting, Layer, root, tailoring, alternate, backward, case_first, max_variable, dot_above, numeric, groups, compress, reorder}
use Rattle.collate_lines.specs.Repeats.{is_second}
use Rattle.collate_rules.specs.GivenWeights.{are_all_disjoint, are_sound_ranges, given_elements, given_ranges, leads_to}
use Rattle.collate_rules.specs.Meaning.{alternate_in, backward_in, canonical_of, case_first_in, class_in, collation_of, composed_in, compress_in, digit_in, dot_above_in, elements_in, expanded, first_found, groups_in, mapping_in, max_variable_in, numeric_in, pair_of, place_among, range_in, recorded_in, reorder_in, set_to, settings_of, step_of, weights_of}
use Rattle.collate_rules.specs.Offenders.{NoneOffends}
use Rattle.collate_rules.specs.Rules.{is_same_pair, pair_in}
use Rattle.collate_rules.proofs.lists.RuleFullListLemmas.{by_first, expanded-suc, expanded_none}
use Rattle.collate_rules.proofs.offenders.BreachLemmas.{none_together}
use Rattle.collate_records.specs.Changes.{AreSettingsEqual}
use Rattle.collate_records.proofs.comparing.LocalityLemmas.{leads_alike, ranged_alike, settings_alike}
use Rattle.collate_records.proofs.mappings.ComposedPairLemmas.{composed_in-some}
use Rattle.collate_records.proofs.comparing.OneLineLemmas.{Sets, class_second, digit_second, elements_second, found_alike, mapping_second, range_once, says_once, setting_second}

-- ## Full lists

each_alike : (f g : ℕ → List ℕ) → ((d : ℕ) → f d ≡ g d) → (ds : List ℕ) → flat_map f ds ≡ flat_map g ds
each_alike f g same [] = refl
each_alike f g same (d ∷ ds) =
    ap (λ (l : List ℕ). l ++ flat_map f ds) (same d) ∙ ap (λ (l : List ℕ). g d ++ l) (each_alike f g same ds)

module _ (f g : ℕ → List ℕ) (same : (c : ℕ) → f c ≡ g c) where
  first_alike : (n c : ℕ) → ((d : ℕ) → expanded f n d ≡ expanded g n d) → (ds : List ℕ) → by_first f n c ds ≡ by_first g n c ds
  first_alike n c fewer [] = refl
  first_alike n c fewer (d ∷ ds) = each_alike (expanded f n) (expanded g n) fewer (d ∷ ds)

  -- the same steps leave the same
  expanded_alike : (n c : ℕ) → expanded f n c ≡ expanded g n c
  expanded_alike zero c = expanded_none f zero c refl ∙ sym (expanded_none g zero c refl)
  expanded_alike (suc n) c =
      expanded-suc f n c ∙ ap (by_first f n c) (same c) ∙ first_alike n c (expanded_alike n) (g c) ∙ sym (expanded-suc g n c)

-- ## Composed pairs

-- a line that composes two characters
pair_some : (x y k : ℕ) (s : Record) → composed_in x y s ≡ Some k → pair_in s ≡ Some (x, y)
pair_some x y k s e =
    let w = composed_in-some x y k s e in
    ap pair_in w.line ∙ ap (λ (b : Bool). cond {A = Option (ℕ × ℕ)} b None (Some (x, y))) w.free

pub pair_second : (x y : ℕ) (s t : Record) (k l : ℕ) → composed_in x y s ≡ Some k → composed_in x y t ≡ Some l → is_same_pair (pair_in s) (pair_in t) ≡ true
pair_second x y s t k l e g =
    rw (pair_some x y k s e, pair_some x y l t g)
    (and_from (x == x) (y == y) ((Decides-eqb x x).1 refl) ((Decides-eqb y y).1 refl))

-- ## Settings

sets_alternate : (s : Record) (u : AlternateHandling) → alternate_in s ≡ Some u → Sets (codes "alternate") s
sets_alternate (setting (alternate a)) u e = refl
sets_alternate _ u e = absurd (none-some u e)

sets_backward : (s : Record) (u : Bool) → backward_in s ≡ Some u → Sets (codes "backward") s
sets_backward (setting (backward b)) u e = refl
sets_backward _ u e = absurd (none-some u e)

sets_case_first : (s : Record) (u : CollationCaseFirst) → case_first_in s ≡ Some u → Sets (codes "casefirst") s
sets_case_first (setting (case_first c)) u e = refl
sets_case_first _ u e = absurd (none-some u e)

sets_max_variable : (s : Record) (u : MaxVariable) → max_variable_in s ≡ Some u → Sets (codes "maxvariable") s
sets_max_variable (setting (max_variable m)) u e = refl
sets_max_variable _ u e = absurd (none-some u e)

sets_dot_above : (s : Record) (u : Bool) → dot_above_in s ≡ Some u → Sets (codes "dotabove") s
sets_dot_above (setting (dot_above b)) u e = refl
sets_dot_above _ u e = absurd (none-some u e)

sets_numeric : (s : Record) (u : ℕ) → numeric_in s ≡ Some u → Sets (codes "numeric") s
sets_numeric (setting (numeric lead)) u e = refl
sets_numeric _ u e = absurd (none-some u e)

sets_groups : (s : Record) (u : List ℕ) → groups_in s ≡ Some u → Sets (codes "groups") s
sets_groups (setting (groups ends)) u e = refl
sets_groups _ u e = absurd (none-some u e)

sets_compress : (s : Record) (u : List ℕ) → compress_in s ≡ Some u → Sets (codes "compress") s
sets_compress (setting (compress leads)) u e = refl
sets_compress _ u e = absurd (none-some u e)

sets_reorder : (s : Record) (u : List (ℕ × ℕ)) → reorder_in s ≡ Some u → Sets (codes "reorder") s
sets_reorder (setting (reorder pairs)) u e = refl
sets_reorder _ u e = absurd (none-some u e)

-- ## Ranges

all_apart : (records : List Record) → NoneOffends V6 records → are_all_disjoint (given_ranges records) ≡ true
all_apart records keeps =
    let sound =
    true_from_ne_false _
    (none_together (λ lines. are_sound_ranges (leads_to records lines) (given_ranges lines) (given_elements lines) ≡ false)
    (λ e. false≢true (sym e)) records keeps) in
    let first = and_parts _ (list_all (λ s. list_all (is_of_other_lead s) (given_elements records)) (given_ranges records)) sound in
    (and_parts (list_all (is_sound_range (leads_to records records)) (given_ranges records)) (are_all_disjoint (given_ranges records)) first.0).1

-- ## Lines in another order

module _ (a b : List Record) (moved : IsPermutation a b) (new : NoneOffends V14 a) where
  -- what a line says for one thing is found alike
  pub said_alike : {B : Type 0} (f : Record → Option B)
      → ((s t : Record) (u v : B) → f s ≡ Some u → f t ≡ Some v → is_second s t ≡ true) → first_found f a ≡ first_found f b
  said_alike f tell = found_alike f a b moved (says_once f is_second tell a new)

  pub set_alike : {B : Type 0} (f : Record → Option B) (name : List ℕ) → ((s : Record) (u : B) → f s ≡ Some u → Sets name s)
      → (default : B) → set_to f default a ≡ set_to f default b
  set_alike {B} f name named default =
      ap (λ (o : Option B). unwrap_or o default) (said_alike f (setting_second f name named))

  step_alike : (c : ℕ) → step_of a c ≡ step_of b c
  step_alike c =
      ap (λ (o : Option (List ℕ)). cond (is_built_in c) (unwrap_or (built_in_step c) []) (unwrap_or o [])) (said_alike (mapping_in c) (mapping_second c))

  -- the same classes and full lists
  pub same_characters : AreSameCanonical (canonical_of a) (canonical_of b)
  same_characters = record {
    class = λ c scalar. ap (λ (o : Option ℕ). unwrap_or (built_in_class c) (unwrap_or o 0)) (said_alike (class_in c) (class_second c));
    full = λ c scalar. expanded_alike (step_of a) (step_of b) step_alike 0x110000 c;
  }

  pair_alike : NoneOffends C5 a → (x y : ℕ) → pair_of a x y ≡ pair_of b x y
  pair_alike once x y =
      ap (λ (o : Option ℕ). elim (syllable_of x y) as (λ _. Option ℕ) [ Some c ↦ Some c | None ↦ o ])
      (found_alike (composed_in x y) a b moved (says_once (composed_in x y) (λ s t. is_same_pair (pair_in s) (pair_in t)) (pair_second x y) a once))

  -- and the same composed pairs
  pub same_composing : NoneOffends C5 a → AreSameComposing (canonical_of a) (canonical_of b)
  same_composing once = record { same = same_characters; pair = λ x y first second. pair_alike once x y }

  pub numeric_alike : first_found numeric_in a ≡ first_found numeric_in b
  numeric_alike = said_alike numeric_in (setting_second numeric_in (codes "numeric") sets_numeric)

  pub compress_alike : set_to compress_in [] a ≡ set_to compress_in [] b
  compress_alike = set_alike compress_in (codes "compress") sets_compress []

  pub reorder_alike : set_to reorder_in [] a ≡ set_to reorder_in [] b
  reorder_alike = set_alike reorder_in (codes "reorder") sets_reorder []

  options_alike : settings_of a ≡ settings_of b
  options_alike =
      let of_alternate = set_alike alternate_in (codes "alternate") sets_alternate default_settings.alternate_handling in
      let of_case_first = set_alike case_first_in (codes "casefirst") sets_case_first default_settings.case_first in
      let of_max_variable = set_alike max_variable_in (codes "maxvariable") sets_max_variable default_settings.max_variable in
      rw (of_alternate, of_case_first, of_max_variable) refl

  -- the same settings by value
  pub equal_settings : AreSettingsEqual a b
  equal_settings = record {
    values = record {
      options = options_alike;
      backward = set_alike backward_in (codes "backward") sets_backward false;
      dot_above = set_alike dot_above_in (codes "dotabove") sets_dot_above false;
      numeric = set_alike numeric_in (codes "numeric") sets_numeric 0x10;
      groups = set_alike groups_in (codes "groups") sets_groups (replicate 4 0x300);
    };
    compressible = λ lead. ap (λ (leads : List ℕ). (lead == 0xfe) || list_any (λ other. other == lead) leads) compress_alike;
    reordered = λ lead. ap (λ (pairs : List (ℕ × ℕ)). place_among pairs lead) reorder_alike;
  }

  pub same_settings : AreSameWithOptions (collation_of a) (collation_of b)
  same_settings = settings_alike a b equal_settings

  pub recorded_alike : (prefix text : List ℕ) → recorded_in a prefix text ≡ recorded_in b prefix text
  recorded_alike prefix text =
      let layer_alike : (layer : Layer) → first_found (elements_in layer prefix text) a ≡ first_found (elements_in layer prefix text) b =
      λ layer. said_alike (elements_in layer prefix text) (elements_second layer prefix text) in
      ap (λ (o : Option (List Element)). elim o as (λ _. Option (List Element)) [ Some es ↦ Some es | None ↦ first_found (elements_in root prefix text) a ]) (layer_alike tailoring)
      ∙ ap (λ (o : Option (List Element)). elim (first_found (elements_in tailoring prefix text) b) as (λ _. Option (List Element)) [ Some es ↦ Some es | None ↦ o ]) (layer_alike root)

  -- and the same weights, where ranges are apart
  pub same_weights : NoneOffends V6 a → AreSameWeights (weights_of a) (weights_of b)
  same_weights apart = record {
    recorded = λ prefix text scalars others. recorded_alike prefix text;
    digit = λ c scalar. said_alike (digit_in c) (digit_second c);
    ranged_primary = λ c scalar none. ranged_alike a b equal_settings c (found_alike (range_in c) a b moved (range_once c a (all_apart a apart)));
    is_compressible = leads_alike a b equal_settings;
    numeric_lead = equal_settings.values.numeric;
    dot_above = equal_settings.values.dot_above;
  }
