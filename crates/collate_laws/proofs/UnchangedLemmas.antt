-- Collators over two files answer alike of what both say the same.
use Rattle.std.proofs.Common.{◌≡◌, ℕ, cond, List, [], ◌∷◌, Option, Some, None, refl, sym, ap, ◌∙◌}
use Rattle.std.proofs.lemmas.List.Elements.{All-from_recursion}
use Rattle.std.specs.Prelude.{All}
use Rattle.std.specs.Option.{unwrap_or}
use Rattle.std.specs.Char.{IsScalar}
use Rattle.icu_normalizer_core.specs.BuiltIn.{is_jamo}
use Rattle.icu_normalizer_core.specs.Canonical.{decomposed}
use Rattle.icu_normalizer_core.proofs.decomposed_lists.DecomposedLemmas.{decomposed_all_scalars, decomposed_same}
use Rattle.icu_collator_types.specs.Options.{is_numeric, resolved_options}
use Rattle.icu_collator_types.specs.declared.elements.Element.{Element}
use Rattle.icu_collator_types.specs.declared.options.CollatorOptions.{CollatorOptions}
use Rattle.icu_collator_types.specs.declared.options.CollatorPreferences.{CollatorPreferences}
use Rattle.icu_collator_types.specs.declared.options.ResolvedCollatorOptions.{ResolvedCollatorOptions}
use Rattle.icu_collator_core.specs.Defaults.{default_elements, default_primary, implicit_primary, jamo_primary, primary_element, special_primary}
use Rattle.icu_collator_core.specs.Elements.{elements_of_list}
use Rattle.icu_collator_core.specs.Sameness.{AreSameOf, AreSameWeights}
use Rattle.icu_collator_core.specs.Weights.{Weights}
use Rattle.icu_collator_core.proofs.readings.ReachedLemmas.{reached_decomposed, reached_elements}
use Rattle.icu_collator_core.proofs.readings.SamenessLemmas.{elements_same}
use Rattle.icu_collator.specs.Collators.{CollatorParts, source_collation}
use Rattle.icu_collator.specs.Levels.{elements_of_text}
use Rattle.icu_collator.proofs.orders.OrderSamenessLemmas.{reached_keys, reached_order}
use Rattle.collate_lines.specs.Record.{Record}
use Rattle.collate_records.specs.Changes.{AreSettingsEqual, IsUnchanged}
use Rattle.collate_records.proofs.comparing.LocalityLemmas.{leads_alike, ranged_alike, read_alike, settings_alike}
use Rattle.collate_records.proofs.reading.ReadingAcceptedLemmas.{accepted_decompose}
use Rattle.collate_rules.specs.Accepted.{AreAccepted}
use Rattle.collate_rules.specs.Meaning.{canonical_of, collation_of, weights_of}
use Rattle.collate_laws.specs.Alike.{ReadAlike, order_of}
use Rattle.collate_laws.specs.OverRecords.{IsCollatorOf}
use Rattle.collate_laws.specs.Unchanged.{ReachesUnchanged, lone_elements}
use Rattle.collate_laws.proofs.LawAlikeLemmas.{joined_key, joined_order}

-- ## A character alone

default_alike : (v w : Weights) (c : ℕ) → v.ranged_primary c ≡ w.ranged_primary c → default_elements v c ≡ default_elements w c
unfolding default_primary
default_alike v w c same =
    ap (λ (o : Option ℕ). primary_element (unwrap_or (special_primary c) (unwrap_or o (cond (is_jamo c) (jamo_primary c) (implicit_primary c)))) ∷ []) same

or_alike : (o : Option (List Element)) (es fs : List Element) → (o ≡ None → es ≡ fs) → unwrap_or o es ≡ unwrap_or o fs
or_alike (Some e) es fs same = refl
or_alike None es fs same = same refl

-- weights that record the same of a character alone, and give it one primary of a range where they record nothing
lone_alike : (v w : Weights) (c : ℕ) → v.recorded [] (c ∷ []) ≡ w.recorded [] (c ∷ [])
    → (v.recorded [] (c ∷ []) ≡ None → v.ranged_primary c ≡ w.ranged_primary c) → lone_elements v c ≡ lone_elements w c
lone_alike v w c recorded ranged =
    or_alike (v.recorded [] (c ∷ [])) (default_elements v c) (default_elements w c) (λ none. default_alike v w c (ranged none))
    ∙ ap (λ (o : Option (List Element)). unwrap_or o (default_elements w c)) recorded

-- weights that are the same
lone_same : (v w : Weights) (c : ℕ) → AreSameWeights v w → IsScalar c → lone_elements v c ≡ lone_elements w c
lone_same v w c same scalar =
    lone_alike v w c (same.recorded [] (c ∷ []) (All-from_recursion IsScalar [] tt) (All-from_recursion IsScalar (c ∷ []) (scalar, tt)))
    (same.ranged_primary c scalar)

module _ (old new : List Record) (options more : CollatorOptions) (preferences preferred : CollatorPreferences) (a b : CollatorParts)
    (settings : AreSettingsEqual old new)
    (first : IsCollatorOf old options preferences a) (second : IsCollatorOf new more preferred b) where
  pub lone_unchanged : (c : ℕ) → IsUnchanged old new c → IsScalar c
      → lone_elements (source_collation a.source).weights c ≡ lone_elements (source_collation b.source).weights c
  lone_unchanged c same scalar =
      lone_same (source_collation a.source).weights (weights_of old) c first.weights scalar
      ∙ lone_alike (weights_of old) (weights_of new) c (same.weights.recorded [] []) (λ none. ranged_alike old new settings c same.weights.range)
      ∙ sym (lone_same (source_collation b.source).weights (weights_of new) c second.weights scalar)

-- the same options resolve alike
pub resolved_alike : (old new : List Record) (options : CollatorOptions) (preferences : CollatorPreferences) (a b : CollatorParts)
    → AreSettingsEqual old new → IsCollatorOf old options preferences a → IsCollatorOf new options preferences b → a.options ≡ b.options
resolved_alike old new options preferences a b settings first second =
    first.resolved ∙ ap (resolved_options options preferences) settings.values.options ∙ sym second.resolved

-- ## Texts

module _ (records : List Record) (options : CollatorOptions) (preferences : CollatorPreferences) (collator : CollatorParts)
    (accepted : AreAccepted records) (is : IsCollatorOf records options preferences collator) (text : List ℕ) (scalars : All IsScalar text) where
  pub list_here : decomposed (source_collation collator.source).canonical text ≡ decomposed (canonical_of records) text
  list_here =
      decomposed_same (source_collation collator.source).canonical (canonical_of records) text is.canonical.same (accepted_decompose records accepted) scalars

  pub elements_here : (resolved : ResolvedCollatorOptions)
      → elements_of_text (source_collation collator.source) resolved text ≡ elements_of_text (collation_of records) resolved text
  elements_here resolved =
      let list = decomposed (canonical_of records) text in
      ap (λ (cs : List ℕ). elements_of_list (source_collation collator.source).canonical (source_collation collator.source).weights (is_numeric resolved.numeric) cs) list_here
      ∙ elements_same (source_collation collator.source).canonical (canonical_of records) (source_collation collator.source).weights (weights_of records)
      (is_numeric resolved.numeric) is.canonical.same is.weights list
      (decomposed_all_scalars (canonical_of records) text (accepted_decompose records accepted) scalars)

module _ (old new : List Record) (options more : CollatorOptions) (preferences preferred : CollatorPreferences) (a b : CollatorParts)
    (accepted : AreAccepted old) (also : AreAccepted new) (settings : AreSettingsEqual old new)
    (first : IsCollatorOf old options preferences a) (second : IsCollatorOf new more preferred b) (resolved : a.options ≡ b.options) where
  same_of : (text : List ℕ) → ReachesUnchanged old new text → AreSameOf (collation_of old) (collation_of new) text
  same_of text unchanged = read_alike old new settings text unchanged

  pub texts_alike : (text : List ℕ) → ReachesUnchanged old new text → All IsScalar text → ReadAlike a b text
  texts_alike text unchanged scalars =
      let same = same_of text unchanged in
      let before = accepted_decompose old accepted in
      let behind = accepted_decompose new also in
      record {
        list =
            list_here old options preferences a accepted first text scalars
            ∙ reached_decomposed (canonical_of old) (canonical_of new) text before behind same.mappings scalars
            ∙ sym (list_here new more preferred b also second text scalars);
        elements =
            elements_here old options preferences a accepted first text scalars a.options
            ∙ reached_elements (canonical_of old) (canonical_of new) text before behind same.mappings scalars
            (weights_of old) (weights_of new) (is_numeric a.options.numeric) same.readings
            ∙ ap (λ (o : ResolvedCollatorOptions). elements_of_text (collation_of new) o text) resolved
            ∙ sym (elements_here new more preferred b also second text scalars b.options);
        key =
            joined_key old new options more preferences preferred a b accepted also first second resolved text scalars
            (reached_keys (collation_of old) (collation_of new) a.options before behind (settings_alike old new settings).settings
            text same (leads_alike old new settings) scalars);
      }

  pub orders_alike : (x y : List ℕ) → ReachesUnchanged old new x → ReachesUnchanged old new y → All IsScalar x → All IsScalar y
      → order_of a x y ≡ order_of b x y
  orders_alike x y one two scalars too =
      joined_order old new options more preferences preferred a b accepted also first second resolved x y scalars too
      (reached_order (collation_of old) (collation_of new) a.options (accepted_decompose old accepted) (accepted_decompose new also)
      (settings_alike old new settings).settings x y (same_of x one) (same_of y two) scalars too)
