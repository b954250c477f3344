-- What an accepted file says of texts.
use Rattle.std.proofs.Common.{◌≡◌, ℕ, List, true, ◌↔◌, ap, ◌∙◌}
use Rattle.std.specs.Prelude.{All, ◌≢◌}
use Rattle.std.specs.Char.{IsScalar}
use Rattle.std.specs.Cmp.{IsTotalOrder}
use Rattle.std.specs.Cmp.Lexicographic.{slice_cmp}
use Rattle.std.specs.Ordering.{nat_cmp}
use Rattle.std.specs.declared.cmp.Ordering.TheVariants.{Equal}
use Rattle.icu_normalizer_core.specs.Canonical.{IsCanonical, composed, decomposed}
use Rattle.icu_normalizer.specs.Equivalence.{IsEquivalent}
use Rattle.icu_normalizer.proofs.equivalence.EquivalenceLemmas.{one_decomposed}
use Rattle.icu_normalizer.proofs.equivalence.NormalFormLemmas.{composed_decomposed, decomposed_twice}
use Rattle.icu_collator_types.specs.Options.{is_at_least}
use Rattle.icu_collator_types.specs.declared.options.CaseLevel.TheVariants.{Off}
use Rattle.icu_collator_types.specs.declared.options.CollatorOptions.{CollatorOptions}
use Rattle.icu_collator_types.specs.declared.options.CollatorPreferences.{CollatorPreferences}
use Rattle.icu_collator_types.specs.declared.options.ResolvedCollatorOptions.{ResolvedCollatorOptions}
use Rattle.icu_collator_types.specs.declared.options.Strength.{Strength}
use Rattle.icu_collator_types.specs.declared.options.Strength.TheVariants.{Identical}
use Rattle.icu_collator_core.specs.Acceptance.{CollationSource}
use Rattle.icu_collator_core.specs.Collation.{Collation}
use Rattle.icu_collator.specs.CollatorAnswers.{key_by, order_by}
use Rattle.icu_collator.specs.Collators.{CollatorParts, borrowed_options, borrowed_source, source_collation}
use Rattle.icu_collator.specs.KeyBytes.{key_bytes, key_of_text}
use Rattle.icu_collator.specs.Levels.{Levels}
use Rattle.icu_collator.specs.Order.{collation_order}
use Rattle.icu_collator.specs.declared.comparison.borrowed.CollatorBorrowed.{CollatorBorrowed}
use Rattle.icu_collator.proofs.equivalence.IdenticalLemmas.{equal_at_identical, same_levels}
use Rattle.icu_collator.proofs.equivalence.NormalisingLemmas.{first_replaced, second_replaced}
use Rattle.icu_collator.proofs.keys.TextKeyLemmas.{equal_text_keys, identical_text_keys, text_keys_order}
use Rattle.icu_collator.proofs.orders.StrengthsLemmas.{raised_order}
use Rattle.icu_collator.proofs.orders.TotalOrderLemmas.{collation_order_total}
use Rattle.collate_lines.specs.declared.limits.Limits.{Limits}
use Rattle.collate_lines.specs.Lines.{records_of}
use Rattle.collate_records.specs.Files.{IsAcceptedWithin}
use Rattle.collate_records.proofs.reading.ReadingAcceptedLemmas.{lines_within}
use Rattle.collate_rules.specs.Meaning.{collation_of}
use Rattle.collate_laws.specs.OverRecords.{IsCollatorOf}
use Rattle.collate_laws.proofs.LawAnswerLemmas.{keys, orders}
use Rattle.collate_laws.proofs.LawFormLemmas.{accepted_canonical}
use Rattle.collate_laws.proofs.LawSoundLemmas.{accepted_sound}
use Rattle.collate_laws.specs.Files.{HasPlainLeads, IsAsGood, file_canonical, file_key, file_options, file_order, with_strength}

module _ (file : List ℕ) (options : CollatorOptions) (preferences : CollatorPreferences) where
  -- what the file's lines say, and the options that count
  abbrev said : Collation
  said = collation_of (records_of file)

  abbrev resolved : ResolvedCollatorOptions
  resolved = file_options file options preferences

  pub file_order_total : IsTotalOrder (file_order file options preferences)
  file_order_total = collation_order_total said resolved

  pub raised_file_order : (strength : Strength) (x y : List ℕ) → resolved.case_level ≡ Off → is_at_least strength resolved.strength ≡ true
      → file_order file options preferences x y ≢ Equal
      → file_order file (with_strength options strength) preferences x y ≡ file_order file options preferences x y
  raised_file_order strength x y off above differ = raised_order said resolved resolved.strength strength x y off above differ

  module _ (limits : Limits) (accepted : IsAcceptedWithin limits file) where
    canonical : IsCanonical (file_canonical file)
    canonical = accepted_canonical (records_of file) (lines_within limits file accepted)

    -- ## Collators

    module _ (collator : CollatorParts) (borrowed : CollatorBorrowed) (is : IsCollatorOf (records_of file) options preferences collator)
        (source : borrowed_source borrowed ≡ collator.source) (same : borrowed_options borrowed ≡ collator.options) where
      pub order_said : (x y : List ℕ) → All IsScalar x → All IsScalar y → order_by borrowed x y ≡ file_order file options preferences x y
      order_said x y scalars too =
          ap (λ (s : CollationSource). collation_order (source_collation s) (borrowed_options borrowed) x y) source
          ∙ ap (λ (o : ResolvedCollatorOptions). collation_order (source_collation collator.source) o x y) same
          ∙ orders (records_of file) options preferences collator (lines_within limits file accepted) is x y scalars too

      pub key_said : (x : List ℕ) → All IsScalar x → key_by borrowed x ≡ file_key file options preferences x
      key_said x scalars =
          ap (λ (s : CollationSource). key_of_text (source_collation s) (borrowed_options borrowed) x) source
          ∙ ap (λ (o : ResolvedCollatorOptions). key_of_text (source_collation collator.source) o x) same
          ∙ keys (records_of file) options preferences collator (lines_within limits file accepted) is x scalars

    -- ## Keys

    pub file_keys_order : HasPlainLeads file options preferences → (x y : List ℕ) → All IsScalar x → All IsScalar y
        → slice_cmp nat_cmp (file_key file options preferences x) (file_key file options preferences y) ≡ file_order file options preferences x y
    file_keys_order plain x y scalars too =
        text_keys_order said resolved x y canonical.decomposing (accepted_sound (records_of file) (lines_within limits file accepted)) plain scalars too

    pub file_keys_equal : HasPlainLeads file options preferences → (x y : List ℕ) → All IsScalar x → All IsScalar y
        → (file_key file options preferences x ≡ file_key file options preferences y) ↔ (file_order file options preferences x y ≡ Equal)
    file_keys_equal plain x y scalars too =
        equal_text_keys said resolved x y canonical.decomposing (accepted_sound (records_of file) (lines_within limits file accepted)) plain scalars too

    -- ## Equivalence and normal forms

    -- texts of one decomposed list
    one_list_good : (x y : List ℕ) → decomposed (file_canonical file) x ≡ decomposed (file_canonical file) y → IsAsGood file options preferences x y
    one_list_good x y same = record {
      left = λ z. first_replaced said resolved y x z same;
      right = λ z. second_replaced said resolved z y x same;
      key = ap (λ (levels : Levels). key_bytes said resolved levels) (same_levels said resolved x y same);
    }

    pub equivalent_good : (x y : List ℕ) → All IsScalar x → All IsScalar y → IsEquivalent (file_canonical file) x y → IsAsGood file options preferences x y
    equivalent_good x y scalars too equivalent =
        one_list_good x y ((one_decomposed (file_canonical file) x y canonical.decomposing scalars too).0 equivalent)

    pub identical_equivalent : resolved.strength ≡ Identical → (x y : List ℕ) → All IsScalar x → All IsScalar y
        → (file_order file options preferences x y ≡ Equal) ↔ IsEquivalent (file_canonical file) x y
    identical_equivalent identical x y scalars too = equal_at_identical said resolved x y canonical.decomposing identical scalars too

    pub identical_keys : HasPlainLeads file options preferences → resolved.strength ≡ Identical → (x y : List ℕ) → All IsScalar x → All IsScalar y
        → (file_key file options preferences x ≡ file_key file options preferences y) ↔ IsEquivalent (file_canonical file) x y
    identical_keys plain identical x y scalars too =
        identical_text_keys said resolved x y canonical.decomposing (accepted_sound (records_of file) (lines_within limits file accepted)) plain identical scalars too

    pub decomposed_good : (text : List ℕ) → All IsScalar text → IsAsGood file options preferences (decomposed (file_canonical file) text) text
    decomposed_good text scalars =
        one_list_good (decomposed (file_canonical file) text) text (decomposed_twice (file_canonical file) text canonical.decomposing scalars)

    pub composed_good : (text : List ℕ) → All IsScalar text → IsAsGood file options preferences (composed (file_canonical file) text) text
    composed_good text scalars =
        one_list_good (composed (file_canonical file) text) text (composed_decomposed (file_canonical file) text canonical scalars)
