-- What collators and normalisers over the tables of an accepted file answer, in the words of the file.
use Rattle.std.proofs.Common.{◌≡◌, ℕ, List, Some, sym, ap, subst, ◌∙◌}
use Rattle.std.specs.Prelude.{Result}
use Rattle.std.specs.Result.{result_ok}
use Rattle.std.specs.Str.{IsUtf8}
use Rattle.icu_normalizer_core.specs.Canonical.{composed, decomposed}
use Rattle.icu_normalizer_core.specs.Decoding.{utf8_chars}
use Rattle.icu_normalizer_core.proofs.decoded.DecodedLemmas.{utf8_scalars}
use Rattle.icu_normalizer_core.proofs.decomposed_lists.DecomposedLemmas.{decomposed_all_scalars}
use Rattle.icu_normalizer_core.proofs.decoded.CanonicalTextLemmas.{utf8_text}
use Rattle.icu_normalizer.specs.TextForms.{composed_text, decomposed_text}
use Rattle.icu_normalizer.proofs.forms.FormLawLemmas.{bytes_composed, bytes_decomposed}
use Rattle.icu_normalizer.proofs.equivalence.NormalFormLemmas.{composed_scalars}
use Rattle.icu_collator_types.specs.Options.{resolved_options}
use Rattle.icu_collator_types.specs.declared.options.CollatorOptions.{CollatorOptions}
use Rattle.icu_collator_types.specs.declared.options.CollatorPreferences.{CollatorPreferences}
use Rattle.icu_collator_types.specs.declared.options.ResolvedCollatorOptions.{ResolvedCollatorOptions}
use Rattle.icu_collator_core.specs.Acceptance.{CollationSource}
use Rattle.icu_collator.specs.Collators.{CollatorParts, borrowed_collation, borrowed_options, borrowed_source, source_collation}
use Rattle.icu_collator.specs.KeyBytes.{key_of_text}
use Rattle.icu_collator.specs.Order.{collation_order}
use Rattle.icu_collator.specs.declared.comparison.borrowed.CollatorBorrowed.{CollatorBorrowed}
use Rattle.collate_lines.specs.Limits.{standard}
use Rattle.collate_lines.specs.Lines.{records_of}
use Rattle.collate_lines.specs.Record.{Record}
use Rattle.collate_lines.specs.declared.rule.RecordsError.{RecordsError}
use Rattle.collate_records.specs.Files.{FileRecords, IsAccepted, IsReadFrom}
use Rattle.collate_records.proofs.reading.ReadingAcceptedLemmas.{lines_within}
use Rattle.collate_rules.specs.Accepted.{AreAccepted}
use Rattle.collate_rules.specs.Meaning.{collation_of, settings_of}
use Rattle.collate_laws.specs.OverRecords.{IsCollatorOf}
use Rattle.collate_laws.proofs.LawAnswerLemmas.{keys, orders}
use Rattle.collate_laws.proofs.LawFormLemmas.{accepted_canonical}
use Rattle.collate_laws.specs.Files.{IsAsGood, file_canonical, file_order}
use Rattle.examples_uses.proofs.UseAnswerLemmas.{ok_gives}

-- records that were read are those of an accepted file
pub records_read : (file : List ℕ) (result : Result FileRecords RecordsError) (records : FileRecords) → Some records ≡ result_ok result
    → IsReadFrom file result → IsAccepted file × (records ≡ record { limits = standard; lines = records_of file })
records_read file result records is read = subst (IsReadFrom file) (ok_gives result records is) read

-- ## Normal forms of texts

module _ (file : List ℕ) (options : CollatorOptions) (preferences : CollatorPreferences) where
  -- texts that are as good as others order as they do
  pub good_order_alike : (a b x y : List ℕ) → IsAsGood file options preferences a x → IsAsGood file options preferences b y
      → file_order file options preferences a b ≡ file_order file options preferences x y
  good_order_alike a b x y first second = first.left b ∙ second.right x

  module _ (accepted : IsAccepted file) (text : List ℕ) (whole : IsUtf8 text) where
    -- the NFD of a text, read as characters
    pub decomposed_read : utf8_chars (decomposed_text (file_canonical file) text) ≡ decomposed (file_canonical file) (utf8_chars text)
    decomposed_read =
        ap utf8_chars (sym (bytes_decomposed (file_canonical file) text whole))
        ∙ utf8_text _ (decomposed_all_scalars (file_canonical file) (utf8_chars text) (accepted_canonical (records_of file) (lines_within standard file accepted)).decomposing (utf8_scalars text))

    -- and its NFC
    pub composed_read : utf8_chars (composed_text (file_canonical file) text) ≡ composed (file_canonical file) (utf8_chars text)
    composed_read =
        ap utf8_chars (sym (bytes_composed (file_canonical file) text whole))
        ∙ utf8_text _ (composed_scalars (file_canonical file) (utf8_chars text) (accepted_canonical (records_of file) (lines_within standard file accepted)) (utf8_scalars text))

    -- so a form is as good as its text where its characters are
    pub decomposed_good : IsAsGood file options preferences (decomposed (file_canonical file) (utf8_chars text)) (utf8_chars text)
        → IsAsGood file options preferences (utf8_chars (decomposed_text (file_canonical file) text)) (utf8_chars text)
    decomposed_good good = subst (λ (x : List ℕ). IsAsGood file options preferences x (utf8_chars text)) (sym decomposed_read) good

    pub composed_good : IsAsGood file options preferences (composed (file_canonical file) (utf8_chars text)) (utf8_chars text)
        → IsAsGood file options preferences (utf8_chars (composed_text (file_canonical file) text)) (utf8_chars text)
    composed_good good = subst (λ (x : List ℕ). IsAsGood file options preferences x (utf8_chars text)) (sym composed_read) good

-- ## Orders and keys

module _ (records : List Record) (options : CollatorOptions) (preferences : CollatorPreferences) (collator : CollatorParts) (borrowed : CollatorBorrowed)
    (accepted : AreAccepted records) (is : IsCollatorOf records options preferences collator)
    (source : borrowed_source borrowed ≡ collator.source) (resolved : borrowed_options borrowed ≡ collator.options) where
  -- how two texts order
  pub order_by_records : (left right : List ℕ)
      → collation_order (borrowed_collation borrowed) (borrowed_options borrowed) (utf8_chars left) (utf8_chars right)
      ≡ collation_order (collation_of records) (resolved_options options preferences (settings_of records)) (utf8_chars left) (utf8_chars right)
  order_by_records left right =
      ap (λ (s : CollationSource). collation_order (source_collation s) (borrowed_options borrowed) (utf8_chars left) (utf8_chars right)) source
      ∙ ap (λ (o : ResolvedCollatorOptions). collation_order (source_collation collator.source) o (utf8_chars left) (utf8_chars right)) resolved
      ∙ orders records options preferences collator accepted is (utf8_chars left) (utf8_chars right) (utf8_scalars left) (utf8_scalars right)

  -- the key of a text
  pub key_by_records : (text : List ℕ)
      → key_of_text (borrowed_collation borrowed) (borrowed_options borrowed) (utf8_chars text)
      ≡ key_of_text (collation_of records) (resolved_options options preferences (settings_of records)) (utf8_chars text)
  key_by_records text =
      ap (λ (s : CollationSource). key_of_text (source_collation s) (borrowed_options borrowed) (utf8_chars text)) source
      ∙ ap (λ (o : ResolvedCollatorOptions). key_of_text (source_collation collator.source) o (utf8_chars text)) resolved
      ∙ keys records options preferences collator accepted is (utf8_chars text) (utf8_scalars text)
