-- A collator that an index lends answers as the records of the index say.
use Rattle.std.proofs.Common.{◌≡◌, ℕ, List, ap, ◌∙◌}
use Rattle.std.specs.Prelude.{All}
use Rattle.std.specs.Char.{IsScalar}
use Rattle.icu_collator_core.specs.Acceptance.{CollationSource}
use Rattle.icu_collator_types.specs.declared.options.ResolvedCollatorOptions.{ResolvedCollatorOptions}
use Rattle.icu_collator.specs.CollatorAnswers.{key_by, order_by}
use Rattle.icu_collator.specs.Collators.{CollatorParts, borrowed_options, borrowed_source}
use Rattle.icu_collator.specs.KeyBytes.{key_of_text}
use Rattle.icu_collator.specs.Order.{collation_order}
use Rattle.icu_collator.specs.declared.comparison.borrowed.CollatorBorrowed.{CollatorBorrowed}
use Rattle.collate_rules.specs.Accepted.{AreAccepted}
use Rattle.collate_rules.specs.Meaning.{collation_of}
use Rattle.collate_laws.specs.Alike.{key_of, order_of}
use Rattle.collate_laws.specs.OverRecords.{IsCollatorOf}
use Rattle.collate_laws.proofs.LawAnswerLemmas.{keys, orders}
use Rattle.collate_index.specs.Catalogue.{Catalogue, options_in, preferences_of}

module _ (c : Catalogue) (collator : CollatorParts) (accepted : AreAccepted c.records)
    (is : IsCollatorOf c.records c.asked.options (preferences_of c.asked) collator)
    (lent : CollatorBorrowed) (source : borrowed_source lent ≡ collator.source) (options : borrowed_options lent ≡ collator.options) where
  same_parts : record { source = borrowed_source lent; options = borrowed_options lent } ≡ collator
  same_parts =
      ap (λ (s : CollationSource). record { source = s; options = borrowed_options lent }) source
      ∙ ap (λ (o : ResolvedCollatorOptions). record { source = collator.source; options = o }) options

  pub lent_keys : (text : List ℕ) → All IsScalar text → key_by lent text ≡ key_of_text (collation_of c.records) (options_in c) text
  lent_keys text scalars =
      ap (λ (parts : CollatorParts). key_of parts text) same_parts
      ∙ keys c.records c.asked.options (preferences_of c.asked) collator accepted is text scalars

  pub lent_orders : (x y : List ℕ) → All IsScalar x → All IsScalar y
      → order_by lent x y ≡ collation_order (collation_of c.records) (options_in c) x y
  lent_orders x y scalars others =
      ap (λ (parts : CollatorParts). order_of parts x y) same_parts
      ∙ orders c.records c.asked.options (preferences_of c.asked) collator accepted is x y scalars others
