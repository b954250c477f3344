-- Collators over the tables of a file answer as its records say.
use Rattle.std.proofs.Common.{◌≡◌, ℕ, List, ap, ◌∙◌}
use Rattle.std.specs.Prelude.{All}
use Rattle.std.specs.Char.{IsScalar}
use Rattle.icu_collator_types.specs.Options.{resolved_options}
use Rattle.icu_collator_types.specs.declared.options.CollatorOptions.{CollatorOptions}
use Rattle.icu_collator_types.specs.declared.options.CollatorPreferences.{CollatorPreferences}
use Rattle.icu_collator_types.specs.declared.options.ResolvedCollatorOptions.{ResolvedCollatorOptions}
use Rattle.icu_collator.specs.Collators.{CollatorParts, source_collation}
use Rattle.icu_collator.specs.KeyBytes.{key_of_text}
use Rattle.icu_collator.specs.Order.{collation_order}
use Rattle.icu_collator.proofs.orders.OrderSamenessLemmas.{keys_same, order_same}
use Rattle.collate_lines.specs.Record.{Record}
use Rattle.collate_records.proofs.reading.ReadingAcceptedLemmas.{accepted_decompose}
use Rattle.collate_rules.specs.Accepted.{AreAccepted}
use Rattle.collate_rules.specs.Meaning.{collation_of, settings_of}
use Rattle.collate_laws.specs.Alike.{key_of, order_of}
use Rattle.collate_laws.specs.OverRecords.{IsCollatorOf}

module _ (records : List Record) (options : CollatorOptions) (preferences : CollatorPreferences) (collator : CollatorParts)
    (accepted : AreAccepted records) (is : IsCollatorOf records options preferences collator) where
  -- by the options that the collator goes by
  pub order_here : (x y : List ℕ) → All IsScalar x → All IsScalar y
      → order_of collator x y ≡ collation_order (collation_of records) collator.options x y
  order_here x y scalars others =
      order_same (source_collation collator.source) (collation_of records) collator.options
      is.settings.settings is.canonical.same is.weights x y (accepted_decompose records accepted) scalars others

  pub key_here : (x : List ℕ) → All IsScalar x → key_of collator x ≡ key_of_text (collation_of records) collator.options x
  key_here x scalars =
      keys_same (source_collation collator.source) (collation_of records) collator.options
      is.settings.settings is.canonical.same is.weights x (accepted_decompose records accepted) scalars

  -- by the options that the caller, the preferences and the file set
  pub orders : (x y : List ℕ) → All IsScalar x → All IsScalar y
      → order_of collator x y ≡ collation_order (collation_of records) (resolved_options options preferences (settings_of records)) x y
  orders x y scalars others =
      order_here x y scalars others
      ∙ ap (λ (resolved : ResolvedCollatorOptions). collation_order (collation_of records) resolved x y) is.resolved

  pub keys : (x : List ℕ) → All IsScalar x
      → key_of collator x ≡ key_of_text (collation_of records) (resolved_options options preferences (settings_of records)) x
  keys x scalars =
      key_here x scalars ∙ ap (λ (resolved : ResolvedCollatorOptions). key_of_text (collation_of records) resolved x) is.resolved
