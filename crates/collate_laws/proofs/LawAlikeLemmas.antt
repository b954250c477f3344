-- Collators whose files say the same answer alike.
use Rattle.std.proofs.Common.{◌≡◌, ℕ, List, refl, sym, ap, ◌∙◌}
use Rattle.std.specs.Prelude.{All}
use Rattle.std.specs.Char.{IsScalar}
use Rattle.std.specs.List.Sorted.{IsPermutation}
use Rattle.icu_normalizer_core.specs.Sameness.{AreSameCanonical}
use Rattle.icu_collator_types.specs.Options.{resolved_options}
use Rattle.icu_collator_types.specs.declared.options.CollatorOptions.{CollatorOptions}
use Rattle.icu_collator_types.specs.declared.options.CollatorPreferences.{CollatorPreferences}
use Rattle.icu_collator_types.specs.declared.options.ResolvedCollatorOptions.{ResolvedCollatorOptions}
use Rattle.icu_collator_core.specs.Sameness.{AreSameWeights}
use Rattle.icu_collator_core.specs.SameSettings.{AreSameSettings}
use Rattle.icu_collator.specs.Collators.{CollatorParts}
use Rattle.icu_collator.specs.KeyBytes.{key_of_text}
use Rattle.icu_collator.specs.Order.{collation_order}
use Rattle.icu_collator.proofs.orders.OrderSamenessLemmas.{keys_same, order_same}
use Rattle.collate_lines.specs.declared.rule.Rule.TheVariants.{C5, V6, V14}
use Rattle.collate_lines.specs.declared.limits.Limits.{Limits}
use Rattle.collate_lines.specs.Lines.{lines_of, records_of}
use Rattle.collate_lines.specs.Record.{Record}
use Rattle.collate_records.specs.Files.{IsAcceptedWithin}
use Rattle.collate_records.proofs.comparing.LineOrderLemmas.{same_composing, same_settings, same_weights}
use Rattle.collate_records.proofs.reading.ReadingAcceptedLemmas.{accepted_decompose, lines_within}
use Rattle.collate_records.proofs.reordering.AcceptedMovedLemmas.{records_moved}
use Rattle.collate_rules.specs.Accepted.{AreAccepted}
use Rattle.collate_rules.specs.Meaning.{canonical_of, collation_of, weights_of}
use Rattle.collate_laws.specs.Alike.{AnswerAlike, key_of, order_of}
use Rattle.collate_laws.specs.OverRecords.{IsCollatorOf}
use Rattle.collate_laws.proofs.LawAnswerLemmas.{key_here, order_here}

module _ (lines others : List Record) (options more : CollatorOptions) (preferences preferred : CollatorPreferences) (a b : CollatorParts)
    (accepted : AreAccepted lines) (also : AreAccepted others)
    (first : IsCollatorOf lines options preferences a) (second : IsCollatorOf others more preferred b) (resolved : a.options ≡ b.options) where
  -- what the records of both answer
  pub joined_order : (x y : List ℕ) → All IsScalar x → All IsScalar y
      → collation_order (collation_of lines) a.options x y ≡ collation_order (collation_of others) a.options x y
      → order_of a x y ≡ order_of b x y
  joined_order x y scalars too same =
      order_here lines options preferences a accepted first x y scalars too
      ∙ same
      ∙ ap (λ (o : ResolvedCollatorOptions). collation_order (collation_of others) o x y) resolved
      ∙ sym (order_here others more preferred b also second x y scalars too)

  pub joined_key : (x : List ℕ) → All IsScalar x
      → key_of_text (collation_of lines) a.options x ≡ key_of_text (collation_of others) a.options x → key_of a x ≡ key_of b x
  joined_key x scalars same =
      key_here lines options preferences a accepted first x scalars
      ∙ same
      ∙ ap (λ (o : ResolvedCollatorOptions). key_of_text (collation_of others) o x) resolved
      ∙ sym (key_here others more preferred b also second x scalars)

  pub answers_alike : AreSameCanonical (canonical_of lines) (canonical_of others) → AreSameWeights (weights_of lines) (weights_of others)
      → AreSameSettings (collation_of lines) (collation_of others) → AnswerAlike a b
  answers_alike characters weights settings = record {
    orders = λ x y scalars too.
        joined_order x y scalars too
        (order_same (collation_of lines) (collation_of others) a.options settings characters weights x y (accepted_decompose others also) scalars too);
    keys = λ x scalars.
        joined_key x scalars
        (keys_same (collation_of lines) (collation_of others) a.options settings characters weights x (accepted_decompose others also) scalars);
  }

-- collators of one file
pub same_records_alike : (records : List Record) (options : CollatorOptions) (preferences : CollatorPreferences) (a b : CollatorParts)
    → AreAccepted records → IsCollatorOf records options preferences a → IsCollatorOf records options preferences b → AnswerAlike a b
same_records_alike records options preferences a b accepted first second =
    let resolved : a.options ≡ b.options = first.resolved ∙ sym second.resolved in
    record {
      orders = λ x y scalars too. joined_order records records options options preferences preferences a b accepted accepted first second resolved x y scalars too refl;
      keys = λ x scalars. joined_key records records options options preferences preferences a b accepted accepted first second resolved x scalars refl;
    }

-- collators of two files that have the same lines in another order
pub moved_alike : (limits : Limits) (file moved : List ℕ) (options : CollatorOptions) (preferences : CollatorPreferences) (a b : CollatorParts)
    → IsAcceptedWithin limits file → IsAcceptedWithin limits moved → IsPermutation (lines_of file) (lines_of moved)
    → IsCollatorOf (records_of file) options preferences a → IsCollatorOf (records_of moved) options preferences b → AnswerAlike a b
moved_alike limits file moved options preferences a b accepted also lines first second =
    let lines_accepted = lines_within limits file accepted in
    let shifted = records_moved file moved lines in
    let settings = same_settings (records_of file) (records_of moved) shifted (lines_accepted.keep_rules V14) in
    answers_alike (records_of file) (records_of moved) options options preferences preferences a b
    lines_accepted (lines_within limits moved also) first second
    (first.resolved ∙ ap (resolved_options options preferences) settings.options ∙ sym second.resolved)
    (same_composing (records_of file) (records_of moved) shifted (lines_accepted.keep_rules V14) (lines_accepted.keep_rules C5)).same
    (same_weights (records_of file) (records_of moved) shifted (lines_accepted.keep_rules V14) (lines_accepted.keep_rules V6))
    settings.settings
