-- the collator of an order writes the keys of its rule
use Rattle.std.proofs.Common.{◌≡◌, ℕ, List, ap, ◌∙◌}
use Rattle.icu_normalizer_core.specs.Decoding.{utf8_chars}
use Rattle.icu_normalizer_core.proofs.decoded.DecodedLemmas.{utf8_scalars}
use Rattle.icu_collator_types.specs.declared.options.ResolvedCollatorOptions.{ResolvedCollatorOptions}
use Rattle.icu_collator_core.specs.Acceptance.{CollationSource}
use Rattle.icu_collator.specs.CollatorAnswers.{key_by}
use Rattle.icu_collator.specs.Collators.{CollatorParts, borrowed_options, borrowed_source}
use Rattle.icu_collator.specs.declared.comparison.borrowed.CollatorBorrowed.{CollatorBorrowed}
use Rattle.collate_laws.specs.Alike.{key_of}
use Rattle.collate_laws.proofs.LawAnswerLemmas.{key_here}
use Rattle.collate_sort.specs.Keys.{key_by_rule}
use Rattle.collate_sort.specs.KeptOrders.{IsKept, rule_inside}
use Rattle.collate_sort.specs.Orders.{LineRule}
use Rattle.collate_sort.specs.declared.order.LineOrder.TheInside.{Inside}

-- what is lent of a collator is its parts
same_parts : (collator : CollatorParts) (lent : CollatorBorrowed) → borrowed_source lent ≡ collator.source → borrowed_options lent ≡ collator.options
    → record { source = borrowed_source lent; options = borrowed_options lent } ≡ collator
same_parts collator lent source options =
    ap (λ (s : CollationSource). record { source = s; options = borrowed_options lent }) source
    ∙ ap (λ (o : ResolvedCollatorOptions). record { source = collator.source; options = o }) options

pub lent_key : (s : Inside) → IsKept s → (rule : LineRule) → rule_inside s ≡ rule → (lent : CollatorBorrowed)
    → borrowed_source lent ≡ s.collator.source → borrowed_options lent ≡ s.collator.options
    → (text : List ℕ) → key_by lent (utf8_chars text) ≡ key_by_rule rule text
lent_key s kept rule is lent source options text =
    ap (λ (parts : CollatorParts). key_of parts (utf8_chars text)) (same_parts s.collator lent source options)
    ∙ key_here s.records.lines kept.options kept.preferences s.collator kept.accepted kept.collator (utf8_chars text) (utf8_scalars text)
    ∙ ap (λ (r : LineRule). key_by_rule r text) is
