use Rattle.std.proofs.Common.{◌≡◌, ◌++◌, ◌+◌, ◌∙◌, Some, drop, length, sym, ap, subst, arith}
use Rattle.icu_collator_core.specs.DigitRuns.{leading_digits}
use Rattle.icu_collator_core.specs.ElementLists.{AddsElements}
use Rattle.icu_collator_core.specs.Elements.{number_reading, placed}
use Rattle.icu_collator_core.specs.NumberBytes.{AreDigitValues}
use Rattle.icu_collator_core.specs.Numbers.{number_elements}
use Rattle.icu_collator_core.specs.ReadSources.{canonical_by, weights_by}
use Rattle.icu_collator_core.specs.ReadSteps.{IsReadAs}
use Rattle.icu_collator_core.proofs.meaning.AcceptedPrefixLemmas.{accepted_digit}
use Rattle.icu_collator_core.proofs.readings.DigitRunLemmas.{leading_values, leads_within, number_read, some_lead}
use Rattle.icu_collator_core.proofs.reading.digits.read_number.Goals as goal

pub push_number-requires : goal.push_number-requires
push_number-requires c =
    let source = c.args.sound.now in
    let digit = (weights_by (Some c.args.lead) source).digit in
    let cs = drop c.args.index c.args.list.now in
    let found : c.deref.result.now ≡ leading_digits digit cs =
    c.deref.ensures ∙ c.in_ok-push_digits.ensures ∙ ap (λ ds. ds ++ leading_digits digit cs) c.new-digits.ensures.items in
    subst AreDigitValues (sym found) (leading_values digit cs (accepted_digit (canonical_by source) source.tables c.keep_promise.ensures))

pub returns-clause-read : goal.returns-clause-read
returns-clause-read c =
    let source = c.args.sound.now in
    let canonical = canonical_by source in
    let weights = weights_by (Some c.args.lead) source in
    let list = c.args.list.now in
    let index = c.args.index in
    let ready = c.args.ready.now.items in
    let after = c.push_number.new.elements.items in
    let ds = leading_digits weights.digit (drop index list) in
    let pushed : c.push_digits.new.digits.items ≡ ds = c.in_ok-push_digits.ensures ∙ ap (λ l. l ++ ds) c.new-digits.ensures.items in
    let count : c.len.result ≡ length ds = c.len.ensures.value ∙ ap length pushed in
    let added : AddsElements ready (number_elements c.args.lead ds) after =
    subst (λ l. AddsElements ready (number_elements c.args.lead l) after) (c.deref.ensures ∙ pushed) c.in_ok-push_number.ensures in
    subst (λ n. IsReadAs canonical weights (number_reading weights (drop index (placed list))) ready list (index + n) after) (sym count)
    (number_read canonical weights list index ready after added)

pub returns-clause-onward : goal.returns-clause-onward
returns-clause-onward c =
    let digit = (weights_by (Some c.args.lead) c.args.sound.now).digit in
    let ds = leading_digits digit (drop c.args.index c.args.list.now) in
    let count : c.len.result ≡ length ds = c.len.ensures.value ∙ ap length (c.in_ok-push_digits.ensures ∙ ap (λ l. l ++ ds) c.new-digits.ensures.items) in
    let some = some_lead digit c.args.list.now c.args.index c.requires.inside c.requires.digit in
    omega (arith, count, some)

pub returns-clause-within : goal.returns-clause-within
returns-clause-within c =
    let digit = (weights_by (Some c.args.lead) c.args.sound.now).digit in
    let ds = leading_digits digit (drop c.args.index c.args.list.now) in
    let count : c.len.result ≡ length ds = c.len.ensures.value ∙ ap length (c.in_ok-push_digits.ensures ∙ ap (λ l. l ++ ds) c.new-digits.ensures.items) in
    let inside = c.requires.inside in
    let within = leads_within digit c.args.list.now c.args.index (omega (arith, inside)) in
    omega (arith, count, within)
