use Rattle.std.proofs.Common.{◌≤◌, ◌+◌, ◌∙◌, ℕ, Some, true, sym, ap, subst, arith, drop, length}
use Rattle.std.specs.Option.{is_some}
use Rattle.std.specs.Prelude.{slice_index}
use Rattle.icu_collator_core.specs.ElementLists.{unpacked}
use Rattle.icu_collator_core.specs.Elements.{number_reading, placed}
use Rattle.icu_collator_core.specs.ReadSources.{canonical_by, weights_by}
use Rattle.icu_collator_core.specs.ReadSteps.{IsRead, IsReadAs, placed_at}
use Rattle.icu_collator_core.specs.TableMeaning.{weights_of}
use Rattle.icu_collator_core.proofs.lookups.OpenTextLemmas.{placed_next}
use Rattle.icu_collator_core.proofs.meaning.AcceptedPrefixLemmas.{accepted_tables_know_no_marks_before}
use Rattle.icu_collator_core.proofs.readings.CaseLemmas.{reading_number}
use Rattle.icu_collator_core.proofs.readings.ReadStepLemmas.{first_left_is, no_marks_for, read_from}
use Rattle.icu_collator_core.proofs.reading.next.read_ordinary.Goals as goal

pub read_number-requires-clause-digit : goal.read_number-requires-clause-digit
read_number-requires-clause-digit c =
    let list = c.args.list.now.items in
    let weights = weights_by (Some c.in-Some.lead) c.args.sound.now in
    ap (λ (x : ℕ). is_some (weights.digit x))
    (ap (λ l. slice_index l c.args.index) c.deref.ensures ∙ first_left_is list c.args.index c.args.c c.requires.inside c.requires.here)
    ∙ ap (λ o. is_some o) (c.checked_word-entry.ensures (Some c.in-Some.lead)).digit
    ∙ c.in-Some.ensures.some.1

pub read_uncounted-requires-clause-said : goal.read_uncounted-requires-clause-said
read_uncounted-requires-clause-said c = c.checked_word-entry.ensures c.args.numeric

pub returns-in_ok-next-in-Some-clause-read : goal.returns-in_ok-next-in-Some-clause-read
returns-in_ok-next-in-Some-clause-read c =
    let source = c.args.sound.now in
    let canonical = canonical_by source in
    let lead = c.in-Some.lead in
    let weights = weights_by (Some lead) source in
    let old = c.args.list.now.items in
    let index = c.args.index in
    let ready = c.args.ready.now.items in
    let next = c.in_ok-next-in-Some.next in
    let after = c.read_number.new.ready.items in
    let inside = c.requires.inside in
    let within : index ≤ length old = omega (arith, inside) in
    let p = placed_at old index c.args.c in
    let ps = drop (index + 1) (placed old) in
    let first = number_reading weights (drop index (placed old)) in
    subst (λ n. IsRead canonical (weights_by n source) (is_some n) old index (unpacked ready) old next (unpacked after)) (sym c.in-Some.ensures.some.0)
    (read_from canonical weights true old index c.args.c ready old next after first within c.requires.here
    (no_marks_for (Some lead) (weights_of canonical source.tables) canonical.class (accepted_tables_know_no_marks_before canonical source.tables c.keep_promise.ensures))
    (reading_number canonical weights true p ps c.requires.ordinary
    (ap (λ o. is_some o) (c.checked_word-entry.ensures (Some lead)).digit ∙ c.in-Some.ensures.some.1)
    ∙ ap (number_reading weights) (sym (placed_next index c.args.c old within c.requires.here)))
    (subst (λ l. IsReadAs canonical weights (number_reading weights (drop index (placed l))) ready l next after) c.deref.ensures c.in_ok-next-in-Some.ensures.read))
