use Rattle.std.proofs.Common.{◌≡◌, ◌∙◌, ap, sym, drop}
use Rattle.icu_normalizer_core.specs.BorrowedMeaning.{borrowed_meaning}
use Rattle.icu_normalizer_core.specs.Canonical.{Canonical}
use Rattle.icu_normalizer_core.specs.CanonicalMeaning.{meaning}
use Rattle.icu_collator_core.specs.Elements.{placed}
use Rattle.icu_collator_core.specs.MarkRuns.{are_of_classes, ends_run, marks_left}
use Rattle.icu_collator_core.specs.ReadSources.{canonical_by}
use Rattle.icu_collator_core.proofs.lookups.MarksLeftLemmas.{run_some}
use Rattle.icu_collator_core.proofs.reading.mark_runs.read_marks.Goals as goal

pub read_gathered-requires-clause-left : goal.read_gathered-requires-clause-left
read_gathered-requires-clause-left c = ap marks_left c.deref_mut.ensures.value ∙ c.in_ok-end.ensures.left

pub read_gathered-requires-clause-marks : goal.read_gathered-requires-clause-marks
read_gathered-requires-clause-marks c =
    let canonical = canonical_by c.args.sound.now in
    let same : borrowed_meaning c.canonical.result ≡ canonical = ap meaning c.canonical.ensures in
    ap (are_of_classes canonical.class) c.deref_mut.ensures.value
    ∙ ap (λ (k : Canonical). are_of_classes k.class c.gather.new.classes.items) (sym same) ∙ c.in_ok-end.ensures.marks

pub read_gathered-requires-clause-ended : goal.read_gathered-requires-clause-ended
read_gathered-requires-clause-ended c =
    let canonical = canonical_by c.args.sound.now in
    let same : borrowed_meaning c.canonical.result ≡ canonical = ap meaning c.canonical.ensures in
    ap (λ (k : Canonical). ends_run k.class (drop c.in_ok-end.end (placed c.args.list.now))) (sym same) ∙ c.in_ok-end.ensures.ended

pub returns-clause-onward : goal.returns-clause-onward
returns-clause-onward c =
    let canonical = canonical_by c.args.sound.now in
    let same : borrowed_meaning c.canonical.result ≡ canonical = ap meaning c.canonical.ensures in
    run_some canonical.class c.args.index c.in_ok-end.end c.args.list.now c.requires.inside c.requires.mark c.in_ok-end.ensures.begins
    (ap (λ (k : Canonical). ends_run k.class (drop c.in_ok-end.end (placed c.args.list.now))) (sym same) ∙ c.in_ok-end.ensures.ended)
