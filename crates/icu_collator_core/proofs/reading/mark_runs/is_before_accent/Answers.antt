use Rattle.std.proofs.Common.{◌∙◌, drop}
use Rattle.icu_collator_core.specs.Elements.{placed}
use Rattle.icu_collator_core.specs.MarkRuns.{marks_left}
use Rattle.icu_collator_core.proofs.readings.MarkReadLemmas.{accent_behind, accent_first}
use Rattle.icu_collator_core.proofs.reading.mark_runs.is_before_accent.Goals as goal

pub returns-in-Some : goal.returns-in-Some
returns-in-Some c = λ here is.
    c.is_accent.ensures ∙ accent_first here (drop c.args.end (placed c.args.list.now)) c.in-Some.mark (drop 1 (marks_left c.args.classes.now)) (is ∙ c.in-Some.ensures)

pub returns-in-None : goal.returns-in-None
returns-in-None c = λ here is.
    c.is_accent_at.ensures ∙ accent_behind here (drop c.args.end (placed c.args.list.now)) (is ∙ c.in-None.ensures)
