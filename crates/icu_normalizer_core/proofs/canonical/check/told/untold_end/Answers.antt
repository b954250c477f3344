use Rattle.std.proofs.Common.{ℕ, subst, sym, ◌∙◌, rules}
use Rattle.icu_normalizer_core.specs.Plain.{AreSilent}
use Rattle.icu_normalizer_core.proofs.faults.ToldLemmas.{untold_run}
use Rattle.icu_normalizer_core.proofs.canonical.check.told.untold_end.Goals as goal

pub returns-clause-untold : goal.returns-clause-untold
returns-clause-untold c =
    untold_run c.args.tables.now c.args.code c.args.end c.end_of_silence.result c.min.result c.requires.run
    (sym c.has_cell.ensures ∙ c.if-not-has_cell.false)
    (subst (λ (w : ℕ). AreSilent w c.args.code c.end_of_silence.result) c.plain_word.ensures c.end_of_silence.ensures.silent)
    (search rules) (search rules)
