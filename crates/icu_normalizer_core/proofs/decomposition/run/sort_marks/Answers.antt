use Rattle.std.proofs.Common.{arith}
use Rattle.icu_normalizer_core.proofs.decomposed_lists.RunLemmas.{short_is_sorted}
use Rattle.icu_normalizer_core.proofs.decomposition.run.sort_marks.Goals as goal

pub returns-then-len-from-le1-clause-ok : goal.returns-then-len-from-le1-clause-ok
returns-then-len-from-le1-clause-ok g c =
    short_is_sorted _ _ c.args.from (omega arith)
