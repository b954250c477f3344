use Rattle.std.proofs.Common.{◌<◌, ◌≤◌, ◌-◌, length, subst, sym, arith}
use Rattle.std.specs.List.{Contains}
use Rattle.icu_char16trie.proofs.reader.folds.index_for.Goals as goal

pub returns-then-is_same_job : goal.returns-then-is_same_job
returns-then-is_same_job g c =
    let few : c.loop-at.at ≤ length c.args.jobs.now = c.loop-at.invariant in
    let some = c.loop-at-test.true in
    let within : c.loop-at.at - 1 < length c.args.jobs.now = omega (arith, few, some) in
    subst (λ one. Contains c.args.jobs.now one) (c.is_same_job.ensures c.if-is_same_job.true) (c.loop-at.at - 1, within, sym c.index-jobs-at.is)
