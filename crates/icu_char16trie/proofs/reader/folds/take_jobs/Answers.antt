use Rattle.std.proofs.Common.{subst, vec_len}
use Rattle.icu_char16trie.specs.KeyFolds.{HasTakenUp}
use Rattle.icu_char16trie.proofs.Reading.FoldLemmas.{ended, ended_stuck, folding_more, no_job, weight_falls}
use Rattle.icu_char16trie.proofs.reader.folds.take_jobs.Goals as goal

pub loop-job-init : goal.loop-job-init
loop-job-init g c = λ first way. way

pub loop-job-smaller : goal.loop-job-smaller
loop-job-smaller g c =
    let onward = g.F.KeyFold.onward c.args.fold.now in
    let taken = subst (λ yes. HasTakenUp onward c.args.units.now c.in-Some.job c.pop.new.self.items c.take_job.new.jobs.items
    c.loop-job.results.items c.take_job.new.results.items yes) c.if-not-is_read.false c.in_ok-is_read.ensures in
    weight_falls onward c.args.units.now c.in-Some.job taken.0 c.loop-job.jobs.items c.pop.new.self.items c.take_job.new.jobs.items
    c.loop-job.results.items c.take_job.new.results.items c.in-Some.ensures.items taken.1

pub loop-job-preserved : goal.loop-job-preserved
loop-job-preserved g c = λ first way.
    let onward = g.F.KeyFold.onward c.args.fold.now in
    let taken = subst (λ yes. HasTakenUp onward c.args.units.now c.in-Some.job c.pop.new.self.items c.take_job.new.jobs.items
    c.loop-job.results.items c.take_job.new.results.items yes) c.if-not-is_read.false c.in_ok-is_read.ensures in
    folding_more onward c.args.units.now c.in-Some.job taken.0 c.loop-job.jobs.items c.pop.new.self.items c.take_job.new.jobs.items
    c.loop-job.results.items c.take_job.new.results.items c.in-Some.ensures.items taken.1 first (c.loop-job.invariant first way)

pub returns-then-not-is_read : goal.returns-then-not-is_read
returns-then-not-is_read g c = λ first way.
    let onward = g.F.KeyFold.onward c.args.fold.now in
    let stuck = subst (λ yes. HasTakenUp onward c.args.units.now c.in-Some.job c.pop.new.self.items c.take_job.new.jobs.items
    c.loop-job.results.items c.take_job.new.results.items yes) c.if-not-is_read.true c.in_ok-is_read.ensures in
    ended_stuck onward c.args.units.now first c.in-Some.job c.loop-job.jobs.items c.pop.new.self.items c.loop-job.results.items
    c.take_job.new.results.items stuck.0 c.in-Some.ensures.items stuck.1 (c.loop-job.invariant first way)

pub returns : goal.returns
returns g c = λ first way.
    ended (g.F.KeyFold.onward c.args.fold.now) c.args.units.now first c.loop-job.jobs.items c.loop-job.results.items
    (no_job (g.F.KeyFold.onward c.args.fold.now) c.args.units.now c.loop-job.jobs.items c.pop.new.self.items (vec_len c.loop-job.jobs)
    c.in_default.ensures.cases.0 c.in_default.ensures.items c.in_default.ensures.rest)
    (c.loop-job.invariant first way)
