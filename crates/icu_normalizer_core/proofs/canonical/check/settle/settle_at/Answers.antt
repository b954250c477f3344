use Rattle.std.proofs.Common.{◌<◌, length, arith}
use Rattle.icu_normalizer_core.proofs.settling.SettlingLemmas.{starts_written, fewer_open, open_read}
use Rattle.icu_normalizer_core.proofs.canonical.check.settle.settle_at.Goals as goal

pub returns-clause-starts : goal.returns-clause-starts
returns-clause-starts c = starts_written c.args.steps.now c.args.settled.now c.args.index c.in-Some.left c.requires.triples c.requires.inside c.requires.starts c.in-Some.ensures

pub returns-clause-progress : goal.returns-clause-progress
returns-clause-progress c = λ happened.
    let n = c.requires.starts.count in
    let h = c.requires.inside in
    let inside : c.args.index < length c.args.settled.now = omega arith in
    fewer_open c.args.settled.now c.args.index c.in-Some.left (open_read c.args.settled.now c.args.index c.index-settled-index.result inside c.if-is_some.ensures)
