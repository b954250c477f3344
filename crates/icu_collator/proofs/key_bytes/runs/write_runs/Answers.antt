use Rattle.std.proofs.Common.{◌≤◌, length, arith}
use Rattle.icu_collator.specs.KeyCodes.{code_of}
use Rattle.icu_collator.proofs.key_writing.RankedRunLemmas.{level_ends}
use Rattle.icu_collator.proofs.key_bytes.runs.write_runs.Goals as goal

pub returns : goal.returns
returns c =
    let past : length c.args.ranks.now ≤ c.loop-rank.rank-index = let end = c.loop-rank-test.false in omega (arith, end) in
    level_ends (code_of c.args.level) c.args.ranks.now c.loop-rank.rank-index c.loop-rank.pending c.args.key.now.items c.loop-rank.key.items c.write_run.new.key.items
    past c.loop-rank.invariant.level c.in_ok-write_run.ensures
