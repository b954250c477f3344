use Rattle.std.proofs.Common.{◌∙◌, ◌+◌, refl}
use Rattle.icu_collator.specs.KeyCodes.{code_of}
use Rattle.icu_collator.proofs.key_writing.RankedRunLemmas.{adds_common, adds_other, rank_is}
use Rattle.icu_collator.proofs.key_bytes.runs.write_next.Goals as goal

pub returns-then-rank-common : goal.returns-then-rank-common
returns-then-rank-common c =
    adds_common (code_of c.args.level) c.args.rank c.args.pending (c.args.pending + 1) c.args.key.now.items
    (rank_is c.args.level c.args.rank ∙ c.if-rank-common.true ∙ c.requires.common) refl

pub returns : goal.returns
returns c =
    adds_other (code_of c.args.level) c.args.rank c.args.common c.args.pending c.args.key.now.items c.write_run.new.key.items c.write_weight.new.key.items
    (rank_is c.args.level c.args.rank) c.requires.common c.if-rank-common.false c.in_ok-write_run.ensures c.in_ok-write_weight.ensures
