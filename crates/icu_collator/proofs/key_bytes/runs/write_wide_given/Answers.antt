use Rattle.icu_collator.specs.KeyCodes.{code_of}
use Rattle.icu_collator.proofs.key_writing.RankedRunLemmas.{adds_none, adds_some}
use Rattle.icu_collator.proofs.key_bytes.runs.write_wide_given.Goals as goal

pub returns-in_default : goal.returns-in_default
returns-in_default c = adds_none (code_of c.args.level) c.args.rank c.args.pending c.args.key.now.items c.in_default.is

pub returns : goal.returns
returns c =
    adds_some (code_of c.args.level) c.args.rank c.in-Some.rank c.args.pending c.in_ok-now.now c.args.key.now.items c.write_next.new.key.items c.in-Some.is c.in_ok-now.ensures
