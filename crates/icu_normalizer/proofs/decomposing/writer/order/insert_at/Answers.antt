use Rattle.std.proofs.Common.{rules}
use Rattle.icu_normalizer.proofs.writing.InsertLemmas.{inserted}
use Rattle.icu_normalizer.proofs.decomposing.writer.order.insert_at.Goals as goal

pub returns : goal.returns
returns c = inserted c.args.list.now c.copy_within.new.self c.args.index c.args.count c.args.c c.requires.within (search rules) c.copy_within.ensures.after
