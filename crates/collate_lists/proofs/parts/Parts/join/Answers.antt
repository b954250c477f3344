use Rattle.std.proofs.Common.{ap, length, arith}
use Rattle.collate_lists.proofs.Rows.{length-starts_from}
use Rattle.collate_lists.proofs.parts.Parts.join.Goals as goal

pub remove-requires-clause-index : goal.remove-requires-clause-index
remove-requires-clause-index c = omega (arith, c.requires.few.within, ap length c.requires.sound.starts, length-starts_from 0 c.args.self.now.lists.items)
