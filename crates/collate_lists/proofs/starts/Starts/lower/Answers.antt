use Rattle.std.proofs.Common.{refl}
use Rattle.collate_lists.specs.Starts.{ranks_of}
use Rattle.collate_lists.proofs.Ranks.{lowered_by, ranks_fit}
use Rattle.collate_lists.proofs.starts.Starts.lower.Goals as goal

pub returns-clause-ranks : goal.returns-clause-ranks
returns-clause-ranks c =
    lowered_by c.args.index 18446744073709551615 (ranks_of c.args.self.now) (ranks_of c.shift.new.self) c.shift.ensures.count c.shift.ensures.before c.shift.ensures.added refl c.requires.space (ranks_fit c.args.self.now.bases.items 0 c.args.self.now.offsets.items)
