use Rattle.std.proofs.Common.{refl}
use Rattle.collate_lists.specs.Starts.{ranks_of}
use Rattle.collate_lists.proofs.Ranks.{raised_by}
use Rattle.collate_lists.proofs.starts.Starts.raise.Goals as goal

pub returns-clause-ranks : goal.returns-clause-ranks
returns-clause-ranks c =
    raised_by c.args.index 1 (ranks_of c.args.self.now) (ranks_of c.shift.new.self) c.shift.ensures.count c.shift.ensures.before c.shift.ensures.added refl c.requires.space
