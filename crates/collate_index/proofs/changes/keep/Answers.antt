use Rattle.std.proofs.Common.{arith}
use Rattle.collate_index.proofs.reloading.KnownLemmas.{one_known}
use Rattle.collate_index.proofs.changes.keep.Goals as goal

pub returns-clause-known : goal.returns-clause-known
returns-clause-known c = one_known c.args.differences.now c.args.known.now.items c.args.c c.args.is (omega (arith, c.requires.room)) c.requires.known c.requires.tells
