use Rattle.collate_words.proofs.owned.OwnWordLemmas.{implicit_own}
use Rattle.collate_words.proofs.pools.Pools.write_own.Goals as goal

pub returns-in-None-None-clause-says : goal.returns-in-None-None-clause-says
returns-in-None-None-clause-says c = rw (c.in-None-None.is-0, c.in-None-None.is-1) (implicit_own c.args.self.now)
