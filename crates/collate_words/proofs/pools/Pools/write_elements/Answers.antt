use Rattle.collate_words.proofs.owned.OwnWordLemmas.{nothing_listed, one_listed}
use Rattle.collate_words.proofs.pools.Pools.write_elements.Goals as goal

pub returns-in-empty-clause-says : goal.returns-in-empty-clause-says
returns-in-empty-clause-says c = nothing_listed c.args.self.now c.args.elements.now c.in-empty.len_below

pub returns-in-Some-clause-says : goal.returns-in-Some-clause-says
returns-in-Some-clause-says c =
    one_listed c.args.self.now c.in-Some.word c.args.elements.now _ c.in-len1.len_at_least c.in-len1.len_below c.in-Some.ensures.says
