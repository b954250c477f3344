use Rattle.collate_index.proofs.search.IndexLemmas.{key_stored}
use Rattle.collate_index.proofs.index.Index.find.Goals as goal

pub found-requires : goal.found-requires
found-requires c = key_stored c.self.inside c.self.invariant c.args.self.now c.self.view_is c.args.name.now c.in-Some.key.now c.in-Some.ensures.stored
