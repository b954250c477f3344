use Rattle.std.proofs.Common.{◌-◌, ◌<◌, sym, subst, slice_index}
use Rattle.collate_lists.specs.Lists.{lengths}
use Rattle.collate_lists.specs.Parts.{IsIndexOf}
use Rattle.collate_lists.specs.Starts.{ranks_of}
use Rattle.collate_lists.proofs.PartIndices.{found}
use Rattle.collate_lists.proofs.parts.Parts.find.Goals as goal

pub returns-clause-index : goal.returns-clause-index
returns-clause-index c =
    let lists = c.args.self.now.lists.items in
    let part = c.around-part.result in
    subst (λ n. IsIndexOf lists c.args.rank part (c.args.rank - n)) (sym c.at.ensures)
    (found lists (ranks_of c.args.self.now.starts) c.args.self.now.count c.args.rank part c.requires.sound.starts c.requires.sound.count c.requires.rank c.around-part.ensures).0

pub returns-clause-inside : goal.returns-clause-inside
returns-clause-inside c =
    let lists = c.args.self.now.lists.items in
    let part = c.around-part.result in
    subst (λ n. c.args.rank < c.args.self.now.count → c.args.rank - n < slice_index (lengths lists) part) (sym c.at.ensures)
    (found lists (ranks_of c.args.self.now.starts) c.args.self.now.count c.args.rank part c.requires.sound.starts c.requires.sound.count c.requires.rank c.around-part.ensures).1
