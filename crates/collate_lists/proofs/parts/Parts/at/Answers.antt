use Rattle.std.proofs.Common.{◌≡◌, ◌<◌, length, subst, arith, Some, slice_get}
use Rattle.collate_lists.specs.Lists.{joined}
use Rattle.collate_lists.proofs.Rows.{length_at, value_in}
use Rattle.collate_lists.proofs.parts.Parts.at.Goals as goal

pub returns : goal.returns
returns c =
    let lists = c.args.self.now.lists.items in
    let part = c.find-part.result.0 in
    let index = c.find-part.result.1 in
    let list = c.index-list.result.now in
    let within = c.find-part.ensures.index.within in
    let inside : index < length list.items = omega (arith, c.find-part.ensures.inside c.requires.rank, length_at lists part list within c.index-list.ensures) in
    subst (λ rank. slice_get (joined lists) rank ≡ Some c.index.result.now) c.find-part.ensures.index.ranked
    (value_in lists part list index c.index.result.now within c.index-list.ensures inside c.index.ensures)
