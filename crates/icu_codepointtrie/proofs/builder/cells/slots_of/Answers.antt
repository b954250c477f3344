use Rattle.std.proofs.Common.{ℕ, ◌+◌, ◌*◌, ◌<◌, ◌≤◌, List, map, length}
use Rattle.std.proofs.lemmas.List.{length-map}
use Rattle.icu_codepointtrie.proofs.built.DataCellLemmas.{AllStand-kept}
use Rattle.icu_codepointtrie.proofs.builder.cells.slots_of.Goals as goal

pub returns-clause-stand : goal.returns-clause-stand
returns-clause-stand g c =
    let numbers : List ℕ = map g.T.TrieValue.number c.args.values.now in
    let count = length-map c.args.values.now g.T.TrieValue.number in
    let whole : (b : ℕ) → b < c.args.end → b * c.args.width + c.args.width ≤ length numbers = λ b h. rw count (c.requires.whole b h) in
    let slots = c.in_ok-slots.slots.items in
    rw (c.in_ok-items_at.ensures, c.as_slice-2.ensures.value, c.as_slice-3.ensures.value)
    (AllStand-kept c.args.width numbers c.args.first c.args.end c.in_ok-blocks.blocks.kept.items c.in_ok-blocks.blocks.slots.items _ slots whole c.in_ok-blocks.ensures.kept c.in_ok-blocks.ensures.slots (rw c.as_slice.ensures.value at c.in_ok-slots.ensures.stand))
