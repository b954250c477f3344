use Rattle.std.proofs.Common.{◌≡◌, ◌<◌, ◌∙◌, arith, length, subst}
use Rattle.collate_lists.proofs.Renumbering.{AreRenumberedBefore, joined_renumbered, starts_renumbered, part_all}
use Rattle.collate_lists.proofs.list_rows.renumber.Goals as goal

pub renumber_list-requires : goal.renumber_list-requires
renumber_list-requires c =
    let within : c.loop-part.part < length c.args.lists.now.items = omega (arith, c.loop-part-test.true, c.len-part-end.ensures, c.args.lists.now.ok.0) in
    part_all (λ value. value.slot < length c.args.numbers.now) c.args.lists.now.items c.loop-part.part c.index_mut.result.now within
    (c.index_mut.ensures.value ∙ c.loop-part.invariant.left c.loop-part.part c.index_mut.result.now (omega arith)) c.requires.numbers

pub returns-clause-values : goal.returns-clause-values
returns-clause-values c =
    let end : c.loop-part.part ≡ length c.args.lists.now.items = omega (arith, c.len-part-end.ensures, c.args.lists.now.ok.0) in
    let all : AreRenumberedBefore c.args.numbers.now (length c.args.lists.now.items) c.args.lists.now.items c.loop-part.lists.items =
    subst (λ n. AreRenumberedBefore c.args.numbers.now n c.args.lists.now.items c.loop-part.lists.items) end c.loop-part.invariant in
    joined_renumbered c.args.numbers.now c.args.lists.now.items c.loop-part.lists.items all

pub returns-clause-starts : goal.returns-clause-starts
returns-clause-starts c =
    let end : c.loop-part.part ≡ length c.args.lists.now.items = omega (arith, c.len-part-end.ensures, c.args.lists.now.ok.0) in
    let all : AreRenumberedBefore c.args.numbers.now (length c.args.lists.now.items) c.args.lists.now.items c.loop-part.lists.items =
    subst (λ n. AreRenumberedBefore c.args.numbers.now n c.args.lists.now.items c.loop-part.lists.items) end c.loop-part.invariant in
    starts_renumbered c.args.numbers.now 0 c.args.lists.now.items c.loop-part.lists.items all
