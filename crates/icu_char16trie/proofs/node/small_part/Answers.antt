use Rattle.std.proofs.Common.{◌∙◌, sym, refl, arith}
use Rattle.icu_char16trie.proofs.Cursors.SearchLemmas.{halved_last, halved_none, halved_more}
use Rattle.icu_char16trie.proofs.node.small_part.Goals as goal

pub loop-part-init : goal.loop-part-init
loop-part-init c = record { halvings = c.args.branch.count; enough = omega arith; same = refl }

pub returns-in_err-part : goal.returns-in_err-part
returns-in_err-part c =
    c.from_residual.ensures
    ∙ sym (halved_none c.args.units.now c.args.unit c.args.branch c.loop-part.part c.loop-part.invariant c.loop-part-test.true (sym c.half_of.ensures.half ∙ c.in_err-part.was))

pub loop-part-preserved : goal.loop-part-preserved
loop-part-preserved c =
    halved_more c.args.units.now c.args.unit c.args.branch c.loop-part.part c.loop-part.invariant c.in_ok-part.part c.loop-part-test.true (sym c.half_of.ensures.half ∙ c.in_ok-part.was) c.in_ok-part.ensures.fewer

pub returns : goal.returns
returns c = sym (halved_last c.args.units.now c.args.unit c.args.branch c.loop-part.part c.loop-part.invariant c.loop-part-test.false)
