use Rattle.std.proofs.Common.{◌∙◌, sym, arith}
use Rattle.icu_char16trie.proofs.Cursors.SearchLemmas.{target_in-found, target_in-on, target_in-none, target_in-past, target_in-end, target_in-other}
use Rattle.icu_char16trie.proofs.node.target_in.Goals as goal

pub returns-in_err-entry : goal.returns-in_err-entry
returns-in_err-entry c =
    c.from_residual.ensures ∙ sym (c.loop-left.invariant ∙ target_in-none c.args.units.now c.args.unit c.loop-left.left c.loop-left.index c.loop-left-test.true (sym c.entry_at.ensures ∙ c.in_err-entry.was))

pub returns-then-entry-unit : goal.returns-then-entry-unit
returns-then-entry-unit c =
    let more = c.loop-left-test.true in
    c.entry_target.ensures
    ∙ sym (c.loop-left.invariant ∙ target_in-found c.args.units.now c.args.unit c.loop-left.left c.loop-left.index c.in_ok-entry.entry (λ none. omega (arith, none, more))
    (sym c.entry_at.ensures ∙ c.in_ok-entry.was) c.if-entry-unit.true)

pub loop-left-preserved : goal.loop-left-preserved
loop-left-preserved c =
    let more = c.loop-left-test.true in
    c.loop-left.invariant ∙ target_in-on c.args.units.now c.args.unit c.loop-left.left c.loop-left.index c.in_ok-entry.entry (λ none. omega (arith, none, more))
    (sym c.entry_at.ensures ∙ c.in_ok-entry.was) c.if-entry-unit.false

pub returns-in_err-last : goal.returns-in_err-last
returns-in_err-last c =
    c.from_residual-in_err-last.ensures ∙ sym (c.loop-left.invariant ∙ target_in-past c.args.units.now c.args.unit c.loop-left.left c.loop-left.index c.loop-left-test.false (sym c.unit_at.ensures.unit ∙ c.in_err-last.was))

pub returns-then-last-unit : goal.returns-then-last-unit
returns-then-last-unit c =
    sym (c.loop-left.invariant ∙ target_in-end c.args.units.now c.args.unit c.loop-left.left c.loop-left.index c.in_ok-last.last c.loop-left-test.false (sym c.unit_at.ensures.unit ∙ c.in_ok-last.was) c.if-last-unit.true)

pub returns : goal.returns
returns c =
    sym (c.loop-left.invariant ∙ target_in-other c.args.units.now c.args.unit c.loop-left.left c.loop-left.index c.in_ok-last.last c.loop-left-test.false (sym c.unit_at.ensures.unit ∙ c.in_ok-last.was) c.if-last-unit.false)
