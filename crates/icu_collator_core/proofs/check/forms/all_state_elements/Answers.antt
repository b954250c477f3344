use Rattle.std.proofs.Common.{◌+◌, ◌-◌, ◌&&◌, sym, ap, ◌∙◌, arith}
use Rattle.std.specs.List.{list_all}
use Rattle.icu_normalizer_core.specs.CanonicalWords.{items_at}
use Rattle.icu_collator_core.specs.WordForms.{states_element}
use Rattle.icu_collator_core.proofs.checks.CheckedListLemmas.{all_more, all_none, all_past}
use Rattle.icu_collator_core.proofs.check.forms.all_state_elements.Goals as goal

pub loop-i-init : goal.loop-i-init
loop-i-init c =
    ap (λ n. list_all states_element (items_at c.args.ce32s.now c.args.index n)) (omega arith)

pub returns-then-not-states_element : goal.returns-then-not-states_element
returns-then-not-states_element c =
    let list = c.args.ce32s.now in
    let n = c.args.index + c.args.count in
    let i = c.loop-i.i in
    let more = all_more states_element list i n c.in-Some.word (sym c.in-Some.ensures.item) (let b = c.loop-i-test.true in omega arith) in
    let refused = sym c.states_element.ensures ∙ c.if-not-states_element.true in
    sym (c.loop-i.invariant ∙ more ∙ ap (λ b. b && list_all states_element (items_at list (i + 1) (n - (i + 1)))) refused)

pub returns-in-None : goal.returns-in-None
returns-in-None c =
    let list = c.args.ce32s.now in
    let n = c.args.index + c.args.count in
    sym (c.loop-i.invariant ∙ all_past states_element list c.loop-i.i (n - c.loop-i.i) (sym c.in-None.ensures.item))

pub loop-i-preserved : goal.loop-i-preserved
loop-i-preserved c =
    let list = c.args.ce32s.now in
    let n = c.args.index + c.args.count in
    let i = c.loop-i.i in
    let more = all_more states_element list i n c.in-Some.word (sym c.in-Some.ensures.item) (let b = c.loop-i-test.true in omega arith) in
    let passed = sym c.states_element.ensures ∙ c.if-not-states_element.false in
    c.loop-i.invariant ∙ more ∙ ap (λ b. b && list_all states_element (items_at list (i + 1) (n - (i + 1)))) passed

pub returns : goal.returns
returns c =
    sym (c.loop-i.invariant ∙ all_none states_element c.args.ce32s.now c.loop-i.i (c.args.index + c.args.count) (let e = c.loop-i-test.false in omega arith))
