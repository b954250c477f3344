use Rattle.std.proofs.Common.{◌≡◌, ℤ, ◌<◌, length, sym, subst, ◌∙◌, rules}
use Rattle.std.specs.Bool.{IsTrue}
use Rattle.std.specs.List.{Contains}
use Rattle.std.proofs.lemmas.Bool.{false≢true}
use Rattle.std.proofs.lemmas.List.Elements.{Contains-get_or}
use Rattle.icu_collator_core.specs.declared.check.walks.Reading.{Reading}
use Rattle.icu_collator_core.specs.KeyTexts.{tells}
use Rattle.icu_collator_core.proofs.checks.CheckedTestLemmas.{refuted, shown}
use Rattle.icu_collator_core.proofs.checks.CheckedValueLemmas.{all_hold, holds_next}
use Rattle.icu_collator_core.proofs.check.walks.are_passed.Goals as goal

pub loop-index-preserved : goal.loop-index-preserved
loop-index-preserved g c =
    let list = c.args.readings.now.items in
    let index = c.loop-index.index in
    let inside : index < length list = search rules in
    holds_next (λ (one : Reading g.row.T-Folded.Denot × ℤ). IsTrue (tells (g.T.TextTest.test c.args.test.now) one.0)) list index c.index.result.now
    c.loop-index.invariant inside c.index.ensures (sym c.is_passed.ensures ∙ c.if-not-is_passed.false)

pub returns-then-not-is_passed : goal.returns-then-not-is_passed
returns-then-not-is_passed g c =
    let list = c.args.readings.now.items in
    let index = c.loop-index.index in
    let inside : index < length list = search rules in
    refuted (λ all. false≢true
    (sym (sym c.is_passed.ensures ∙ c.if-not-is_passed.true)
    ∙ all c.index.result.now (subst (λ one. Contains list one) (sym c.index.ensures) (Contains-get_or list index c.index.result.now inside))))

pub returns : goal.returns
returns g c =
    let list = c.args.readings.now.items in
    let many : length list ≡ c.loop-index.index = search rules in
    shown (all_hold (λ (one : Reading g.row.T-Folded.Denot × ℤ). IsTrue (tells (g.T.TextTest.test c.args.test.now) one.0)) list c.loop-index.index many c.loop-index.invariant)
