use Rattle.std.proofs.Common.{◌≡◌, ℤ, ◌<◌, length, ap, sym, subst, ◌∙◌, rules, SFits}
use Rattle.std.specs.Bool.{IsTrue}
use Rattle.std.specs.Prelude.{⊤}
use Rattle.std.specs.Int.{cast_unsigned, w32}
use Rattle.std.specs.List.{Contains}
use Rattle.std.proofs.lemmas.Bool.{false≢true}
use Rattle.std.proofs.lemmas.Int.{to_z-of_z}
use Rattle.std.proofs.lemmas.List.Elements.{Contains-get_or}
use Rattle.icu_collator_core.proofs.checks.CheckedTestLemmas.{refuted, shown}
use Rattle.icu_collator_core.proofs.checks.CheckedValueLemmas.{all_hold, holds_next}
use Rattle.icu_collator_core.proofs.check.values.all_pass.Goals as goal

pub loop-index-preserved : goal.loop-index-preserved
loop-index-preserved g c =
    let list = c.args.values.now.items in
    let index = c.loop-index.index in
    let inside : index < length list = search rules in
    let fits : SFits w32 c.index.result.now.1 = search rules in
    let value : c.cast_unsigned.result ≡ cast_unsigned w32 c.index.result.now.1 =
    c.cast_unsigned.ensures ∙ ap (cast_unsigned w32) (to_z-of_z w32 c.index.result.now.1 fits) in
    holds_next (λ (value : ⊤ × ℤ). IsTrue (g.T.ValueTest.test c.args.test.now (cast_unsigned w32 value.1))) list index c.index.result.now
    c.loop-index.invariant inside c.index.ensures
    (ap (g.T.ValueTest.test c.args.test.now) (sym value) ∙ sym c.passes.ensures ∙ c.if-not-passes.false)

pub returns-then-not-passes : goal.returns-then-not-passes
returns-then-not-passes g c =
    let list = c.args.values.now.items in
    let index = c.loop-index.index in
    let inside : index < length list = search rules in
    let fits : SFits w32 c.index.result.now.1 = search rules in
    let value : c.cast_unsigned.result ≡ cast_unsigned w32 c.index.result.now.1 =
    c.cast_unsigned.ensures ∙ ap (cast_unsigned w32) (to_z-of_z w32 c.index.result.now.1 fits) in
    refuted (λ all. false≢true
    (sym (ap (g.T.ValueTest.test c.args.test.now) (sym value) ∙ sym c.passes.ensures ∙ c.if-not-passes.true)
    ∙ all c.index.result.now (subst (λ one. Contains list one) (sym c.index.ensures) (Contains-get_or list index c.index.result.now inside))))

pub returns : goal.returns
returns g c =
    let list = c.args.values.now.items in
    let many : length list ≡ c.loop-index.index = search rules in
    shown (all_hold (λ (value : ⊤ × ℤ). IsTrue (g.T.ValueTest.test c.args.test.now (cast_unsigned w32 value.1))) list c.loop-index.index many c.loop-index.invariant)
