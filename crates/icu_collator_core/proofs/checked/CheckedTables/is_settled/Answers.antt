use Rattle.std.proofs.Common.{◌<◌, arith, rules, subst, sym}
use Rattle.icu_normalizer_core.specs.Canonical.{IsDecomposing}
use Rattle.icu_collator_core.specs.FlatSteps.{IsNextPrimary, IsSettled}
use Rattle.icu_collator_core.specs.ReadSources.{canonical_by}
use Rattle.icu_collator_core.specs.declared.flat.steps.FlatStep.{FlatStep}
use Rattle.icu_collator_core.proofs.readings.FlatStepLemmas.{settled_by, settled_next, settled_small}
use Rattle.icu_collator_core.proofs.checked.CheckedTables.is_settled.Goals as goal

pub returns-then-class : goal.returns-then-class
returns-then-class g c = λ told text items read.
    settled_small c.args.self.now c.args.numeric g.I.Iterator.next_gives text c.args.chars.now c.args.class items c.args.step c.if-class.true read

pub returns-in-Primary : goal.returns-in-Primary
returns-in-Primary g c = λ told text items.
    let source = c.args.self.now in
    let numeric = c.args.numeric in
    let class = c.args.class in
    let decomposing : IsDecomposing (canonical_by source) = search rules in
    let above : 255 < class = omega (arith, c.if-class.false) in
    subst (λ (step : FlatStep). IsNextPrimary source numeric g.I.Iterator.next_gives text items step c.args.chars.now class → IsSettled source numeric text items step)
    (sym c.in-Primary.is)
    (λ read. settled_by source numeric g.I.Iterator.next_gives text c.args.chars.now class c.in-Primary._primary items read
    (λ all h ok. settled_next source numeric g.I.Iterator.next_gives text c.args.chars.now c.next.new.self class all c.next.result decomposing ok above h
    c.next.ensures.steps (c.is_followed.ensures told)))

pub returns-in-End : goal.returns-in-End
returns-in-End g c = λ told text items read.
    subst (λ (step : FlatStep). IsSettled c.args.self.now c.args.numeric text items step) (sym c.in-End.is) tt

pub returns-in-Other : goal.returns-in-Other
returns-in-Other g c = λ told text items read.
    subst (λ (step : FlatStep). IsSettled c.args.self.now c.args.numeric text items step) (sym c.in-Other.is) tt
