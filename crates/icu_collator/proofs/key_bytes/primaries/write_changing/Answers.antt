use Rattle.std.proofs.Common.{◌≡◌, ◌≤◌, ◌∙◌, ℕ, length, arith, refl, subst}
use Rattle.icu_collator.specs.Collators.{source_collation}
use Rattle.icu_collator.specs.KeyCodes.{IsWrittenOn}
use Rattle.icu_collator.proofs.key_bytes.primaries.write_changing.Goals as goal

pub loop-index-init : goal.loop-index-init
loop-index-init c = let inside = c.requires.inside in record { within = omega (arith, inside); goes_on = c.requires.run; level = refl }

pub loop-index-preserved : goal.loop-index-preserved
loop-index-preserved c =
    let on = c.in_ok-run.ensures in
    record { within = on.within; goes_on = on.goes_on; level = on.level ∙ c.loop-index.invariant.level }

pub returns-then-goes_on_alike-clause-level : goal.returns-then-goes_on_alike-clause-level
returns-then-goes_on_alike-clause-level c =
    let on = c.in_ok-run.ensures in
    record { within = on.within; goes_on = on.goes_on; level = on.level ∙ c.loop-index.invariant.level }

pub returns-clause-level : goal.returns-clause-level
returns-clause-level c =
    let so_far = c.loop-index.invariant in
    let within : c.loop-index.index ≤ length c.args.elements.now = so_far.within in
    let past = c.loop-index-test.false in
    let last : c.loop-index.index ≡ length c.args.elements.now = omega (arith, past, within) in
    subst (λ (n : ℕ). IsWrittenOn (source_collation c.args.checked.now) c.args.variable_end c.args.elements.now c.args.before c.args.from c.args.key.now.items
    c.loop-index.run n c.loop-index.key.items) last so_far
