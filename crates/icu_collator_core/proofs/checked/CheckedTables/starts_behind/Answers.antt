use Rattle.std.proofs.Common.{◌≤◌, ◌∙◌, arith, inl, inr, refl, rules, sym}
use Rattle.icu_normalizer_core.specs.Canonical.{IsDecomposing}
use Rattle.icu_collator_core.specs.ReadSources.{canonical_by}
use Rattle.icu_collator_core.proofs.readings.PrimariesLemmas.{starts_told}
use Rattle.icu_collator_core.proofs.checked.CheckedTables.starts_behind.Goals as goal

pub returns-then-class-lt255 : goal.returns-then-class-lt255
returns-then-class-lt255 c = λ told.
    let decomposing : IsDecomposing (canonical_by c.args.self.now) = search rules in
    let small : c.args.class ≤ 255 = omega (arith, c.if-class-lt255.true) in
    starts_told c.args.self.now c.args.numeric c.args.c c.args.class 255 c.flat_primaries.result decomposing (omega arith) (inl small)
    c.flat_primaries.ensures (sym c.is_some.ensures ∙ told)

pub returns : goal.returns
returns c = λ told.
    let decomposing : IsDecomposing (canonical_by c.args.self.now) = search rules in
    let above : 255 ≤ c.args.class = omega (arith, c.if-class-lt255.false) in
    starts_told c.args.self.now c.args.numeric c.args.c c.args.class c.args.class c.flat_primaries-2.result decomposing above (inr refl)
    c.flat_primaries-2.ensures (sym c.is_some-2.ensures ∙ told)
