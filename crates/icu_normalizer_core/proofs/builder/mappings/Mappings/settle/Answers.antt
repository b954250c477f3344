use Rattle.std.proofs.Common.{rules, ◌≡◌, List, Option, length, sym, subst}
use Rattle.icu_normalizer_core.specs.declared.canonical.check.left.Left.{Left}
use Rattle.icu_normalizer_core.specs.CanonicalMeaning.{meaning}
use Rattle.icu_normalizer_core.specs.SettledMappings.{AreMappingStarts, IsAllSettled, steps_in}
use Rattle.icu_normalizer_core.proofs.settling.SettlingLemmas.{vector_written}
use Rattle.icu_normalizer_core.proofs.builder.mappings.Mappings.settle.Goals as goal

pub settle_in_depth-requires-clause-starts : goal.settle_in_depth-requires-clause-starts
settle_in_depth-requires-clause-starts c =
    subst (AreMappingStarts (steps_in c.args.self) c.args.self.given.now) (sym c.as_mut_slice.ensures.value) (c.in_ok-settled.ensures (steps_in c.args.self))

pub returns-clause-done : goal.returns-clause-done
returns-clause-done c =
    let same : length c.settle_once.new.settled ≡ length c.loop.settled.items = search rules in
    let len : c.loop.settled.len ≡ length c.loop.settled.items = search rules in
    let written = vector_written c.loop.settled.len c.settle_once.new.settled c.loop.settled.items same len in
    subst (λ (xs : List (Option Left)). IsAllSettled (meaning c.args.self.tables.now).full c.args.self.given.now xs) (sym written) (c.settle_once.ensures.done c.loop-test.false)
