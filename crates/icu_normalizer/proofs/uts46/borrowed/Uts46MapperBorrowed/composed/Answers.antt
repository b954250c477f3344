use Rattle.std.proofs.Common.{option_to_list, subst}
use Rattle.icu_normalizer_core.specs.declared.canonical.tables.CanonicalTables.{CanonicalTables}
use Rattle.icu_normalizer_core.specs.Canonical.{composed}
use Rattle.icu_normalizer_core.specs.CanonicalMeaning.{meaning}
use Rattle.icu_normalizer.specs.Uts46.{mapper_of, mapped_with}
use Rattle.icu_normalizer.specs.Uts46Loading.{MapperTables}
use Rattle.icu_normalizer.specs.Compositions.{ComposesTo}
use Rattle.icu_normalizer.specs.Uts46Iter.{MappingSteps}
use Rattle.icu_normalizer.proofs.noted.MappedLemmas.{maps_spells}
use Rattle.icu_normalizer.proofs.uts46.borrowed.Uts46MapperBorrowed.composed.Goals as goal

pub returns-clause-text : goal.returns-clause-text
returns-clause-text g c = λ cs h.
    let it = g.I.Iterator in
    let spells = maps_spells it.next_gives it.can_next it.remaining c.new-mapped.result _ (c.new-mapped.ensures.text cs h) in
    let given = c.new.ensures.text _ spells in
    let by_tables =
    subst
    (λ (t : CanonicalTables).
    ComposesTo (MappingSteps it.can_next it.next_gives it.remaining) c.new.result
    (composed (meaning t) (mapped_with (option_to_list c.args.ignored) (mapper_of c.mapper.inside.table) cs)))
    c.as_borrowed-canonical.ensures.same given in
    subst
    (λ (m : MapperTables).
    ComposesTo (MappingSteps it.can_next it.next_gives it.remaining) c.new.result
    (composed (meaning m.canonical) (mapped_with (option_to_list c.args.ignored) (mapper_of m.mapping) cs)))
    c.mapper.view_is by_tables
