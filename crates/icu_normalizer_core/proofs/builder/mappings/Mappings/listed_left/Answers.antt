use Rattle.std.proofs.Common.{None, Some, sym, ap, ◌∙◌, arith}
use Rattle.std.specs.Prelude.{option_map}
use Rattle.icu_normalizer_core.specs.Properties.{mapped_to}
use Rattle.icu_normalizer_core.proofs.settling.SettlingLemmas.{got_at}
use Rattle.icu_normalizer_core.proofs.building.FirstMappingLemmas.{index_of}
use Rattle.icu_normalizer_core.proofs.building.MappingReadLemmas.{apart_left, fixed_left, found_left, none_mapped, some_mapped, ungiven_left}
use Rattle.icu_normalizer_core.proofs.builder.mappings.Mappings.listed_left.Goals as goal

pub returns-in-Some : goal.returns-in-Some
returns-in-Some c =
    fixed_left c.args.self c.requires.sound c.args.c (mapped_to c.in-Some.step) c.step_characters.result c.requires.unmapped
    (sym c.built_in_compatibility_step.ensures ∙ ap (option_map mapped_to) c.in-Some.is) c.step_characters.ensures

pub returns-then-is_some : goal.returns-then-is_some
returns-then-is_some c =
    let w = some_mapped c.built_in_step.result _ c.built_in_step.ensures (sym c.is_some.ensures ∙ c.if-is_some.true) in
    apart_left c.args.self c.requires.sound c.args.c w.0 c.one.result c.requires.unmapped w.1 c.one.ensures

pub returns-in-Some-copied : goal.returns-in-Some-copied
returns-in-Some-copied c =
    let at = index_of c.args.self.given.now c.args.indices.now c.args.c (Some c.in-Some-copied.index) c.requires.indices (c.in-Some-copied.ensures ∙ c.get.ensures.value) in
    found_left c.args.self c.requires.sound c.args.settled.now c.args.c c.in-Some-copied.index c.index-settled-index.result c.requires.starts c.requires.unmapped
    (none_mapped c.built_in_step.result _ c.built_in_step.ensures (sym c.is_some.ensures ∙ c.if-is_some.false))
    (sym c.built_in_compatibility_step.ensures ∙ ap (option_map mapped_to) c.in_default.is) at.0 at.1
    (got_at c.args.settled.now c.in-Some-copied.index c.index-settled-index.result (let h = at.0 in let n = c.requires.starts.count in omega arith) c.index-settled-index.is)

pub returns-in-None : goal.returns-in-None
returns-in-None c =
    ungiven_left c.args.self c.requires.sound c.args.c c.one-in-None.result c.requires.unmapped
    (none_mapped c.built_in_step.result _ c.built_in_step.ensures (sym c.is_some.ensures ∙ c.if-is_some.false))
    (sym c.built_in_compatibility_step.ensures ∙ ap (option_map mapped_to) c.in_default.is)
    (index_of c.args.self.given.now c.args.indices.now c.args.c None c.requires.indices (c.in-None.ensures ∙ c.get.ensures.value)) c.one-in-None.ensures
