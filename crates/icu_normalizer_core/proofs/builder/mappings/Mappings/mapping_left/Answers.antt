use Rattle.std.proofs.Common.{ℕ, [], ◌∷◌, sym, subst}
use Rattle.icu_normalizer_core.specs.CanonicalMeaning.{meaning}
use Rattle.icu_normalizer_core.proofs.building.MappingReadLemmas.{item_more, open_item}
use Rattle.icu_normalizer_core.proofs.building.SettledMappingLemmas.{starts_none}
use Rattle.icu_normalizer_core.specs.SettledMappings.{HasOpen, steps_in}
use Rattle.icu_normalizer_core.proofs.building.CharacterWordLemmas.{index_got}
use Rattle.icu_normalizer_core.proofs.builder.mappings.Mappings.mapping_left.Goals as goal

pub loop-c-init : goal.loop-c-init
loop-c-init c = starts_none (steps_in c.args.self) c.none-left.result c.none-left.ensures

pub loop-c-preserved : goal.loop-c-preserved
loop-c-preserved c =
    item_more c.args.self c.requires.sound c.args.mapping.now c.loop-c.c-index c.c-item.result c.loop-c.left c.in-Some.more c.joined-left.result c.loop-c-test.true
    (sym (index_got c.args.mapping.now c.loop-c.c-index c.c-item.result c.loop-c-test.true c.c-item.is)) c.loop-c.invariant c.in-Some.ensures c.joined-left.ensures

pub returns-in_default : goal.returns-in_default
returns-in_default c =
    open_item c.args.self c.requires.sound c.args.settled.now c.args.mapping.now c.loop-c.c-index c.loop-c-test.true
    (subst (λ (x : ℕ). HasOpen (meaning c.args.self.tables.now).full c.args.self.given.now c.args.settled.now (x ∷ []))
    (index_got c.args.mapping.now c.loop-c.c-index c.c-item.result c.loop-c-test.true c.c-item.is) c.in_default.ensures)
