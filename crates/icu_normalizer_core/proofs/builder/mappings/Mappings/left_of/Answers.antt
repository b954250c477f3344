use Rattle.std.proofs.Common.{◌∙◌}
use Rattle.icu_normalizer_core.proofs.building.MappingReadLemmas.{full_scalars, read_all, read_first, read_more, read_open, read_unmapped}
use Rattle.icu_normalizer_core.proofs.builder.mappings.Mappings.left_of.Goals as goal

pub loop-d-init : goal.loop-d-init
loop-d-init c = λ sound. read_first c.args.self sound c.args.c c.none-left.result c.into_iter-d-iterator.result (c.into_iter-d-iterator.ensures.into_iter_gives ∙ c.full_list-d-items.ensures) c.none-left.ensures

pub loop-d-preserved : goal.loop-d-preserved
loop-d-preserved c = λ sound.
    read_more c.args.self sound c.args.c c.in-Some.d c.loop-d.left c.in-Some-listed_left.more c.joined-left.result c.loop-d.d-iterator c.next.new.self
    (c.loop-d.invariant sound) c.in-Some.ensures.steps c.in-Some-listed_left.ensures c.joined-left.ensures

pub listed_left-requires-clause-unmapped : goal.listed_left-requires-clause-unmapped
listed_left-requires-clause-unmapped c =
    read_unmapped c.args.self c.requires.sound c.args.c c.in-Some.d c.loop-d.left c.loop-d.d-iterator c.next.new.self c.ranges.c.0 (c.loop-d.invariant c.requires.sound) c.in-Some.ensures.steps

pub returns-in_default : goal.returns-in_default
returns-in_default c =
    read_open c.args.self c.requires.sound c.args.settled.now c.args.c c.in-Some.d c.loop-d.left c.loop-d.d-iterator c.next.new.self (c.loop-d.invariant c.requires.sound) c.in-Some.ensures.steps
    c.in_default.ensures

pub returns : goal.returns
returns c = read_all c.args.self c.requires.sound c.args.c c.loop-d.left c.loop-d.d-iterator c.ranges.c.0 (c.loop-d.invariant c.requires.sound) c.in-None.ensures.steps.0

pub full_list-d-items-requires : goal.full_list-d-items-requires
full_list-d-items-requires c = full_scalars c.args.self c.requires.sound c.args.c c.ranges.c.0
