use Rattle.std.proofs.Common.{arith}
use Rattle.icu_normalizer_core.proofs.building.SettledMappingLemmas.{open_mappings}
use Rattle.icu_normalizer_core.proofs.builder.settle.all_open.Goals as goal

pub returns : goal.returns
returns c = λ step. open_mappings step c.args.given.now c.loop.settled.items c.loop.counter c.loop.invariant (let end = c.loop-test.false in let most = c.loop.auto.counter-end in omega arith)
