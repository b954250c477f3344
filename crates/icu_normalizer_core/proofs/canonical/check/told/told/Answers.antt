use Rattle.std.proofs.Common.{◌≤◌, rules}
use Rattle.icu_normalizer_core.specs.CanonicalMeaning.{lists_of}
use Rattle.icu_normalizer_core.proofs.faults.ToldLemmas.{tells_all}
use Rattle.icu_normalizer_core.proofs.canonical.check.told.told.Goals as goal

pub returns : goal.returns
returns c =
    let past : 0x110000 ≤ c.loop-reached.reached.code = search rules in
    tells_all (lists_of c.args.tables.now) c.loop-reached.told.items c.loop-reached.reached.code c.loop-reached.reached.index c.loop-reached.invariant.below past
