use Rattle.std.proofs.Common.{◌<◌, arith}
use Rattle.icu_normalizer_core.specs.CanonicalMeaning.{lists_of}
use Rattle.icu_normalizer_core.proofs.faults.PairTestLemmas.{low_short}
use Rattle.icu_normalizer_core.proofs.canonical.check.own.first_not_own.Goals as goal

pub is_own-requires-clause-short : goal.is_own-requires-clause-short
is_own-requires-clause-short c =
    let low : c.unwrap-c.result < 0x300 = let read = rw c.unwrap-c.ensures at c.from_u32.ensures.value in let same = read.1 in omega arith in
    low_short (lists_of c.args.tables.now) c.unwrap-c.result low c.requires.lists
