use Rattle.std.proofs.Common.{rules, sym, subst, Option, ℕ}
use Rattle.icu_normalizer_core.specs.CanonicalFaults.{OffendsPair}
use Rattle.icu_normalizer_core.specs.CanonicalLists.{ArePairs}
use Rattle.icu_normalizer_core.specs.CanonicalMeaning.{lists_of}
use Rattle.icu_normalizer_core.proofs.faults.OffenderLemmas.{IsLeastIn}
use Rattle.icu_normalizer_core.proofs.faults.PairTestLemmas.{pair_offends}
use Rattle.icu_normalizer_core.proofs.canonical.check.pairs.first_bad_pair.Goals as goal

pub returns : goal.returns
returns c =
    let pairs : ArePairs c.args.tables.now.pairs = search rules in
    subst (λ (r : Option ℕ). IsLeastIn (OffendsPair (lists_of c.args.tables.now)) r) (sym c.least_of.ensures)
    (pair_offends (lists_of c.args.tables.now) pairs c.first_badly_composed.result c.first_not_own.result c.first_badly_composed.ensures c.first_not_own.ensures)
