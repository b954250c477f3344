use Rattle.std.proofs.Common.{sym, subst}
use Rattle.icu_collections.specs.CodePointMaps.{mapped}
use Rattle.icu_collections.specs.BuiltTries.{IsTrieOf}
use Rattle.icu_collections.specs.MaximalRanges.{AreMaximalFrom}
use Rattle.tests_icu_collections.proofs.built_ranges.ranges_of.Goals as goal

pub returns : goal.returns
returns g c =
    let ran = c.in_ok-ranges.ensures.ran in
    λ map is.
    subst (λ ys. AreMaximalFrom (mapped map) 0 ys) (sym ran.2.0)
    (c.ranges_of_built_tries.ensures map c.iter_ranges.result (ran.1.2 tt).0 ran.0 (subst (λ t. IsTrieOf map t) (sym c.iter_ranges.ensures.trie) is)
    c.iter_ranges.ensures.start (ran.1.0, ran.1.1, (ran.1.2 tt).1))
