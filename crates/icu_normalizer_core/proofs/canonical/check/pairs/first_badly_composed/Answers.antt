use Rattle.std.proofs.Common.{◌≡◌, ◌+◌, ◌<◌, ℕ, length, slice_index, Option, Some, sym, ap, subst, ◌∙◌, arith}
use Rattle.icu_normalizer_core.specs.CanonicalFaults.{IsBadPair}
use Rattle.icu_normalizer_core.specs.CanonicalLists.{pair_composed}
use Rattle.icu_normalizer_core.specs.CanonicalMeaning.{lists_of}
use Rattle.icu_normalizer_core.specs.PairTests.{IsBadlyComposed, least}
use Rattle.icu_normalizer_core.proofs.faults.OffenderLemmas.{IsLeastIn, least_same}
use Rattle.icu_normalizer_core.proofs.faults.PairTestLemmas.{IsBadBelow, bad_more, bad_none, bad_told, good_told}
use Rattle.icu_normalizer_core.proofs.canonical.check.pairs.first_badly_composed.Goals as goal
use Rattle.icu_normalizer_core.proofs.canonical.check.pairs.first_badly_composed.Goals.{then-is_bad_pair, else-is_bad_pair}

pub loop-index-preserved : goal.loop-index-preserved
loop-index-preserved c =
    let item : c.at-pair.result ≡ slice_index c.args.tables.now.pairs c.loop-index.index = c.at-pair.ensures.item 0 in
    let inside : c.loop-index.index < length c.args.tables.now.pairs = let n = c.len-index-end.ensures in let k = c.loop-index-test.true in omega arith in
    elim c.if-is_bad_pair.branch [
      | then-is_bad_pair w ↦
          let bad = bad_told (lists_of c.args.tables.now) c.at-pair.result (sym c.is_bad_pair.ensures ∙ w.if-is_bad_pair.true) in
          let found = w.found-is ∙ w.least_of-found.ensures ∙ ap (λ (n : ℕ). least c.loop-index.found (Some n)) (w.composed_of.ensures ∙ ap pair_composed item) in
          subst (λ (r : Option ℕ). IsLeastIn (IsBadBelow (lists_of c.args.tables.now) (c.loop-index.index + 1)) r) (sym found)
          (bad_more (lists_of c.args.tables.now) c.loop-index.index c.loop-index.found (c.requires.pairs.composed c.loop-index.index inside)
          (subst (IsBadPair (lists_of c.args.tables.now)) item bad) c.loop-index.invariant)
      | else-is_bad_pair w ↦
          subst (λ (r : Option ℕ). IsLeastIn (IsBadBelow (lists_of c.args.tables.now) (c.loop-index.index + 1)) r) (sym w.found-is)
          (bad_none (lists_of c.args.tables.now) c.loop-index.index c.loop-index.found
          (λ bad. good_told (lists_of c.args.tables.now) c.at-pair.result (sym c.is_bad_pair.ensures ∙ w.if-is_bad_pair.false)
          (subst (IsBadPair (lists_of c.args.tables.now)) (sym item) bad)) c.loop-index.invariant)
    ]

pub returns : goal.returns
returns c =
    let n = c.len-index-end.ensures in
    let past = c.loop-index-test.false in
    let order = c.loop-index.auto.index-end in
    least_same (IsBadBelow (lists_of c.args.tables.now) c.loop-index.index) (IsBadlyComposed (lists_of c.args.tables.now))
    (λ d s w. (w.0, (let h = w.1 in omega arith), w.2)) (λ d s w. (w.0, (let h = w.1 in omega arith), w.2)) c.loop-index.found c.loop-index.invariant
