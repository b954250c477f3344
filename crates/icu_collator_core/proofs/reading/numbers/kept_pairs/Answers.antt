use Rattle.std.proofs.Common.{◌∙◌, ap, sym, arith}
use Rattle.std.proofs.lemmas.List.{take_all}
use Rattle.icu_collator_core.specs.NumberBytes.{evened}
use Rattle.icu_collator_core.specs.Numbers.{pairs_of, without_last_zeros}
use Rattle.icu_collator_core.proofs.numbers.PairIndexLemmas.{pair_goes, pairs_stay, none_stays, pairs_length}
use Rattle.icu_collator_core.proofs.reading.numbers.kept_pairs.Goals as goal

pub pairs-init : goal.pairs-init
pairs-init c =
    let ds = c.args.digits.now in
    let pairs = pairs_of (evened ds) in
    let count = c.pair_count-kept.ensures in
    let all = pairs_length ds in
    (omega (arith, count), ap without_last_zeros (take_all c.pair_count-kept.result pairs (omega (arith, all, count))))

pub pairs-preserved : goal.pairs-preserved
pairs-preserved c =
    let ds = c.args.digits.now in
    let all = pairs_length ds in
    let within = c.pairs.invariant.0 in
    let some = c.pairs-test.true in (
      omega (arith, within),
      pair_goes (pairs_of (evened ds)) c.pairs.kept some (omega (arith, all, within)) (sym c.pair_at.ensures.pair ∙ c.if-pair_at-eq0.true)
          ∙ c.pairs.invariant.1,
    )

pub returns-else-pair_at-eq0-clause-kept : goal.returns-else-pair_at-eq0-clause-kept
returns-else-pair_at-eq0-clause-kept c =
    let ds = c.args.digits.now in
    let all = pairs_length ds in
    let within = c.pairs.invariant.0 in
    let some = c.pairs-test.true in
    pairs_stay (pairs_of (evened ds)) c.pairs.kept some (omega (arith, all, within)) (λ e. c.if-pair_at-eq0.false (c.pair_at.ensures.pair ∙ e))
    ∙ c.pairs.invariant.1

pub returns-after-pairs-clause-kept : goal.returns-after-pairs-clause-kept
returns-after-pairs-clause-kept c = none_stays (pairs_of (evened c.args.digits.now)) c.pairs.kept c.pairs-test.false ∙ c.pairs.invariant.1
