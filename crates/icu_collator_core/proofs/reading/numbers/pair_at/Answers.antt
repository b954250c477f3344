use Rattle.std.proofs.Common.{◌≡◌, ◌+◌, ◌-◌, ◌*◌, ◌%◌, ◌<◌, length, get_or, arith}
use Rattle.icu_collator_core.proofs.numbers.PairIndexLemmas.{pair_is}
use Rattle.icu_collator_core.proofs.reading.numbers.pair_at.Goals.{then-second-eq0, else-second-eq0}
use Rattle.icu_collator_core.proofs.reading.numbers.pair_at.Goals as goal

pub returns-clause-pair : goal.returns-clause-pair
returns-clause-pair c =
    let ds = c.args.digits.now in
    let second = 2 * c.args.index + 1 - length ds % 2 in
    let first = c.if-second-eq0.first in
    let none : second ≡ 0 → first ≡ 0 =
    λ e. elim c.if-second-eq0.branch [
      | then-second-eq0 w ↦ w.first-is
      | else-second-eq0 w ↦ absurd (w.if-second-eq0.false e)
    ] in
    let some : 0 < second → first ≡ get_or ds (second - 1) 0 =
    λ h. elim c.if-second-eq0.branch [
      | then-second-eq0 w ↦ absurd (let e = w.if-second-eq0.true in omega (arith, h, e))
      | else-second-eq0 w ↦ w.first-is
    ] in
    pair_is ds c.args.index second first (omega arith) none some
