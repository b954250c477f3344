use Rattle.std.proofs.Common.{◌+◌, map, take}
use Rattle.collate_lines.specs.Record.{said}
use Rattle.collate_rules.specs.GivenWeights.{BreakRanges}
use Rattle.collate_rules.proofs.given.GivenIndexLemmas.{first_line}
use Rattle.collate_weight_rules.proofs.soundness.StayLemmas.{ranges_stay_broken}
use Rattle.collate_weight_rules.proofs.ranges.first_bad_range.Goals as goal

pub returns : goal.returns
returns c =
    let records = map said c.args.records.now in
    first_line (λ i. BreakRanges records (take (i + 1) records)) c.args.records.now c.in_ok-found.found (ranges_stay_broken records) c.in_ok-found.ensures
