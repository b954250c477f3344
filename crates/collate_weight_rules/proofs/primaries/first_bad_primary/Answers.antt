use Rattle.std.proofs.Common.{◌+◌, map, take}
use Rattle.collate_lines.specs.Record.{said}
use Rattle.collate_rules.specs.GivenWeights.{BreakPrimaries}
use Rattle.collate_rules.proofs.given.GivenIndexLemmas.{first_line}
use Rattle.collate_weight_rules.proofs.soundness.StayLemmas.{primaries_stay}
use Rattle.collate_weight_rules.proofs.primaries.first_bad_primary.Goals as goal

pub returns : goal.returns
returns c =
    let records = map said c.args.records.now in
    first_line (λ i. BreakPrimaries records (take (i + 1) records)) c.args.records.now c.in_ok-found.found (primaries_stay records) c.in_ok-found.ensures
