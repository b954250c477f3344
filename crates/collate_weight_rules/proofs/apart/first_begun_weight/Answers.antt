use Rattle.std.proofs.Common.{◌≡◌, ◌+◌, false, map, take, sym, ◌∙◌, length}
use Rattle.std.proofs.lemmas.List.{length-map}
use Rattle.collate_lines.specs.Record.{said}
use Rattle.collate_rules.specs.GivenWeights.{BreakApart}
use Rattle.collate_rules.proofs.given.GivenIndexLemmas.{first_line}
use Rattle.collate_weight_rules.specs.PlacedWeights.{are_apart_to}
use Rattle.collate_weight_rules.proofs.soundness.PlacedLemmas.{apart_to, told_as}
use Rattle.collate_weight_rules.proofs.soundness.StayLemmas.{apart_stays}
use Rattle.collate_weight_rules.proofs.apart.first_begun_weight.Goals as goal

pub first_index-requires : goal.first_index-requires
first_index-requires c = sym (c.in_ok-test.ensures.count ∙ length-map c.args.records.now said)

pub returns : goal.returns
returns c =
    let records = map said c.args.records.now in
    let test = c.in_ok-test.test in
    first_line (λ i. BreakApart (take (i + 1) records)) c.args.records.now c.in_ok-found.found (apart_stays records)
    (told_as (λ i. are_apart_to test i ≡ false) (λ i. BreakApart (take (i + 1) records)) (length c.args.records.now) c.in_ok-found.found
    (λ i. let same = apart_to records test i c.in_ok-test.ensures in (λ h. sym same ∙ h, λ h. same ∙ h))
    c.in_ok-found.ensures)
