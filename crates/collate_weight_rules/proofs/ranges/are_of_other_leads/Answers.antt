use Rattle.std.proofs.Common.{map, ◌∙◌}
use Rattle.icu_collator_core.specs.PrimaryRanges.{range_of}
use Rattle.collate_weight_rules.proofs.soundness.RangeLeadLemmas.{other_leads}
use Rattle.collate_weight_rules.proofs.ranges.are_of_other_leads.Goals as goal

pub returns : goal.returns
returns c = c.have_other_leads.ensures ∙ other_leads c.in_ok-taken.taken (map range_of c.args.ranges.now) c.args.elements.now c.in_ok-taken.ensures
