use Rattle.std.proofs.Common.{map, sym, ◌∙◌}
use Rattle.icu_collator_core.specs.PlainLeads.{plain_leads}
use Rattle.icu_collator_core.specs.PrimaryRanges.{range_of}
use Rattle.collate_weight_rules.proofs.soundness.RangeOrderLemmas.{all_in_order}
use Rattle.collate_weight_rules.proofs.ranges.are_sound_ranges.Goals as goal

pub are_all_disjoint-requires : goal.are_all_disjoint-requires
are_all_disjoint-requires c =
    all_in_order (plain_leads c.args.leads.now) (map range_of c.args.ranges.now) (sym c.are_each_sound.ensures ∙ c.if-not-are_each_sound.false)
