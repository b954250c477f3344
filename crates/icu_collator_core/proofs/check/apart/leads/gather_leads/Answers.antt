use Rattle.std.proofs.Common.{◌≡◌, length, slice_index, rules}
use Rattle.icu_collator_core.specs.WeightLists.{HasLead, HaveLead}
use Rattle.icu_collator_core.proofs.apart.GatheringLemmas.{FromIndices, from_all_indices}
use Rattle.icu_collator_core.proofs.apart.GrowthLemmas.{grown_same, grown_up_to_next, grown_up_to_none}
use Rattle.icu_collator_core.proofs.check.apart.leads.gather_leads.Goals as goal

pub loop-index-init : goal.loop-index-init
loop-index-init c = grown_up_to_none (λ k lead. HasLead c.args.source.now (slice_index c.args.words.now k) lead) c.args.leads.now.items

pub loop-index-preserved : goal.loop-index-preserved
loop-index-preserved c =
    let source = c.args.source.now in
    let words = c.args.words.now in
    let index = c.loop-index.index in
    grown_up_to_next (λ k lead. HasLead source (slice_index words k) lead) index c.args.leads.now.items c.loop-index.leads.items
    c.gather_lead.new.leads.items c.loop-index.invariant
    c.in_ok-gather_lead.ensures

pub returns : goal.returns
returns c =
    let source = c.args.source.now in
    let words = c.args.words.now in
    let many : length words ≡ c.loop-index.index = search rules in
    grown_same (FromIndices (HasLead source) words c.loop-index.index) (HaveLead source words) c.args.leads.now.items c.loop-index.leads.items
    (from_all_indices (HasLead source) words c.loop-index.index many) c.loop-index.invariant
