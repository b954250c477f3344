use Rattle.icu_collator_core.specs.WeightLists.{Grows, HasLead}
use Rattle.icu_collator_core.proofs.apart.GatheringLemmas.{FromIndices}
use Rattle.icu_collator_core.proofs.check.apart.leads.gather_leads.Given as goal

abbrev pub invariant-loop-index : goal.invariant-loop-index
invariant-loop-index l = Grows (FromIndices (HasLead l.source) l.words l.index) l.fn.leads.items l.leads.items
