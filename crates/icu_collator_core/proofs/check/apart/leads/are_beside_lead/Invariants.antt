use Rattle.std.proofs.Common.{◌≡◌, true, take}
use Rattle.std.specs.List.{list_all}
use Rattle.icu_collator_core.specs.Pools.{element_of}
use Rattle.icu_collator_core.specs.WeightLists.{is_beside_lead}
use Rattle.icu_collator_core.proofs.check.apart.leads.are_beside_lead.Given as goal

abbrev pub invariant-loop-index : goal.invariant-loop-index
invariant-loop-index l = list_all (λ bits. is_beside_lead l.lead (element_of bits)) (take l.index l.elements) ≡ true
