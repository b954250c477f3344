use Rattle.std.proofs.Common.{◌≡◌, true, take}
use Rattle.std.specs.List.{list_all}
use Rattle.icu_collator_core.specs.ElementLists.{unpacked}
use Rattle.icu_collator_core.specs.WeightLists.{is_beside_lead}
use Rattle.icu_collator_core.proofs.check.apart.leads.are_beside.Given as goal

abbrev pub invariant-loop-index : goal.invariant-loop-index
invariant-loop-index l = list_all (λ lead. list_all (is_beside_lead lead) (unpacked l.elements)) (take l.index l.leads) ≡ true
