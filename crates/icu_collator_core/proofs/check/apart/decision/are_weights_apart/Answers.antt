use Rattle.std.proofs.Common.{subst, sym}
use Rattle.icu_collator_core.specs.ElementLists.{unpacked}
use Rattle.icu_collator_core.specs.PrefixFaults.{IsSpelled}
use Rattle.icu_collator_core.specs.WeightLists.{IsRangedLead, Lists}
use Rattle.icu_collator_core.proofs.apart.DecisionLemmas.{decided, refused}
use Rattle.icu_collator_core.proofs.check.apart.decision.are_weights_apart.Goals as goal

pub returns-then-not-are_beside : goal.returns-then-not-are_beside
returns-then-not-are_beside c =
    let tables = c.args.tables.now in
    refused tables (unpacked c.as_slice-elements.result.now) c.as_slice-leads.result.now
    (subst (λ list. Lists (IsSpelled tables) (unpacked list)) (sym c.as_slice-elements.ensures) c.in_ok-gathered.ensures.elements)
    (subst (λ list. Lists (IsRangedLead tables) list) (sym c.as_slice-leads.ensures.value) c.in_ok-gathered.ensures.leads)
    c.are_beside.result c.are_beside.ensures c.if-not-are_beside.true

pub returns : goal.returns
returns c =
    let tables = c.args.tables.now in
    decided tables (unpacked c.as_slice-elements.result.now) c.as_slice-leads.result.now
    (subst (λ list. Lists (IsSpelled tables) (unpacked list)) (sym c.as_slice-elements.ensures) c.in_ok-gathered.ensures.elements)
    (subst (λ list. Lists (IsRangedLead tables) list) (sym c.as_slice-leads.ensures.value) c.in_ok-gathered.ensures.leads)
    c.in_ok-apart.apart c.are_beside.result c.are_beside.ensures c.if-not-are_beside.false c.in_ok-apart.ensures
