use Rattle.std.proofs.Common.{ap, arith, sym, ◌∙◌}
use Rattle.std.specs.List.{list_all}
use Rattle.std.proofs.lemmas.List.{take_all}
use Rattle.std.proofs.lemmas.List.Folds.{list_all-map, list_all_at}
use Rattle.icu_collator_core.specs.Pools.{element_of}
use Rattle.icu_collator_core.specs.WeightLists.{is_beside_lead}
use Rattle.icu_collator_core.proofs.check.apart.leads.are_beside_lead.Goals as goal

pub returns-then-not-is_beside_lead : goal.returns-then-not-is_beside_lead
returns-then-not-is_beside_lead c =
    let lead = c.args.lead in
    let list = c.args.elements.now in
    let element = c.index-elements-index.result in
    let inside = c.loop-index-test.true in
    sym
    (list_all-map (is_beside_lead lead) element_of list
    ∙ list_all_at (λ bits. is_beside_lead lead (element_of bits)) list c.loop-index.index element (omega (arith, inside))
    (ap (λ bits. is_beside_lead lead (element_of bits)) (sym c.index-elements-index.is) ∙ sym c.is_beside_lead.ensures ∙ c.if-not-is_beside_lead.true))

pub returns : goal.returns
returns c =
    let lead = c.args.lead in
    let list = c.args.elements.now in
    let past = c.loop-index-test.false in
    sym
    (list_all-map (is_beside_lead lead) element_of list
    ∙ ap (list_all (λ bits. is_beside_lead lead (element_of bits))) (sym (take_all c.loop-index.index list (omega (arith, past))))
    ∙ c.loop-index.invariant)
