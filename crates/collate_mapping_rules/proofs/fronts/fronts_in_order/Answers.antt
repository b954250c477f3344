use Rattle.std.proofs.Common.{◌≡◌, ℕ, List, sym, ◌∙◌}
use Rattle.std.specs.List.{slice_index}
use Rattle.std.proofs.lemmas.Grind.{get_or_default_zero}
use Rattle.collate_rules.specs.Meaning.{expanded}
use Rattle.collate_rules.proofs.lists.RuleFullListLemmas.{expanded_unmapped}
use Rattle.collate_mapping_rules.proofs.lists.FrontLemmas.{full_by_step, step_read}
use Rattle.collate_mapping_rules.proofs.fronts.fronts_in_order.Goals as goal

pub loop-c-preserved : goal.loop-c-preserved
loop-c-preserved g c =
    let step : ℕ → List ℕ = g.S.Steps.step c.args.steps.now in
    let at : c.c-item.result ≡ slice_index c.args.order.now c.loop-c.c-index =
    c.c-item.is ∙ get_or_default_zero c.args.order.now c.loop-c.c-index c.c-item.result c.loop-c-test.true in
    let gives : c.deref.result.now ≡ step c.c-item.result =
    step_read c.deref.result.now c.add_step.new.list.items c.clear.new.self.items (step c.c-item.result) c.deref.ensures.value c.in_ok-add_step.ensures c.clear.ensures.items in
    c.in_ok-note_front.ensures (expanded step 1114112) c.loop-c.invariant
    (λ none. expanded_unmapped step 1114112 c.c-item.result (sym gives ∙ none))
    (λ some. full_by_step step c.args.order.now c.requires.in_order 1114112 c.loop-c.c-index c.c-item.result c.deref.result.now c.requires.fits c.loop-c-test.true at gives some)
