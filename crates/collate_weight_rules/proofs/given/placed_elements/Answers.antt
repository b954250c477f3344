use Rattle.std.proofs.Common.{ℕ, List, ◌++◌, map, ap, ap₂, sym, ◌∙◌, arith, take_all}
use Rattle.std.proofs.lemmas.List.{length-map}
use Rattle.icu_collator_types.specs.declared.elements.Element.{Element}
use Rattle.collate_lines.specs.Record.{Record, said}
use Rattle.collate_weight_rules.specs.PlacedWeights.{placed_elements}
use Rattle.collate_weight_rules.proofs.soundness.PlacedLemmas.{placed_more}
use Rattle.collate_weight_rules.proofs.given.placed_elements.Goals as goal

pub loop-line-preserved : goal.loop-line-preserved
loop-line-preserved c =
    c.in_ok-push_placed.ensures
    ∙ ap₂ (λ (ps : List (Element × ℕ)) (es : List Element). ps ++ map (λ e. (e, c.loop-line.line)) es) c.loop-line.invariant
    c.elements_of.ensures
    ∙ sym (placed_more c.args.lines.now c.loop-line.line c.index-lines-line.result c.loop-line-test.true c.index-lines-line.is)

pub returns : goal.returns
returns c =
    let past = c.loop-line-test.false in
    let many = length-map c.args.lines.now said in
    c.loop-line.invariant ∙ ap (λ (rs : List Record). placed_elements 0 rs) (take_all c.loop-line.line (map said c.args.lines.now) (omega (arith, many, past)))
