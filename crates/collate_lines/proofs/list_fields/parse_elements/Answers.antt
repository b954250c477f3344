use Rattle.std.proofs.Common.{◌≡◌, ◌+◌, List, [], ◌∷◌, ◌++◌, drop, option_map, sym, ap, ◌∙◌}
use Rattle.icu_collator_types.specs.declared.elements.Element.{Element}
use Rattle.collate_lines.specs.Grammar.{element, listed}
use Rattle.collate_lines.proofs.reading.FormLemmas.{bytes_of, listed_more}
use Rattle.collate_lines.proofs.list_fields.parse_elements.Goals as goal

pub loop-field-preserved : goal.loop-field-preserved
loop-field-preserved c =
    let pushed : c.push.new.self.items ≡ c.loop-field.list.items ++ c.in-Some.element ∷ [] = c.in_ok-push-in-Some.ensures.items in
    c.loop-field.invariant
    ∙ listed_more element c.loop-field.list.items c.args.fields.now c.loop-field.field-index _ c.in-Some.element c.loop-field-test.true (sym c.in_ok-element.ensures ∙ c.in-Some.is)
    ∙ ap (λ (items : List Element). option_map (λ rest. items ++ rest) (listed element (bytes_of (drop (c.loop-field.field-index + 1) c.args.fields.now)))) (sym pushed)
