use Rattle.std.proofs.Common.{◌≡◌, ℕ, ◌+◌, List, [], ◌∷◌, ◌++◌, drop, option_map, sym, ap, ◌∙◌}
use Rattle.collate_lines.specs.Grammar.{hex_of, listed}
use Rattle.collate_lines.proofs.reading.FormLemmas.{bytes_of, listed_more}
use Rattle.collate_lines.proofs.list_fields.parse_leads.Goals as goal

pub loop-field-preserved : goal.loop-field-preserved
loop-field-preserved c =
    let pushed : c.push.new.self.items ≡ c.loop-field.list.items ++ c.in-Some.lead ∷ [] = c.in_ok-push-in-Some.ensures.items in
    c.loop-field.invariant
    ∙ listed_more (hex_of 2) c.loop-field.list.items c.args.fields.now c.loop-field.field-index _ c.in-Some.lead c.loop-field-test.true (sym c.in-Some.ensures)
    ∙ ap (λ (items : List ℕ). option_map (λ rest. items ++ rest) (listed (hex_of 2) (bytes_of (drop (c.loop-field.field-index + 1) c.args.fields.now)))) (sym pushed)
