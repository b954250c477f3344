use Rattle.std.proofs.Common.{ℕ, Option, map, sym, ap, ◌∙◌}
use Rattle.std.specs.Prelude.{ltb}
use Rattle.std.specs.Option.{unwrap_or}
use Rattle.collate_lines.specs.Record.{said}
use Rattle.collate_rules.proofs.records.MappedLemmas.{free_leads_compatibly}
use Rattle.collate_rules.proofs.mapped.Mapped.leads_compatibly.Goals as goal

pub returns-else-is_built_in : goal.returns-else-is_built_in
returns-else-is_built_in c =
    free_leads_compatibly (map said c.args.self.now.lines.now) c.args.c _ (sym c.if-is_built_in.ensures)
    (ap (λ (n : ℕ). ltb 0 n) (c.unwrap_or.ensures ∙ ap (λ (o : Option ℕ). unwrap_or o 0) (c.copied.ensures ∙ c.get.ensures.value ∙ c.args.self.now.has_compatible c.args.c)))
