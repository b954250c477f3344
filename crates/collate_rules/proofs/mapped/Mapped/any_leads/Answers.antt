use Rattle.std.proofs.Common.{ℕ, length, map, sym, ◌∙◌, arith, refl}
use Rattle.std.specs.Prelude.{ltb}
use Rattle.collate_lines.specs.Record.{said}
use Rattle.collate_rules.specs.Lists.{steps_by}
use Rattle.collate_rules.proofs.records.MappedLemmas.{any_here, none_all, none_further}
use Rattle.collate_rules.proofs.mapped.Mapped.any_leads.Goals as goal

pub loop-c-init : goal.loop-c-init
loop-c-init c = refl

pub returns-then-leads : goal.returns-then-leads
returns-then-leads c =
    any_here (λ (d : ℕ). ltb 0 (length (steps_by c.args.mappings (map said c.args.self.now.lines.now) d))) c.args.characters.now c.loop-c.c-index c.c-item.result c.loop-c-test.true c.c-item.is
    (sym c.leads.ensures ∙ c.if-leads.true)

pub loop-c-preserved : goal.loop-c-preserved
loop-c-preserved c =
    none_further (λ (d : ℕ). ltb 0 (length (steps_by c.args.mappings (map said c.args.self.now.lines.now) d))) c.args.characters.now c.loop-c.c-index c.c-item.result c.loop-c-test.true c.c-item.is
    c.loop-c.invariant (sym c.leads.ensures ∙ c.if-leads.false)

pub returns : goal.returns
returns c =
    none_all (λ (d : ℕ). ltb 0 (length (steps_by c.args.mappings (map said c.args.self.now.lines.now) d))) c.args.characters.now c.loop-c.c-index (omega (arith, c.loop-c-test.false)) c.loop-c.invariant
