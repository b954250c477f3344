use Rattle.std.proofs.Common.{◌≡◌, ◌≢◌, [], map, sym, ◌∙◌}
use Rattle.std.proofs.lemmas.Bool.{false≢true}
use Rattle.collate_rules.specs.CanonicalParts.{in_full, step_items}
use Rattle.collate_rules.specs.Meaning.{step_of}
use Rattle.collate_rules.proofs.mappings.CanonicalPartLemmas.{else_none, else_some}
use Rattle.collate_rules.proofs.canonical_parts.CanonicalParts.given_step.Goals as goal

pub returns-then-is_none : goal.returns-then-is_none
returns-then-is_none c =
    let items : step_items c.of-canonical.result ≡ step_of (map in_full c.args.self.now.list.items) c.args.c = c.of-canonical.ensures ∙ c.step_of.ensures in
    c.compatibility_of.ensures ∙ sym (else_none _ _ (sym items ∙ c.is_none.ensures.0 c.if-is_none.true))

pub returns-else-is_none : goal.returns-else-is_none
returns-else-is_none c =
    let items : step_items c.of-canonical.result ≡ step_of (map in_full c.args.self.now.list.items) c.args.c = c.of-canonical.ensures ∙ c.step_of.ensures in
    let some : step_of (map in_full c.args.self.now.list.items) c.args.c ≢ [] = λ none. false≢true (sym c.if-is_none.false ∙ c.is_none.ensures.1 (items ∙ none)) in
    items ∙ sym (else_some _ _ some)
