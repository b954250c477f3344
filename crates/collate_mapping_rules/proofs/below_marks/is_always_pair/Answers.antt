use Rattle.std.proofs.Common.{ℕ, Some, sym, ap, ◌∙◌}
use Rattle.collate_mapping_rules.proofs.below_marks.is_always_pair.Goals as goal

pub returns : goal.returns
returns c = λ yes. record {
  composes = sym c.in-Some.ensures ∙ ap (λ (n : ℕ). Some n) c.if-pair-c.false;
  lets = c.is_let_compose.ensures yes;
  unmapped = c.is_unmapped.ensures c.if-not-is_unmapped.false;
}
