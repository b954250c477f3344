use Rattle.std.proofs.Common.{ℕ, ◌<◌, ◌+◌, map, take}
use Rattle.std.specs.Fn.{FnReturnsAt}
use Rattle.collate_lines.specs.declared.rule.Rule.{Rule}
use Rattle.collate_lines.specs.Record.{said}
use Rattle.collate_rules.specs.Breaches.{Breach, TellsBreach}
use Rattle.collate_rules.specs.CanonicalParts.{in_full, SaysSame}
use Rattle.collate_rules.proofs.parts.first_breach_from.Given as goal

abbrev pub invariant-loop-i : goal.invariant-loop-i
invariant-loop-i g l = record {
  same : SaysSame (map in_full l.parts.list.items) (map said (take l.i l.records));
  unbroken : (rule : Rule) → ((k : ℕ) → k < l.count → Breach rule (take (k + 1) (map said l.records)) → ⊥) → TellsBreach rule (FnReturnsAt g.B.Fn l.breaks)
      → Breach rule (map in_full l.parts.list.items) → ⊥;
  before : (rule : Rule) → ((k : ℕ) → k < l.count → Breach rule (take (k + 1) (map said l.records)) → ⊥) → TellsBreach rule (FnReturnsAt g.B.Fn l.breaks)
      → (k : ℕ) → k < l.i → Breach rule (take (k + 1) (map said l.records)) → ⊥;
}
