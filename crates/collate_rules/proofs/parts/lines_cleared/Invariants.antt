use Rattle.std.proofs.Common.{ℕ, ◌+◌, ◌-◌, ◌<◌, ◌≤◌, length, map, take}
use Rattle.std.specs.Fn.{FnReturnsAt}
use Rattle.collate_lines.specs.declared.rule.Rule.{Rule}
use Rattle.collate_lines.specs.Record.{said}
use Rattle.collate_rules.specs.Breaches.{AsksForSaid, Breach, TellsClear}
use Rattle.collate_rules.proofs.parts.lines_cleared.Given as goal

abbrev pub invariant-narrowing : goal.invariant-narrowing
invariant-narrowing g l = record {
  order : l.low ≤ l.high;
  within : l.high ≤ length l.records;
  clear : (rule : Rule) → AsksForSaid rule → TellsClear rule (FnReturnsAt g.C.Fn l.clears) → (k : ℕ) → k < l.low → Breach rule (take (k + 1) (map said l.records)) → ⊥;
}

abbrev pub decreases-narrowing : goal.decreases-narrowing
decreases-narrowing g l = l.high - l.low
