use Rattle.std.proofs.Common.{◌≡◌, ℕ, ◌+◌, ◌-◌, ◌<◌, ◌≤◌, true, length, map, take}
use Rattle.collate_lines.specs.Record.{said}
use Rattle.collate_rules.specs.Breaks.{IsLasting}
use Rattle.collate_rules.proofs.breaks.first_to_break.Given as goal

abbrev pub invariant-narrowing : goal.invariant-narrowing
invariant-narrowing g l = record {
  order : l.low ≤ l.high;
  within : l.high < length l.records;
  below : IsLasting (g.T.LinesTest.breach l.test) → (j : ℕ) → j < l.low → g.T.LinesTest.breach l.test (take (j + 1) (map said l.records)) ≡ true → ⊥;
  broken : g.T.LinesTest.breach l.test (take (l.high + 1) (map said l.records)) ≡ true;
}

abbrev pub decreases-narrowing : goal.decreases-narrowing
decreases-narrowing g l = l.high - l.low
