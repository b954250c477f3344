use Rattle.std.proofs.Common.{◌≡◌, false, length, map, take}
use Rattle.std.specs.Prelude.{ltb}
use Rattle.std.specs.List.{list_any}
use Rattle.collate_lines.specs.Record.{said}
use Rattle.collate_rules.specs.Lists.{steps_by}
use Rattle.collate_rules.proofs.mapped.Mapped.any_leads.Given as goal

abbrev pub invariant-loop-c : goal.invariant-loop-c
invariant-loop-c l = list_any (λ d. ltb 0 (length (steps_by l.mappings (map said l.self.lines.now) d))) (take l.c-index l.characters) ≡ false
