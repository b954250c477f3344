use Rattle.std.proofs.Common.{map}
use Rattle.collate_lines.specs.Record.{said}
use Rattle.collate_rules.proofs.offenders.LimitLemmas.{AreWithin}
use Rattle.collate_rules.proofs.limit.first_over_limit.Given as goal

abbrev pub invariant-loop-i : goal.invariant-loop-i
invariant-loop-i l = AreWithin l.limits (map said l.records) l.i l.counts
