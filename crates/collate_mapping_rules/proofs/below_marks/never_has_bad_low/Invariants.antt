use Rattle.std.proofs.Common.{take}
use Rattle.std.specs.List.{All}
use Rattle.collate_rules.specs.CanonicalParts.{subject_of}
use Rattle.collate_rules.specs.LowParts.{IsNeverBadlyLow}
use Rattle.collate_mapping_rules.proofs.below_marks.never_has_bad_low.Given as goal

abbrev pub invariant-loop-part : goal.invariant-loop-part
invariant-loop-part l = All (λ part. IsNeverBadlyLow l.parts.list.items (subject_of part)) (take l.part-index l.part-items)
