use Rattle.std.proofs.Common.{◌≡◌, map, take}
use Rattle.collate_rules.specs.CanonicalParts.{subject_of}
use Rattle.collate_mapping_rules.proofs.part_steps.subjects.Given as goal

abbrev pub invariant-loop-part : goal.invariant-loop-part
invariant-loop-part l = l.subjects.items ≡ map subject_of (take l.part-index l.part-items)
