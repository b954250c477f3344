use Rattle.std.proofs.Common.{map, take}
use Rattle.std.specs.List.{All}
use Rattle.collate_rules.specs.CanonicalParts.{in_full, subject_of}
use Rattle.collate_rules.specs.Rules.{IsMappedMark}
use Rattle.collate_mapping_rules.proofs.marks.map_any_mark.Given as goal

abbrev pub invariant-loop-part : goal.invariant-loop-part
invariant-loop-part l = All (λ part. IsMappedMark (map in_full l.parts.list.items) (subject_of part) → ⊥) (take l.part-index l.part-items)
