use Rattle.std.proofs.Common.{map, take}
use Rattle.std.specs.List.{All}
use Rattle.collate_rules.specs.CanonicalParts.{in_full, subject_of}
use Rattle.collate_rules.specs.Rules.{IsBadlyMapped}
use Rattle.collate_mapping_rules.proofs.full_lists.have_bad_list.Given as goal

abbrev pub invariant-loop-part : goal.invariant-loop-part
invariant-loop-part l = All (λ part. IsBadlyMapped (map in_full l.parts.list.items) (subject_of part) → ⊥) (take l.part-index l.part-items)
