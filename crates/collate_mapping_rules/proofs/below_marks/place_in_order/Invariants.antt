use Rattle.std.proofs.Common.{◌≡◌, ◌≤◌, ◌++◌, ◌-◌, length, map, take, drop}
use Rattle.icu_normalizer_core.specs.Canonical.{put_in_order}
use Rattle.collate_rules.specs.CanonicalParts.{in_full}
use Rattle.collate_rules.specs.Meaning.{class_of}
use Rattle.collate_mapping_rules.proofs.below_marks.place_in_order.Given as goal

abbrev pub invariant-loop-index : goal.invariant-loop-index
invariant-loop-index l =
    (l.index ≤ length l.list)
    × (take l.index l.list ++ put_in_order (class_of (map in_full l.parts.list.items)) l.fn.c (drop l.index l.list) ≡ put_in_order (class_of (map in_full l.parts.list.items)) l.fn.c l.list)

abbrev pub decreases-loop-index : goal.decreases-loop-index
decreases-loop-index l = length l.list - l.index
