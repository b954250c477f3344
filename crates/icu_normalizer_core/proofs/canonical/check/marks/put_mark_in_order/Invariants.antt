use Rattle.std.proofs.Common.{◌≡◌, ◌<◌, ◌+◌, ◌-◌, ◌++◌, length, take, drop}
use Rattle.icu_normalizer_core.specs.Canonical.{put_in_order}
use Rattle.icu_normalizer_core.specs.CanonicalMeaning.{meaning}
use Rattle.icu_normalizer_core.proofs.canonical.check.marks.put_mark_in_order.Given as goal

abbrev pub invariant-loop-index : goal.invariant-loop-index
invariant-loop-index l =
    (l.index < length l.list)
    × (take l.index l.list ++ put_in_order (meaning l.tables).class l.character (drop (l.index + 1) l.list)
    ≡ take l.at l.initial.list ++ put_in_order (meaning l.tables).class l.character (drop (l.at + 1) l.initial.list))

abbrev pub decreases-loop-index : goal.decreases-loop-index
decreases-loop-index l = length l.list - l.index
