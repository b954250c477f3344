use Rattle.std.proofs.Common.{◌≡◌, take}
use Rattle.icu_normalizer_core.specs.CanonicalWords.{items_at}
use Rattle.icu_normalizer_core.specs.FullLists.{source_items}
use Rattle.icu_normalizer_core.specs.Settled.{left_items}
use Rattle.icu_normalizer_core.proofs.canonical.check.full_start.part_start.Given as goal

abbrev pub invariant-loop-i : goal.invariant-loop-i
invariant-loop-i l = left_items l.left ≡ take 9 (items_at (source_items l.words l.source) l.index l.i)
