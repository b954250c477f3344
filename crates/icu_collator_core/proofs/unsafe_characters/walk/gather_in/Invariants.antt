use Rattle.std.proofs.Common.{◌-◌, ◌≤◌}
use Rattle.icu_normalizer_core.specs.BorrowedMeaning.{borrowed_meaning}
use Rattle.icu_collator_core.specs.UnsafeWords.{MakesUnsafeIn}
use Rattle.icu_collator_core.specs.WeightLists.{Grows}
use Rattle.icu_collator_core.proofs.apart.GrowthLemmas.{UpTo}
use Rattle.icu_collator_core.proofs.unsafe_characters.walk.gather_in.Given as goal

abbrev pub invariant-loop-code : goal.invariant-loop-code
invariant-loop-code l = record {
  bound : l.code ≤ 0x11_0000;
  grown : Grows (UpTo (MakesUnsafeIn (borrowed_meaning l.canonical) l.tables l.source) l.code) l.fn.characters.items l.characters.items;
}

abbrev pub decreases-loop-code : goal.decreases-loop-code
decreases-loop-code l = 0x11_0000 - l.code
