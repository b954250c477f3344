use Rattle.std.proofs.Common.{◌-◌, ◌≤◌, []}
use Rattle.icu_collator_core.specs.PrefixFaults.{IsWordIn}
use Rattle.icu_collator_core.specs.WeightLists.{Grows}
use Rattle.icu_collator_core.proofs.apart.GrowthLemmas.{UpTo}
use Rattle.icu_collator_core.proofs.check.apart.character_words.words_of.Given as goal

abbrev pub invariant-loop-code : goal.invariant-loop-code
invariant-loop-code l = record {
  bound : l.code ≤ 0x11_0000;
  grown : Grows (UpTo (IsWordIn l.source) l.code) [] l.words.items;
}

abbrev pub decreases-loop-code : goal.decreases-loop-code
decreases-loop-code l = 0x11_0000 - l.code
