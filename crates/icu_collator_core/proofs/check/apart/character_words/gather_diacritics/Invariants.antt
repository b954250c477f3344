use Rattle.std.proofs.Common.{◌≡◌}
use Rattle.icu_collator_core.specs.TableMeaning.{secondary_word}
use Rattle.icu_collator_core.proofs.apart.GatheringLemmas.{FromIndices}
use Rattle.icu_collator_core.specs.WeightLists.{Grows}
use Rattle.icu_collator_core.proofs.check.apart.character_words.gather_diacritics.Given as goal

abbrev pub invariant-loop-index : goal.invariant-loop-index
invariant-loop-index l = Grows (FromIndices (λ secondary word. word ≡ secondary_word secondary) l.tables.diacritics.secondaries l.index) l.fn.words.items l.words.items
