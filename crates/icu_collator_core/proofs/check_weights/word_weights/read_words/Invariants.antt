use Rattle.std.proofs.Common.{◌≡◌, take, drop}
use Rattle.std.specs.Prelude.{fold}
use Rattle.icu_collator_core.specs.SpelledTests.{nothing_read, with_word}
use Rattle.icu_collator_core.proofs.check_weights.word_weights.read_words.Given as goal

abbrev pub invariant-loop-i : goal.invariant-loop-i
invariant-loop-i l = l.seen ≡ fold (with_word l.special l.own) nothing_read (take l.i (drop l.index l.ce32s))
