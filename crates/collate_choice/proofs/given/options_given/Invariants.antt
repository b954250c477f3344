use Rattle.std.proofs.Common.{map, take}
use Rattle.std.specs.String.{string_bytes}
use Rattle.collate_choice.specs.GivenOptions.{AreWordsOf}
use Rattle.collate_choice.proofs.given.options_given.Given as goal

abbrev pub invariant-loop-word : goal.invariant-loop-word
invariant-loop-word l = AreWordsOf l.given (take l.word-index (map string_bytes l.words))
