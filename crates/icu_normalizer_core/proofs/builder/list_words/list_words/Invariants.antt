use Rattle.icu_normalizer_core.specs.ListWords.{StateSettled}
use Rattle.icu_normalizer_core.proofs.builder.list_words.list_words.Given as goal

abbrev pub invariant-loop-index : goal.invariant-loop-index
invariant-loop-index l = StateSettled l.scalars24.items l.settled l.words.items l.index
