use Rattle.std.proofs.Common.{◌∙◌, sym}
use Rattle.std.proofs.lemmas.Bool.{not-true}
use Rattle.icu_collator_core.specs.ReadWords.{table_word}
use Rattle.icu_collator_core.proofs.lookups.PlainLemmas.{none_before}
use Rattle.icu_collator_core.proofs.table_words.counting_words.CountingWord.is_unprefixed.Goals as goal

pub returns : goal.returns
returns c = λ tells weights d said. none_before (table_word c.args.self) (sym c.has_tag.ensures ∙ not-true c.has_tag.result tells) weights d said
