use Rattle.std.proofs.Common.{◌∙◌, ap, arith, sym, take, reverse}
use Rattle.std.specs.Option.{option_and_then}
use Rattle.icu_collator_core.specs.Pools.{elements_of_word}
use Rattle.icu_collator_core.specs.Elements.{longest_prefix}
use Rattle.icu_collator_core.specs.ReadTexts.{characters_before}
use Rattle.icu_collator_core.specs.ReadWords.{table_word}
use Rattle.icu_collator_core.specs.TableMeaning.{pools_of}
use Rattle.icu_collator_core.proofs.lookups.MatchLemmas.{scalars_front}
use Rattle.icu_collator_core.proofs.lookups.PrefixLemmas.{before_count, prefix_is, scalars_back}
use Rattle.icu_collator_core.proofs.table_words.counting_words.CountingWord.prefixed_text.Goals as goal

pub returns-clause-record : goal.returns-clause-record
returns-clause-record c = λ weights d said ok.
    let list = c.args.list.now in
    let front = take c.args.index list in
    let count = before_count list c.args.index c.requires in
    prefix_is (table_word c.args.self) (characters_before list c.args.index) weights d said
    (scalars_front longest_prefix (reverse front) (scalars_back front ok)) (omega (arith, count))
    ∙ ap (option_and_then (λ text. elements_of_word (pools_of c.args.self.source.now) text.word)) (sym c.found_prefix.ensures)
