use Rattle.std.proofs.Common.{◌∷◌, [], ap, sym, ◌∙◌}
use Rattle.icu_char16trie.specs.UnitSteps.{start}
use Rattle.icu_collator_core.specs.ReadWords.{table_word}
use Rattle.icu_collator_core.proofs.readings.PairLemmas.{last_behind, none_longer}
use Rattle.icu_collator_core.proofs.table_words.counting_words.CountingWord.ends_with.Goals as goal

pub returns-in_default : goal.returns-in_default
returns-in_default c = λ _ cs.
    none_longer (table_word c.args.self) c.in_default.ensures (c.args.second ∷ cs) ∙ sym (none_longer (table_word c.args.self) c.in_default.ensures (c.args.second ∷ []))

pub returns : goal.returns
returns c = λ last cs.
    last_behind (table_word c.args.self) c.args.second c.iter-cursor.result c.next-answer.new.self c.next-answer.result
    (c.iter-cursor.ensures.units ∙ c.in-Some.ensures.1) (c.iter-cursor.ensures.start ∙ ap start c.in-Some.ensures.1) c.next-answer.ensures
    (c.next-answer.ensures.stops (c.is_last.ensures last)) cs
