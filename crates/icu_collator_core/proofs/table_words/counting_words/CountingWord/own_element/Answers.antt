use Rattle.std.proofs.Common.{sym, ◌∙◌}
use Rattle.icu_collator_core.specs.ReadWords.{table_word}
use Rattle.icu_collator_core.proofs.lookups.PlainLemmas.{read_own_if_left}
use Rattle.icu_collator_core.proofs.table_words.counting_words.CountingWord.own_element.Goals as goal

pub returns-then-is_left : goal.returns-then-is_left
returns-then-is_left c =
    read_own_if_left (table_word c.args.self) (sym c.is_left.ensures ∙ c.if-is_left.true) c.default_element.result c.args.c c.default_element.ensures.element
