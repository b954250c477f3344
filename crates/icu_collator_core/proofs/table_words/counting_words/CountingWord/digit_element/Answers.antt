use Rattle.std.proofs.Common.{ap, sym, ◌∙◌}
use Rattle.icu_collator_core.specs.Pools.{stated_element}
use Rattle.icu_collator_core.specs.ReadWords.{table_word}
use Rattle.icu_collator_core.proofs.lookups.PlainLemmas.{read_digit_if_stated}
use Rattle.icu_collator_core.proofs.table_words.counting_words.CountingWord.digit_element.Goals as goal

pub returns-then-has_tag : goal.returns-then-has_tag
returns-then-has_tag c =
    read_digit_if_stated (table_word c.args.self) (sym c.has_tag.ensures ∙ c.if-has_tag.true) c.stated_by.result
    (c.stated_by.ensures.stated ∙ ap (λ word. stated_element word) c.lone_word.ensures)
