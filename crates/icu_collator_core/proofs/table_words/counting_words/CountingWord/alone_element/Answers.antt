use Rattle.icu_collator_core.specs.ReadWords.{table_word}
use Rattle.icu_collator_core.proofs.lookups.PlainLemmas.{read_alone_if_stated}
use Rattle.icu_collator_core.proofs.table_words.counting_words.CountingWord.alone_element.Goals as goal

pub returns-in-Some : goal.returns-in-Some
returns-in-Some c =
    let known = rw c.in-Some.is at (read_alone_if_stated (table_word c.args.self) c.stated_by.result c.stated_by.ensures.stated) in
    λ weights said. known weights c.args.c said
