use Rattle.std.proofs.Common.{rules}
use Rattle.icu_normalizer_core.specs.BorrowedMeaning.{borrowed_meaning}
use Rattle.icu_collator_core.specs.ReadWords.{table_word}
use Rattle.icu_collator_core.proofs.lookups.SaidLemmas.{said_by}
use Rattle.icu_collator_core.proofs.table_words.counting_words.counting_word.Goals as goal

pub returns-clause-said : goal.returns-clause-said
returns-clause-said c =
    said_by (borrowed_meaning c.args.canonical) c.args.tables.now c.args.c (table_word c.found_word.result) (search rules) c.found_word.ensures
