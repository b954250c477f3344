use Rattle.std.proofs.Common.{◌∙◌, ap, arith, drop, length-drop, sym}
use Rattle.icu_collator_core.specs.ReadTexts.{length_with}
use Rattle.icu_collator_core.specs.ReadWords.{table_word}
use Rattle.icu_collator_core.proofs.lookups.MatchLemmas.{for_found, match_is, text_recorded}
use Rattle.icu_collator_core.proofs.table_words.counting_words.CountingWord.longer_text.Goals as goal

pub returns-clause-count : goal.returns-clause-count
returns-clause-count c = λ weights d said ok.
    match_is (table_word c.args.self) (drop c.args.start c.args.list.now) weights d said ok ∙ ap length_with (sym c.found_text.ensures)

pub returns-clause-record : goal.returns-clause-record
returns-clause-record c =
    let entry = table_word c.args.self in
    let cs = drop c.args.start c.args.list.now in
    for_found entry cs c.found_text.result c.found_text.ensures _ (λ text h. text_recorded entry cs text h)

pub returns-clause-filled : goal.returns-clause-filled
returns-clause-filled c =
    for_found (table_word c.args.self) (drop c.args.start c.args.list.now) c.found_text.result c.found_text.ensures _ (λ text h. h.filled)

pub returns-clause-within : goal.returns-clause-within
returns-clause-within c =
    let cs = drop c.args.start c.args.list.now in
    for_found (table_word c.args.self) cs c.found_text.result c.found_text.ensures _
    (λ text h. let inside = h.within in let start = c.requires in let count = length-drop c.args.start c.args.list.now in omega (arith, inside, start, count))

pub returns-clause-spelled : goal.returns-clause-spelled
returns-clause-spelled c =
    for_found (table_word c.args.self) (drop c.args.start c.args.list.now) c.found_text.result c.found_text.ensures _ (λ text h. h.spelled)
