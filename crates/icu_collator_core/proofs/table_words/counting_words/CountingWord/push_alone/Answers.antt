use Rattle.std.proofs.Common.{◌++◌, ◌∙◌, ap}
use Rattle.icu_collator_core.specs.ElementLists.{unpacked}
use Rattle.icu_collator_core.specs.ReadWords.{elements_spelled_by, table_word}
use Rattle.icu_collator_core.proofs.lookups.AloneLemmas.{alone_said, alone_spelled}
use Rattle.icu_collator_core.proofs.table_words.counting_words.CountingWord.push_alone.Goals as goal

pub returns-clause-elements : goal.returns-clause-elements
returns-clause-elements c =
    let entry = table_word c.args.self in
    let before = unpacked c.args.elements.now.items in
    c.in_ok-push_spelled.ensures.elements
    ∙ ap (λ word. before ++ elements_spelled_by entry c.args.c word) c.lone_word-lone.ensures
    ∙ ap (λ es. before ++ es) (alone_spelled entry c.args.c)

pub returns-clause-said : goal.returns-clause-said
returns-clause-said c = λ weights said.
    returns-clause-elements c ∙ ap (λ es. unpacked c.args.elements.now.items ++ es) (alone_said (table_word c.args.self) c.args.c weights said)
