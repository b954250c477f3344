use Rattle.std.proofs.Common.{◌∙◌, ap}
use Rattle.std.specs.Option.{is_some}
use Rattle.icu_collator_core.specs.ReadTexts.{if_recorded, suffix_units}
use Rattle.icu_collator_core.specs.ReadWords.{table_word}
use Rattle.icu_collator_core.specs.TableMeaning.{pools_of}
use Rattle.icu_collator_core.proofs.lookups.JoinLemmas.{joined_recorded, joined_stands, joined_word}
use Rattle.icu_collator_core.proofs.table_words.counting_words.CountingWord.join.Goals as goal

pub returns-in-Some-clause-word : goal.returns-in-Some-clause-word
returns-in-Some-clause-word c = λ suffix at.
    c.in-Some.ensures
    ∙ ap (if_recorded (pools_of c.args.self.source.now))
    (c.word_of.ensures ∙ joined_word (suffix_units (table_word c.args.self)) suffix c.args.c c.args.cursor.now c.next-answer.new.self c.next-answer.result at c.next-answer.ensures)

pub returns-in-Some-clause-recorded : goal.returns-in-Some-clause-recorded
returns-in-Some-clause-recorded c = λ first suffix at is.
    ap (λ o. is_some o) (returns-in-Some-clause-word c suffix at) ∙ joined_recorded (table_word c.args.self) first suffix c.args.c is

pub returns-in-None-clause-word : goal.returns-in-None-clause-word
returns-in-None-clause-word c = λ suffix at.
    c.in-None.ensures
    ∙ ap (if_recorded (pools_of c.args.self.source.now))
    (c.word_of.ensures ∙ joined_word (suffix_units (table_word c.args.self)) suffix c.args.c c.args.cursor.now c.next-answer.new.self c.next-answer.result at c.next-answer.ensures)

pub returns-in-None-clause-recorded : goal.returns-in-None-clause-recorded
returns-in-None-clause-recorded c = λ first suffix at is.
    ap (λ o. is_some o) (returns-in-None-clause-word c suffix at) ∙ joined_recorded (table_word c.args.self) first suffix c.args.c is

pub returns-in-Some-clause-moved : goal.returns-in-Some-clause-moved
returns-in-Some-clause-moved c = λ suffix at.
    joined_stands (suffix_units (table_word c.args.self)) suffix c.args.c c.args.cursor.now c.next-answer.new.self c.next-answer.result at c.next-answer.ensures
