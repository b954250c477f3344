use Rattle.std.proofs.Common.{arith}
use Rattle.icu_normalizer_core.specs.BorrowedMeaning.{borrowed_meaning}
use Rattle.icu_collator_core.proofs.readings.DecomposingLemmas.{mark_appended, starter_appended}
use Rattle.icu_collator_core.proofs.reading.decomposing.push_classed.Goals as goal

pub returns-in_ok-push_character : goal.returns-in_ok-push_character
returns-in_ok-push_character c =
    starter_appended (borrowed_meaning c.args.canonical).class c.args.list.now.items c.close.new.list.items c.push_character.new.list.items c.args.ready c.len.result c.args.c
    c.requires.marks (omega arith) c.in_ok-close.ensures c.in_ok-push_character.ensures.items c.len.ensures.value c.push_character.ensures.character

pub returns-in_ok-push_character-2 : goal.returns-in_ok-push_character-2
returns-in_ok-push_character-2 c =
    mark_appended (borrowed_meaning c.args.canonical).class c.args.list.now.items c.push_character-else-class-eq0.new.list.items c.args.ready c.args.c c.requires.marks (omega arith)
    c.in_ok-push_character-2.ensures.items c.push_character-else-class-eq0.ensures.character
