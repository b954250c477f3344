use Rattle.std.proofs.Common.{drop, subst}
use Rattle.icu_normalizer_core.specs.BorrowedMeaning.{borrowed_meaning}
use Rattle.icu_collator_core.specs.Elements.{placed, text_match}
use Rattle.icu_collator_core.specs.JoinedTexts.{IsFoundAs}
use Rattle.icu_collator_core.specs.TableMeaning.{pools_of}
use Rattle.icu_collator_core.proofs.readings.ReadStepLemmas.{match_alone, match_spelled}
use Rattle.icu_collator_core.proofs.table_words.counting_words.CountingWord.push_match.Goals as goal

pub returns-in_ok-push_spelled-in-Some-clause-read : goal.returns-in_ok-push_spelled-in-Some-clause-read
returns-in_ok-push_spelled-in-Some-clause-read c = λ weights said ok.
    let canonical = borrowed_meaning c.args.canonical in
    let pools = pools_of c.args.self.source.now in
    let ps = drop c.args.index (placed c.args.list.now.items) in
    let list = c.text_match-found.new.list.items in
    let next = c.text_match-found.result.next in
    match_spelled canonical weights pools c.args.c ps c.args.ready.now.items list next c.push_spelled.new.elements.items c.in-Some.word
    (subst (λ o. IsFoundAs canonical weights pools c.args.c (text_match canonical weights ps) (record { word = o; next = next }) list) c.in-Some.is
    (c.text_match-found.ensures.found weights c.args.c c.requires.here said ok))
    (c.in_ok-push_spelled-in-Some.ensures.said weights said)

pub returns-in_ok-push_alone-in-None-clause-read : goal.returns-in_ok-push_alone-in-None-clause-read
returns-in_ok-push_alone-in-None-clause-read c = λ weights said ok.
    let canonical = borrowed_meaning c.args.canonical in
    let pools = pools_of c.args.self.source.now in
    let ps = drop c.args.index (placed c.args.list.now.items) in
    let list = c.text_match-found.new.list.items in
    let next = c.text_match-found.result.next in
    match_alone canonical weights pools c.args.c ps c.args.ready.now.items list next c.push_alone.new.elements.items
    (subst (λ o. IsFoundAs canonical weights pools c.args.c (text_match canonical weights ps) (record { word = o; next = next }) list) c.in-None.is
    (c.text_match-found.ensures.found weights c.args.c c.requires.here said ok))
    (c.in_ok-push_alone-in-None.ensures.said weights said)
