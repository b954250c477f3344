use Rattle.icu_normalizer_core.specs.BorrowedMeaning.{borrowed_meaning}
use Rattle.icu_collator_core.specs.ContextFaults.{entry_in}
use Rattle.icu_collator_core.specs.ContextRules.{is_recorded_by}
use Rattle.icu_collator_core.specs.Pools.{trie_of}
use Rattle.icu_collator_core.proofs.checks.ContextLemmas.{long_refused, mixed_refused, suffixes_by_parts}
use Rattle.icu_collator_core.proofs.checks.CheckedTestLemmas.{refuted}
use Rattle.icu_collator_core.proofs.check.suffixes.are_suffixes.Goals as goal

pub returns-then-not-short : goal.returns-then-not-short
returns-then-not-short c =
    refuted
    (long_refused (borrowed_meaning c.args.canonical) (is_recorded_by (entry_in c.args.source.now c.args.word)) c.args.c
    (trie_of c.args.source.now.contexts c.args.index) c.in_ok-short.short c.if-not-short.true c.in_ok-short.ensures)

pub returns-then-not-last : goal.returns-then-not-last
returns-then-not-last c =
    refuted
    (mixed_refused (borrowed_meaning c.args.canonical) (is_recorded_by (entry_in c.args.source.now c.args.word)) c.args.c
    (trie_of c.args.source.now.contexts c.args.index) c.in_ok-last.last c.if-not-last.true c.in_ok-last.ensures)

pub returns : goal.returns
returns c =
    suffixes_by_parts (borrowed_meaning c.args.canonical) (is_recorded_by (entry_in c.args.source.now c.args.word)) c.args.c
    (trie_of c.args.source.now.contexts c.args.index) c.in_ok-short.short c.in_ok-last.last c.in_ok-recorded.recorded c.if-not-short.false c.if-not-last.false
    c.in_ok-short.ensures c.in_ok-last.ensures c.in_ok-recorded.ensures
