use Rattle.std.proofs.Common.{◌↔◌, sym, ◌∙◌, subst}
use Rattle.std.specs.Bool.{IsTrue}
use Rattle.icu_normalizer_core.specs.BorrowedMeaning.{borrowed_meaning}
use Rattle.icu_collator_core.specs.ContextFaults.{KeepsSuffixRules, entry_in}
use Rattle.icu_collator_core.specs.TableMeaning.{weights_of}
use Rattle.icu_collator_core.proofs.checks.ContextLemmas.{digits_refused, prefixes_refused, suffixes_told}
use Rattle.icu_collator_core.proofs.checks.CheckedTestLemmas.{no_is, refuted}
use Rattle.icu_collator_core.proofs.check.context_rules.keeps_context_rules.Goals as goal

pub returns-then-not-keeps_digit_rule : goal.returns-then-not-keeps_digit_rule
returns-then-not-keeps_digit_rule c =
    let canonical = borrowed_meaning c.args.canonical in
    refuted
    (digits_refused canonical (weights_of canonical c.args.tables.now).digit (entry_in c.args.source.now c.args.word) c.args.c
    (sym c.keeps_digit_rule.ensures ∙ c.if-not-keeps_digit_rule.true))

pub returns-then-not-prefixes : goal.returns-then-not-prefixes
returns-then-not-prefixes c =
    let canonical = borrowed_meaning c.args.canonical in
    refuted
    (prefixes_refused canonical (weights_of canonical c.args.tables.now).digit (entry_in c.args.source.now c.args.word) c.args.c
    (no_is c.in_ok-prefixes.prefixes c.if-not-prefixes.true c.in_ok-prefixes.ensures))

pub returns : goal.returns
returns c =
    let canonical = borrowed_meaning c.args.canonical in
    let entry = entry_in c.args.source.now c.args.word in
    let told = subst (λ word. IsTrue c.in_ok-suffixes.suffixes ↔ KeepsSuffixRules canonical entry c.args.c word)
    c.unprefixed_word-unprefixed.ensures c.in_ok-suffixes.ensures in
    suffixes_told canonical (weights_of canonical c.args.tables.now).digit entry c.args.c c.in_ok-suffixes.suffixes
    (sym c.keeps_digit_rule.ensures ∙ c.if-not-keeps_digit_rule.false)
    (c.in_ok-prefixes.ensures.0 c.if-not-prefixes.false)
    told
