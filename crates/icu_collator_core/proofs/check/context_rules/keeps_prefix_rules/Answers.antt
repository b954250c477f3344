use Rattle.std.proofs.Common.{◌↔◌, sym, ◌∙◌, subst}
use Rattle.std.specs.Bool.{IsTrue}
use Rattle.icu_collator_types.specs.declared.elements.word_tags.Tag.TheVariants.{Prefix}
use Rattle.icu_collator_types.specs.ElementWords.{has_tag}
use Rattle.icu_normalizer_core.specs.BorrowedMeaning.{borrowed_meaning}
use Rattle.icu_collator_core.specs.ContextFaults.{entry_in}
use Rattle.icu_collator_core.specs.ContextRules.{KeysPass, is_prefix, is_recorded_by, may_have_prefix}
use Rattle.icu_collator_core.specs.Pools.{trie_of}
use Rattle.icu_collator_core.specs.TableMeaning.{weights_of}
use Rattle.icu_collator_core.proofs.checks.CheckedTestLemmas.{after_test, where_asked}
use Rattle.icu_collator_core.proofs.check.context_rules.keeps_prefix_rules.Goals as goal

pub returns : goal.returns
returns c =
    let canonical = borrowed_meaning c.args.canonical in
    let digit = (weights_of canonical c.args.tables.now).digit in
    let contexts = c.args.source.now.contexts in
    let told = subst (λ index. IsTrue c.in_ok-all.all ↔ KeysPass (is_prefix canonical digit) (trie_of contexts index)) c.index_of.ensures.index c.in_ok-all.ensures in
    where_asked (has_tag Prefix c.args.word) c.in_ok-all.all (sym c.has_tag.ensures ∙ c.if-not-has_tag.false)
    (after_test (may_have_prefix canonical digit (is_recorded_by (entry_in c.args.source.now c.args.word)) c.args.c) c.in_ok-all.all
    (sym c.may_have_prefix.ensures ∙ c.if-not-may_have_prefix.false) told)
