use Rattle.std.proofs.Common.{◌↔◌, ap, sym, ◌∙◌, subst}
use Rattle.std.specs.Bool.{IsTrue}
use Rattle.icu_collator_types.specs.declared.elements.word_tags.Tag.TheVariants.{Contraction}
use Rattle.icu_collator_types.specs.ElementWords.{has_tag}
use Rattle.icu_normalizer_core.specs.BorrowedMeaning.{borrowed_meaning}
use Rattle.icu_collator_core.specs.ContextFaults.{entry_in}
use Rattle.icu_collator_core.specs.ContextRules.{AreFlagsTrue, KeysPass, is_recorded_by, is_suffix}
use Rattle.icu_collator_core.specs.Pools.{index_of, trie_of}
use Rattle.icu_collator_core.proofs.checks.CheckedTestLemmas.{after_yes, no_is, refuted, where_asked}
use Rattle.icu_collator_core.proofs.check.context_rules.keeps_suffix_rules.Goals as goal

pub returns-then-not-suffixes : goal.returns-then-not-suffixes
returns-then-not-suffixes c =
    let canonical = borrowed_meaning c.args.canonical in
    let entry = entry_in c.args.source.now c.args.word in
    let told = subst (λ index. IsTrue c.in_ok-suffixes.suffixes ↔ KeysPass (is_suffix canonical (is_recorded_by entry) c.args.c) (trie_of c.args.source.now.contexts index))
    c.index_of-index.ensures.index c.in_ok-suffixes.ensures in
    refuted (λ rules. no_is c.in_ok-suffixes.suffixes c.if-not-suffixes.true told (rules (sym c.has_tag.ensures ∙ c.if-not-has_tag.false)).0)

pub are_suffixes-requires-clause-tagged : goal.are_suffixes-requires-clause-tagged
are_suffixes-requires-clause-tagged c =
    subst (λ word. IsTrue (has_tag Contraction word)) c.requires (sym c.has_tag.ensures ∙ c.if-not-has_tag.false)

pub are_suffixes-requires-clause-named : goal.are_suffixes-requires-clause-named
are_suffixes-requires-clause-named c = c.index_of-index.ensures.index ∙ ap index_of c.requires

pub returns : goal.returns
returns c =
    let canonical = borrowed_meaning c.args.canonical in
    let entry = entry_in c.args.source.now c.args.word in
    let contexts = c.args.source.now.contexts in
    let told = subst (λ index. IsTrue c.in_ok-suffixes.suffixes ↔ KeysPass (is_suffix canonical (is_recorded_by entry) c.args.c) (trie_of contexts index))
    c.index_of-index.ensures.index c.in_ok-suffixes.ensures in
    let flags = subst (λ index. IsTrue c.in_ok-flags.flags ↔ AreFlagsTrue canonical c.args.unprefixed (trie_of contexts index))
    c.index_of-index.ensures.index c.in_ok-flags.ensures in
    where_asked (has_tag Contraction c.args.unprefixed) c.in_ok-flags.flags (sym c.has_tag.ensures ∙ c.if-not-has_tag.false)
    (after_yes c.in_ok-suffixes.suffixes c.in_ok-flags.flags c.if-not-suffixes.false told flags)
