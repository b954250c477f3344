use Rattle.std.proofs.Common.{ℕ, IsTrue, subst}
use Rattle.icu_collator_types.specs.declared.elements.word_tags.Tag.TheVariants.{Contraction, Prefix}
use Rattle.icu_collator_types.specs.ElementWords.{has_tag}
use Rattle.icu_collator_core.specs.declared.unsafe_characters.context_texts.Side.TheVariants.{Before, Behind}
use Rattle.icu_collator_core.specs.Pools.{unprefixed_word}
use Rattle.icu_collator_core.specs.TableMeaning.{pools_of}
use Rattle.icu_collator_core.specs.UnsafeWords.{ContextMakesUnsafe}
use Rattle.icu_collator_core.specs.WeightLists.{Grows}
use Rattle.icu_collator_core.proofs.apart.GrowthLemmas.{grown_twice}
use Rattle.icu_collator_core.proofs.unsafe_characters.naming_words.gather_by_word.Goals as goal

pub returns : goal.returns
returns c =
    let pools = pools_of c.args.entry.source.now in
    let word = c.args.entry.word in
    let before = c.args.characters.now.items in
    let first = c.gather_where.new.characters.items in
    grown_twice
    (λ d. IsTrue (has_tag Contraction (unprefixed_word pools word)) × ContextMakesUnsafe pools Behind (unprefixed_word pools word) d)
    (λ d. IsTrue (has_tag Prefix word) × ContextMakesUnsafe pools (Before c.args.c) word d)
    before first c.gather_where-2.new.characters.items
    (subst (λ (word : ℕ). Grows (λ d. IsTrue (has_tag Contraction word) × ContextMakesUnsafe pools Behind word d) before first)
    c.unprefixed_word-unprefixed.ensures c.in_ok-gather_where.ensures)
    c.in_ok-gather_where-2.ensures
