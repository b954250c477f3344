use Rattle.std.proofs.Common.{◌≡◌, IsTrue, subst}
use Rattle.icu_collator_types.specs.declared.elements.word_tags.Tag.TheVariants.{Contraction, Prefix}
use Rattle.icu_collator_types.specs.ElementWords.{has_tag}
use Rattle.icu_collator_core.specs.Pools.{lone_word, unprefixed_word}
use Rattle.icu_collator_core.specs.PrefixFaults.{HasValue}
use Rattle.icu_collator_core.specs.TableMeaning.{pools_of}
use Rattle.icu_collator_core.specs.WeightLists.{Grows}
use Rattle.icu_collator_core.proofs.apart.GrowthLemmas.{grown_thrice}
use Rattle.icu_collator_core.proofs.check.apart.character_words.gather_among.Goals as goal

pub returns : goal.returns
returns c =
    let pools = pools_of c.args.source.now in
    let before = c.args.words.now.items in
    let first = c.gather_word.new.words.items in
    let second = c.gather_where.new.words.items in
    grown_thrice (λ one. one ≡ lone_word pools c.args.word)
    (λ one. IsTrue (has_tag Contraction (unprefixed_word pools c.args.word)) × HasValue pools (unprefixed_word pools c.args.word) one)
    (λ one. IsTrue (has_tag Prefix c.args.word) × HasValue pools c.args.word one)
    before first second c.gather_where-2.new.words.items
    (subst (λ word. Grows (λ one. one ≡ word) before first) c.lone_word-lone.ensures c.in_ok-gather_word.ensures)
    (subst (λ word. Grows (λ one. IsTrue (has_tag Contraction word) × HasValue pools word one) first second)
    c.unprefixed_word-unprefixed.ensures c.in_ok-gather_where.ensures)
    c.in_ok-gather_where-2.ensures
