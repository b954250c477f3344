use Rattle.std.proofs.Common.{◌≡◌, ℕ, ◌/◌, ◌<◌, [], slice_index, length, sym, subst, arith}
use Rattle.std.specs.Option.{unwrap_or}
use Rattle.icu_normalizer_core.specs.BuiltIn.{built_in_class}
use Rattle.icu_normalizer_core.specs.CanonicalMaps.{given_class}
use Rattle.icu_normalizer_core.specs.CharacterWords.{class_with, IsWordOf, IsListWord}
use Rattle.icu_normalizer_core.specs.Settled.{key_at}
use Rattle.icu_normalizer_core.specs.Canonical.{IsFree}
use Rattle.icu_normalizer_core.proofs.building.CharacterWordLemmas.{class_twice, free_unsyllable, index_got, mapped_word, unlisted_as}
use Rattle.icu_normalizer_core.proofs.builder.built_words.word_of.Goals as goal

pub returns-in-Some-clause-says : goal.returns-in-Some-clause-says
returns-in-Some-clause-says c =
    let at = c.in-Some.ensures.index in
    let inside : c.in-Some.index < length c.args.steps.now / 3 = let h = at.0 in omega arith in
    let key : key_at c.args.steps.now c.in-Some.index ≡ c.args.c = at.1 in
    let none : class_with c.args.classes.now.given.now c.args.c ≡ 0 = subst (λ (d : ℕ). class_with c.args.classes.now.given.now d ≡ 0) key (c.requires.starters c.in-Some.index inside) in
    let word : c.index.result.now ≡ slice_index c.args.lists.now.words.items c.in-Some.index =
    index_got c.args.lists.now.words.items c.in-Some.index c.index.result.now (omega (arith, c.requires.lists.count)) c.index.ensures in
    subst (λ (w : ℕ). IsWordOf (class_with c.args.classes.now.given.now c.args.c) c.args.steps.now c.args.lists.now.scalars24.items c.args.c w) (sym word)
    (mapped_word (class_with c.args.classes.now.given.now c.args.c) c.args.steps.now c.args.lists.now.scalars24.items c.args.c (slice_index c.args.lists.now.words.items c.in-Some.index) none
    (subst (λ (d : ℕ). IsFree d) key (c.requires.lists.free c.in-Some.index inside))
    (subst (λ (d : ℕ). IsListWord c.args.steps.now c.args.lists.now.scalars24.items d (slice_index c.args.lists.now.words.items c.in-Some.index)) key (c.requires.lists.each c.in-Some.index inside)))

pub returns-in-Some-clause-syllable : goal.returns-in-Some-clause-syllable
returns-in-Some-clause-syllable c = λ zero.
    let at = c.in-Some.ensures.index in
    let inside : c.in-Some.index < length c.args.steps.now / 3 = let h = at.0 in omega arith in
    free_unsyllable c.args.c (subst (λ (d : ℕ). IsFree d) at.1 (c.requires.lists.free c.in-Some.index inside))

pub returns-in-None-clause-says : goal.returns-in-None-clause-says
returns-in-None-clause-says c =
    unlisted_as (class_with c.args.classes.now.given.now c.args.c) c.args.steps.now c.args.lists.now.scalars24.items c.args.c c.unlisted_word.result c.in-None.ensures.index
    (subst (λ (k : ℕ). IsWordOf k [] c.args.lists.now.scalars24.items c.args.c c.unlisted_word.result) c.class_with.ensures (c.unlisted_word.ensures.says c.args.lists.now.scalars24.items))

pub unlisted_word-requires-clause-class : goal.unlisted_word-requires-clause-class
unlisted_word-requires-clause-class c =
    subst (λ (k : ℕ). unwrap_or (built_in_class c.args.c) k ≡ k) (sym c.class_with.ensures) (class_twice (built_in_class c.args.c) (given_class c.args.classes.now.given.now c.args.c))
