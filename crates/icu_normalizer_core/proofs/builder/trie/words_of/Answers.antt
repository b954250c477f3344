use Rattle.std.proofs.Common.{ℕ, ◌≤◌, List, [], ◌∷◌, ◌++◌, take, sym, ap, subst, ◌∙◌}
use Rattle.std.proofs.lemmas.List.{take_more}
use Rattle.icu_normalizer_core.specs.CharacterWords.{HasWords, IsWordOf, class_with}
use Rattle.icu_normalizer_core.proofs.building.BuiltTableLemmas.{scalar_bound}
use Rattle.icu_normalizer_core.proofs.building.CharacterWordLemmas.{index_got}
use Rattle.icu_normalizer_core.proofs.building.WordMapLemmas.{words_more, words_none}
use Rattle.icu_normalizer_core.proofs.builder.trie.words_of.Goals as goal

pub loop-c-init : goal.loop-c-init
loop-c-init c =
    words_none (λ x word. IsWordOf (class_with c.args.classes.now.given.now x) c.args.steps.now c.args.lists.now.scalars24.items x word) c.in_ok-words.words c.in_ok-words.ensures

pub loop-c-preserved : goal.loop-c-preserved
loop-c-preserved c =
    let done : List ℕ = take c.loop-c.c-index c.args.characters.now in
    let bound : c.c-item.result ≤ 0x10_FFFF =
    subst (λ (x : ℕ). x ≤ 0x10_FFFF) (sym c.c-item.is) (scalar_bound _ (c.requires.scalars c.loop-c.c-index c.c-item.result c.loop-c-test.true)) in
    let IsRight : ℕ → ℕ → Type 0 = λ x word. IsWordOf (class_with c.args.classes.now.given.now x) c.args.steps.now c.args.lists.now.scalars24.items x word in
    subst (λ (ns : List ℕ). HasWords c.args.classes.now.given.now c.args.steps.now c.args.lists.now.scalars24.items ns c.set_word.new.words)
    (sym (take_more c.args.characters.now c.loop-c.c-index 0 c.loop-c-test.true ∙ ap (λ (x : ℕ). done ++ x ∷ []) (sym (index_got c.args.characters.now c.loop-c.c-index c.c-item.result c.loop-c-test.true c.c-item.is))))
    (words_more IsRight done c.loop-c.words c.set_word.new.words c.c-item.result c.word_of-word.result
    c.loop-c.invariant bound c.set_word.ensures c.word_of-word.ensures.says c.word_of-word.ensures.syllable)
