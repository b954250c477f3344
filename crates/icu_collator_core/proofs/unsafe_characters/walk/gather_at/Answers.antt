use Rattle.std.proofs.Common.{◌≡◌, ℕ, true, subst, sym, rules, ◌∙◌, ap}
use Rattle.std.specs.Char.{IsScalar}
use Rattle.icu_codepointtrie.specs.Slots.{value_at}
use Rattle.icu_normalizer_core.specs.BorrowedMeaning.{borrowed_meaning}
use Rattle.icu_collator_core.specs.TableMeaning.{TableWord, counting_word, word_at}
use Rattle.icu_collator_core.specs.UnsafeWords.{MakesUnsafeIn, WordMakesUnsafe, names_context}
use Rattle.icu_collator_core.specs.WeightLists.{Grows}
use Rattle.icu_collator_core.proofs.apart.GrowthLemmas.{grown_same}
use Rattle.icu_collator_core.proofs.checks.CheckedListLemmas.{word_same}
use Rattle.icu_collator_core.proofs.unsafe_characters.walk.gather_at.Goals as goal

pub returns : goal.returns
returns c =
    let canonical = borrowed_meaning c.args.canonical in
    let tables = c.args.tables.now in
    let source = c.args.source.now in
    let code = c.args.code in
    let before = c.args.characters.now.items in
    let after = c.gather_by_word.new.characters.items in
    let same : c.in-Some.c ≡ code = search rules in
    let scalar : IsScalar code = search rules in
    let word : c.get.result ≡ word_at source code = word_same c.get.result (value_at source.trie c.in-Some.c) c.get.ensures.value ∙ ap (word_at source) same in
    let names : names_context (word_at source code) ≡ true = ap names_context (sym word) ∙ sym c.names_context.ensures ∙ c.if-not-names_context.false in
    grown_same (WordMakesUnsafe (counting_word canonical tables code) code) (MakesUnsafeIn canonical tables source code) before after
    (λ d. (λ ties. (scalar, names, ties), λ ties. ties.2))
    (subst (λ (one : ℕ). Grows (WordMakesUnsafe (counting_word canonical tables one) one) before after) same
    (subst (λ (entry : TableWord). Grows (WordMakesUnsafe entry c.in-Some.c) before after) c.counting_word-entry.ensures.word c.in_ok-gather_by_word.ensures))
