use Rattle.std.proofs.Common.{◌≡◌, ℕ, All, true, sym, subst, ap, ◌∙◌}
use Rattle.std.specs.Char.{IsScalar}
use Rattle.icu_normalizer_core.specs.CanonicalWords.{is_list_word, full_of_word}
use Rattle.icu_normalizer_core.proofs.full_lists.FullListLemmas.{full_listed}
use Rattle.icu_normalizer_core.proofs.canonical.canonical_words.Words.full_list.Goals as goal

pub listed-requires-clause-scalars : goal.listed-requires-clause-scalars
listed-requires-clause-scalars c =
    let is : is_list_word c.word-word.result ≡ true = sym c.is_list_word.ensures ∙ c.if-is_list_word.true in
    let full = ap (λ (w : ℕ). full_of_word c.args.self.scalars16.now c.args.self.scalars24.now c.args.c w) (sym c.word-word.ensures.word)
    ∙ full_listed c.args.self.scalars16.now c.args.self.scalars24.now c.args.c c.word-word.result is in
    subst (All IsScalar) full c.requires

pub returns-then-is_list_word : goal.returns-then-is_list_word
returns-then-is_list_word c =
    let is : is_list_word c.word-word.result ≡ true = sym c.is_list_word.ensures ∙ c.if-is_list_word.true in
    let full = ap (λ (w : ℕ). full_of_word c.args.self.scalars16.now c.args.self.scalars24.now c.args.c w) (sym c.word-word.ensures.word)
    ∙ full_listed c.args.self.scalars16.now c.args.self.scalars24.now c.args.c c.word-word.result is in
    c.listed.ensures ∙ sym full

pub returns-else-is_list_word : goal.returns-else-is_list_word
returns-else-is_list_word c =
    c.stated.ensures
    ∙ ap (λ (w : ℕ). full_of_word c.args.self.scalars16.now c.args.self.scalars24.now c.args.c w) c.word-word.ensures.word
