use Rattle.std.proofs.Common.{◌≡◌, ℕ, true, sym, ap, ◌∙◌}
use Rattle.icu_normalizer_core.specs.CanonicalWords.{is_list_word, full_of_word}
use Rattle.icu_normalizer_core.proofs.full_lists.FullListLemmas.{full_listed}
use Rattle.icu_normalizer_core.proofs.canonical.canonical_words.Words.reading.Goals as goal

pub returns-in-Some : goal.returns-in-Some
returns-in-Some c =
    let is : is_list_word c.word-word.result ≡ true = sym c.is_list_word.ensures ∙ c.if-is_list_word.true in
    let full = ap (λ (w : ℕ). full_of_word c.args.self.scalars16.now c.args.self.scalars24.now c.args.c w) (sym c.word-word.ensures.word)
    ∙ full_listed c.args.self.scalars16.now c.args.self.scalars24.now c.args.c c.word-word.result is in
    full ∙ c.in-Some.ensures
