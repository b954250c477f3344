-- Characters that composing leaves alone: those of which tables say nothing.
use Rattle.std.proofs.Common.{◌≡◌, ◌≢◌, ℕ, ◌<◌, ◌≤◌, ⊎_elim, List, [], ◌∷◌, length, slice_index, None, refl, ap, ◌∙◌, arith}
use Rattle.icu_normalizer_core.specs.BuiltIn.{syllable_of}
use Rattle.icu_normalizer_core.specs.Boundaries.{IsSteady}
use Rattle.icu_normalizer_core.specs.Canonical.{marks_in_order, put_in_order, recomposed}
use Rattle.icu_normalizer_core.specs.CanonicalLists.{CanonicalLists, canonical_of, listed_pair, pair_second}
use Rattle.icu_normalizer_core.specs.CanonicalWords.{class_of_word, full_of_word}
use Rattle.icu_normalizer_core.specs.Plain.{IsPlain}
use Rattle.icu_normalizer_core.proofs.accepted.AcceptedPairs.{listed_entry, cases_option}
use Rattle.icu_normalizer_core.proofs.built.BuiltInFacts.{syllable_pair}
use Rattle.icu_normalizer_core.proofs.composed.CompositionLemmas.{composed_one, recomposed_starter, composing_end}
use Rattle.icu_normalizer_core.proofs.accepted.TableMeanings.{class_is, full_is, pair_listed}

-- what is no entry's second, and no vowel or trailing consonant of the jamo, is no pair's second
pub no_second : (lists : CanonicalLists) (d : ℕ) → ((i : ℕ) → i < length lists.pairs → pair_second (slice_index lists.pairs i) ≢ d)
    → (0x1161 ≤ d → 0x1200 ≤ d) → (a : ℕ) → (canonical_of lists).pair a d ≡ None
no_second lists d unlisted other a =
    ⊎_elim
    (λ none. pair_listed lists a d none
    ∙ ⊎_elim (λ e. e)
    (λ some. let entry = listed_entry lists.pairs a d some.0 some.1 in absurd (unlisted entry.index entry.inside entry.second))
    (cases_option (listed_pair lists.pairs a d)))
    (λ some. let pair = syllable_pair a d some.0 some.1 in let from = pair.from in let to = pair.to in let past = other from in absurd (omega (arith, to, past)))
    (cases_option (syllable_of a d))

-- ---- A character of which tables say nothing

zero_full : (scalars16 scalars24 : List ℕ) (c : ℕ) → full_of_word scalars16 scalars24 c 0 ≡ c ∷ []
unfolding full_of_word
zero_full scalars16 scalars24 c = refl

zero_class : (c : ℕ) → class_of_word c 0 ≡ 0
unfolding class_of_word
zero_class c = refl

one_in_order : (class : ℕ → ℕ) (c : ℕ) → marks_in_order class (c ∷ []) ≡ c ∷ []
unfolding marks_in_order put_in_order
one_in_order class c = refl

pub plain_steady : (lists : CanonicalLists) (c : ℕ) → IsPlain lists c → ((a : ℕ) → (canonical_of lists).pair a c ≡ None) → IsSteady (canonical_of lists) c
plain_steady lists c plain alone =
    let full = full_is lists c ∙ ap (full_of_word lists.scalars16 lists.scalars24 c) plain.1 ∙ zero_full lists.scalars16 lists.scalars24 c in
    let starter = class_is lists c ∙ ap (class_of_word c) plain.1 ∙ zero_class c in
    let sorted = ap (marks_in_order (canonical_of lists).class) full ∙ one_in_order (canonical_of lists).class c in
    let own = composed_one (canonical_of lists) c ∙ ap (recomposed (canonical_of lists)) sorted ∙ recomposed_starter (canonical_of lists) c [] starter ∙ composing_end (canonical_of lists) c in
    ((c, [], full, starter, alone), own)
