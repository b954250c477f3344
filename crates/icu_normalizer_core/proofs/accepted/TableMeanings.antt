-- What tables mean, part by part.
use Rattle.std.proofs.Common.{◌≡◌, ℕ, List, Option, None, Some, true, refl, ap}
use Rattle.std.specs.Option.{unwrap_or}
use Rattle.icu_normalizer_core.specs.BuiltIn.{built_in_step, syllable_of}
use Rattle.icu_normalizer_core.specs.CanonicalWords.{class_of_word, full_of_word, is_word}
use Rattle.icu_normalizer_core.specs.CanonicalLists.{CanonicalLists, canonical_of, step_in, listed_step, listed_pair}

pub class_is : (lists : CanonicalLists) (c : ℕ) → (canonical_of lists).class c ≡ class_of_word c (lists.word c)
unfolding canonical_of
class_is lists c = refl

-- the word 0 has one of the forms
pub zero_form : (c : ℕ) → is_word c 0 ≡ true
unfolding is_word
zero_form c = refl

pub full_is : (lists : CanonicalLists) (c : ℕ) → (canonical_of lists).full c ≡ full_of_word lists.scalars16 lists.scalars24 c (lists.word c)
unfolding canonical_of
full_is lists c = refl

pub step_built_in : (lists : CanonicalLists) (c : ℕ) (ds : List ℕ) → built_in_step c ≡ Some ds → (canonical_of lists).step c ≡ ds
unfolding canonical_of step_in
step_built_in lists c ds e = ap (λ (o : Option (List ℕ)). unwrap_or o (listed_step lists.steps c)) e

pub step_free : (lists : CanonicalLists) (c : ℕ) → built_in_step c ≡ None → (canonical_of lists).step c ≡ listed_step lists.steps c
unfolding canonical_of step_in
step_free lists c e = ap (λ (o : Option (List ℕ)). unwrap_or o (listed_step lists.steps c)) e

abbrev pair_from : CanonicalLists → ℕ → ℕ → Option ℕ → Option ℕ
pair_from lists a b o = elim o [ Some c ↦ Some c | None ↦ listed_pair lists.pairs a b ]

pub pair_syllable : (lists : CanonicalLists) (a b c : ℕ) → syllable_of a b ≡ Some c → (canonical_of lists).pair a b ≡ Some c
unfolding canonical_of
pair_syllable lists a b c e = ap (pair_from lists a b) e

pub pair_listed : (lists : CanonicalLists) (a b : ℕ) → syllable_of a b ≡ None → (canonical_of lists).pair a b ≡ listed_pair lists.pairs a b
unfolding canonical_of
pair_listed lists a b e = ap (pair_from lists a b) e

pub step_is : (lists : CanonicalLists) → (canonical_of lists).step ≡ step_in lists.steps
unfolding canonical_of
step_is lists = refl

pub step_in_built_in : (steps : List ℕ) (c : ℕ) (ds : List ℕ) → built_in_step c ≡ Some ds → step_in steps c ≡ ds
unfolding step_in
step_in_built_in steps c ds e = ap (λ (o : Option (List ℕ)). unwrap_or o (listed_step steps c)) e

pub step_in_free : (steps : List ℕ) (c : ℕ) → built_in_step c ≡ None → step_in steps c ≡ listed_step steps c
unfolding step_in
step_in_free steps c e = ap (λ (o : Option (List ℕ)). unwrap_or o (listed_step steps c)) e
