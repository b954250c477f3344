-- words that give options, one after another
use Rattle.std.proofs.Common.{◌≡◌, ◌≢◌, ℕ, ◌+◌, ◌≤◌, ◌<◌, true, false, cond, List, [], ◌∷◌, ◌++◌, length, take, drop, get_or, map, bytes_eq, refl, sym, ap, ◌∙◌, subst, arith}
use Rattle.std.specs.List.{count_by}
use Rattle.std.specs.List.Sorted.{IsPermutation}
use Rattle.std.proofs.lemmas.List.{get_or-map, length-map, map-append, take_more}
use Rattle.std.proofs.lemmas.List.Sorted.{IsPermutation-cons, IsPermutation-refl, IsPermutation-sym, IsPermutation-to_front, IsPermutation-trans, sum_by-IsPermutation}
use Rattle.std.proofs.lemmas.List.Sums.{count_by_more_yes, sum_by-take-drop}
use Rattle.std.proofs.lemmas.Slice.Eq.{bytes_eq-Decides}
use Rattle.icu_collator_types.specs.declared.options.CaseLevel.TheVariants.{Off}
use Rattle.collate_choice.specs.GivenOptions.{AreWordsOf, given_options, has_value, with_value}
use Rattle.collate_choice.specs.OptionWords.{option_word}
use Rattle.collate_choice.specs.declared.given.GivenOptions.{GivenOptions}
use Rattle.collate_choice.specs.declared.option_words.GivenOption.{GivenOption}
use Rattle.collate_choice.specs.declared.option_words.GivenOption.TheVariants.{GivenCaseLevel}
use Rattle.collate_choice.proofs.ChoiceGivenLemmas.{with_value-given}
use Rattle.collate_choice.proofs.ChoiceNameLemmas.{count-words, is_same_option, is_word_for, name_in-word, one-at-most, one-given, option_name}

-- no words give no option
pub no-words : (given : GivenOptions) → given_options given ≡ [] → AreWordsOf given []
no-words given none = record { options = []; words_are = refl; in_any_order = rw none (IsPermutation-refl []) }

module _ (words : List (List ℕ)) (index : ℕ) (within : index < length words) (option : GivenOption) (is : get_or words index [] ≡ option_word option) where
  -- a word more
  pub words-more : (given : GivenOptions) → has_value given option ≡ false → AreWordsOf given (take index words) → AreWordsOf (with_value given option) (take (index + 1) words)
  words-more given new before =
      let options = before.options in
      let more = given_options (with_value given option) in
      record {
        options = options ++ option ∷ [];
        words_are =
            take_more words index [] within
            ∙ ap (λ (front : List (List ℕ)). front ++ get_or words index [] ∷ []) before.words_are
            ∙ ap (λ (word : List ℕ). map option_word options ++ word ∷ []) is
            ∙ sym (map-append option_word options (option ∷ []));
        in_any_order =
            IsPermutation-trans more (option ∷ given_options given) (options ++ option ∷ [])
            (with_value-given given option new)
            (IsPermutation-trans (option ∷ given_options given) (option ∷ options) (options ++ option ∷ [])
            (IsPermutation-cons option (given_options given) options before.in_any_order)
            (IsPermutation-sym (options ++ option ∷ []) (option ∷ options) (IsPermutation-to_front options option)));
      }

  passes : is_word_for option (get_or words index []) ≡ true
  passes = rw (is, name_in-word option) ((bytes_eq-Decides (option_name option) (option_name option)).1 refl)

  -- how often these words have the name of the option is how often the options that they give do
  counted : (given : GivenOptions) (front : List (List ℕ)) → AreWordsOf given front → count_by (is_word_for option) front ≡ count_by (is_same_option option) (given_options given)
  counted given front h =
      ap (count_by (is_word_for option)) h.words_are ∙ count-words option h.options ∙ sum_by-IsPermutation (λ (other : GivenOption). cond (is_same_option option other) 1 0) (given_options given) h.options h.in_any_order

  -- a second word for an option
  pub words-twice : (given : GivenOptions) → has_value given option ≡ true → AreWordsOf given (take index words) → (all : GivenOptions) → AreWordsOf all words → ⊥
  words-twice given held before all whole =
      let test = is_word_for option in
      omega (
        arith,
        count_by_more_yes test words index [] within passes,
        sum_by-take-drop (λ (word : List ℕ). cond (test word) 1 0) words (index + 1),
        counted given (take index words) before,
        one-given given option held,
        counted all words whole,
        one-at-most all option,
      )

-- a word that gives no option
pub words-other : (words : List (List ℕ)) (index : ℕ) → index < length words → ((option : GivenOption) → get_or words index [] ≢ option_word option) → (all : GivenOptions) → AreWordsOf all words → ⊥
words-other words index within none all whole =
    let some = GivenCaseLevel Off in
    let size : length words ≡ length whole.options = ap length whole.words_are ∙ length-map whole.options option_word in
    let inside : index < length whole.options = omega (arith, size) in
    none (get_or whole.options index some)
    (ap (λ (ws : List (List ℕ)). get_or ws index []) whole.words_are ∙ get_or-map option_word whole.options index some [] inside)
