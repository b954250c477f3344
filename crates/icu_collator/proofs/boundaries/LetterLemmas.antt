-- The letters of two Hangul syllables, and which differ first.
use Rattle.std.proofs.Common.{◌≡◌, ◌≢◌, ℕ, ◌+◌, ◌-◌, ◌≤◌, leb, ◌/◌, ◌%◌, ◌==◌, true, cond, List, [], ◌∷◌, refl, sym, ap, ◌∙◌, arith}
use Rattle.std.proofs.lemmas.Bool.{and_parts, cond-false, leb-true, ne_eqb}
use Rattle.icu_normalizer_core.specs.BuiltIn.{is_syllable}
use Rattle.icu_normalizer_core.specs.CanonicalWords.{syllable_letters}
use Rattle.icu_collator.specs.Syllables.{DifferInLetters}

abbrev pub leading : ℕ → ℕ
leading c = 0x1100 + (c - 0xac00) / 588

abbrev pub vowel : ℕ → ℕ
vowel c = 0x1161 + (c - 0xac00) % 588 / 28

abbrev pub trailing : ℕ → ℕ
trailing c = 0x11a7 + (c - 0xac00) % 28

-- a trailing consonant, if the syllable has one
abbrev behind_vowel : ℕ → List ℕ
behind_vowel c = cond (((c - 0xac00) % 28) == 0) [] (trailing c ∷ [])

letters_are : (c : ℕ) → syllable_letters c ≡ leading c ∷ vowel c ∷ behind_vowel c
unfolding syllable_letters
letters_are c = refl

syllable_bounds : (c : ℕ) → is_syllable c ≡ true → (0xac00 ≤ c) × (c ≤ 0xd7a3)
syllable_bounds c e = let both = and_parts (leb 0xac00 c) (leb c 0xd7a3) e in (leb-true 0xac00 c both.0, leb-true c 0xd7a3 both.1)

module _ (c d x y : ℕ) (left : is_syllable c ≡ true) (right : is_syllable d ≡ true) where
  pub leading_differ : x ≡ leading c → y ≡ leading d → leading c ≢ leading d → DifferInLetters c d x y
  leading_differ e f ne =
      record {
        left_syllable = left;
        right_syllable = right;
        front = [];
        left_rest = vowel c ∷ behind_vowel c;
        right_rest = vowel d ∷ behind_vowel d;
        left_is = letters_are c ∙ ap (λ (l : ℕ). l ∷ vowel c ∷ behind_vowel c) (sym e);
        right_is = letters_are d ∙ ap (λ (l : ℕ). l ∷ vowel d ∷ behind_vowel d) (sym f);
        differ = λ same. absurd (ne (sym e ∙ same ∙ f));
      }

  pub vowels_differ : x ≡ vowel c → y ≡ vowel d → leading c ≡ leading d → vowel c ≢ vowel d → DifferInLetters c d x y
  vowels_differ e f first ne =
      record {
        left_syllable = left;
        right_syllable = right;
        front = leading c ∷ [];
        left_rest = behind_vowel c;
        right_rest = behind_vowel d;
        left_is = letters_are c ∙ ap (λ (l : ℕ). leading c ∷ l ∷ behind_vowel c) (sym e);
        right_is = letters_are d ∙ ap (λ (l : ℕ). l ∷ vowel d ∷ behind_vowel d) (sym first) ∙ ap (λ (l : ℕ). leading c ∷ l ∷ behind_vowel d) (sym f);
        differ = λ same. absurd (ne (sym e ∙ same ∙ f));
      }

  -- syllables with the same letters are the same
  same_syllables : leading c ≡ leading d → vowel c ≡ vowel d → trailing c ≡ trailing d → c ≡ d
  same_syllables first second third =
      let r = syllable_bounds c left in let s = syllable_bounds d right in omega arith

  pub trailing_differ : x ≡ trailing c → y ≡ trailing d → leading c ≡ leading d → vowel c ≡ vowel d
      → (c - 0xac00) % 28 ≢ 0 → (d - 0xac00) % 28 ≢ 0 → DifferInLetters c d x y
  trailing_differ e f first second closed also =
      record {
        left_syllable = left;
        right_syllable = right;
        front = leading c ∷ vowel c ∷ [];
        left_rest = [];
        right_rest = [];
        left_is =
            letters_are c ∙ ap (λ (t : List ℕ). leading c ∷ vowel c ∷ t) (cond-false _ _ _ (ne_eqb _ _ closed)) ∙ ap (λ (l : ℕ). leading c ∷ vowel c ∷ l ∷ []) (sym e);
        right_is =
            letters_are d ∙ ap (λ (t : List ℕ). leading d ∷ vowel d ∷ t) (cond-false _ _ _ (ne_eqb _ _ also))
            ∙ ap (λ (l : ℕ). l ∷ vowel d ∷ trailing d ∷ []) (sym first) ∙ ap (λ (l : ℕ). leading c ∷ l ∷ trailing d ∷ []) (sym second)
            ∙ ap (λ (l : ℕ). leading c ∷ vowel c ∷ l ∷ []) (sym f);
        differ = λ same. same_syllables first second (sym e ∙ same ∙ f);
      }
