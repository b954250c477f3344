-- The composed pairs of the table of letters.
use Rattle.std.proofs.Common.{◌≡◌, ℕ, ◌+◌, ◌-◌, ◌*◌, ◌%◌, ◌/◌, ◌<◌, ◌≤◌, true, false, List, [], ◌∷◌, ◌++◌, refl, sym, subst, ◌==◌, ◌&&◌, ◌⊎◌, inl, inr, arith, Option, Some, None}
use Rattle.std.specs.Prelude.{◌≢◌, IfSome}
use Rattle.std.proofs.lemmas.Bool.{cond_both}
use Rattle.std.proofs.lemmas.Bool.Decides.{nat_tests}
use Rattle.std.proofs.Math.Utf8.{low_scalar}
use Rattle.std.specs.Char.{IsScalar}
use Rattle.icu_normalizer_core.specs.BuiltIn.{built_in_step, built_in_compatibility_step, built_in_class, is_open_syllable, is_syllable, is_within, singled_out, syllable_of}
use Rattle.icu_normalizer_core.specs.Canonical.{IsComposing, IsCanonical, composed, composing, decomposed, marks_in_order, put_in_order, recomposed}
use Rattle.examples_icu_collator.specs.Tables.{class_of, step_of, pair_of, expanded, composed_by, first_found}
use Rattle.examples_icu_collator.specs.LetterTables.{letters_table}
use Rattle.examples_icu_collator.proofs.LettersLemmas.{letters_class, letters_step, letters_full, by_full, letters_is_decomposing, open_step, closed_step}
use Rattle.examples_icu_collator.specs.Letters.{letters}

abbrev letters_pair : ℕ → ℕ → Option ℕ
letters_pair = letters.pair

-- what the lines compose
abbrev own_pair : ℕ → ℕ → Option ℕ
own_pair a b = first_found (composed_by a b) letters_table.mappings

-- what composes: two jamo, an open syllable and a trailing jamo, or "a" and an acute or a dot below
abbrev IsPair : ℕ → ℕ → ℕ → Type 0
IsPair a b c =
    ((0x1100 ≤ a) × (a ≤ 0x1112) × (0x1161 ≤ b) × (b ≤ 0x1175) × (c ≡ 0xac00 + ((a - 0x1100) * 21 + (b - 0x1161)) * 28))
    ⊎ (((0xac00 ≤ a) × (a ≤ 0xd7a3) × ((a - 0xac00) % 28 ≡ 0) × (0x11a8 ≤ b) × (b ≤ 0x11c2) × (c ≡ a + (b - 0x11a7)))
    ⊎ (((a ≡ 0x61) × (b ≡ 0x301) × (c ≡ 0xe1)) ⊎ ((a ≡ 0x61) × (b ≡ 0x323) × (c ≡ 0x1ea1))))

syllable_pair : (a b c : ℕ) → syllable_of a b ≡ Some c → IsPair a b c
unfolding syllable_of
syllable_pair a b c =
    cond_both (is_within 0x1100 0x1112 a && is_within 0x1161 0x1175 b) _ _ (λ o. o ≡ Some c → IsPair a b c)
    (λ t e. inl (grind (arith, nat_tests), grind (arith, nat_tests), grind (arith, nat_tests), grind (arith, nat_tests), cc))
    (λ _. cond_both (is_open_syllable a && is_within 0x11a8 0x11c2 b) _ _ (λ o. o ≡ Some c → IsPair a b c)
    (λ t e. inr (inl (grind (arith, nat_tests), grind (arith, nat_tests), grind (arith, nat_tests), grind (arith, nat_tests), grind (arith, nat_tests), cc)))
    (λ _ e. cc))

accented_pair : (a b c : ℕ) → own_pair a b ≡ Some c → ((a ≡ 0x61) × (b ≡ 0x301) × (c ≡ 0xe1)) ⊎ ((a ≡ 0x61) × (b ≡ 0x323) × (c ≡ 0x1ea1))
unfolding built_in_step built_in_compatibility_step singled_out
accented_pair a b c h = grind (arith, nat_tests)

either_pair : (a b c : ℕ) (o : Option ℕ) → (o ≡ Some c → IsPair a b c)
    → elim o as (λ _. Option ℕ) [ Some z ↦ Some z | None ↦ own_pair a b ] ≡ Some c → IsPair a b c
either_pair a b c (Some z) h e = h e
either_pair a b c None h e = inr (inr (accented_pair a b c e))

letters_pair_is : (a b c : ℕ) → letters_pair a b ≡ Some c → IsPair a b c
unfolding pair_of
letters_pair_is a b c = either_pair a b c (syllable_of a b) (syllable_pair a b c)

accented_step : (letters_step 0xe1 ≡ 0x61 ∷ 0x301 ∷ []) × (letters_step 0x1ea1 ≡ 0x61 ∷ 0x323 ∷ [])
unfolding step_of built_in_step built_in_compatibility_step singled_out
accented_step = (refl, refl)

letters_mapped : (a b c : ℕ) → letters_pair a b ≡ Some c → letters_step c ≡ a ∷ b ∷ []
letters_mapped a b c h =
    elim (letters_pair_is a b c h) [
      | inl (la, ha, lb, hb, e) ↦
          let s : is_syllable c ≡ true = grind (arith, nat_tests)
          in let first : 0x1100 + (c - 0xac00) / 588 ≡ a = omega arith
          in let second : 0x1161 + (c - 0xac00) % 588 / 28 ≡ b = omega arith
          in cc (open_step c s (omega arith), first, second)
      | inr (inl (la, ha, z, lb, hb, e)) ↦
          let low : 0xac00 ≤ c = omega arith
          in let high : c ≤ 0xd7a3 = omega arith
          in let s : is_syllable c ≡ true = grind (arith, nat_tests)
          in let ne : (c - 0xac00) % 28 ≢ 0 = omega arith
          in let first : c - (c - 0xac00) % 28 ≡ a = omega arith
          in let second : 0x11a7 + (c - 0xac00) % 28 ≡ b = omega arith
          in cc (closed_step c s ne, first, second)
      | inr (inr (inl (ea, eb, e))) ↦ cc accented_step.0
      | inr (inr (inr (ea, eb, e))) ↦ cc accented_step.1
    ]

letters_pair_scalars : (a b c : ℕ) → letters_pair a b ≡ Some c → IsScalar c
letters_pair_scalars a b c h =
    elim (letters_pair_is a b c h) [
      | inl (la, ha, lb, hb, e) ↦ low_scalar c (omega arith)
      | inr (inl (la, ha, z, lb, hb, e)) ↦ low_scalar c (omega arith)
      | inr (inr (inl (ea, eb, e))) ↦ low_scalar c (omega arith)
      | inr (inr (inr (ea, eb, e))) ↦ low_scalar c (omega arith)
    ]

letters_uncomposed : (a b c : ℕ) → letters_pair a b ≡ Some c → singled_out c ≡ None
unfolding singled_out
letters_uncomposed a b c h =
    elim (letters_pair_is a b c h) [
      | inl (la, ha, lb, hb, e) ↦ grind (arith, nat_tests)
      | inr (inl (la, ha, z, lb, hb, e)) ↦ grind (arith, nat_tests)
      | inr (inr (inl (ea, eb, e))) ↦ grind (arith, nat_tests)
      | inr (inr (inr (ea, eb, e))) ↦ grind (arith, nat_tests)
    ]

letters_seconds : (a b c : ℕ) → letters_pair a b ≡ Some c → 0x300 ≤ b
letters_seconds a b c h =
    elim (letters_pair_is a b c h) [ inl x ↦ omega arith | inr (inl x) ↦ omega arith | inr (inr (inl x)) ↦ omega arith | inr (inr (inr x)) ↦ omega arith ]

letters_syllables : (a b : ℕ) → IfSome (syllable_of a b) (λ c. letters_pair a b ≡ Some c)
unfolding pair_of
letters_syllables a b =
    elim (syllable_of a b) as (λ o. IfSome o (λ c. elim o as (λ _. Option ℕ) [ Some z ↦ Some z | None ↦ own_pair a b ] ≡ Some c)) [
      | None ↦ tt
      | Some c ↦ refl
    ]

letters_jamo : (a b c : ℕ) → letters_pair a b ≡ Some c → syllable_of a b ≡ None → is_within 0x1161 0x11ff b ≡ false
unfolding pair_of
letters_jamo a b c h e =
    let is = subst (λ (o : Option ℕ). elim o as (λ _. Option ℕ) [ Some z ↦ Some z | None ↦ own_pair a b ] ≡ Some c) e h
    in elim (accented_pair a b c is) [ inl parts ↦ grind (arith, nat_tests) | inr parts ↦ grind (arith, nat_tests) ]

pub letters_low_starters : (c : ℕ) → c < 0x300 → letters_class c ≡ 0
unfolding class_of built_in_class
letters_low_starters c h = grind (arith, nat_tests)

letters_low_steps : (c : ℕ) → c < 0x300 → (c ≡ 0xe1) ⊎ (letters_step c ≡ [])
unfolding step_of built_in_step built_in_compatibility_step singled_out
letters_low_steps c h = grind (arith, nat_tests)

pub letters_unmapped : (c : ℕ) → c < 0xc0 → letters_step c ≡ []
letters_unmapped c h = elim (letters_low_steps c (omega arith)) [ inl e ↦ absurd (omega arith) | inr e ↦ e ]

pub letters_full_unmapped : (c : ℕ) → c < 0x300 → letters_step c ≡ [] → letters_full c ≡ c ∷ []
letters_full_unmapped c h e =
    by_full (λ (ds : List ℕ). ds ≡ c ∷ []) c
    (λ _. subst (λ (ds : List ℕ). elim ds as (λ _. List ℕ) [ [] ↦ c ∷ [] | d ∷ ds ↦ d ∷ ds ] ≡ c ∷ []) (sym e) refl)
    (λ s _. let low : 0xac00 ≤ c = grind (arith, nat_tests) in absurd (omega arith))

recomposed_alone : (c : ℕ) → recomposed letters (c ∷ []) ≡ c ∷ []
unfolding recomposed composing
recomposed_alone c = cond_both (letters_class c == 0) _ _ (λ (ds : List ℕ). ds ≡ c ∷ []) (λ _. refl) (λ _. refl)

own_unmapped : (c : ℕ) → letters_full c ≡ c ∷ [] → composed letters (c ∷ []) ≡ c ∷ []
unfolding composed decomposed marks_in_order put_in_order
own_unmapped c e =
    subst (λ (ds : List ℕ). recomposed letters (marks_in_order letters_class (ds ++ [])) ≡ c ∷ []) (sym e) (recomposed_alone c)

own_accented : composed letters (0xe1 ∷ []) ≡ 0xe1 ∷ []
unfolding composed composing decomposed marks_in_order put_in_order recomposed expanded pair_of step_of class_of built_in_step built_in_compatibility_step built_in_class singled_out syllable_of
own_accented = refl

letters_own : (c : ℕ) → c < 0x300 → composed letters (c ∷ []) ≡ c ∷ []
letters_own c h =
    elim (letters_low_steps c h) [
      | inl e ↦ subst (λ (d : ℕ). composed letters (d ∷ []) ≡ d ∷ []) (sym e) own_accented
      | inr e ↦ own_unmapped c (letters_full_unmapped c h e)
    ]

letters_is_composing : IsComposing letters
letters_is_composing =
    record {
      syllables = letters_syllables;
      mapped = letters_mapped;
      scalars = letters_pair_scalars;
      uncomposed = letters_uncomposed;
      seconds = letters_seconds;
      letters = letters_jamo;
      starters = letters_low_starters;
      own = letters_own;
      unmapped = letters_unmapped;
    }

-- these data meet what canonical data promise
pub letters_is_canonical : IsCanonical letters
letters_is_canonical = record { decomposing = letters_is_decomposing; composing = letters_is_composing }
