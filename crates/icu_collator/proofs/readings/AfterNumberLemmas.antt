-- What stands after a number is read alike after another, for no recorded prefix reaches into a number.
use Rattle.std.proofs.Common.{◌≡◌, ℕ, zero, suc, true, false, ◌||◌, leb, List, [], ◌∷◌, reverse, length, take, refl, sym, ap, ◌∙◌, ◌⊎◌, inl, inr, arith}
use Rattle.std.proofs.lemmas.Bool.Decides.{nat_tests}
use Rattle.std.proofs.lemmas.Bool.{or_cases, or_right, or_left}
use Rattle.std.proofs.lemmas.List.{reverse-append}
use Rattle.std.proofs.lemmas.List.Folds.{list_any-append}
use Rattle.icu_collator_core.specs.Collation.{Collation}
use Rattle.icu_collator_core.specs.Weights.{Weights}
use Rattle.icu_collator_core.specs.Elements.{placed_behind, behind_prefix}
use Rattle.icu_collator_core.specs.AlikeLists.{AreAlike}
use Rattle.icu_collator_core.proofs.readings.AlikeLemmas.{behind_alike}
use Rattle.icu_collator_core.proofs.readings.SamenessLemmas.{at_greatest_same}
use Rattle.icu_collator.specs.NumbersInTexts.{AreDigitsAlone, is_digit, holds_digit}

-- two lists that agree up to a digit in both
abbrev pub AgreeToDigit : Weights → List ℕ → List ℕ → Type 0
AgreeToDigit weights [] [] = Unit {0}
AgreeToDigit weights [] (b ∷ bs) = ⊥
AgreeToDigit weights (a ∷ as') [] = ⊥
AgreeToDigit weights (a ∷ as') (b ∷ bs) =
    ((is_digit weights a ≡ true) × (is_digit weights b ≡ true)) ⊎ ((a ≡ b) × AgreeToDigit weights as' bs)

take_agree : (weights : Weights) (n : ℕ) (xs ys : List ℕ) → AgreeToDigit weights xs ys → AgreeToDigit weights (take n xs) (take n ys)
take_agree weights zero xs ys h = tt
take_agree weights (suc n) [] [] h = tt
take_agree weights (suc n) [] (y ∷ ys) h = absurd h
take_agree weights (suc n) (x ∷ xs) [] h = absurd h
take_agree weights (suc n) (x ∷ xs) (y ∷ ys) (inl h) = inl h
take_agree weights (suc n) (x ∷ xs) (y ∷ ys) (inr h) = inr (h.0, take_agree weights n xs ys h.1)

leb_suc : (n m : ℕ) → leb (suc n) (suc m) ≡ leb n m
leb_suc n m = grind (arith, nat_tests)

-- a prefix of both is the same, or holds a digit in both
prefix_cases : (weights : Weights) (n : ℕ) (xs ys : List ℕ) → AgreeToDigit weights xs ys
    → ((take n xs ≡ take n ys) × (leb n (length xs) ≡ leb n (length ys)))
    ⊎ ((holds_digit weights (take n xs) ≡ true) × (holds_digit weights (take n ys) ≡ true))
prefix_cases weights zero xs ys h = inl (refl, grind (arith, nat_tests))
prefix_cases weights (suc n) [] [] h = inl (refl, refl)
prefix_cases weights (suc n) [] (y ∷ ys) h = absurd h
prefix_cases weights (suc n) (x ∷ xs) [] h = absurd h
prefix_cases weights (suc n) (x ∷ xs) (y ∷ ys) (inl h) =
    inr (or_left (is_digit weights x) (holds_digit weights (take n xs)) h.0, or_left (is_digit weights y) (holds_digit weights (take n ys)) h.1)
prefix_cases weights (suc n) (x ∷ xs) (y ∷ ys) (inr h) =
    elim (prefix_cases weights n xs ys h.1) [
      | inl same ↦ inl (cc (same.0, h.0), leb_suc n (length xs) ∙ same.1 ∙ sym (leb_suc n (length ys)))
      | inr held ↦ inr (or_right (is_digit weights x) (holds_digit weights (take n xs)) held.0, or_right (is_digit weights y) (holds_digit weights (take n ys)) held.1)
    ]

reverse_holds : (weights : Weights) (xs : List ℕ) → holds_digit weights xs ≡ true → holds_digit weights (reverse xs) ≡ true
reverse_holds weights [] h = h
reverse_holds weights (x ∷ xs) h =
    ap (holds_digit weights) (reverse-append (x ∷ []) xs)
    ∙ list_any-append (is_digit weights) (reverse xs) (x ∷ [])
    ∙ elim (or_cases (is_digit weights x) (holds_digit weights xs) h) [
      | inl e ↦ or_right (holds_digit weights (reverse xs)) (is_digit weights x || false) (or_left (is_digit weights x) false e)
      | inr e ↦ or_left (holds_digit weights (reverse xs)) (is_digit weights x || false) (reverse_holds weights xs e)
    ]

digit_behind : (collation : Collation) (c : ℕ) (xs ys : List ℕ) (n : ℕ) → AreDigitsAlone collation → AgreeToDigit collation.weights xs ys
    → behind_prefix collation.weights (record { character = c; before = xs }) n ≡ behind_prefix collation.weights (record { character = c; before = ys }) n
digit_behind collation c xs ys n a h =
    let weights = collation.weights
    in behind_alike weights c n xs ys (elim (prefix_cases weights n xs ys h) [
      | inl same ↦ inl same
      | inr held ↦ inr (a.prefixes (reverse (take n xs)) (c ∷ []) (reverse_holds weights (take n xs) held.0), a.prefixes (reverse (take n ys)) (c ∷ []) (reverse_holds weights (take n ys) held.1))
    ])

-- characters after lists that agree up to a digit are alike
pub placed_alike : (collation : Collation) (xs ys cs : List ℕ) → AreDigitsAlone collation → AgreeToDigit collation.weights xs ys
    → AreAlike collation.weights (placed_behind xs cs) (placed_behind ys cs)
unfolding placed_behind
placed_alike collation xs ys [] a h = tt
placed_alike collation xs ys (c ∷ cs) a h = (
  refl {a = c},
  at_greatest_same (behind_prefix collation.weights (record { character = c; before = xs })) (behind_prefix collation.weights (record { character = c; before = ys })) 3
      (λ k. digit_behind collation c xs ys k a h),
  placed_alike collation (take 3 (c ∷ xs)) (take 3 (c ∷ ys)) cs a (take_agree collation.weights 3 (c ∷ xs) (c ∷ ys) (inr (refl {a = c}, h))),
)
