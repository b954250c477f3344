-- Lists of digits: which of two numbers is less, told by the digits.
use Rattle.std.proofs.Common.{◌≡◌, ℕ, ◌+◌, ◌*◌, ◌<◌, ◌≤◌, ◌==◌, List, [], ◌∷◌, length, refl, sym, ap, subst, ◌∙◌, ◌⊎◌, inl, inr, arith}
use Rattle.std.specs.List.{fold}
use Rattle.std.proofs.lemmas.Bool.{cond_both, eqb-true, eqb-false, cases_order}
use Rattle.icu_collator_core.specs.Numbers.{value_of, significant}

abbrev pub AreBelow : ℕ → List ℕ → Type 0
AreBelow limit [] = Unit {0}
AreBelow limit (x ∷ xs) = (x < limit) × AreBelow limit xs

-- digits, each below ten
abbrev pub AreDigits : List ℕ → Type 0
AreDigits ds = AreBelow 10 ds

-- digits of which the first isn't 0 unless it stands alone
abbrev pub AreSignificant : List ℕ → Type 0
AreSignificant [] = ⊥
AreSignificant (d ∷ []) = Unit {0}
AreSignificant (d ∷ e ∷ ds) = 0 < d

-- where two lists differ first, the one has the lower number
abbrev pub DiffersBelow : List ℕ → List ℕ → Type 0
DiffersBelow [] ys = ⊥
DiffersBelow (x ∷ xs) [] = ⊥
DiffersBelow (x ∷ xs) (y ∷ ys) = (x < y) ⊎ ((x ≡ y) × DiffersBelow xs ys)

-- fewer digits, or as many and a lower one where they differ first
abbrev pub IsBelow : List ℕ → List ℕ → Type 0
IsBelow xs ys = (length xs < length ys) ⊎ ((length xs ≡ length ys) × DiffersBelow xs ys)

-- the value of digits after others whose value is v
abbrev pub behind : ℕ → List ℕ → ℕ
behind v ds = fold (λ value d. value * 10 + d) v ds

-- as many digits after a lower value have a lower value, and fewer ones too
behind_lower : (m n : ℕ) (xs ys : List ℕ) → m < n → AreDigits xs → length xs ≤ length ys → behind m xs < behind n ys
behind_lower m n [] [] h hx l = h
behind_lower m n [] (y ∷ ys) h hx l = behind_lower m (n * 10 + y) [] ys (omega arith) tt (omega arith)
behind_lower m n (x ∷ xs) [] h hx l = absurd (omega arith)
behind_lower m n (x ∷ xs) (y ∷ ys) h hx l = behind_lower (m * 10 + x) (n * 10 + y) xs ys (let a = hx.0 in omega arith) hx.1 (omega arith)

differs_lower : (n : ℕ) (xs ys : List ℕ) → AreDigits xs → length xs ≡ length ys → DiffersBelow xs ys → behind n xs < behind n ys
differs_lower n [] ys hx l h = absurd h
differs_lower n (x ∷ xs) [] hx l h = absurd h
differs_lower n (x ∷ xs) (y ∷ ys) hx l (inl h) = behind_lower (n * 10 + x) (n * 10 + y) xs ys (omega arith) hx.1 (omega arith)
differs_lower n (x ∷ xs) (y ∷ ys) hx l (inr h) =
    subst (λ (d : ℕ). behind (n * 10 + x) xs < behind (n * 10 + d) ys) h.0 (differs_lower (n * 10 + x) xs ys hx.1 (omega arith) h.1)

longer_lower : (xs ys : List ℕ) → AreDigits xs → AreSignificant xs → AreSignificant ys → length xs < length ys → value_of xs < value_of ys
longer_lower [] ys hx r s l = absurd r
longer_lower (x ∷ xs) [] hx r s l = absurd s
longer_lower (x ∷ xs) (y ∷ []) hx r s l = absurd (omega arith)
longer_lower (x ∷ xs) (y ∷ z ∷ zs) hx r s l = behind_lower 0 (0 * 10 + y) (x ∷ xs) (z ∷ zs) (omega arith) hx (omega arith)

-- digits that are below others have a lower value
pub below_lower : (xs ys : List ℕ) → AreDigits xs → AreSignificant xs → AreSignificant ys → IsBelow xs ys → value_of xs < value_of ys
below_lower xs ys hx r s (inl l) = longer_lower xs ys hx r s l
below_lower xs ys hx r s (inr h) = differs_lower 0 xs ys hx h.0 h.1

-- of two lists of one length, one differs below the other, or they are the same
differs_cases : (xs ys : List ℕ) → length xs ≡ length ys → (xs ≡ ys) ⊎ (DiffersBelow xs ys ⊎ DiffersBelow ys xs)
differs_cases [] [] l = inl refl
differs_cases [] (y ∷ ys) l = absurd (omega arith)
differs_cases (x ∷ xs) [] l = absurd (omega arith)
differs_cases (x ∷ xs) (y ∷ ys) l =
    elim (cases_order x y) [
      | inl e ↦ elim (differs_cases xs ys (omega arith)) [
        | inl es ↦ inl (cc)
        | inr (inl h) ↦ inr (inl (inr (e, h)))
        | inr (inr h) ↦ inr (inr (inr (sym e, h)))
      ]
      | inr (inl h) ↦ inr (inl (inl h))
      | inr (inr h) ↦ inr (inr (inl h))
    ]

pub below_cases : (xs ys : List ℕ) → (xs ≡ ys) ⊎ (IsBelow xs ys ⊎ IsBelow ys xs)
below_cases xs ys =
    elim (cases_order (length xs) (length ys)) [
      | inl e ↦ elim (differs_cases xs ys e) [
        | inl same ↦ inl same
        | inr (inl h) ↦ inr (inl (inr (e, h)))
        | inr (inr h) ↦ inr (inr (inr (sym e, h)))
      ]
      | inr (inl h) ↦ inr (inl (inl h))
      | inr (inr h) ↦ inr (inr (inl h))
    ]

-- leading zeros tell nothing
pub significant_value : (ds : List ℕ) → value_of (significant ds) ≡ value_of ds
unfolding significant
significant_value [] = refl
significant_value (d ∷ []) = refl
significant_value (d ∷ e ∷ ds) =
    cond_both (d == 0) (significant (e ∷ ds)) (d ∷ e ∷ ds) (λ (w : List ℕ). value_of w ≡ value_of (d ∷ e ∷ ds))
    (λ z. let zero : d ≡ 0 = eqb-true d 0 z
    in let same : 0 ≡ 0 * 10 + d = omega arith
    in significant_value (e ∷ ds) ∙ ap (λ (n : ℕ). behind n (e ∷ ds)) same)
    (λ _. refl)

pub significant_digits : (ds : List ℕ) → AreDigits ds → AreDigits (significant ds)
unfolding significant
significant_digits [] h = tt
significant_digits (d ∷ []) h = h
significant_digits (d ∷ e ∷ ds) h =
    cond_both (d == 0) (significant (e ∷ ds)) (d ∷ e ∷ ds) AreDigits (λ _. significant_digits (e ∷ ds) h.1) (λ _. h)

pub significant_is : (d : ℕ) (ds : List ℕ) → AreSignificant (significant (d ∷ ds))
unfolding significant
significant_is d [] = tt
significant_is d (e ∷ ds) =
    cond_both (d == 0) (significant (e ∷ ds)) (d ∷ e ∷ ds) AreSignificant (λ _. significant_is e ds)
    (λ n. let ne = eqb-false d 0 n in omega arith)
