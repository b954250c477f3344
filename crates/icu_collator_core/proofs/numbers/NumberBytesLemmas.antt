-- The bytes of a number, and that lists of bytes order as the values do.
use Rattle.std.proofs.Common.{◌≡◌, ℕ, ◌+◌, ◌-◌, ◌*◌, ◌/◌, ◌%◌, ◌<◌, ◌≤◌, Bool, true, false, cond, ◌==◌, ltb, List, [], ◌∷◌, length, refl, sym, ap, subst, ◌∙◌, ◌⊎◌, inl, inr, arith}
use Rattle.std.proofs.lemmas.Bool.{cond_both, eqb-true, eqb-false, cases_lt}
use Rattle.std.proofs.lemmas.Bool.Decides.{nat_tests}
use Rattle.icu_collator_core.specs.Numbers.{value_of, pairs_of, elements_of_bytes, long_number, number_part}
use Rattle.icu_collator_core.specs.NumberBytes.{evened, long_bytes}
use Rattle.icu_collator_core.proofs.numbers.DigitLemmas.{AreBelow, AreDigits, AreSignificant, DiffersBelow, IsBelow, below_lower}
use Rattle.icu_collator_core.proofs.numbers.DigitPairLemmas.{IsLed, pairs_differ, pairs_below, bytes_differ, bytes_below}

-- the bytes after the lead, of a number of few digits and of any
two_bytes : ℕ → List ℕ
two_bytes w = (76 + w / 254) ∷ (2 + w % 254) ∷ []

three_bytes : ℕ → List ℕ
three_bytes x = (116 + x / 64516) ∷ (2 + x / 254 % 254) ∷ (2 + x % 254) ∷ []

pub number_bytes : List ℕ → List ℕ
number_bytes ds =
    let v = value_of ds
    in cond (ltb 7 (length ds)) (long_bytes ds)
    (cond (ltb v 74) ((2 + v) ∷ []) (cond (ltb (v - 74) 10160) (two_bytes (v - 74)) (cond (ltb (v - 10234) 1032256) (three_bytes (v - 10234)) (long_bytes ds))))

through_tests : {X Y : Type 0} (f : X → Y) (a b c d : Bool) (k l m n : X)
    → cond a (f k) (cond b (f l) (cond c (f m) (cond d (f n) (f k)))) ≡ f (cond a k (cond b l (cond c m (cond d n k))))
through_tests f true b c d k l m n = refl
through_tests f false true c d k l m n = refl
through_tests f false false true d k l m n = refl
through_tests f false false false true k l m n = refl
through_tests f false false false false k l m n = refl

-- the elements of a number are those of its bytes
pub part_is_bytes : (lead : ℕ) (ds : List ℕ) → number_part lead ds ≡ elements_of_bytes lead (number_bytes ds)
unfolding number_part number_bytes long_number elements_of_bytes long_bytes two_bytes three_bytes evened
part_is_bytes lead ds =
    through_tests (elements_of_bytes lead) (ltb 7 (length ds)) (ltb (value_of ds) 74) (ltb (value_of ds - 74) 10160) (ltb (value_of ds - 10234) 1032256) _ _ _ _

-- how a number is written goes by its value v: in one byte, two, three or many
abbrev IsOneOf : ℕ → List ℕ → List ℕ → List ℕ → List ℕ → List ℕ → Type 0
IsOneOf v bytes one two three many =
    ((v < 74) × (bytes ≡ one))
    ⊎ (((74 ≤ v) × (v < 10234) × (bytes ≡ two))
    ⊎ (((10234 ≤ v) × (v < 1042490) × (bytes ≡ three))
    ⊎ ((1042490 ≤ v) × (bytes ≡ many))))

one_of : (n v : ℕ) (bytes one two three many : List ℕ)
    → bytes ≡ cond (ltb 7 n) many (cond (ltb v 74) one (cond (ltb (v - 74) 10160) two (cond (ltb (v - 10234) 1032256) three many)))
    → (7 < n → 9999999 < v) → IsOneOf v bytes one two three many
one_of n v bytes one two three many e h =
    elim (cases_lt v 74) [
      | inl a ↦ inl (a, grind (arith, nat_tests))
      | inr a ↦ elim (cases_lt v 10234) [
        | inl b ↦ inr (inl (a, b, grind (arith, nat_tests)))
        | inr b ↦ elim (cases_lt v 1042490) [
          | inl c ↦ inr (inr (inl (b, c, grind (arith, nat_tests))))
          | inr c ↦ inr (inr (inr (c, grind (arith, nat_tests))))
        ]
      ]
    ]

eight_digits : (ds : List ℕ) → AreSignificant ds → 7 < length ds → 9999999 < value_of ds
eight_digits ds s l =
    let nine : 9 < 10 = omega arith
    in below_lower (9 ∷ 9 ∷ 9 ∷ 9 ∷ 9 ∷ 9 ∷ 9 ∷ []) ds (nine, (nine, (nine, (nine, (nine, (nine, (nine, tt))))))) (omega arith) s (inl l)

written : (ds : List ℕ) → AreSignificant ds
    → IsOneOf (value_of ds) (number_bytes ds) ((2 + value_of ds) ∷ []) (two_bytes (value_of ds - 74)) (three_bytes (value_of ds - 10234)) (long_bytes ds)
unfolding number_bytes
written ds s = one_of (length ds) (value_of ds) _ _ _ _ _ refl (eight_digits ds s)

-- the first digit of an even number of digits makes a pair that isn't 0
pairs_led : (ds : List ℕ) → AreSignificant ds → 1 < length ds → IsLed (pairs_of (evened ds))
unfolding pairs_of evened
pairs_led [] s l = absurd s
pairs_led (d ∷ []) s l = absurd (omega arith)
pairs_led (d ∷ e ∷ ds) s l =
    cond_both ((length (d ∷ e ∷ ds) % 2) == 0) (d ∷ e ∷ ds) (0 ∷ d ∷ e ∷ ds) (λ (w : List ℕ). IsLed (pairs_of w)) (λ _. omega arith) (λ _. omega arith)

evened_digits : (ds : List ℕ) → AreDigits ds → AreDigits (evened ds)
unfolding evened
evened_digits ds h = cond_both ((length ds % 2) == 0) ds (0 ∷ ds) AreDigits (λ _. h) (λ _. (omega arith, h))

evened_length : (ds : List ℕ) → length (evened ds) ≡ (length ds + 1) / 2 * 2
unfolding evened
evened_length ds =
    cond_both ((length ds % 2) == 0) ds (0 ∷ ds) (λ (w : List ℕ). length w ≡ (length ds + 1) / 2 * 2)
    (λ z. let zero = eqb-true (length ds % 2) 0 z in omega arith)
    (λ z. let one = eqb-false (length ds % 2) 0 z in omega arith)

-- digits that are below others and make as many pairs differ where they are made even
evened_differ : (xs ys : List ℕ) → AreSignificant ys → 1 < length ys → IsBelow xs ys → (length xs + 1) / 2 ≡ (length ys + 1) / 2 → DiffersBelow (evened xs) (evened ys)
unfolding evened
evened_differ xs [] s more h e = absurd s
evened_differ xs (y ∷ []) s more h e = absurd (omega arith)
evened_differ xs (y ∷ z ∷ zs) s more (inl h) e =
    cond_both ((length xs % 2) == 0) xs (0 ∷ xs) (λ (w : List ℕ). DiffersBelow w (evened (y ∷ z ∷ zs)))
    (λ a. let zero = eqb-true (length xs % 2) 0 a in absurd (omega arith))
    (λ a. cond_both ((length (y ∷ z ∷ zs) % 2) == 0) (y ∷ z ∷ zs) (0 ∷ y ∷ z ∷ zs) (DiffersBelow (0 ∷ xs)) (λ _. inl s)
    (λ b. let odd = eqb-false (length xs % 2) 0 a in let odd_too = eqb-false (length (y ∷ z ∷ zs) % 2) 0 b in absurd (omega arith)))
evened_differ xs (y ∷ z ∷ zs) s more (inr h) e =
    subst (λ (n : ℕ). DiffersBelow (evened xs) (cond ((n % 2) == 0) (y ∷ z ∷ zs) (0 ∷ y ∷ z ∷ zs))) h.0
    (cond_both ((length xs % 2) == 0) xs (0 ∷ xs) (λ (w : List ℕ). DiffersBelow w (cond ((length xs % 2) == 0) (y ∷ z ∷ zs) (0 ∷ y ∷ z ∷ zs)))
    (λ a. rw a h.1)
    (λ a. rw a (inr (refl, h.1))))

long_differ : (xs ys : List ℕ) → AreDigits xs → AreSignificant xs → AreSignificant ys → 1 < length xs → IsBelow xs ys → length xs ≤ length ys
    → DiffersBelow (long_bytes xs) (long_bytes ys)
unfolding long_bytes
long_differ xs ys hx r s more h l =
    elim (cases_lt ((length xs + 1) / 2) ((length ys + 1) / 2)) [
      | inl fewer ↦ inl (omega arith)
      | inr as_many ↦
          let same : (length xs + 1) / 2 ≡ (length ys + 1) / 2 = omega arith
          in let pairs = pairs_differ (evened xs) (evened ys) (evened_digits xs hx) (evened_differ xs ys s (omega arith) h same)
          (evened_length xs ∙ ap (λ (n : ℕ). n * 2) same ∙ sym (evened_length ys))
          in inr (ap (λ (n : ℕ). 128 + n) same, bytes_differ (pairs_of (evened xs)) (pairs_of (evened ys)) (pairs_led xs r more) pairs)
    ]

two_differ : (v w : ℕ) → v < w → DiffersBelow (two_bytes v) (two_bytes w)
unfolding two_bytes
two_differ v w h =
    elim (cases_lt (v / 254) (w / 254)) [
      | inl a ↦ inl (omega arith)
      | inr a ↦ inr (omega arith, inl (omega arith))
    ]

three_differ : (v w : ℕ) → v < w → DiffersBelow (three_bytes v) (three_bytes w)
unfolding three_bytes
three_differ v w h =
    elim (cases_lt (v / 64516) (w / 64516)) [
      | inl a ↦ inl (omega arith)
      | inr a ↦ elim (cases_lt (v / 254 % 254) (w / 254 % 254)) [
        | inl b ↦ inr (omega arith, inl (omega arith))
        | inr b ↦ inr (omega arith, inr (omega arith, inl (omega arith)))
      ]
    ]

seven_digits : (ds : List ℕ) → AreDigits ds → AreSignificant ds → 1042490 ≤ value_of ds → 6 < length ds
seven_digits ds h s v =
    elim (cases_lt 6 (length ds)) [
      | inl more ↦ more
      | inr few ↦ let least : value_of ds < 1000000 = below_lower ds (1 ∷ 0 ∷ 0 ∷ 0 ∷ 0 ∷ 0 ∷ 0 ∷ []) h s (omega arith) (inl (omega arith)) in absurd (omega arith)
    ]

differs_at : (bs cs ks ls : List ℕ) → bs ≡ ks → cs ≡ ls → DiffersBelow ks ls → DiffersBelow bs cs
differs_at bs cs ks ls e f h = rw (e, f) h

-- bytes of a number that isn't written in many
abbrev AreFew : List ℕ → Type 0
AreFew [] = ⊥
AreFew (b ∷ bs) = b < 132

few_differ : (bs ys : List ℕ) → AreFew bs → 6 < length ys → DiffersBelow bs (long_bytes ys)
unfolding long_bytes
few_differ [] ys h more = absurd h
few_differ (b ∷ bs) ys h more = inl (omega arith)

not_longer : (xs ys : List ℕ) → IsBelow xs ys → length xs ≤ length ys
not_longer xs ys (inl h) = omega arith
not_longer xs ys (inr h) = omega arith

-- the bytes of a number differ below those of a greater one
pub bytes_in_order : (xs ys : List ℕ) → AreDigits xs → AreDigits ys → AreSignificant xs → AreSignificant ys → IsBelow xs ys
    → DiffersBelow (number_bytes xs) (number_bytes ys)
unfolding two_bytes three_bytes
bytes_in_order xs ys hx hy r s h =
    let lower = below_lower xs ys hx r s h
    in let at = differs_at (number_bytes xs) (number_bytes ys)
    in let v = value_of xs
    in let w = value_of ys
    in elim (written xs r) [
      | inl (a, e) ↦ elim (written ys s) [
        | inl (b, f) ↦ at _ _ e f (inl (omega arith))
        | inr (inl (b, c, f)) ↦ at _ _ e f (inl (omega arith))
        | inr (inr (inl (b, c, f))) ↦ at _ _ e f (inl (omega arith))
        | inr (inr (inr (b, f))) ↦ at _ _ e f (few_differ ((2 + v) ∷ []) ys (omega arith) (seven_digits ys hy s b))
      ]
      | inr (inl (a, a2, e)) ↦ elim (written ys s) [
        | inl (b, f) ↦ absurd (omega arith)
        | inr (inl (b, c, f)) ↦ at _ _ e f (two_differ (v - 74) (w - 74) (omega arith))
        | inr (inr (inl (b, c, f))) ↦ at _ _ e f (inl (omega arith))
        | inr (inr (inr (b, f))) ↦ at _ _ e f (few_differ (two_bytes (v - 74)) ys (omega arith) (seven_digits ys hy s b))
      ]
      | inr (inr (inl (a, a2, e))) ↦ elim (written ys s) [
        | inl (b, f) ↦ absurd (omega arith)
        | inr (inl (b, c, f)) ↦ absurd (omega arith)
        | inr (inr (inl (b, c, f))) ↦ at _ _ e f (three_differ (v - 10234) (w - 10234) (omega arith))
        | inr (inr (inr (b, f))) ↦ at _ _ e f (few_differ (three_bytes (v - 10234)) ys (omega arith) (seven_digits ys hy s b))
      ]
      | inr (inr (inr (a, e))) ↦ elim (written ys s) [
        | inl (b, f) ↦ absurd (omega arith)
        | inr (inl (b, c, f)) ↦ absurd (omega arith)
        | inr (inr (inl (b, c, f))) ↦ absurd (omega arith)
        | inr (inr (inr (b, f))) ↦ at _ _ e f (long_differ xs ys hx r s (let seven = seven_digits xs hx r a in omega arith) h (not_longer xs ys h))
      ]
    ]

long_below : (ds : List ℕ) → AreDigits ds → length ds ≤ 254 → AreBelow 256 (long_bytes ds)
unfolding long_bytes
long_below ds h l = (omega arith, bytes_below (pairs_of (evened ds)) (pairs_below (evened ds) (evened_digits ds h)))

below_at : (bs ks : List ℕ) → bs ≡ ks → AreBelow 256 ks → AreBelow 256 bs
below_at bs ks e h = rw e h

-- they are bytes, where there are at most 254 digits
pub number_bytes_below : (ds : List ℕ) → AreDigits ds → AreSignificant ds → length ds ≤ 254 → AreBelow 256 (number_bytes ds)
unfolding two_bytes three_bytes
number_bytes_below ds h s l =
    elim (written ds s) [
      | inl (a, e) ↦ below_at (number_bytes ds) _ e (omega arith, tt)
      | inr (inl (a, b, e)) ↦ below_at (number_bytes ds) _ e (omega arith, (omega arith, tt))
      | inr (inr (inl (a, b, e))) ↦ below_at (number_bytes ds) _ e (omega arith, (omega arith, (omega arith, tt)))
      | inr (inr (inr (a, e))) ↦ below_at (number_bytes ds) _ e (long_below ds h l)
    ]
