-- Pairs of digits and their bytes keep the order of the digits.
use Rattle.std.proofs.Common.{◌≡◌, ℕ, ◌<◌, cond, ◌==◌, List, [], ◌∷◌, length, refl, subst, ◌⊎◌, inl, inr, arith}
use Rattle.std.proofs.lemmas.Bool.{cond_both, eqb-true}
use Rattle.icu_collator_core.specs.Numbers.{pairs_of, without_last_zeros, pair_bytes}
use Rattle.icu_collator_core.proofs.numbers.DigitLemmas.{AreBelow, AreDigits, DiffersBelow}

-- pairs differ where the digits do
pub pairs_differ : (xs ys : List ℕ) → AreDigits xs → DiffersBelow xs ys → length xs ≡ length ys → DiffersBelow (pairs_of xs) (pairs_of ys)
unfolding pairs_of
pairs_differ [] ys hx h l = absurd h
pairs_differ (x ∷ xs) [] hx h l = absurd h
pairs_differ (x ∷ []) (y ∷ []) hx (inl h) l = inl (omega arith)
pairs_differ (x ∷ []) (y ∷ []) hx (inr h) l = absurd h.1
pairs_differ (x ∷ []) (y ∷ e ∷ ys) hx h l = absurd (omega arith)
pairs_differ (x ∷ d ∷ xs) (y ∷ []) hx h l = absurd (omega arith)
pairs_differ (x ∷ d ∷ xs) (y ∷ e ∷ ys) hx (inl h) l = let second = hx.1.0 in inl (omega arith)
pairs_differ (x ∷ d ∷ xs) (y ∷ e ∷ ys) hx (inr (first, inl h)) l = inl (omega arith)
pairs_differ (x ∷ d ∷ xs) (y ∷ e ∷ ys) hx (inr (first, inr (second, h))) l =
    inr (omega arith, pairs_differ xs ys hx.1.1 h (omega arith))

pub pairs_below : (xs : List ℕ) → AreDigits xs → AreBelow 100 (pairs_of xs)
unfolding pairs_of
pairs_below [] h = tt
pairs_below (x ∷ []) h = let first = h.0 in (omega arith, tt)
pairs_below (x ∷ d ∷ xs) h = let first = h.0 in let second = h.1.0 in (omega arith, pairs_below xs h.1.1)

-- a pair before those that are left when the zeros at the end are gone
abbrev pub before_left : ℕ → List ℕ → List ℕ
before_left p s = elim s [ [] ↦ cond (p == 0) [] (p ∷ []) | q ∷ qs ↦ p ∷ q ∷ qs ]

abbrev IsFilled : List ℕ → Type 0
IsFilled [] = ⊥
IsFilled (p ∷ ps) = Unit {0}

-- nothing against something, or bytes that differ
abbrev AreToldApart : List ℕ → List ℕ → Type 0
AreToldApart s t = ((s ≡ []) × IsFilled t) ⊎ DiffersBelow (pair_bytes s) (pair_bytes t)

apart_behind : (p : ℕ) (s t : List ℕ) → AreToldApart s t → AreToldApart (before_left p s) (before_left p t)
unfolding pair_bytes
apart_behind p [] [] (inl h) = absurd h.1
apart_behind p [] [] (inr h) = absurd h
apart_behind p [] (b ∷ bs) h =
    cond_both (p == 0) [] (p ∷ []) (λ (w : List ℕ). AreToldApart w (p ∷ b ∷ bs)) (λ _. inl (refl, tt)) (λ _. inr (inl (omega arith)))
apart_behind p (a ∷ more) [] (inl h) = absurd h.1
apart_behind p (a ∷ []) [] (inr h) = absurd h
apart_behind p (a ∷ b ∷ more) [] (inr h) = absurd h
apart_behind p (a ∷ more) (b ∷ bs) (inl h) = cc
apart_behind p (a ∷ more) (b ∷ bs) (inr h) = inr (inr (refl, h))

apart_here : (p q : ℕ) (s t : List ℕ) → p < q → AreToldApart (before_left p s) (before_left q t)
unfolding pair_bytes
apart_here p q [] [] h =
    cond_both (q == 0) [] (q ∷ []) (λ (w : List ℕ). AreToldApart (cond (p == 0) [] (p ∷ [])) w)
    (λ z. let zero = eqb-true q 0 z in absurd (omega arith))
    (λ _. cond_both (p == 0) [] (p ∷ []) (λ (w : List ℕ). AreToldApart w (q ∷ [])) (λ _. inl (refl, tt)) (λ _. inr (inl (omega arith))))
apart_here p q [] (b ∷ bs) h =
    cond_both (p == 0) [] (p ∷ []) (λ (w : List ℕ). AreToldApart w (q ∷ b ∷ bs)) (λ _. inl (refl, tt)) (λ _. inr (inl (omega arith)))
apart_here p q (a ∷ more) [] h =
    cond_both (q == 0) [] (q ∷ []) (λ (w : List ℕ). AreToldApart (p ∷ a ∷ more) w)
    (λ z. let zero = eqb-true q 0 z in absurd (omega arith))
    (λ _. inr (inl (omega arith)))
apart_here p q (a ∷ more) (b ∷ bs) h = inr (inl (omega arith))

pairs_apart : (ps qs : List ℕ) → DiffersBelow ps qs → AreToldApart (without_last_zeros ps) (without_last_zeros qs)
unfolding without_last_zeros
pairs_apart [] qs h = absurd h
pairs_apart (p ∷ ps) [] h = absurd h
pairs_apart (p ∷ ps) (q ∷ qs) (inl h) = apart_here p q (without_last_zeros ps) (without_last_zeros qs) h
pairs_apart (p ∷ ps) (q ∷ qs) (inr (e, h)) =
    subst (λ (w : ℕ). AreToldApart (before_left p (without_last_zeros ps)) (before_left w (without_last_zeros qs))) e
    (apart_behind p (without_last_zeros ps) (without_last_zeros qs) (pairs_apart ps qs h))

left_filled : (p : ℕ) (s : List ℕ) → 0 < p → before_left p s ≡ [] → ⊥
left_filled p [] h e =
    cond_both (p == 0) [] (p ∷ []) (λ (w : List ℕ). w ≡ [] → ⊥) (λ z. let zero = eqb-true p 0 z in absurd (omega arith)) (λ _ f. cc) e
left_filled p (q ∷ qs) h e = cc

-- pairs of which the first isn't 0
abbrev pub IsLed : List ℕ → Type 0
IsLed [] = ⊥
IsLed (p ∷ ps) = 0 < p

-- the bytes of such pairs differ where the pairs do
pub bytes_differ : (ps qs : List ℕ) → IsLed ps → DiffersBelow ps qs
    → DiffersBelow (pair_bytes (without_last_zeros ps)) (pair_bytes (without_last_zeros qs))
unfolding without_last_zeros
bytes_differ [] qs h d = absurd h
bytes_differ (p ∷ ps) qs h d =
    elim (pairs_apart (p ∷ ps) qs d) [ inl e ↦ absurd (left_filled p (without_last_zeros ps) h e.0) | inr f ↦ f ]

left_below : (p : ℕ) (s : List ℕ) → p < 100 → AreBelow 100 s → AreBelow 100 (before_left p s)
left_below p [] h hs = cond_both (p == 0) [] (p ∷ []) (AreBelow 100) (λ _. tt) (λ _. (h, tt))
left_below p (q ∷ qs) h hs = (h, hs)

without_below : (ps : List ℕ) → AreBelow 100 ps → AreBelow 100 (without_last_zeros ps)
unfolding without_last_zeros
without_below [] h = tt
without_below (p ∷ ps) h = left_below p (without_last_zeros ps) h.0 (without_below ps h.1)

pair_bytes_below : (ps : List ℕ) → AreBelow 100 ps → AreBelow 256 (pair_bytes ps)
unfolding pair_bytes
pair_bytes_below [] h = tt
pair_bytes_below (p ∷ []) h = let first = h.0 in (omega arith, tt)
pair_bytes_below (p ∷ q ∷ ps) h = let first = h.0 in (omega arith, pair_bytes_below (q ∷ ps) h.1)

pub bytes_below : (ps : List ℕ) → AreBelow 100 ps → AreBelow 256 (pair_bytes (without_last_zeros ps))
bytes_below ps h = pair_bytes_below (without_last_zeros ps) (without_below ps h)
