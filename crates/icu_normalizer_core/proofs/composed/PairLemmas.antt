-- Composed pairs in rising order: where that of two characters stands.
use Rattle.std.proofs.Common.{◌≡◌, ◌≢◌, ℕ, zero, suc, ◌+◌, ◌-◌, ◌*◌, ◌/◌, ◌^◌, ◌<◌, ◌≤◌, ⊎_elim, true, false, List, [], ◌∷◌, length, slice_index, None, Some, ◌==◌, ◌&&◌, refl, sym, ap, subst, ◌∙◌, arith}
use Rattle.std.proofs.lemmas.Bool.{cases_lt, cases_eq, cond-true, cond-false, eq-eqb, ne_eqb, and_from, and_left, and_right}
use Rattle.icu_normalizer_core.specs.CanonicalLists.{ArePairs, listed_pair, pair_first, pair_second, pair_composed}

-- the two characters' number
abbrev key_of : ℕ → ℕ → ℕ
key_of a b = a * 2 ^ 21 + b

rises_by : (pairs : List ℕ) → ArePairs pairs → (i d : ℕ) → i + suc d < length pairs → slice_index pairs i / 2 ^ 21 < slice_index pairs (i + suc d) / 2 ^ 21
rises_by pairs p i zero h =
    let same : i + suc zero ≡ suc i = omega arith in
    let next : suc i < length pairs = omega arith in
    rw same (p.rising i next)
rises_by pairs p i (suc d) h =
    let before = rises_by pairs p i d (omega arith) in
    let next : suc (i + suc d) < length pairs = omega arith in
    let last = p.rising (i + suc d) next in
    let same : i + suc (suc d) ≡ suc (i + suc d) = omega arith in
    rw same (omega (arith, before, last))

pub pairs_rise : (pairs : List ℕ) → ArePairs pairs → (i j : ℕ) → i < j → j < length pairs → slice_index pairs i / 2 ^ 21 < slice_index pairs j / 2 ^ 21
pairs_rise pairs p i j lt h =
    let same : j ≡ i + suc (j - i - 1) = omega arith in
    let far : i + suc (j - i - 1) < length pairs = omega arith in
    let rises = rises_by pairs p i (j - i - 1) far in
    subst (λ (k : ℕ). slice_index pairs i / 2 ^ 21 < slice_index pairs k / 2 ^ 21) (sym same) rises

-- an entry's test, by its key
test_true : (pair a b : ℕ) → b < 2 ^ 21 → pair / 2 ^ 21 ≡ key_of a b → ((pair_first pair == a) && (pair_second pair == b)) ≡ true
test_true pair a b h e =
    let first : pair_first pair ≡ a = omega arith in
    let second : pair_second pair ≡ b = omega arith in
    and_from (pair_first pair == a) (pair_second pair == b) (eq-eqb (pair_first pair) a first) (eq-eqb (pair_second pair) b second)

test_false : (pair a b : ℕ) → pair / 2 ^ 21 ≢ key_of a b → ((pair_first pair == a) && (pair_second pair == b)) ≡ false
test_false pair a b ne =
    ⊎_elim
    (λ first. ⊎_elim
    (λ second. absurd (ne (omega arith)))
    (λ other. and_right (pair_first pair == a) (pair_second pair == b) (ne_eqb (pair_second pair) b other))
    (cases_eq (pair_second pair) b))
    (λ other. and_left (pair_first pair == a) (pair_second pair == b) (ne_eqb (pair_first pair) a other))
    (cases_eq (pair_first pair) a)

listed_at : (pairs : List ℕ) (a b i : ℕ) → b < 2 ^ 21 → i < length pairs → slice_index pairs i / 2 ^ 21 ≡ key_of a b
    → ((j : ℕ) → j < i → slice_index pairs j / 2 ^ 21 ≢ key_of a b)
    → listed_pair pairs a b ≡ Some (pair_composed (slice_index pairs i))
unfolding listed_pair
listed_at [] a b i small h e before = absurd (omega arith)
listed_at (pair ∷ rest) a b zero small h e before = cond-true _ _ _ (test_true pair a b small e)
listed_at (pair ∷ rest) a b (suc i) small h e before =
    cond-false _ _ _ (test_false pair a b (before 0 (omega arith)))
    ∙ listed_at rest a b i small (omega arith) e (λ j lt same. before (suc j) (omega arith) same)

pub unlisted_pair : (pairs : List ℕ) (a b : ℕ) → ((i : ℕ) → i < length pairs → slice_index pairs i / 2 ^ 21 ≢ key_of a b) → listed_pair pairs a b ≡ None
unfolding listed_pair
unlisted_pair [] a b none = refl
unlisted_pair (pair ∷ rest) a b none =
    cond-false _ _ _ (test_false pair a b (none 0 (omega arith))) ∙ unlisted_pair rest a b (λ i h same. none (suc i) (omega arith) same)

-- the entry of two characters in rising entries
pub listed_pair_of : (pairs : List ℕ) (a b index : ℕ) → b < 2 ^ 21 → ArePairs pairs → index < length pairs → slice_index pairs index / 2 ^ 21 ≡ key_of a b
    → listed_pair pairs a b ≡ Some (pair_composed (slice_index pairs index))
listed_pair_of pairs a b index small p h e =
    listed_at pairs a b index small h e (λ j lt same. let rises = pairs_rise pairs p j index lt h in omega arith)

-- the keys before an index are below that of two characters, and those from it on above
pub unlisted_pair_between : (pairs : List ℕ) (a b index : ℕ) → ArePairs pairs
    → (0 < index → slice_index pairs (index - 1) / 2 ^ 21 < key_of a b)
    → (index < length pairs → key_of a b < slice_index pairs index / 2 ^ 21)
    → index ≤ length pairs
    → listed_pair pairs a b ≡ None
unlisted_pair_between pairs a b index p below above within =
    unlisted_pair pairs a b (λ i h same.
    ⊎_elim
    (λ before. let last = below (omega arith) in ⊎_elim
    (λ lt. let rises = pairs_rise pairs p i (index - 1) lt (omega arith) in omega arith)
    (λ ge. let at : i ≡ index - 1 = omega arith in
    let key : slice_index pairs i ≡ slice_index pairs (index - 1) = ap (λ (k : ℕ). slice_index pairs k) at in omega (arith, ap (λ (n : ℕ). n / 2 ^ 21) key))
    (cases_lt i (index - 1)))
    (λ behind. let first = above (omega arith) in ⊎_elim
    (λ lt. let rises = pairs_rise pairs p index i lt h in omega arith)
    (λ ge. let at : i ≡ index = omega arith in
    let key : slice_index pairs i ≡ slice_index pairs index = ap (λ (k : ℕ). slice_index pairs k) at in omega (arith, ap (λ (n : ℕ). n / 2 ^ 21) key))
    (cases_lt index i))
    (cases_lt i index))
