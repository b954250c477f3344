-- Fronts that differ order the lists whose fronts they are.
use Rattle.std.proofs.Common.{◌≡◌, ℕ, zero, suc, ◌*◌, ◌^◌, ◌<◌, ◌≤◌, List, [], ◌∷◌, All, refl, sym, ap, ◌∙◌, arith, ⊎_elim, Ordering, Less, Equal, Greater, nat_cmp}
use Rattle.std.proofs.Math.Nat.{pow-suc, mul_comm}
use Rattle.std.proofs.lemmas.Nat.{mul-add-lt}
use Rattle.std.proofs.lemmas.Bool.{cases_lt}
use Rattle.std.proofs.lemmas.Cmp.{nat_list_cmp_total}
use Rattle.std.proofs.lemmas.List.Elements.{All-head, All-tail}
use Rattle.std.specs.Cmp.{nat_cmp_is}
use Rattle.std.specs.Int.{w64}
use Rattle.std.specs.Int.{from_be_bytes}
use Rattle.std.specs.Cmp.Lexicographic.{slice_cmp}
use Rattle.std.specs.Ordering.{ordering_then, ordering_reverse}
use Rattle.collate_lists.specs.Fronts.{first_bytes, IsFrontOf}

-- ---- bytes read as a number

first_small : (n : ℕ) (bytes : List ℕ) → All (λ b. b < 256) bytes → first_bytes n bytes < 256 ^ n
first_small zero bytes h = omega arith
first_small (suc n) [] h = omega (arith, pow-suc 256 n, first_small n [] h)
first_small (suc n) (b ∷ bytes) h =
    let here : b < 256 = All-head (λ x. x < 256) b bytes h in
    let later : first_bytes n bytes < 256 ^ n = first_small n bytes (All-tail (λ x. x < 256) b bytes h) in
    omega (arith, mul-add-lt b (256 ^ n) (first_bytes n bytes) 256 here later, pow-suc 256 n)

less_if : (x y : ℕ) → x < y → nat_cmp x y ≡ Less
less_if x y h = sym (nat_cmp_is x y Less h)

equal_if : (x : ℕ) → nat_cmp x x ≡ Equal
equal_if x = sym (nat_cmp_is x x Equal refl)

pub first_less : (n : ℕ) (xs ys : List ℕ) → All (λ b. b < 256) xs → All (λ b. b < 256) ys → first_bytes n xs < first_bytes n ys → slice_cmp nat_cmp xs ys ≡ Less
first_less zero xs ys a b h = absurd (omega arith)
first_less (suc n) [] [] a b h = absurd (omega arith)
first_less (suc n) [] (y ∷ ys) a b h = refl
first_less (suc n) (x ∷ xs) [] a b h = absurd (omega arith)
first_less (suc n) (x ∷ xs) (y ∷ ys) a b h =
    let rest_a : All (λ z. z < 256) xs = All-tail (λ z. z < 256) x xs a in
    let rest_b : All (λ z. z < 256) ys = All-tail (λ z. z < 256) y ys b in
    ⊎_elim (λ (l : x < y). ap (λ r. ordering_then r (slice_cmp nat_cmp xs ys)) (less_if x y l))
    (λ (l : y ≤ x).
    ⊎_elim (λ (m : y < x). absurd (omega (arith, mul-add-lt y (256 ^ n) (first_bytes n ys) x m (first_small n ys rest_b), mul_comm (256 ^ n) x)))
    (λ (m : x ≤ y).
    let same : x ≡ y = omega arith in
    let later : first_bytes n xs < first_bytes n ys = omega (arith, ap (λ z. z * 256 ^ n) same) in
    ap (λ z. ordering_then (nat_cmp x z) (slice_cmp nat_cmp xs ys)) (sym same)
    ∙ ap (λ r. ordering_then r (slice_cmp nat_cmp xs ys)) (equal_if x)
    ∙ first_less n xs ys rest_a rest_b later) (cases_lt y x)) (cases_lt x y)

pub first_greater : (n : ℕ) (xs ys : List ℕ) → All (λ b. b < 256) xs → All (λ b. b < 256) ys → first_bytes n ys < first_bytes n xs → slice_cmp nat_cmp xs ys ≡ Greater
first_greater n xs ys a b h = nat_list_cmp_total.antisymm xs ys ∙ ap ordering_reverse (first_less n ys xs b a h)

pub read_front : (bytes : List ℕ) → from_be_bytes w64 bytes ≡ first_bytes 8 bytes
read_front [] = refl
read_front (a ∷ []) = omega arith
read_front (a ∷ b ∷ []) = omega arith
read_front (a ∷ b ∷ c ∷ []) = omega arith
read_front (a ∷ b ∷ c ∷ d ∷ []) = omega arith
read_front (a ∷ b ∷ c ∷ d ∷ e ∷ []) = omega arith
read_front (a ∷ b ∷ c ∷ d ∷ e ∷ f ∷ []) = omega arith
read_front (a ∷ b ∷ c ∷ d ∷ e ∷ f ∷ g ∷ []) = omega arith
read_front (a ∷ b ∷ c ∷ d ∷ e ∷ f ∷ g ∷ h ∷ bytes) = omega arith

-- fronts that differ tell how the lists compare
pub fronts_tell : (front other : ℕ) (xs ys : List ℕ) (r : Ordering) → IsFrontOf front xs → IsFrontOf other ys → r ≡ nat_cmp front other → (r ≡ Equal → ⊥) → slice_cmp nat_cmp xs ys ≡ r
fronts_tell front other xs ys r f g is n =
    ⊎_elim (λ (l : front < other). first_less 8 xs ys f.are_bytes g.are_bytes (omega (arith, f.value, g.value)) ∙ nat_cmp_is front other Less l ∙ sym is)
    (λ (l : other ≤ front).
    ⊎_elim (λ (m : other < front). first_greater 8 xs ys f.are_bytes g.are_bytes (omega (arith, f.value, g.value)) ∙ nat_cmp_is front other Greater m ∙ sym is)
    (λ (m : front ≤ other). let same : front ≡ other = omega arith in absurd (n (is ∙ sym (nat_cmp_is front other Equal same)))) (cases_lt other front)) (cases_lt front other)
