-- Bytes of weights of which none begins another: they differ below as the weights do.
use Rattle.std.proofs.Common.{◌≡◌, ◌≢◌, ℕ, ◌<◌, ◌/◌, ◌%◌, ◌^◌, Bool, true, false, cond, not, List, [], ◌∷◌, refl, sym, ◌∙◌, ap, arith, inl, inr, ◌⊎◌, ⊎_elim}
use Rattle.std.proofs.lemmas.Bool.{cases_lt}
use Rattle.std.proofs.lemmas.Bool.Decides.{nat_tests}
use mathlib.Core.Bool.{true≢false}
use Rattle.std.specs.Prelude.{◌==◌, ◌&&◌, ◌||◌}
use Rattle.icu_collator_core.specs.Numbers.{without_last_zeros}
use Rattle.icu_collator_core.specs.WeightRules.{weight_bytes, primary_bytes, primary_rest, is_proper_beginning, are_apart}
use Rattle.icu_collator.proofs.keys.CodesLemmas.{DiffersBelow}

by_answer : (b : Bool) → (b ≡ true → ⊥) → b ≡ false
by_answer true h = absurd (h refl)
by_answer false h = refl

same_number : (a : ℕ) → (a == a) ≡ true
same_number a = grind (arith, nat_tests)

-- ---- two bytes

last_byte : (a b l m : ℕ) → l ≢ 0 → l < m → a ≡ b → DiffersBelow (a ∷ cond (l == 0) [] (l ∷ [])) (b ∷ cond (m == 0) [] (m ∷ []))
last_byte a b l m some h e =
    let no_l : (l == 0) ≡ false = grind (arith, nat_tests) in
    let no_m : (m == 0) ≡ false = grind (arith, nat_tests) in
    rw (no_l, no_m) (inr (e, inl h))

-- where weights with one lead have no 00 at the end of the lower one
pub weights_differ : (v w : ℕ) → v < w → (v / 256 ≡ w / 256 → v % 256 ≢ 0) → DiffersBelow (weight_bytes v) (weight_bytes w)
weights_differ v w h some =
    ⊎_elim (λ k. inl k)
    (λ k. let e : v / 256 ≡ w / 256 = omega (arith, h, k) in last_byte (v / 256) (w / 256) (v % 256) (w % 256) (some e) (omega (arith, h, e)) e)
    (cases_lt (v / 256) (w / 256))

apart_tests : (a b c d : Bool) → a ≡ false → b ≡ false → c ≡ true → (a || b || (not c && d)) ≡ true → ⊥
apart_tests a b c d no_a no_b is_c apart = true≢false (sym apart ∙ rw (no_a, no_b, is_c) refl)

apart_other_tests : (a b c d : Bool) → a ≡ false → b ≡ false → d ≡ true → (a || b || (not c && not d)) ≡ true → ⊥
apart_other_tests a b true d no_a no_b is_d apart = true≢false (sym apart ∙ rw (no_a, no_b) refl)
apart_other_tests a b false d no_a no_b is_d apart = true≢false (sym apart ∙ rw (no_a, no_b, is_d) refl)

-- so neither list begins the other
pub apart_begins :
    (bytes : ℕ → List ℕ) (v w : ℕ) → 0 < v → 0 < w → are_apart bytes v w ≡ true
    → (is_proper_beginning (bytes v) (bytes w) ≡ false) × (is_proper_beginning (bytes w) (bytes v) ≡ false)
apart_begins bytes v w some other apart = (by_answer _ (λ is. apart_tests (v == 0) (w == 0) _ _ (grind (arith, nat_tests)) (grind (arith, nat_tests)) is apart), by_answer _ (λ is. apart_other_tests (v == 0) (w == 0) _ _ (grind (arith, nat_tests)) (grind (arith, nat_tests)) is apart))

shorter_begins : (a m : ℕ) → m ≢ 0 → is_proper_beginning (a ∷ cond (0 == 0) [] (0 ∷ [])) (a ∷ cond (m == 0) [] (m ∷ [])) ≡ true
unfolding is_proper_beginning
shorter_begins a m some =
    let no_m : (m == 0) ≡ false = grind (arith, nat_tests) in
    rw (no_m, same_number a) refl

pub apart_low : (v w : ℕ) → 0 < v → v < w → are_apart weight_bytes v w ≡ true → v / 256 ≡ w / 256 → v % 256 ≢ 0
apart_low v w some h apart e none =
    let begins : is_proper_beginning (weight_bytes v) (weight_bytes w) ≡ true =
    rw (e, none) (shorter_begins (w / 256) (w % 256) (λ k. omega (arith, h, e, none, k))) in
    apart_tests (v == 0) (w == 0) _ _ (grind (arith, nat_tests)) (grind (arith, nat_tests)) begins apart

-- ---- any bytes, those of 00 at the end left out

-- the bytes from the first on, if those after it are these
unfoldable pub stripped_behind : ℕ → List ℕ → List ℕ
stripped_behind x [] = cond (x == 0) [] (x ∷ [])
stripped_behind x (q ∷ qs) = x ∷ q ∷ qs

pub stripped : (x : ℕ) (xs : List ℕ) → without_last_zeros (x ∷ xs) ≡ stripped_behind x (without_last_zeros xs)
unfolding without_last_zeros stripped_behind
stripped x xs = by_list x (without_last_zeros xs)
  where
    by_list : (x : ℕ) (rest : List ℕ) → elim rest [ [] ↦ cond (x == 0) [] (x ∷ []) | q ∷ qs ↦ x ∷ q ∷ qs ] ≡ stripped_behind x rest
    by_list x [] = refl
    by_list x (q ∷ qs) = refl

abbrev IsFilled : List ℕ → Type 0
IsFilled [] = ⊥
IsFilled (x ∷ xs) = Unit {0}

fill_behind : (y : ℕ) (ts : List ℕ) → (y ≢ 0) ⊎ IsFilled ts → IsFilled (stripped_behind y ts)
unfolding stripped_behind
fill_behind y [] (inl some) = let no_y : (y == 0) ≡ false = grind (arith, nat_tests) in rw no_y tt
fill_behind y [] (inr none) = elim none [ ]
fill_behind y (t ∷ ts) h = tt

higher_filled : (xs ys : List ℕ) → DiffersBelow xs ys → IsFilled (without_last_zeros ys)
higher_filled [] ys h = elim h [ ]
higher_filled (x ∷ xs) [] h = elim h [ ]
higher_filled (x ∷ xs) (y ∷ ys) (inl h) = rw (stripped y ys) (fill_behind y _ (inl (λ e. omega (arith, h, e))))
higher_filled (x ∷ xs) (y ∷ ys) (inr (e, h)) = rw (stripped y ys) (fill_behind y _ (inr (higher_filled xs ys h)))

pub begins_tests : (x y : ℕ) (b : Bool) → x ≡ y → ((x == y) && b) ≡ false → b ≡ false
begins_tests x y b e h = sym (rw (e, same_number y) refl) ∙ h

lower_one : (b : Bool) (x y : ℕ) (ts : List ℕ) → x < y → is_proper_beginning (cond b [] (x ∷ [])) (y ∷ ts) ≡ false → DiffersBelow (cond b [] (x ∷ [])) (y ∷ ts)
unfolding is_proper_beginning
lower_one true x y ts h apart = absurd (true≢false apart)
lower_one false x y ts h apart = inl h

one_begins : (b : Bool) (x y t : ℕ) (ts : List ℕ) → x ≡ y → is_proper_beginning (cond b [] (x ∷ [])) (y ∷ t ∷ ts) ≡ false → ⊥
unfolding is_proper_beginning
one_begins true x y t ts e apart = true≢false apart
one_begins false x y t ts e apart = true≢false (begins_tests x y true e apart)

lower_here : (x y : ℕ) (rs ts : List ℕ) → x < y → is_proper_beginning (stripped_behind x rs) (stripped_behind y ts) ≡ false → DiffersBelow (stripped_behind x rs) (stripped_behind y ts)
unfolding stripped_behind is_proper_beginning
lower_here x y [] [] h apart =
    let no_y : (y == 0) ≡ false = grind (arith, nat_tests) in
    rw no_y (lower_one (x == 0) x y [] h (rw no_y at apart))
lower_here x y [] (t ∷ ts) h apart = lower_one (x == 0) x y (t ∷ ts) h apart
lower_here x y (r ∷ rs) [] h apart = let no_y : (y == 0) ≡ false = grind (arith, nat_tests) in rw no_y (inl h)
lower_here x y (r ∷ rs) (t ∷ ts) h apart = inl h

later_differs :
    (x y : ℕ) (rs ts : List ℕ) → x ≡ y → IsFilled ts → (is_proper_beginning rs ts ≡ false → DiffersBelow rs ts)
    → is_proper_beginning (stripped_behind x rs) (stripped_behind y ts) ≡ false → DiffersBelow (stripped_behind x rs) (stripped_behind y ts)
unfolding stripped_behind is_proper_beginning
later_differs x y rs [] e filled h apart = elim filled [ ]
later_differs x y [] (t ∷ ts) e filled h apart = absurd (one_begins (x == 0) x y t ts e apart)
later_differs x y (r ∷ rs) (t ∷ ts) e filled h apart = inr (e, h (begins_tests x y _ e apart))

pub stripped_differ :
    (xs ys : List ℕ) → DiffersBelow xs ys → is_proper_beginning (without_last_zeros xs) (without_last_zeros ys) ≡ false
    → DiffersBelow (without_last_zeros xs) (without_last_zeros ys)
stripped_differ [] ys h apart = elim h [ ]
stripped_differ (x ∷ xs) [] h apart = elim h [ ]
stripped_differ (x ∷ xs) (y ∷ ys) (inl h) apart = rw (stripped x xs, stripped y ys) (lower_here x y _ _ h (rw (stripped x xs, stripped y ys) at apart))
stripped_differ (x ∷ xs) (y ∷ ys) (inr (e, h)) apart =
    rw (stripped x xs, stripped y ys) (later_differs x y _ _ e (higher_filled xs ys h) (stripped_differ xs ys h) (rw (stripped x xs, stripped y ys) at apart))

-- ---- primaries

lower_bytes : (p q : ℕ) → p < q → p / 2 ^ 24 ≡ q / 2 ^ 24 → DiffersBelow (p / 2 ^ 16 % 256 ∷ p / 2 ^ 8 % 256 ∷ p % 256 ∷ []) (q / 2 ^ 16 % 256 ∷ q / 2 ^ 8 % 256 ∷ q % 256 ∷ [])
lower_bytes p q h e =
    ⊎_elim (λ k. inl k)
    (λ k. inr (omega (arith, h, e, k), ⊎_elim (λ l. inl l) (λ l. inr (omega (arith, h, e, k, l), inl (omega (arith, h, e, k, l)))) (cases_lt (p / 2 ^ 8 % 256) (q / 2 ^ 8 % 256))))
    (cases_lt (p / 2 ^ 16 % 256) (q / 2 ^ 16 % 256))

-- under one lead the bytes after it
pub rests_differ : (p q : ℕ) → p < q → p / 2 ^ 24 ≡ q / 2 ^ 24 → is_proper_beginning (primary_bytes p) (primary_bytes q) ≡ false → DiffersBelow (primary_rest p) (primary_rest q)
unfolding is_proper_beginning
rests_differ p q h e apart = stripped_differ _ _ (lower_bytes p q h e) (begins_tests (p / 2 ^ 24) (q / 2 ^ 24) _ e apart)

pub primaries_differ : (p q : ℕ) → p < q → is_proper_beginning (primary_bytes p) (primary_bytes q) ≡ false → DiffersBelow (primary_bytes p) (primary_bytes q)
primaries_differ p q h apart =
    ⊎_elim (λ k. inl k) (λ k. let e : p / 2 ^ 24 ≡ q / 2 ^ 24 = omega (arith, h, k) in inr (e, rests_differ p q h e apart)) (cases_lt (p / 2 ^ 24) (q / 2 ^ 24))

-- ---- the weights of a level

-- weights of two bytes that keep the rule of a level, of which none begins another
pub record AreWeights (keeps_rule : ℕ → Bool) (IsWeight : ℕ → Type 0) : Type 0 where
  pub sound : (w : ℕ) → IsWeight w → keeps_rule w ≡ true
  pub small : (w : ℕ) → IsWeight w → w < 2 ^ 16
  pub apart : (v w : ℕ) → IsWeight v → IsWeight w → are_apart weight_bytes v w ≡ true

stripped_first : (x : ℕ) (xs : List ℕ) → 0 < x → (bytes : List ℕ) × (stripped_behind x xs ≡ x ∷ bytes)
unfolding stripped_behind
stripped_first x [] h = let some : (x == 0) ≡ false = grind (arith, nat_tests) in ([], rw some refl)
stripped_first x (q ∷ qs) h = (q ∷ qs, refl)

-- a primary with a second byte begins with it after the lead
pub rest_first : (p : ℕ) → 0 < p / 2 ^ 16 % 256 → (bytes : List ℕ) × (primary_rest p ≡ p / 2 ^ 16 % 256 ∷ bytes)
rest_first p h =
    let behind = stripped_first (p / 2 ^ 16 % 256) (without_last_zeros (p / 2 ^ 8 % 256 ∷ p % 256 ∷ [])) h in
    (behind.0, stripped (p / 2 ^ 16 % 256) (p / 2 ^ 8 % 256 ∷ p % 256 ∷ []) ∙ behind.1)

-- the first bytes of three, where the others are 00
pub rest_one : (a : ℕ) → 0 < a → without_last_zeros (a ∷ 0 ∷ 0 ∷ []) ≡ a ∷ []
unfolding without_last_zeros
rest_one a h = let some : (a == 0) ≡ false = grind (arith, nat_tests) in rw some refl

last_stays : (a : ℕ) → 0 < a → without_last_zeros (a ∷ []) ≡ a ∷ []
unfolding without_last_zeros
last_stays a h = let some : (a == 0) ≡ false = grind (arith, nat_tests) in rw some refl

behind_last_zero : (b : ℕ) → 0 < b → without_last_zeros (b ∷ 0 ∷ []) ≡ b ∷ []
unfolding without_last_zeros
behind_last_zero b h = let some : (b == 0) ≡ false = grind (arith, nat_tests) in rw some refl

pub rest_two : (a b : ℕ) → 0 < b → without_last_zeros (a ∷ b ∷ 0 ∷ []) ≡ a ∷ b ∷ []
unfolding stripped_behind
rest_two a b h = stripped a (b ∷ 0 ∷ []) ∙ ap (stripped_behind a) (behind_last_zero b h)

pub rest_three : (a b c : ℕ) → 0 < c → without_last_zeros (a ∷ b ∷ c ∷ []) ≡ a ∷ b ∷ c ∷ []
unfolding stripped_behind
rest_three a b c h = stripped a (b ∷ c ∷ []) ∙ ap (stripped_behind a) (stripped b (c ∷ []) ∙ ap (stripped_behind b) (last_stays c h))

-- a list that begins with a number above 0 keeps it
pub fill_first : (x : ℕ) (xs : List ℕ) → 0 < x → (ys : List ℕ) × (without_last_zeros (x ∷ xs) ≡ x ∷ ys)
fill_first x xs h = let kept = stripped_first x (without_last_zeros xs) h in (kept.0, stripped x xs ∙ kept.1)
