-- What is left of the characters of a set, as ranges are passed and characters taken.
use Rattle.std.proofs.Common.{◌≡◌, ℕ, ◌+◌, ◌<◌, ◌≤◌, Bool, true, false, List, [], ◌∷◌, zero, suc, refl, ap, ◌∙◌, arith, inl, inr, ⊎_elim}
use Rattle.std.specs.Prelude.{filter, cond, length, nat_le, nat_lt, ◌&&◌, if◌then◌else◌}
use Rattle.std.specs.List.{range_with_len}
use Rattle.std.specs.Prelude.{Option, Some, None, SomeIff}
use lib.Utf8.{scalar, scalar_cases}
use Rattle.std.proofs.lemmas.Bool.{cases_lt}
use Rattle.std.proofs.lemmas.Bool.Decides.{nat_tests}
use Rattle.icu_collections_sets.specs.CodePoints.{Rises, IsInversionList}
use Rattle.icu_collections_sets.specs.Characters.{passing, characters_of, characters_left, IsLeft}

module _ (p q : ℕ → Bool) where
  filter_same : (n s : ℕ) → ((c : ℕ) → s ≤ c → p c ≡ q c) → filter p (range_with_len s n) ≡ filter q (range_with_len s n)
  filter_same zero s h = refl
  filter_same (suc n) s h = rw (h s (omega arith), filter_same n (s + 1) (λ c l. h c (omega arith))) refl

  filter_first : (n s a : ℕ) → s ≤ a → a < s + n → p a ≡ true → ((c : ℕ) → c < a → p c ≡ false) → ((c : ℕ) → c ≤ a → q c ≡ false) → ((c : ℕ) → a < c → p c ≡ q c)
      → filter p (range_with_len s n) ≡ a ∷ filter q (range_with_len s n)
  filter_first zero s a from till at below not_q same = absurd (omega arith)
  filter_first (suc n) s a from till at below not_q same = elim (cases_lt s a) [
    | inl low ↦ rw (below s low, not_q s from) (filter_first n (s + 1) a (omega arith) (omega arith) at below not_q same)
    | inr high ↦
        let here : s ≡ a = omega arith in
        let first : p s ≡ true = ap p here ∙ at in
        rw (first, not_q s from, filter_same n (s + 1) (λ c l. same c (omega arith)), here) refl
  ]

  pub passing-same : ((c : ℕ) → p c ≡ q c) → passing p ≡ passing q
  unfolding passing
  passing-same h = filter_same 0x110000 0 (λ c l. h c)

  pub passing-first : (a : ℕ) → a < 0x110000 → p a ≡ true → ((c : ℕ) → c < a → p c ≡ false) → ((c : ℕ) → c ≤ a → q c ≡ false) → ((c : ℕ) → a < c → p c ≡ q c) → passing p ≡ a ∷ passing q
  unfolding passing
  passing-first a h at below not_q same = filter_first 0x110000 0 a (omega arith) (omega arith) at below not_q same

filter_none : (p : ℕ → Bool) (n s : ℕ) → ((c : ℕ) → p c ≡ false) → filter p (range_with_len s n) ≡ []
filter_none p zero s h = refl
filter_none p (suc n) s h = rw h (filter_none p n (s + 1) h)

pub passing-none : (p : ℕ → Bool) → ((c : ℕ) → p c ≡ false) → passing p ≡ []
unfolding passing
passing-none p h = filter_none p 0x110000 0 h

both_if : (b x y : Bool) → (b ≡ true → x ≡ y) → (b && x) ≡ (b && y)
both_if true x y h = h refl
both_if false x y h = refl

none_if : (b x : Bool) → (b ≡ true → x ≡ false) → (b && x) ≡ false
none_if true x h = h refl
none_if false x h = refl

-- a stretch with no character: it ends before a first code point past its surrogates
abbrev pub past : ℕ → ℕ
past c = if nat_le 0xD800 c && nat_lt c 0xE000 then 0xE000 else c

no_scalar : (start end c : ℕ) → end ≤ past start → start ≤ c → c < end → scalar c ≡ true → ⊥
no_scalar start end c h a b s = ⊎_elim (λ low. grind (arith, nat_tests)) (λ high. grind (arith, nat_tests, high.0)) (scalar_cases c s)

from_start : (c : ℕ) → nat_le 0 c ≡ true
from_start c = grind (arith, nat_tests)

not_below : (c : ℕ) → nat_lt c 0 ≡ false
not_below c = grind (arith, nat_tests)

pub left_at_start : (edges : List ℕ) → characters_left 0 0 edges ≡ characters_of edges
left_at_start edges = passing-same _ _ (λ c. rw (from_start c, not_below c) refl)

pub IsLeft_at_start : (edges : List ℕ) → IsInversionList edges → IsLeft 0 0 edges
IsLeft_at_start edges h = record { starts = omega arith; ends = omega arith; rises = h.rises; even = h.even }

-- nothing is left
pub left_of_none : (start end : ℕ) → end ≤ past start → characters_left start end [] ≡ []
left_of_none start end h = passing-none _ (λ c. none_if (scalar c) _ (λ s. elim (cases_lt c end) [
  | inl low ↦ elim (cases_lt c start) [
    | inl before ↦ grind (arith, nat_tests)
    | inr from ↦ absurd (no_scalar start end c h from low s)
  ]
  | inr high ↦ grind (arith, nat_tests)
]))

-- a range that has no character left is passed
module _ (start end a b : ℕ) (edges : List ℕ) (is : IsLeft start end (a ∷ b ∷ edges)) where
  pub IsLeft_behind : IsLeft a b edges
  IsLeft_behind = record {
    starts = omega (arith, is.rises.2.0);
    ends = is.rises.2.1;
    rises = lower edges is.rises.2.2;
    even = omega (arith, is.even);
  }
    where
      lower : (xs : List ℕ) → Rises (b + 1) xs → Rises b xs
      lower [] h = tt
      lower (x ∷ xs) h = (omega (arith, h.0), h.1, h.2)

  pub left_behind : end ≤ past start → characters_left start end (a ∷ b ∷ edges) ≡ characters_left a b edges
  left_behind h = passing-same _ _ (λ c. both_if (scalar c) _ _ (λ s. elim (cases_lt c end) [
    | inl low ↦ elim (cases_lt c start) [
      | inl before ↦ grind (arith, nat_tests, is.rises.0)
      | inr from ↦ absurd (no_scalar start end c h from low s)
    ]
    | inr high ↦ grind (arith, nat_tests, is.rises.0, is.starts)
  ]))

-- a character is taken
module _ (start end : ℕ) (edges : List ℕ) (is : IsLeft start end edges) (room : past start < end) where
  pub first_is_scalar : scalar (past start) ≡ true
  first_is_scalar = grind (arith, nat_tests, is.ends, room)

  pub left_first : characters_left start end edges ≡ past start ∷ characters_left (past start + 1) end edges
  left_first =
      let from : start ≤ past start = grind (arith, nat_tests) in
      passing-first _ _ (past start) (omega (arith, is.ends, room))
      (grind (arith, nat_tests, first_is_scalar, from, room))
      (λ c h. none_if (scalar c) _ (λ s. elim (cases_lt c start) [
        | inl before ↦ grind (arith, nat_tests)
        | inr behind ↦ absurd (no_scalar start (past start) c (omega arith) behind h s)
      ]))
      (λ c h. none_if (scalar c) _ (λ s. grind (arith, nat_tests)))
      (λ c h. both_if (scalar c) _ _ (λ s. grind (arith, nat_tests, from)))

  pub IsLeft_first : IsLeft (past start + 1) end edges
  IsLeft_first = record { starts = omega (arith, room); ends = is.ends; rises = is.rises; even = is.even }

pub some_of : (r : Option ℕ) (P : Type 0) (x : ℕ) → P → SomeIff r P x → r ≡ Some x
some_of None P x p h = absurd (h p)
some_of (Some y) P x p h = ap Some h.1

length_filter : (p : ℕ → Bool) (n s : ℕ) → length (filter p (range_with_len s n)) ≤ n
length_filter p zero s = omega arith
length_filter p (suc n) s = counted (p s) s (filter p (range_with_len (s + 1) n)) n (length_filter p n (s + 1))
  where
    counted : (b : Bool) (x : ℕ) (xs : List ℕ) (n : ℕ) → length xs ≤ n → length (cond b (x ∷ xs) xs) ≤ suc n
    counted true x xs n h = omega (arith, h)
    counted false x xs n h = omega (arith, h)

-- there are no more than there are code points
pub length_passing : (p : ℕ → Bool) → length (passing p) ≤ 0x110000
unfolding passing
length_passing p = length_filter p 0x110000 0
