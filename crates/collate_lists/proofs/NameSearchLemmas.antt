-- a search by halves in a list in order: what one comparison tells, how far the search has come, and the part that is equal; compared says how an element compares with what is looked for
use Rattle.std.proofs.Common.{◌≡◌, ℕ, zero, suc, ◌+◌, ◌-◌, ◌*◌, ◌/◌, ◌^◌, ◌<◌, ◌≤◌, Bool, true, false, cond, not, ◌&&◌, List, [], ◌∷◌, ◌++◌, length, take, drop, get_or, slice_range, refl, sym, ap, ◌∙◌, subst, arith, true≢false, pow-suc, ⊎_elim}
use Rattle.std.proofs.lemmas.Bool.{cases_lt, false_from_ne_true}
use Rattle.std.specs.List.{filter, All, AllWithin}
use Rattle.std.specs.List.Sorted.{IsNonDecreasingBy, IsPartitionedBy}
use Rattle.std.specs.Cmp.{IsTotalOrder}
use Rattle.std.specs.Ordering.{ordering_index}
use Rattle.std.specs.declared.cmp.Ordering.{Ordering}
use Rattle.std.specs.declared.cmp.Ordering.TheVariants.{Less, Equal, Greater}
use Rattle.std.proofs.lemmas.List.{get_or-take, get_or-drop, length-take-le, length-drop, get_or_default, append-nil}
use Rattle.std.proofs.lemmas.List.Elements.{All-head, All-tail, filter-append}
use Rattle.std.proofs.lemmas.List.Edits.{split_between}
use Rattle.std.proofs.lemmas.List.Sorted.{searchable_from_sorted}
use Rattle.std.proofs.Math.Bool.{and-false}
use Rattle.collate_lists.specs.Names.{is_less, is_greater, is_equal, in_order}
use Rattle.collate_lists.specs.Search.{stands_before, IsRankOf}
use Rattle.collate_lists.proofs.NamesLemmas.{in_order_is_sorted}

-- ---- one comparison

before_down : (past : Bool) (r s : Ordering) → ordering_index r ≤ ordering_index s → stands_before past s ≡ true → stands_before past r ≡ true
before_down past Less s l h = refl
before_down past Equal Less l h = absurd (omega arith)
before_down past Equal Equal l h = h
before_down past Equal Greater l h = cc
before_down past Greater Less l h = absurd (omega arith)
before_down past Greater Equal l h = absurd (omega arith)
before_down past Greater Greater l h = h

-- elements in order: those that stand before another come first
pub in_order_parted : {A : Type 0} (R : A → A → Ordering) → IsTotalOrder R → (past : Bool) (x : A) (xs : List A) → IsPartitionedBy (λ other. stands_before past (R other x)) (in_order R xs)
in_order_parted R o past x xs i j d l h t =
    let rises : IsNonDecreasingBy (λ other. ordering_index (R other x)) (in_order R xs) = searchable_from_sorted o (λ other. other) (in_order R xs) x (in_order_is_sorted R o xs) in
    before_down past (R (get_or (in_order R xs) i d) x) (R (get_or (in_order R xs) j d) x) (rises i j d l h) t

module _ {A : Type 0} (p : A → Bool) (xs : List A) (parted : IsPartitionedBy p xs) where
  -- one that passes: all up to it pass
  pub low_rises : (middle : ℕ) (e : A) → middle < length xs → p (get_or xs middle e) ≡ true → AllWithin (λ x. p x ≡ true) xs 0 (middle + 1)
  low_rises middle e within t k d l h = parted k middle d (omega arith) within (ap p (get_or_default xs middle d e within) ∙ t)

  -- one that fails: all from it on fail
  pub high_falls : (middle : ℕ) (e : A) → middle < length xs → p (get_or xs middle e) ≡ false → AllWithin (λ x. p x ≡ false) xs middle (length xs)
  high_falls middle e within t k d l h =
      false_from_ne_true (p (get_or xs k d)) (λ b. true≢false (sym (parted middle k d l h b) ∙ ap p (get_or_default xs middle d e within) ∙ t))

-- ---- halves

-- half of a span has one digit less
pub halved : (span later left : ℕ) → 0 < span → span < 2 ^ left → later ≤ span / 2 → (rest : ℕ) × (rest + 1 ≡ left) × (later < 2 ^ rest)
halved span later zero h k l = absurd (omega arith)
halved span later (suc left) h k l =
    let double : 2 ^ suc left ≡ 2 ^ left * 2 = pow-suc 2 left in
    (left, omega arith, omega arith)

-- ---- a search by halves, as far as it has come

-- low and high are the ends of what is left to be searched; count comparisons were made, before of them before the search
pub record IsNarrowed {A : Type 0} (compared : A → Ordering) (past : Bool) (xs : List A) (before : ℕ) (low high count : ℕ) : Type 0 where
  pub ordered : low ≤ high
  pub bound : high ≤ length xs
  pub front : AllWithin (λ other. stands_before past (compared other) ≡ true) xs 0 low
  pub back : AllWithin (λ other. stands_before past (compared other) ≡ false) xs high (length xs)
  pub few : (digits : ℕ) → length xs < 2 ^ digits → (left : ℕ) × (high - low < 2 ^ left) × (count + left ≤ before + digits)

module _ {A : Type 0} (compared : A → Ordering) (past : Bool) (xs : List A) (before : ℕ) where
  -- the search begins
  pub narrowed_none : IsNarrowed compared past xs before 0 (length xs) before
  narrowed_none = record {
    ordered = omega arith;
    bound = omega arith;
    front = λ k d l h. absurd (omega arith);
    back = λ k d l h. absurd (omega arith);
    few = λ digits h. (digits, omega arith, omega arith);
  }

  -- the search has ended: its end is the rank
  pub narrowed_all : (low high count : ℕ) → IsNarrowed compared past xs before low high count → high ≤ low → IsRankOf compared past xs low
  narrowed_all low high count s h =
      let same : high ≡ low = omega (arith, s.ordered) in
      (s.front, subst (λ at. AllWithin (λ other. stands_before past (compared other) ≡ false) xs at (length xs)) same s.back)

  -- as many comparisons as the length has digits, at most
  pub narrowed_few : (low high count : ℕ) → IsNarrowed compared past xs before low high count → (digits : ℕ) → length xs < 2 ^ digits → count ≤ before + digits
  narrowed_few low high count s digits h =
      let told : (left : ℕ) × (high - low < 2 ^ left) × (count + left ≤ before + digits) = s.few digits h in
      omega (arith, told.2)

  module _ (low high count later : ℕ) (s : IsNarrowed compared past xs before low high count) (open' : low < high) (counted : later ≤ count + 1) (parted : IsPartitionedBy (λ other. stands_before past (compared other)) xs) where
    middle : ℕ
    middle = low + (high - low) / 2

    fewer : (narrow digits : ℕ) → narrow ≤ (high - low) / 2 → length xs < 2 ^ digits → (left : ℕ) × (narrow < 2 ^ left) × (later + left ≤ before + digits)
    fewer narrow digits l h =
        let told : (left : ℕ) × (high - low < 2 ^ left) × (count + left ≤ before + digits) = s.few digits h in
        let half : (rest : ℕ) × (rest + 1 ≡ told.0) × (narrow < 2 ^ rest) = halved (high - low) narrow told.0 (omega arith) told.1 l in
        (half.0, half.2, omega (arith, told.2, half.1))

    -- the middle element stands before
    pub narrowed_low : (e : A) → stands_before past (compared (get_or xs (low + (high - low) / 2) e)) ≡ true → IsNarrowed compared past xs before (low + (high - low) / 2 + 1) high later
    unfolding middle
    narrowed_low e t = record {
      ordered = omega arith;
      bound = s.bound;
      front = low_rises (λ other. stands_before past (compared other)) xs parted middle e (omega (arith, s.bound)) t;
      back = s.back;
      few = λ digits h. fewer (high - (middle + 1)) digits (omega arith) h;
    }

    -- the middle element doesn't
    pub narrowed_high : (e : A) → stands_before past (compared (get_or xs (low + (high - low) / 2) e)) ≡ false → IsNarrowed compared past xs before low (low + (high - low) / 2) later
    unfolding middle
    narrowed_high e t = record {
      ordered = omega arith;
      bound = omega (arith, s.bound);
      front = s.front;
      back = high_falls (λ other. stands_before past (compared other)) xs parted middle e (omega (arith, s.bound)) t;
      few = λ digits h. fewer (middle - low) digits (omega arith) h;
    }

-- ---- two ranks

both_ways : (r : Ordering) → stands_before false r ≡ true → stands_before true r ≡ false → ⊥
both_ways Less h k = cc
both_ways Equal h k = cc
both_ways Greater h k = cc

-- the first element that isn't below doesn't stand after the first that is above
pub ends_ordered : {A : Type 0} (compared : A → Ordering) (xs : List A) (start end : ℕ) → start ≤ length xs → IsRankOf compared false xs start → IsRankOf compared true xs end → start ≤ end
ends_ordered compared [] start end l s e = omega arith
ends_ordered compared (x ∷ xs) start end l s e =
    ⊎_elim (λ (h : end < start). absurd (both_ways (compared (get_or (x ∷ xs) end x)) (s.0 end x (omega arith) h) (e.1 end x (omega arith) (omega arith)))) (λ (h : start ≤ end). h) (cases_lt end start)

-- all pass
pub filter_all : {A : Type 0} (p : A → Bool) (xs : List A) → All (λ x. p x ≡ true) xs → filter p xs ≡ xs
filter_all p [] h = refl
filter_all p (x ∷ xs) h =
    ap (λ b. cond b (x ∷ filter p xs) (filter p xs)) (All-head (λ y. p y ≡ true) x xs h)
    ∙ ap (λ ys. x ∷ ys) (filter_all p xs (All-tail (λ y. p y ≡ true) x xs h))

-- none passes
pub filter_none : {A : Type 0} (p : A → Bool) (xs : List A) → All (λ x. p x ≡ false) xs → filter p xs ≡ []
filter_none p [] h = refl
filter_none p (x ∷ xs) h =
    ap (λ b. cond b (x ∷ filter p xs) (filter p xs)) (All-head (λ y. p y ≡ false) x xs h)
    ∙ filter_none p xs (All-tail (λ y. p y ≡ false) x xs h)

-- the part between two ranks is what passes a test, if nothing before and nothing after passes, and all between do
module _ {A : Type 0} (p : A → Bool) (xs : List A) (start end : ℕ) (l : start ≤ end) (k : end ≤ length xs) where
  module _ (before : AllWithin (λ x. p x ≡ false) xs 0 start) (within : AllWithin (λ x. p x ≡ true) xs start end) (behind : AllWithin (λ x. p x ≡ false) xs end (length xs)) where
    front_fails : All (λ x. p x ≡ false) (take start xs)
    front_fails i d h =
        let low : i < start = omega (arith, length-take-le start xs (omega arith)) in
        ap p (get_or-take start xs i d low) ∙ before i d (omega arith) low

    middle_passes : All (λ x. p x ≡ true) (slice_range xs start end)
    middle_passes i d h =
        let rest : length (drop start xs) ≡ length xs - start = length-drop start xs in
        let low : i < end - start = omega (arith, length-take-le (end - start) (drop start xs) (omega arith)) in
        ap p (get_or-take (end - start) (drop start xs) i d low ∙ get_or-drop start xs i d) ∙ within (start + i) d (omega arith) (omega arith)

    back_fails : All (λ x. p x ≡ false) (drop end xs)
    back_fails i d h =
        let rest : length (drop end xs) ≡ length xs - end = length-drop end xs in
        ap p (get_or-drop end xs i d) ∙ behind (end + i) d (omega arith) (omega arith)

    pub passing_part : slice_range xs start end ≡ filter p xs
    passing_part =
        let middle : List A = slice_range xs start end in
        let parts : xs ≡ take start xs ++ (middle ++ drop end xs) = split_between xs start end l in
        let front : filter p (take start xs) ≡ [] = filter_none p (take start xs) front_fails in
        let kept : filter p middle ≡ middle = filter_all p middle middle_passes in
        let back : filter p (drop end xs) ≡ [] = filter_none p (drop end xs) back_fails in
        sym (ap (filter p) parts
        ∙ filter-append p (take start xs) (middle ++ drop end xs)
        ∙ ap (λ zs. zs ++ filter p (middle ++ drop end xs)) front
        ∙ filter-append p middle (drop end xs)
        ∙ ap (λ zs. filter p middle ++ zs) back
        ∙ append-nil (filter p middle)
        ∙ kept)

below_unequal : (r : Ordering) → stands_before false r ≡ true → is_equal r ≡ false
below_unequal Less h = refl
below_unequal Equal h = cc
below_unequal Greater h = cc

above_unequal : (r : Ordering) → stands_before true r ≡ false → is_equal r ≡ false
above_unequal Less h = cc
above_unequal Equal h = cc
above_unequal Greater h = refl

between_equal : (r : Ordering) → stands_before false r ≡ false → stands_before true r ≡ true → is_equal r ≡ true
between_equal Less h k = cc
between_equal Equal h k = refl
between_equal Greater h k = cc

-- the elements from the first that isn't below to the first that is above are the equal ones
pub equal_part : {A : Type 0} (compared : A → Ordering) (xs : List A) (start end : ℕ) → start ≤ end → end ≤ length xs → IsRankOf compared false xs start → IsRankOf compared true xs end → slice_range xs start end ≡ filter (λ other. is_equal (compared other)) xs
equal_part compared xs start end l k s e =
    passing_part (λ other. is_equal (compared other)) xs start end l k
    (λ i d low high. below_unequal (compared (get_or xs i d)) (s.0 i d low high))
    (λ i d low high. between_equal (compared (get_or xs i d)) (s.1 i d low (omega arith)) (e.0 i d (omega arith) high))
    (λ i d low high. above_unequal (compared (get_or xs i d)) (e.1 i d low high))

-- ---- the elements between two

below_first : (r : Ordering) → stands_before false r ≡ true → is_less r ≡ true
below_first Less h = refl
below_first Equal h = cc
below_first Greater h = cc

from_first : (r : Ordering) → stands_before false r ≡ false → is_less r ≡ false
from_first Less h = cc
from_first Equal h = refl
from_first Greater h = refl

upto_last : (r : Ordering) → stands_before true r ≡ true → is_greater r ≡ false
upto_last Less h = refl
upto_last Equal h = refl
upto_last Greater h = cc

above_last : (r : Ordering) → stands_before true r ≡ false → is_greater r ≡ true
above_last Less h = cc
above_last Equal h = cc
above_last Greater h = refl

is_between : Ordering → Ordering → Bool
is_between r s = not (is_less r) && not (is_greater s)

between_not_low : (r s : Ordering) → is_less r ≡ true → is_between r s ≡ false
unfolding is_between
between_not_low r s h = ap (λ b. not b && not (is_greater s)) h

between_not_high : (r s : Ordering) → is_greater s ≡ true → is_between r s ≡ false
unfolding is_between
between_not_high r s h = ap (λ b. not (is_less r) && not b) h ∙ and-false (not (is_less r))

between_both : (r s : Ordering) → is_less r ≡ false → is_greater s ≡ false → is_between r s ≡ true
unfolding is_between
between_both r s h k = ap (λ b. not b && not (is_greater s)) h ∙ ap not k

-- first says how an element compares with the first of two, last with the last
module _ {A : Type 0} (first last : A → Ordering) (xs : List A) (start end : ℕ) (s : IsRankOf first false xs start) (e : IsRankOf last true xs end) where
  -- the elements from the first that isn't below the first of two to the first that is above the last are those between them, as names_between has them
  pub between_part : start ≤ end → end ≤ length xs → slice_range xs start end ≡ filter (λ other. not (is_less (first other)) && not (is_greater (last other))) xs
  unfolding is_between
  between_part l k =
      passing_part (λ other. not (is_less (first other)) && not (is_greater (last other))) xs start end l k
      (λ i d low high. between_not_low (first (get_or xs i d)) (last (get_or xs i d)) (below_first (first (get_or xs i d)) (s.0 i d low high)))
      (λ i d low high.
      between_both (first (get_or xs i d)) (last (get_or xs i d))
      (from_first (first (get_or xs i d)) (s.1 i d low (omega arith)))
      (upto_last (last (get_or xs i d)) (e.0 i d (omega arith) high)))
      (λ i d low high. between_not_high (first (get_or xs i d)) (last (get_or xs i d)) (above_last (last (get_or xs i d)) (e.1 i d low high)))

  -- no element is between them where the rank past the last isn't after the rank of the first
  pub between_none : end ≤ start → filter (λ other. not (is_less (first other)) && not (is_greater (last other))) xs ≡ []
  unfolding is_between
  between_none l =
      filter_none (λ other. not (is_less (first other)) && not (is_greater (last other))) xs
      (λ i d h.
      ⊎_elim
      (λ (b : i < end). between_not_low (first (get_or xs i d)) (last (get_or xs i d)) (below_first (first (get_or xs i d)) (s.0 i d (omega arith) (omega arith))))
      (λ (b : end ≤ i). between_not_high (first (get_or xs i d)) (last (get_or xs i d)) (above_last (last (get_or xs i d)) (e.1 i d b h)))
      (cases_lt i end))
