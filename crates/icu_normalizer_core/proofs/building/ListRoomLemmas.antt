-- How many slots full lists take.
use Rattle.std.proofs.Common.{◌≡◌, ◌≢◌, ℕ, zero, suc, ◌+◌, ◌*◌, ◌/◌, ◌<◌, ◌≤◌, ⊎_elim, Bool, true, false, cond, ltb, ◌||◌, List, [], ◌∷◌, length, take, slice_get, slice_index_or, nat_eq, Option, Some, None, refl, sym, ap, subst, ◌∙◌, arith}
use Rattle.std.specs.Prelude.{sum_by}
use Rattle.std.specs.List.{All, AllByRecursion, IsDistinct, list_any}
use Rattle.std.proofs.lemmas.Bool.{false≢true, or_parts}
use Rattle.std.proofs.lemmas.Bool.Decides.{nat_tests}
use Rattle.std.proofs.lemmas.List.{append-nil, take_all}
use Rattle.std.proofs.lemmas.List.Elements.{All-cons, All-head, All-nil, All-tail}
use Rattle.std.proofs.lemmas.List.Sums.{sum_by-cons, sum_by_more}
use Rattle.icu_normalizer_core.specs.declared.canonical.check.left.Left.{Left}
use Rattle.icu_normalizer_core.specs.Canonical.{Leaves, IsFree, mapped, nothing, unmapped}
use Rattle.icu_normalizer_core.specs.CanonicalLists.{AreTriples, step_in}
use Rattle.icu_normalizer_core.specs.CharacterWords.{keys_below}
use Rattle.icu_normalizer_core.specs.ListRoom.{is_stated, list_room}
use Rattle.icu_normalizer_core.specs.ListWords.{slots_of, settled_slots}
use Rattle.icu_normalizer_core.specs.Settled.{AreStarts, key_at, left_items}
use Rattle.icu_normalizer_core.proofs.accepted.TableMeanings.{step_in_free}
use Rattle.icu_normalizer_core.proofs.building.FullListWordLemmas.{take_whole}
use Rattle.icu_normalizer_core.proofs.building.MapNumberLemmas.{mapping_some}
use Rattle.icu_normalizer_core.proofs.building.SettledWordLemmas.{got_here}
use Rattle.icu_normalizer_core.proofs.settling.EndingLemmas.{got_cases}
use Rattle.icu_normalizer_core.proofs.settling.LeftLemmas.{left_one}
use Rattle.icu_normalizer_core.proofs.settling.TripleLemmas.{keys_rise, listed_of}

-- ---- One list

pub slots_most : (list : List ℕ) → slots_of list ≤ length list
slots_most list = by (is_stated list)
  where
    by : (b : Bool) → cond b 0 (length list) ≤ length list
    by true = omega arith
    by false = omega arith

some_tested : (n : ℕ) → ltb 0 (suc n) ≡ true
some_tested n = grind (arith, nat_tests)

pub empty_from : (xs : List ℕ) → ltb 0 (length xs) ≡ false → xs ≡ []
empty_from [] e = refl
empty_from (x ∷ xs) e = absurd (false≢true (sym e ∙ some_tested (length xs)))

-- characters that no step maps are what is left of them
left_where_none : (step : ℕ → List ℕ) (xs : List ℕ) → list_any (λ d. ltb 0 (length (step d))) xs ≡ false → Leaves step xs xs
left_where_none step [] e = nothing
left_where_none step (x ∷ xs) e =
    let both = or_parts (ltb 0 (length (step x))) (list_any (λ d. ltb 0 (length (step d))) xs) e in
    unmapped x xs xs (empty_from (step x) both.0) (left_where_none step xs both.1)

pub left_of_step : (step : ℕ → List ℕ) (c : ℕ) (ds : List ℕ) → step c ≡ ds → ds ≢ [] → list_any (λ d. ltb 0 (length (step d))) ds ≡ false → Leaves step (c ∷ []) ds
left_of_step step c [] e some none = absurd (some refl)
left_of_step step c (d ∷ ds) e some none =
    mapped c d ds [] (d ∷ ds) e (subst (λ (xs : List ℕ). Leaves step xs (d ∷ ds)) (sym (append-nil (d ∷ ds))) (left_where_none step (d ∷ ds) none))

-- the full list of a mapped character takes no more slots than its mapping says
pub room_of_list : (step : ℕ → List ℕ) (c : ℕ) (list : List ℕ) → step c ≢ [] → Leaves step (c ∷ []) list → length list ≤ 8 → slots_of list ≤ list_room step (step c)
room_of_list step c list some leaves few = by (list_any (λ d. ltb 0 (length (step d))) (step c)) refl
  where
    by : (b : Bool) → list_any (λ d. ltb 0 (length (step d))) (step c) ≡ b → slots_of list ≤ cond b 8 (slots_of (step c))
    by true e = omega (arith, slots_most list, few)
    by false e =
        let same : list ≡ step c = left_one step (c ∷ []) list (step c) leaves (left_of_step step c (step c) refl some e) in
        subst (λ (xs : List ℕ). slots_of list ≤ slots_of xs) same (omega arith)

-- ---- Steps that are alike

alike_any : (f g : ℕ → List ℕ) (ds : List ℕ) → All (λ d. f d ≡ g d) ds → list_any (λ d. ltb 0 (length (f d))) ds ≡ list_any (λ d. ltb 0 (length (g d))) ds
alike_any f g [] same = refl
alike_any f g (d ∷ ds) same =
    ap (λ (xs : List ℕ). ltb 0 (length xs) || list_any (λ x. ltb 0 (length (f x))) ds) (All-head (λ x. f x ≡ g x) d ds same)
    ∙ ap (λ (b : Bool). ltb 0 (length (g d)) || b) (alike_any f g ds (All-tail (λ x. f x ≡ g x) d ds same))

pub room_alike : (f g : ℕ → List ℕ) (ds : List ℕ) → All (λ d. f d ≡ g d) ds → list_room f ds ≡ list_room g ds
room_alike f g ds same = ap (λ (b : Bool). cond b 8 (slots_of ds)) (alike_any f g ds same)

-- ---- The full lists of triples

greater : (a b : ℕ) → b < a → nat_eq a b ≡ false
greater a b lt = grind (arith, nat_tests)

at_most : (n : ℕ) → ltb 8 n ≡ false → n ≤ 8
at_most n e = grind (arith, nat_tests)

same_some : (a b : Option Left) → Some a ≡ Some b → a ≡ b
same_some a b e = cc

index_of : (xs : List (Option Left)) (i : ℕ) (d x : Option Left) → i < length xs → slice_get xs i ≡ Some x → slice_index_or xs i d ≡ x
index_of xs i d x below got = same_some _ x (sym (got_here xs i d (slice_index_or xs i d) below refl) ∙ got)

module _ (steps : List ℕ) (t : AreTriples steps) where
  apart : (n m : ℕ) → m ≤ n → n < length steps / 3 → AllByRecursion (λ y. nat_eq (key_at steps n) y ≡ false) (keys_below steps m)
  unfolding keys_below
  apart n zero h below = tt
  apart n (suc m) h below =
      let rise = keys_rise steps t m n (omega arith) (omega (arith, below)) in
      (greater (key_at steps n) (key_at steps m) rise, apart n m (omega arith) below)

  pub keys_distinct : (n : ℕ) → n ≤ length steps / 3 → IsDistinct nat_eq (keys_below steps n)
  unfolding IsDistinct keys_below
  keys_distinct zero h = tt
  keys_distinct (suc n) h = (apart n n (omega arith) (omega (arith, h)), keys_distinct n (omega (arith, h)))

  pub all_keys : (P : ℕ → Type 0) (n : ℕ) → n ≤ length steps / 3 → ((index : ℕ) → index < length steps / 3 → P (key_at steps index)) → All P (keys_below steps n)
  unfolding keys_below
  all_keys P zero h each = All-nil P
  all_keys P (suc n) h each = All-cons P (key_at steps n) (keys_below steps n) (each n (omega (arith, h))) (all_keys P n (omega (arith, h)) each)

  key_mapped : (index : ℕ) → index < length steps / 3 → IsFree (key_at steps index) → step_in steps (key_at steps index) ≢ []
  key_mapped index h free none =
      let inside : 3 * index + 2 < length steps = let r = t.whole in omega arith in
      mapping_some _ _ (sym (listed_of steps (key_at steps index) index t (inside, refl)) ∙ sym (step_in_free steps (key_at steps index) free) ∙ none)

  module _ (settled : List (Option Left)) (free : (index : ℕ) → index < length steps / 3 → IsFree (key_at steps index)) (starts : AreStarts steps settled) where
    abbrev room : ℕ → ℕ
    room c = list_room (step_in steps) (step_in steps c)

    list_fits : (index : ℕ) (left : Left) → index < length steps / 3 → slice_get settled index ≡ Some (Some left) → settled_slots (Some left) ≤ room (key_at steps index)
    list_fits index left h got = by (ltb 8 (length (left_items left))) refl
      where
        by : (b : Bool) → ltb 8 (length (left_items left)) ≡ b → cond b 0 (slots_of (left_items left)) ≤ room (key_at steps index)
        by true e = omega arith
        by false e =
            let few : length (left_items left) ≤ 8 = at_most (length (left_items left)) e in
            let s = starts.each index left got (free index h) in
            let whole : left_items left ≡ s.0 = s.2 ∙ take_whole 9 s.0 (omega (arith, few, ap length s.2)) in
            room_of_list (step_in steps) (key_at steps index) (left_items left) (key_mapped index h (free index h))
            (subst (Leaves (step_in steps) (key_at steps index ∷ [])) (sym whole) s.1) few

    index_fits : (index : ℕ) → index < length steps / 3 → settled_slots (slice_index_or settled index None) ≤ room (key_at steps index)
    index_fits index h =
        let within : index < length settled = let n = starts.count in omega (arith, h) in
        ⊎_elim
        (λ none. subst (λ (o : Option Left). settled_slots o ≤ room (key_at steps index)) (sym (index_of settled index None None within none)) (omega arith))
        (λ found.
        subst (λ (o : Option Left). settled_slots o ≤ room (key_at steps index)) (sym (index_of settled index None (Some found.0) within found.1)) (list_fits index found.0 h found.1))
        (got_cases settled index within)

    slots_fit : (n : ℕ) → n ≤ length steps / 3 → sum_by settled_slots (take n settled) ≤ sum_by room (keys_below steps n)
    unfolding keys_below
    slots_fit zero h = omega arith
    slots_fit (suc n) h =
        let within : n < length settled = let k = starts.count in omega (arith, h) in
        let more : sum_by settled_slots (take (n + 1) settled) ≡ sum_by settled_slots (take n settled) + settled_slots (slice_index_or settled n None) =
        sum_by_more settled_slots settled n None within in
        let one : suc n ≡ n + 1 = omega arith in
        let next : sum_by settled_slots (take (suc n) settled) ≡ sum_by settled_slots (take (n + 1) settled) = ap (λ (k : ℕ). sum_by settled_slots (take k settled)) one in
        omega (arith, next, more, slots_fit n (omega (arith, h)), index_fits n (omega (arith, h)), sum_by-cons room (key_at steps n) (keys_below steps n))

    -- lists that take more slots than words name
    pub long_lists : (indices : ℕ) → indices ≤ sum_by settled_slots settled → indices ≤ sum_by room (keys_below steps (length steps / 3))
    long_lists indices many =
        let all : take (length steps / 3) settled ≡ settled = take_all (length steps / 3) settled (let n = starts.count in omega arith) in
        omega (arith, many, slots_fit (length steps / 3) (omega arith), ap (λ (xs : List (Option Left)). sum_by settled_slots xs) all)
