-- How many different blocks a new map has, and a map after a write for one code point.
use Rattle.std.proofs.Common.{◌≡◌, ℕ, suc, ◌+◌, ◌-◌, ◌*◌, ◌/◌, ◌<◌, ◌≤◌, ◌≢◌, ◌&&◌, nat_le, nat_lt, if◌then◌else◌, Bool, true, false, cond, List, [], ◌∷◌, length, map, replicate, get_or, refl, sym, ap, ◌∙◌, arith, ⊎_elim}
use Rattle.std.specs.Prelude.{slice_set, slice_index_or}
use Rattle.std.specs.List.{Contains}
use Rattle.std.specs.Set.{unique_keys, distinct_count, is_member}
use mathlib.Core.Bool.{true≢false}
use Rattle.std.proofs.lemmas.Bool.{cases_eq, cases_lt}
use Rattle.std.proofs.lemmas.Bool.Decides.{nat_tests}
use Rattle.std.proofs.lemmas.List.{get_or-map, get_or-replicate, get_or-set_other, length-replicate, map-set, length-map, length-set}
use Rattle.std.proofs.lemmas.Nat.{div-mul-add}
use Rattle.icu_codepointtrie.specs.Blocks.{block, blocks, different_blocks}
use Rattle.icu_codepointtrie.proofs.built.BlockLemmas.{same_block}
use Rattle.icu_codepointtrie.proofs.built.BlockCountLemmas.{Same, among_blocks, block_among, count_below, whole_block}

-- one list more than others
one_more : (b : List ℕ) (bs : List (List ℕ)) → distinct_count Same (b ∷ bs) ≤ distinct_count Same bs + 1
one_more b bs = by (is_member Same bs b) where
  by : (t : Bool) → length (cond t (unique_keys Same bs) (b ∷ unique_keys Same bs)) ≤ length (unique_keys Same bs) + 1
  by true = omega arith
  by false = omega arith

first_of : (b : List ℕ) (bs : List (List ℕ)) (q : List ℕ) → b ≡ q → Contains (b ∷ bs) q
first_of b bs q e = (0, omega arith, e)

rest_of : (b : List ℕ) (bs : List (List ℕ)) (q : List ℕ) → Contains bs q → Contains (b ∷ bs) q
rest_of b bs q (k, inside, is) = (suc k, omega arith, is)

-- a list that differs at one slot has at most one different block more
changed_count : (width slot : ℕ) (xs ys : List ℕ) → length xs ≡ length ys → ((k : ℕ) → k < length xs → k ≢ slot → get_or ys k 0 ≡ get_or xs k 0)
    → distinct_count Same (blocks width ys) ≤ distinct_count Same (blocks width xs) + 1
changed_count width slot xs ys count same =
    let changed : List ℕ = block width ys (slot / width) in
    let few = count_below (blocks width ys) (changed ∷ blocks width xs) among in
    omega (arith, few, one_more changed (blocks width xs))
  where
    among : (q : List ℕ) → Contains (blocks width ys) q → Contains (block width ys (slot / width) ∷ blocks width xs) q
    among q in_ys =
        let from = among_blocks width ys q in_ys in
        let j : ℕ = from.0 in
        let inside : j < length xs / width = rw count from.1 in
        let whole : j * width + width ≤ length xs = whole_block width (length xs) j inside in
        ⊎_elim
        (λ (here : j ≡ slot / width). first_of _ _ q (ap (block width ys) (sym here) ∙ from.2))
        (λ (elsewhere : j ≡ slot / width → ⊥). rest_of _ _ q (block_among width xs j q inside
        (same_block width xs ys j j whole (omega (arith, count))
        (λ k h. sym (same (j * width + k) (omega arith) (λ e. elsewhere (sym (div-mul-add j width k h) ∙ ap (λ n. n / width) e))))
        ∙ from.2)))
        (cases_eq j (slot / width))

-- A write at one slot makes at most one different block more.
pub different_blocks-set : {T : Type 0} (number : T → ℕ) (width : ℕ) (values : List T) (slot : ℕ) (value : T)
    → different_blocks number width (slice_set values slot value) ≤ different_blocks number width values + 1
unfolding different_blocks
different_blocks-set number width values slot value =
    let xs : List ℕ = map number values in
    rw map-set (changed_count width slot xs (slice_set xs slot (number value)) (sym (length-set xs slot (number value)))
    (λ k h apart. get_or-set_other xs slot k (number value) 0 apart))

-- A list of one value has at most one block of a width.
pub different_blocks-constant : {T : Type 0} (number : T → ℕ) (width : ℕ) (values : List T) (value : T)
    → ((k : ℕ) → k < length values → get_or values k value ≡ value) → different_blocks number width values ≤ 1
unfolding different_blocks
different_blocks-constant number width values value same =
    let xs : List ℕ = map number values in
    omega (arith, count_below (blocks width xs) (block width xs 0 ∷ []) among, one_more (block width xs 0) [])
  where
    at : (k : ℕ) → k < length (map number values) → get_or (map number values) k 0 ≡ number value
    at k h =
        let below : k < length values = omega (arith, length-map values number) in
        get_or-map number values k value 0 below ∙ ap number (same k below)

    among : (q : List ℕ) → Contains (blocks width (map number values)) q → Contains (block width (map number values) 0 ∷ []) q
    among q in_blocks =
        let xs : List ℕ = map number values in
        let from = among_blocks width xs q in_blocks in
        let j : ℕ = from.0 in
        let whole : j * width + width ≤ length xs = whole_block width (length xs) j from.1 in
        first_of (block width xs 0) [] q
        (same_block width xs xs 0 j (omega arith) whole (λ k h. at (0 * width + k) (omega arith) ∙ sym (at (j * width + k) (omega arith))) ∙ from.2)

-- the block that holds a slot
holds : (width j n : ℕ) → j * width ≤ n → n < j * width + width → j ≡ n / width
holds width j n from below =
    let back : j * width + (n - j * width) ≡ n = omega arith in
    sym (div-mul-add j width (n - j * width) (omega arith)) ∙ ap (λ m. m / width) back

-- A list that has one value from a slot to before another, and is elsewhere as before, has at most three different blocks
-- more: those that hold the two slots, and one of the value alone.
range_count : (width first end value : ℕ) (xs ys : List ℕ) → length xs ≡ length ys
    → ((k : ℕ) → k < length xs → k < first → get_or ys k 0 ≡ get_or xs k 0)
    → ((k : ℕ) → k < length xs → end ≤ k → get_or ys k 0 ≡ get_or xs k 0)
    → ((k : ℕ) → k < length xs → first ≤ k → k < end → get_or ys k 0 ≡ value)
    → distinct_count Same (blocks width ys) ≤ distinct_count Same (blocks width xs) + 3
range_count width first end value xs ys count before behind within =
    let few = count_below (blocks width ys) (at_first ∷ at_end ∷ filled ∷ blocks width xs) among in
    omega (arith, few, one_more at_first (at_end ∷ filled ∷ blocks width xs), one_more at_end (filled ∷ blocks width xs), one_more filled (blocks width xs))
  where
    values : List ℕ
    values = replicate width value

    at_first : List ℕ
    at_first = block width ys (first / width)

    at_end : List ℕ
    at_end = block width ys (end / width)

    filled : List ℕ
    filled = block width values 0

    All4 : List (List ℕ)
    All4 = at_first ∷ at_end ∷ filled ∷ blocks width xs

    old : (j : ℕ) (q : List ℕ) → j < length xs / width → ((k : ℕ) → k < width → get_or ys (j * width + k) 0 ≡ get_or xs (j * width + k) 0)
        → block width ys j ≡ q → Contains All4 q
    old j q inside same is =
        let whole : j * width + width ≤ length xs = whole_block width (length xs) j inside in
        rest_of at_first (at_end ∷ filled ∷ blocks width xs) q (rest_of at_end (filled ∷ blocks width xs) q (rest_of filled (blocks width xs) q
        (block_among width xs j q inside (same_block width xs ys j j whole (omega (arith, count)) (λ k h. sym (same k h)) ∙ is))))

    at : (j : ℕ) (q : List ℕ) → j < length xs / width → block width ys j ≡ q → Contains All4 q
    at j q inside is =
        let whole : j * width + width ≤ length xs = whole_block width (length xs) j inside in
        ⊎_elim
        (λ (left : first < j * width + width). ⊎_elim
        (λ (right : j * width < end). ⊎_elim
        (λ (cut : j * width < first). first_of at_first (at_end ∷ filled ∷ blocks width xs) q (ap (block width ys) (sym (holds width j first (omega arith) left)) ∙ is))
        (λ (from : first ≤ j * width). ⊎_elim
        (λ (cut : end < j * width + width). rest_of at_first (at_end ∷ filled ∷ blocks width xs) q (first_of at_end (filled ∷ blocks width xs) q (ap (block width ys) (sym (holds width j end (omega arith) cut)) ∙ is)))
        (λ (to : j * width + width ≤ end). rest_of at_first (at_end ∷ filled ∷ blocks width xs) q (rest_of at_end (filled ∷ blocks width xs) q (first_of filled (blocks width xs) q
        (same_block width values ys 0 j (omega (arith, length-replicate width value)) (omega (arith, count))
        (λ k h. get_or-replicate width (0 * width + k) value 0 (omega arith) ∙ sym (within (j * width + k) (omega arith) (omega arith) (omega arith))) ∙ is))))
        (cases_lt end (j * width + width)))
        (cases_lt (j * width) first))
        (λ (past : end ≤ j * width). old j q inside (λ k h. behind (j * width + k) (omega arith) (omega arith)) is)
        (cases_lt (j * width) end))
        (λ (ahead : j * width + width ≤ first). old j q inside (λ k h. before (j * width + k) (omega arith) (omega arith)) is)
        (cases_lt first (j * width + width))

    among : (q : List ℕ) → Contains (blocks width ys) q → Contains All4 q
    among q in_ys =
        let from = among_blocks width ys q in_ys in
        at from.0 q (rw count from.1) from.2

-- what stands at a slot after one value was written from a slot to before another
written_at : (a b : Bool) (t e x : ℕ) → a ≡ false → (if a && b then t else e) ≡ e
written_at a b t e x h = rw h refl

-- A write over a range makes at most three different blocks more.
pub different_blocks-range : {T : Type 0} (number : T → ℕ) (width : ℕ) (old new : List T) (first end : ℕ) (value : T) → length new ≡ length old
    → ((c : ℕ) (default : T) → c < length old → slice_index_or new c default ≡ (if nat_le first c && nat_lt c end then value else slice_index_or old c default))
    → different_blocks number width new ≤ different_blocks number width old + 3
unfolding different_blocks
different_blocks-range {T} number width old new first end value count written =
    range_count width first end (number value) (map number old) (map number new) (length-map old number ∙ sym count ∙ sym (length-map new number))
    (λ k h below. both k h (out_left k below))
    (λ k h past. both k h (out_right k past))
    (λ k h from below.
    let inside : k < length old = omega (arith, length-map old number) in
    get_or-map number new k value 0 (omega (arith, count)) ∙ ap number (written k value inside ∙ chosen k from below))
  where
    out_left : (k : ℕ) → k < first → (if nat_le first k && nat_lt k end then true else false) ≡ false
    out_left k below = grind (arith, nat_tests)

    out_right : (k : ℕ) → end ≤ k → (if nat_le first k && nat_lt k end then true else false) ≡ false
    out_right k past = grind (arith, nat_tests)

    chosen : (k : ℕ) → first ≤ k → k < end → (if nat_le first k && nat_lt k end then value else slice_index_or old k value) ≡ value
    chosen k from below = grind (arith, nat_tests)

    stays : (t : Bool) (k : ℕ) → (if t then true else false) ≡ false → (if t then value else slice_index_or old k value) ≡ slice_index_or old k value
    stays true k e = absurd (true≢false e)
    stays false k e = refl

    both : (k : ℕ) → k < length (map number old) → (if nat_le first k && nat_lt k end then true else false) ≡ false
        → get_or (map number new) k 0 ≡ get_or (map number old) k 0
    both k h out =
        let inside : k < length old = omega (arith, length-map old number) in
        get_or-map number new k value 0 (omega (arith, count)) ∙ ap number (written k value inside ∙ stays (nat_le first k && nat_lt k end) k out) ∙ sym (get_or-map number old k value 0 inside)
