-- How many different blocks of 16 there are from U+10000 on.
use Rattle.std.proofs.Common.{◌≡◌, ℕ, ◌+◌, ◌-◌, ◌*◌, ◌<◌, ◌≤◌, ⊎_elim, Bool, true, false, cond, List, [], ◌∷◌, ◌++◌, length, map, drop, refl, sym, ap, subst, ◌∙◌, arith}
use Rattle.std.specs.Prelude.{slice_index}
use Rattle.std.specs.List.{Contains, range_with_len}
use Rattle.std.specs.Set.{distinct_count, is_member, unique_keys}
use Rattle.std.proofs.lemmas.Bool.{cases_lt}
use Rattle.std.proofs.lemmas.List.{get_or-map, length-map, length-drop, drop-map}
use Rattle.std.proofs.lemmas.List.Elements.{Contains-append_left, Contains-append_right}
use Rattle.std.proofs.lemmas.List.FromFn.{length-map-range_with_len, get_or-map-range_with_len}
use Rattle.icu_codepointtrie.specs.Blocks.{block, blocks, different_blocks, upper_start, upper_blocks, AreKept, HasMore}
use Rattle.icu_codepointtrie.proofs.built.BlockCountLemmas.{Same, among_blocks, block_among, block_of_drop, count_below, distinct_below}

pub upper_start_is : upper_start ≡ 0x1000 * 16
unfolding upper_start
upper_start_is = refl

-- a list in front of another brings at most as many different items as it has
pub count_joined : {K : Type 0} (eq : K → K → Bool) (xs ys : List K) → distinct_count eq (xs ++ ys) ≤ length xs + distinct_count eq ys
count_joined eq [] ys = omega arith
count_joined {K} eq (x ∷ xs) ys = by (is_member eq (xs ++ ys) x) (count_joined eq xs ys)
  where
    by : (b : Bool) → length (unique_keys eq (xs ++ ys)) ≤ length xs + distinct_count eq ys
        → length (cond b (unique_keys eq (xs ++ ys)) (x ∷ unique_keys eq (xs ++ ys))) ≤ length (x ∷ xs) + distinct_count eq ys
    by true h = omega arith
    by false h = omega arith

-- ---- Blocks from a slot on

module _ (start first : ℕ) (xs : List ℕ) (is : start ≡ first * 16) where
  abbrev behind : List (List ℕ)
  behind = blocks 16 (drop start xs)

  block_behind : (j : ℕ) → block 16 (drop start xs) j ≡ block 16 xs (first + j)
  block_behind j = subst (λ n. block 16 (drop n xs) j ≡ block 16 xs (first + j)) (sym is) (block_of_drop xs first j)

  pub fewer_behind : distinct_count Same behind ≤ distinct_count Same (blocks 16 xs)
  fewer_behind =
      count_below behind (blocks 16 xs)
      (λ q among.
      let at = among_blocks 16 (drop start xs) q among in
      block_among 16 xs (first + at.0) q (omega (arith, at.1, length-drop start xs, is)) (sym (block_behind at.0) ∙ at.2))

  module _ (before end : ℕ) (kept : List ℕ) (order : before ≤ first) (whole : end * 16 ≤ length xs) (are : AreKept 16 xs before end kept) where
    abbrev front : List (List ℕ)
    front = map (block 16 xs) (range_with_len before (first - before))

    on_either_side : (b : ℕ) (q : List ℕ) → before ≤ b → b < end → block 16 xs b ≡ q → Contains (front ++ behind) q
    on_either_side b q from to same =
        ⊎_elim
        (λ (low : b < first). Contains-append_left front behind q (
          b - before,
          omega (arith, length-map-range_with_len (block 16 xs) before (first - before)),
          get_or-map-range_with_len (block 16 xs) before (first - before) (b - before) b q (omega arith) (omega arith) ∙ same,
        ))
        (λ (high : first ≤ b).
        let back : first + (b - first) ≡ b = omega arith in
        Contains-append_right front behind q
        (block_among 16 (drop start xs) (b - first) q (omega (arith, whole, length-drop start xs, is)) (block_behind (b - first) ∙ ap (block 16 xs) back ∙ same)))
        (cases_lt b first)

    among : (q : List ℕ) → Contains (map (block 16 xs) kept) q → Contains (front ++ behind) q
    among q (k, inside, same) =
        let below : k < length kept = rw (length-map kept (block 16 xs)) at inside in
        on_either_side (slice_index kept k) q (are.from k below) (are.before k below) (sym (get_or-map (block 16 xs) kept k 0 q below) ∙ same)

    -- kept blocks are at most as many as there are before the slot, and different ones from there on
    pub kept_behind : length kept ≤ (first - before) + distinct_count Same behind
    kept_behind =
        omega (
          arith,
          distinct_below (map (block 16 xs) kept) (front ++ behind) are.different among,
          length-map kept (block 16 xs),
          count_joined Same front behind,
          length-map-range_with_len (block 16 xs) before (first - before),
        )

-- ---- Blocks from U+10000 on

-- they are no more than all
pub upper_blocks-le : {T : Type 0} (number : T → ℕ) (values : List T) → upper_blocks number values ≤ different_blocks number 16 values
unfolding different_blocks
upper_blocks-le number values =
    let behind : map number (drop upper_start values) ≡ drop upper_start (map number values) = sym (drop-map number upper_start values) in
    rw behind (fewer_behind upper_start 0x1000 (map number values) upper_start_is)

-- more kept blocks than the limit and all before U+10000 are more different ones from there on
pub more_upper : {T : Type 0} (number : T → ℕ) (limit before : ℕ) (values : List T) → length values ≡ 0x11_0000 → before ≤ 0x1000
    → HasMore 16 (map number values) before 0x1_1000 (limit + (0x1000 - before)) → limit < upper_blocks number values
unfolding different_blocks
more_upper number limit before values all order (kept, are, more) =
    let behind : map number (drop upper_start values) ≡ drop upper_start (map number values) = sym (drop-map number upper_start values) in
    rw behind (omega (
      arith,
      more,
      kept_behind upper_start 0x1000 (map number values) upper_start_is before 0x1_1000 kept order (omega (arith, length-map values number, all)) are,
    ))
