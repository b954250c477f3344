-- Third index blocks stay as they are when cells are put after them.
use Rattle.std.proofs.Common.{◌≡◌, ℕ, zero, suc, ◌+◌, ◌-◌, ◌*◌, ◌/◌, ◌%◌, ◌^◌, ◌<◌, ◌≤◌, refl, add-one, arith}
use Rattle.std.proofs.Math.Nat.{pow-suc, pow-le-pow_right}
use Rattle.icu_codepointtrie.specs.Slots.{data_offset, found}
use Rattle.icu_codepointtrie.specs.DataCells.{Stands, Grows}
use Rattle.icu_codepointtrie.specs.IndexBlocks.{joined, upper_cell, HasWide, Gives}
use Rattle.std.proofs.Common.{Bool, true, false, List, [], ◌∷◌, ◌++◌, length, get_or, ◌==◌, nat_lt, sym, ap, ◌∙◌, subst, length-append, ⊎_elim}
use Rattle.std.specs.Prelude.{slice_index, slice_get, Some, Option, None}
use Rattle.std.proofs.lemmas.Bool.{lt-ltb, le-ltb, ne_eqb, eq-eqb, cases_lt}
use Rattle.std.proofs.lemmas.List.{get_or_append_left, get_or-append_right, get_or_push}
use Rattle.std.proofs.lemmas.Option.{slice_get-get_or, slice_get_within, get_or_from_slice_get}

-- two bits more
pub joined_more : (f : ℕ → ℕ) (n : ℕ) → joined f (n + 1) ≡ joined f n * 4 + f n
joined_more f n = rw add-one refl

-- one more number of two bits
pub four_more : (n cell bits : ℕ) → cell < 4 ^ n → bits < 4 → cell * 4 + bits < 4 ^ (n + 1)
four_more n cell bits h small = rw add-one (omega (arith, pow-suc 4 n))

-- eight of them fit into 16 bits
pub four_bound : (n : ℕ) → n ≤ 8 → 4 ^ n ≤ 65536
four_bound n h = pow-le-pow_right {n = 4} (omega arith) h

-- what holds of the numbers below eight
by_eight : (P : ℕ → Type 0) → P 0 → P 1 → P 2 → P 3 → P 4 → P 5 → P 6 → P 7 → (i : ℕ) → i < 8 → P i
by_eight P a b c d e f g h zero i = a
by_eight P a b c d e f g h (suc zero) i = b
by_eight P a b c d e f g h (suc (suc zero)) i = c
by_eight P a b c d e f g h (suc (suc (suc zero))) i = d
by_eight P a b c d e f g h (suc (suc (suc (suc zero)))) i = e
by_eight P a b c d e f g h (suc (suc (suc (suc (suc zero))))) i = f
by_eight P a b c d e f g h (suc (suc (suc (suc (suc (suc zero)))))) i = g
by_eight P a b c d e f g h (suc (suc (suc (suc (suc (suc (suc zero))))))) i = h
by_eight P a b c d e f g h (suc (suc (suc (suc (suc (suc (suc (suc n)))))))) i = absurd (omega arith)

-- each of eight is found again
pub joined_bits : (f : ℕ → ℕ) (i : ℕ) → i < 8 → ((k : ℕ) → k < 8 → f k < 4) → joined f 8 / 2 ^ (14 - 2 * i) % 4 ≡ f i
joined_bits f i h small =
    let a : f 0 < 4 = small 0 (omega arith) in
    let b : f 1 < 4 = small 1 (omega arith) in
    let c : f 2 < 4 = small 2 (omega arith) in
    let d : f 3 < 4 = small 3 (omega arith) in
    let e : f 4 < 4 = small 4 (omega arith) in
    let g : f 5 < 4 = small 5 (omega arith) in
    let j : f 6 < 4 = small 6 (omega arith) in
    let k : f 7 < 4 = small 7 (omega arith) in
    by_eight (λ n. joined f 8 / 2 ^ (14 - 2 * n) % 4 ≡ f n) (omega arith) (omega arith) (omega arith) (omega arith) (omega arith) (omega arith) (omega arith) (omega arith) i h

-- a cell after others
get_after : (head xs : List ℕ) (k : ℕ) → get_or (head ++ xs) (length head + k) 0 ≡ get_or xs k 0
get_after head xs k =
    let back : length head + k - length head ≡ k = omega arith in
    rw back at (get_or-append_right head xs (length head) (length head + k) 0 refl (omega arith))

-- what is read after the head
get_third : (head thirds : List ℕ) (start slot value : ℕ) → length head ≡ start → slot < length thirds → slice_index thirds slot ≡ value → slice_get (head ++ thirds) (start + slot) ≡ Some value
get_third head thirds start slot value is inside same =
    slice_get-get_or (head ++ thirds) (start + slot) 0 (omega (arith, length-append head thirds))
    ∙ ap Some (ap (λ n. get_or (head ++ thirds) (n + slot) 0) (sym is) ∙ get_after head thirds slot ∙ same)

-- a block of 32 cells gives its slots
pub Gives-narrow : (start : ℕ) (old new slots : List ℕ) (first : ℕ) → start + length old + 36 ≤ 0x8000 → Stands slots first new (length old) 32
    → Gives start new (start + length old) slots first
Gives-narrow start old new slots first room stands =
    record {
      fits = omega arith;
      offsets = λ head is i h.
          let low : nat_lt (start + length old) 0x8000 ≡ true = lt-ltb (start + length old) 0x8000 (omega arith) in
          let sum : start + length old + i ≡ start + (length old + i) = omega arith in
          let inside = stands.inside in
          rw (low, sum) (get_third head new start (length old + i) (slice_index slots (first + i)) is (omega arith) (stands.same i h));
    }

-- and so does one of 36
pub Gives-wide : (start : ℕ) (old new slots : List ℕ) (first : ℕ) → first + 32 ≤ length slots → ((i : ℕ) → i < length slots → slice_index slots i < 2 ^ 18)
    → start + length old + 36 ≤ 0x8000 → HasWide slots first old new 36 → Gives start new (0x8000 + (start + length old)) slots first
unfolding upper_cell
Gives-wide start old new slots first whole small room has =
    record { fits = omega arith; offsets = offsets } where
      offsets : (head : List ℕ) → length head ≡ start → (i : ℕ) → i < 32 → data_offset (head ++ new) (0x8000 + (start + length old)) i ≡ Some (slice_index slots (first + i))
      offsets head is i h =
          let longer : length new ≡ length old + 36 = has.longer in
          let high : nat_lt (0x8000 + (start + length old)) 0x8000 ≡ false = le-ltb (0x8000 + (start + length old)) 0x8000 (omega arith) in
          let block : (0x8000 + (start + length old)) % 0x8000 ≡ start + length old = omega arith in
          let group : ℕ = i / 8 * 9 in
          let up : start + length old + i / 8 * 9 ≡ start + (length old + i / 8 * 9) = omega arith in
          let down : start + length old + i / 8 * 9 + 1 + i % 8 ≡ start + (length old + (i / 8 * 9 + 1 + i % 8)) = omega arith in
          let none : (group % 9 == 0) ≡ true = eq-eqb (group % 9) 0 (omega arith) in
          let some : ((group + 1 + i % 8) % 9 == 0) ≡ false = ne_eqb ((group + 1 + i % 8) % 9) 0 (λ e. omega arith) in
          let first_up : first + group / 9 * 8 ≡ first + i / 8 * 8 = omega arith in
          let first_down : first + (group + 1 + i % 8) / 9 * 8 + ((group + 1 + i % 8) % 9 - 1) ≡ first + i = omega arith in
          let upper_is : slice_index new (length old + group) ≡ upper_cell slots (first + i / 8 * 8) = has.same group (omega arith) ∙ rw (none, first_up) refl in
          let lower_is : slice_index new (length old + (group + 1 + i % 8)) ≡ slice_index slots (first + i) % 2 ^ 16 = has.same (group + 1 + i % 8) (omega arith) ∙ rw (some, first_down) refl in
          let upper : slice_get (head ++ new) (start + length old + i / 8 * 9) ≡ Some (upper_cell slots (first + i / 8 * 8)) =
          rw up (get_third head new start (length old + group) (upper_cell slots (first + i / 8 * 8)) is (omega arith) upper_is) in
          let lower : slice_get (head ++ new) (start + length old + i / 8 * 9 + 1 + i % 8) ≡ Some (slice_index slots (first + i) % 2 ^ 16) =
          rw down (get_third head new start (length old + (group + 1 + i % 8)) (slice_index slots (first + i) % 2 ^ 16) is (omega arith) lower_is) in
          let here : first + i / 8 * 8 + i % 8 ≡ first + i = omega arith in
          let bits : upper_cell slots (first + i / 8 * 8) / 2 ^ (14 - 2 * (i % 8)) % 4 ≡ slice_index slots (first + i) / 2 ^ 16 =
          joined_bits (λ k. slice_index slots (first + i / 8 * 8 + k) / 2 ^ 16) (i % 8) (omega arith) (λ k b. let s = small (first + i / 8 * 8 + k) (omega arith) in omega arith)
          ∙ ap (λ n. slice_index slots n / 2 ^ 16) here in
          rw (high, block, upper, lower, bits) (ap Some (omega arith))

-- what is read of some cells is read of more
get_grown : (head old new : List ℕ) (most k value : ℕ) → Grows old new most → slice_get (head ++ old) k ≡ Some value → slice_get (head ++ new) k ≡ Some value
get_grown head old new most k value grows is =
    let inside = slice_get_within (head ++ old) k value is in
    let longer = grows.longer in
    let old_is : get_or (head ++ old) k 0 ≡ value = get_or_from_slice_get (head ++ old) k value 0 is in
    slice_get-get_or (head ++ new) k 0 (omega (arith, length-append head old, length-append head new))
    ∙ ap Some (⊎_elim
    (λ low. get_or_append_left head new 0 k low ∙ sym (get_or_append_left head old 0 k low) ∙ old_is)
    (λ high.
    let j : ℕ = k - length head in
    let sum : length head + j ≡ k = omega arith in
    let both : get_or (head ++ new) (length head + j) 0 ≡ get_or (head ++ old) (length head + j) 0 =
    get_after head new j ∙ grows.same j (omega (arith, length-append head old)) ∙ sym (get_after head old j) in
    rw sum at both ∙ old_is)
    (cases_lt k (length head)))

found_grown : (head old new : List ℕ) (most k value : ℕ) (next next' : ℕ → Option ℕ) → Grows old new most → ((cell : ℕ) → next cell ≡ Some value → next' cell ≡ Some value)
    → found (slice_get (head ++ old) k) next ≡ Some value → found (slice_get (head ++ new) k) next' ≡ Some value
found_grown head old new most k value next next' grows further is = by (slice_get (head ++ old) k) refl is where
  by : (read : Option ℕ) → slice_get (head ++ old) k ≡ read → found read next ≡ Some value → found (slice_get (head ++ new) k) next' ≡ Some value
  by None at h = absurd cc
  by (Some cell) at h = rw (get_grown head old new most k cell grows at) (further cell h)

-- a block stays what it is when more cells come after it
pub Gives-grown : (start : ℕ) (old new : List ℕ) (most entry : ℕ) (slots : List ℕ) (first : ℕ) → Grows old new most → Gives start old entry slots first → Gives start new entry slots first
Gives-grown start old new most entry slots first grows gives =
    record {
      fits = gives.fits;
      offsets = λ head is i h. by head i (slice_index slots (first + i)) (nat_lt entry 0x8000) refl (gives.offsets head is i h);
    } where
      by : (head : List ℕ) (i value : ℕ) (narrow : Bool) → nat_lt entry 0x8000 ≡ narrow → data_offset (head ++ old) entry i ≡ Some value → data_offset (head ++ new) entry i ≡ Some value
      by head i value true t h = rw t (get_grown head old new most (entry + i) value grows (rw t at h))
      by head i value false t h =
          rw t (found_grown head old new most _ value _ _ grows
          (λ upper g. found_grown head old new most _ value _ _ grows (λ lower e. e) g)
          (rw t at h))

-- one third block more
pub gives_push : (start : ℕ) (old new entries slots kept : List ℕ) (from n entry most : ℕ) → length entries ≡ n → Grows old new most
    → ((k : ℕ) → k < n → Gives start old (slice_index entries k) slots ((slice_index kept k - from) * 32))
    → Gives start new entry slots ((slice_index kept n - from) * 32)
    → (k : ℕ) → k < n + 1 → Gives start new (slice_index (entries ++ entry ∷ []) k) slots ((slice_index kept k - from) * 32)
gives_push start old new entries slots kept from n entry most count grows each last k h =
    ⊎_elim
    (λ below. rw (get_or_append_left entries (entry ∷ []) 0 k (omega arith)) (Gives-grown start old new most (slice_index entries k) slots ((slice_index kept k - from) * 32) grows (each k below)))
    (λ above.
    let same : n ≡ k = omega arith in
    rw (get_or_push entries entry 0 k (count ∙ same)) (subst (λ j. Gives start new entry slots ((slice_index kept j - from) * 32)) same last))
    (cases_lt k n)
