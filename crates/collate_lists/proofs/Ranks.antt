-- ranks in blocks: read, moved and settled
use Rattle.std.proofs.Common.{◌≡◌, ℕ, zero, suc, ◌+◌, ◌-◌, ◌/◌, ◌%◌, ◌^◌, ◌<◌, ◌≤◌, List, [], ◌∷◌, ◌++◌, All, length, get_or, take, drop, map, refl, sym, ap, ◌∙◌, arith, ⊎_elim}
use Rattle.std.proofs.lemmas.Bool.{cases_lt}
use Rattle.std.proofs.lemmas.Grind.{same_number_lists}
use Rattle.std.proofs.lemmas.List.Elements.{All-nil, All-cons, All-head, All-tail}
use Rattle.collate_lists.specs.Lists.{raised, lowered}
use Rattle.collate_lists.specs.Starts.{ranks_from, ranks_of, AreBased}
use Rattle.collate_lists.specs.declared.starts.Starts.{Starts}

pub length-ranks : (bases : List ℕ) (from : ℕ) (offsets : List ℕ) → length (ranks_from bases from offsets) ≡ length offsets
length-ranks bases from [] = refl
length-ranks bases from (o ∷ os) = omega (arith, length-ranks bases (from + 1) os)

rank_there : (bases : List ℕ) (from : ℕ) (offsets : List ℕ) (k : ℕ) → k < length offsets → get_or (ranks_from bases from offsets) k 0 ≡ (get_or offsets k 0 + get_or bases ((from + k) / 128) 0) % 2 ^ 64
rank_there bases from [] k h = absurd (omega arith)
rank_there bases from (o ∷ os) zero h =
    let none : from ≡ from + 0 = omega arith in
    ap (λ n. (o + get_or bases (n / 128) 0) % 2 ^ 64) none
rank_there bases from (o ∷ os) (suc k) h =
    let next : from + 1 + k ≡ from + suc k = omega arith in
    rank_there bases (from + 1) os k (omega arith) ∙ ap (λ n. (get_or os k 0 + get_or bases (n / 128) 0) % 2 ^ 64) next

-- a rank is its offset and the base of its block
pub rank_at : (bases offsets : List ℕ) (k : ℕ) → k < length offsets → get_or (ranks_from bases 0 offsets) k 0 ≡ (get_or offsets k 0 + get_or bases (k / 128) 0) % 2 ^ 64
rank_at bases offsets k h =
    let none : 0 + k ≡ k = omega arith in
    rank_there bases 0 offsets k h ∙ ap (λ n. (get_or offsets k 0 + get_or bases (n / 128) 0) % 2 ^ 64) none

-- ranks are below 2 ^ 64
pub ranks_fit : (bases : List ℕ) (from : ℕ) (offsets : List ℕ) → All (λ rank. rank < 2 ^ 64) (ranks_from bases from offsets)
ranks_fit bases from [] = All-nil (λ rank. rank < 2 ^ 64)
ranks_fit bases from (o ∷ os) = All-cons (λ rank. rank < 2 ^ 64) ((o + get_or bases (from / 128) 0) % 2 ^ 64) (ranks_from bases (from + 1) os) (omega arith) (ranks_fit bases (from + 1) os)

-- bases that say the same
pub ranks_alike : (old new : List ℕ) (from : ℕ) (offsets : List ℕ) → ((k : ℕ) → get_or new k 0 ≡ get_or old k 0) → ranks_from new from offsets ≡ ranks_from old from offsets
ranks_alike old new from [] h = refl
ranks_alike old new from (o ∷ os) h =
    ap (λ base. ((o + base) % 2 ^ 64) ∷ ranks_from new (from + 1) os) (h (from / 128))
    ∙ ap (λ later. ((o + get_or old (from / 128) 0) % 2 ^ 64) ∷ later) (ranks_alike old new (from + 1) os h)

zero_at : (bases : List ℕ) (k : ℕ) → All (λ base. base ≡ 0) bases → get_or bases k 0 ≡ 0
zero_at [] k h = refl
zero_at (b ∷ bs) zero h = All-head (λ base. base ≡ 0) b bs h
zero_at (b ∷ bs) (suc k) h = zero_at bs k (All-tail (λ base. base ≡ 0) b bs h)

-- with bases of zero the offsets are the ranks
pub ranks_settled : (bases : List ℕ) (from : ℕ) (offsets : List ℕ) → All (λ base. base ≡ 0) bases → All (λ rank. rank < 2 ^ 64) offsets → ranks_from bases from offsets ≡ offsets
ranks_settled bases from [] zeros fit = refl
ranks_settled bases from (o ∷ os) zeros fit =
    let here : (o + get_or bases (from / 128) 0) % 2 ^ 64 ≡ o = omega (arith, zero_at bases (from / 128) zeros, All-head (λ rank. rank < 2 ^ 64) o os fit) in
    ap (λ rank. rank ∷ ranks_from bases (from + 1) os) here
    ∙ ap (λ later. o ∷ later) (ranks_settled bases (from + 1) os zeros (All-tail (λ rank. rank < 2 ^ 64) o os fit))

-- one base of zero more
pub zero_more : (bases : List ℕ) (k : ℕ) → get_or (bases ++ 0 ∷ []) k 0 ≡ get_or bases k 0
zero_more [] zero = refl
zero_more [] (suc k) = refl
zero_more (b ∷ bs) zero = refl
zero_more (b ∷ bs) (suc k) = zero_more bs k

-- ---- moved from an index on

module _ (f : ℕ → ℕ) where
  moved_length : (xs : List ℕ) (n : ℕ) → length (take n xs ++ map f (drop n xs)) ≡ length xs
  moved_length [] zero = refl
  moved_length [] (suc n) = refl
  moved_length (x ∷ xs) zero = omega (arith, moved_length xs 0)
  moved_length (x ∷ xs) (suc n) = omega (arith, moved_length xs n)

  moved_before : (xs : List ℕ) (n k : ℕ) → k < n → get_or (take n xs ++ map f (drop n xs)) k 0 ≡ get_or xs k 0
  moved_before [] zero k h = absurd (omega arith)
  moved_before [] (suc n) k h = refl
  moved_before (x ∷ xs) zero k h = absurd (omega arith)
  moved_before (x ∷ xs) (suc n) zero h = refl
  moved_before (x ∷ xs) (suc n) (suc k) h = moved_before xs n k (omega arith)

  moved_behind : (xs : List ℕ) (n k : ℕ) → n ≤ k → k < length xs → get_or (take n xs ++ map f (drop n xs)) k 0 ≡ f (get_or xs k 0)
  moved_behind [] n k h l = absurd (omega arith)
  moved_behind (x ∷ xs) zero zero h l = refl
  moved_behind (x ∷ xs) zero (suc k) h l = moved_behind xs 0 k (omega arith) (omega arith)
  moved_behind (x ∷ xs) (suc n) zero h l = absurd (omega arith)
  moved_behind (x ∷ xs) (suc n) (suc k) h l = moved_behind xs n k (omega arith) (omega arith)

all_behind : (P : ℕ → Type 0) (xs : List ℕ) (n k : ℕ) → n ≤ k → k < length xs → All P (drop n xs) → P (get_or xs k 0)
all_behind P [] n k h l all = absurd (omega arith)
all_behind P (x ∷ xs) zero zero h l all = All-head P x xs all
all_behind P (x ∷ xs) zero (suc k) h l all = all_behind P xs 0 k (omega arith) (omega arith) (All-tail P x xs all)
all_behind P (x ∷ xs) (suc n) zero h l all = absurd (omega arith)
all_behind P (x ∷ xs) (suc n) (suc k) h l all = all_behind P xs n k (omega arith) (omega arith) all

-- ranks to which something was added from an index on
module _ (index amount : ℕ) (old new : List ℕ) (count : length new ≡ length old) (before : (k : ℕ) → k < index → get_or new k 0 ≡ get_or old k 0) (added : (k : ℕ) → index ≤ k → k < length old → get_or new k 0 ≡ (get_or old k 0 + amount) % 2 ^ 64) where
  moved : (f : ℕ → ℕ) → ((k : ℕ) → index ≤ k → k < length old → f (get_or old k 0) ≡ (get_or old k 0 + amount) % 2 ^ 64) → new ≡ take index old ++ map f (drop index old)
  moved f same =
      same_number_lists new (take index old ++ map f (drop index old)) (count ∙ sym (moved_length f old index))
      (λ k l. ⊎_elim (λ (b : k < index). before k b ∙ sym (moved_before f old index k b))
      (λ (b : index ≤ k). added k b (omega (arith, count)) ∙ sym (same k b (omega (arith, count))) ∙ sym (moved_behind f old index k b (omega (arith, count)))) (cases_lt k index))

  pub raised_by : amount ≡ 1 → All (λ start. start < 18446744073709551615) (drop index old) → new ≡ raised index old
  raised_by one space = moved (λ start. start + 1) (λ k b l. omega (arith, one, all_behind (λ start. start < 18446744073709551615) old index k b l space))

  pub lowered_by : amount ≡ 18446744073709551615 → All (λ start. 0 < start) (drop index old) → All (λ start. start < 2 ^ 64) old → new ≡ lowered index old
  lowered_by most space fit = moved (λ start. start - 1) (λ k b l. omega (arith, most, all_behind (λ start. 0 < start) old index k b l space, all_behind (λ start. start < 2 ^ 64) old 0 k (omega arith) l fit))

-- ---- moved in blocks

module _ (index amount : ℕ) (old new : Starts) (based : AreBased old)
    (many : length new.offsets.items ≡ length old.offsets.items)
    (end : ℕ) (from : index ≤ end) (upto : end ≤ length old.offsets.items)
    (inside : (k : ℕ) → index ≤ k → k < end → k / 128 ≡ index / 128)
    (behind : (k : ℕ) → end ≤ k → k < length old.offsets.items → index / 128 + 1 ≤ k / 128)
    (offset_before : (k : ℕ) → k < index → get_or new.offsets.items k 0 ≡ get_or old.offsets.items k 0)
    (offset_added : (k : ℕ) → index ≤ k → k < end → get_or new.offsets.items k 0 ≡ (get_or old.offsets.items k 0 + amount) % 2 ^ 64)
    (offset_behind : (k : ℕ) → end ≤ k → get_or new.offsets.items k 0 ≡ get_or old.offsets.items k 0)
    (base_before : (b : ℕ) → b < index / 128 + 1 → get_or new.bases.items b 0 ≡ get_or old.bases.items b 0)
    (base_added : (b : ℕ) → index / 128 + 1 ≤ b → b < length old.bases.items → get_or new.bases.items b 0 ≡ (get_or old.bases.items b 0 + amount) % 2 ^ 64) where
  pub shifted_count : length (ranks_of new) ≡ length (ranks_of old)
  shifted_count = length-ranks new.bases.items 0 new.offsets.items ∙ many ∙ sym (length-ranks old.bases.items 0 old.offsets.items)

  pub shifted_before : (k : ℕ) → k < index → get_or (ranks_of new) k 0 ≡ get_or (ranks_of old) k 0
  shifted_before k h =
      let l : k < length old.offsets.items = omega arith in
      let low : k / 128 < index / 128 + 1 = omega arith in
      rank_at new.bases.items new.offsets.items k (omega (arith, many))
      ∙ ap (λ o. (o + get_or new.bases.items (k / 128) 0) % 2 ^ 64) (offset_before k h)
      ∙ ap (λ b. (get_or old.offsets.items k 0 + b) % 2 ^ 64) (base_before (k / 128) low)
      ∙ sym (rank_at old.bases.items old.offsets.items k l)

  pub shifted_added : (k : ℕ) → index ≤ k → k < length (ranks_of old) → get_or (ranks_of new) k 0 ≡ (get_or (ranks_of old) k 0 + amount) % 2 ^ 64
  shifted_added k h m =
      let l : k < length old.offsets.items = omega (arith, length-ranks old.bases.items 0 old.offsets.items) in
      let is : get_or (ranks_of old) k 0 ≡ (get_or old.offsets.items k 0 + get_or old.bases.items (k / 128) 0) % 2 ^ 64 = rank_at old.bases.items old.offsets.items k l in
      let now : get_or (ranks_of new) k 0 ≡ (get_or new.offsets.items k 0 + get_or new.bases.items (k / 128) 0) % 2 ^ 64 = rank_at new.bases.items new.offsets.items k (omega (arith, many)) in
      ⊎_elim (λ (b : k < end).
      let low : k / 128 < index / 128 + 1 = omega (arith, inside k h b) in
      omega (arith, is, now, offset_added k h b, base_before (k / 128) low))
      (λ (b : end ≤ k).
      let block : k / 128 < length old.bases.items = omega (arith, based) in
      omega (arith, is, now, offset_behind k b, base_added (k / 128) (behind k b l) block)) (cases_lt k end)
