-- Items of joined bytes are the items of the parts.
use Rattle.std.proofs.Common.{◌≡◌, ℕ, ◌+◌, ◌-◌, ◌*◌, ◌/◌, ◌%◌, ◌<◌, ◌≤◌, List, [], ◌∷◌, ◌++◌, length, map, get_or, take, drop, sym, ap, ◌∙◌, subst, arith, Some, None, slice_get, inl, inr, slice_range}
use Rattle.std.specs.List.{range_with_len}
use Rattle.std.proofs.lemmas.List.{take-append-le, drop-append-le, drop-drop, drop_at, take_at, take-append-drop, length-take-le, length-append, length-drop, take_all, get_or_append_left, get_or-append_right, same_lists, nil_from_length}
use Rattle.std.specs.Prelude.{All, ◌^◌}
use Rattle.std.proofs.lemmas.List.Elements.{All-take, All-drop}
use Rattle.std.proofs.lemmas.List.FromFn.{length-map-range_with_len, get_or-map-range_with_len}
use Rattle.std.proofs.lemmas.Option.{slice_get-get_or, slice_get_past}
use Rattle.std.proofs.lemmas.Bool.{cases_lt}
use Rattle.std.proofs.Math.Nat.{mul-div_cancel, mul-le-mul_left}
use Rattle.icu_packed_vector.specs.Items.{items_of, item_bytes, AreItems}

-- the bytes are this number of items of the width
pub whole_count : (w : ℕ) (bytes : List ℕ) → 0 < w → length bytes % w ≡ 0 → length bytes ≡ length bytes / w * w
whole_count w bytes p e = omega arith

pub count_is : (w n k : ℕ) → 0 < w → k ≡ n * w → (k / w ≡ n) × (k % w ≡ 0)
count_is w n k p e =
    let d : k / w ≡ n = rw e (mul-div_cancel n p) in
    (d, omega (arith, ap (λ q. w * q) d))

pub length-items_of : {T : Type 0} (w : ℕ) (m : List ℕ → T) (bytes : List ℕ) → length (items_of w m bytes) ≡ length bytes / w
unfolding items_of
length-items_of w m bytes = length-map-range_with_len (λ index. m (item_bytes w bytes index)) 0 (length bytes / w)

pub get_or-items_of : {T : Type 0} (w : ℕ) (m : List ℕ → T) (bytes : List ℕ) (i : ℕ) (d : T) → i < length bytes / w → get_or (items_of w m bytes) i d ≡ m (item_bytes w bytes i)
unfolding items_of
get_or-items_of w m bytes i d h = get_or-map-range_with_len (λ index. m (item_bytes w bytes index)) 0 (length bytes / w) i i d h (omega arith)

pub slice_get-items_of : {T : Type 0} (w : ℕ) (m : List ℕ → T) (bytes : List ℕ) (i : ℕ) → i < length bytes / w → slice_get (items_of w m bytes) i ≡ Some (m (item_bytes w bytes i))
slice_get-items_of w m bytes i h =
    let d = m (item_bytes w bytes i) in
    slice_get-get_or (items_of w m bytes) i d (rw length-items_of h) ∙ ap Some (get_or-items_of w m bytes i d h)

pub slice_get-items_of_past : {T : Type 0} (w : ℕ) (m : List ℕ → T) (bytes : List ℕ) (i : ℕ) → length bytes / w ≤ i → slice_get (items_of w m bytes) i ≡ None
slice_get-items_of_past w m bytes i h = slice_get_past (items_of w m bytes) i (rw length-items_of h)

first_index : (i : ℕ) → i < 1 → i ≡ 0
first_index i h = omega arith

-- the bytes are this number of items
pub AreItems_count : {IsGood : List ℕ → Type 0} (w : ℕ) (bytes : List ℕ) → 0 < w → AreItems w IsGood bytes → length bytes ≡ length bytes / w * w
AreItems_count w bytes p good = whole_count w bytes p good.whole

product_below : (w n i : ℕ) → i < n → i * w + w ≤ n * w
product_below w n i h = let more : i + 1 ≤ n = omega arith in omega (arith, mul-le-mul_left w more)

-- an item of joined bytes is one of the first part, or one of the second
pub item_bytes_front : (w : ℕ) (xs ys : List ℕ) (n i : ℕ) → length xs ≡ n * w → i < n → item_bytes w (xs ++ ys) i ≡ item_bytes w xs i
item_bytes_front w xs ys n i e h =
    let room = product_below w n i h in
    ap (take w) (drop-append-le (i * w) xs ys (omega arith)) ∙ take-append-le w (drop (i * w) xs) ys (simp length-drop (omega arith))

pub item_bytes_back : (w : ℕ) (xs ys : List ℕ) (n i : ℕ) → length xs ≡ n * w → item_bytes w (xs ++ ys) (n + i) ≡ item_bytes w ys i
item_bytes_back w xs ys n i e =
    let sum : (n + i) * w ≡ n * w + i * w = omega arith in
    ap (λ k. take w (drop k (xs ++ ys))) sum ∙ sym (ap (take w) (drop-drop (i * w) (n * w) (xs ++ ys))) ∙ ap (λ zs. take w (drop (i * w) zs)) (drop_at xs ys (n * w) e)

-- the items of joined bytes, both parts being whole
pub items_of-append : {T : Type 0} (w : ℕ) (m : List ℕ → T) (xs ys : List ℕ) (n k : ℕ) → 0 < w → length xs ≡ n * w → length ys ≡ k * w → items_of w m (xs ++ ys) ≡ items_of w m xs ++ items_of w m ys
items_of-append {T} w m xs ys n k p e f =
    let in_xs = (count_is w n (length xs) p e).0 in
    let in_ys = (count_is w k (length ys) p f).0 in
    let joined : length (xs ++ ys) ≡ (n + k) * w = rw length-append (omega arith) in
    let in_all = (count_is w (n + k) (length (xs ++ ys)) p joined).0 in
    let before = items_of w m xs in
    let behind = items_of w m ys in
    let all = items_of w m (xs ++ ys) in
    let n_all : length all ≡ n + k = length-items_of w m (xs ++ ys) ∙ in_all in
    let n_before : length before ≡ n = length-items_of w m xs ∙ in_xs in
    let n_behind : length behind ≡ k = length-items_of w m ys ∙ in_ys in
    let at_front : (i : ℕ) (d : T) → i < n → get_or all i d ≡ get_or (before ++ behind) i d =
    λ i d h. get_or-items_of w m (xs ++ ys) i d (omega arith) ∙ ap m (item_bytes_front w xs ys n i e h)
    ∙ sym (get_or-items_of w m xs i d (omega arith)) ∙ sym (get_or_append_left before behind d i (omega arith)) in
    let at_back : (i : ℕ) (d : T) → n ≤ i → i < n + k → get_or all i d ≡ get_or (before ++ behind) i d =
    λ i d h l. let index : i ≡ n + (i - n) = omega arith in
    get_or-items_of w m (xs ++ ys) i d (omega arith) ∙ ap (λ q. m (item_bytes w (xs ++ ys) q)) index
    ∙ ap m (item_bytes_back w xs ys n (i - n) e)
    ∙ sym (get_or-items_of w m ys (i - n) d (omega arith)) ∙ sym (get_or-append_right before behind n i d n_before h) in
    same_lists all (before ++ behind) (omega (arith, length-append before behind))
    (λ i d h. elim (cases_lt i n) [ inl low ↦ at_front i d low | inr high ↦ at_back i d high (omega arith) ])

-- the bytes of one item, and none
pub items_of-one : {T : Type 0} (w : ℕ) (m : List ℕ → T) (xs : List ℕ) → 0 < w → length xs ≡ w → items_of w m xs ≡ m xs ∷ []
unfolding items_of
items_of-one w m xs p e =
    let once : length xs ≡ 1 * w = omega arith in
    let none : 0 * w ≡ 0 = omega arith in
    ap (λ c. map (λ index. m (item_bytes w xs index)) (range_with_len 0 c)) (count_is w 1 (length xs) p once).0
    ∙ ap (λ k. m (take w (drop k xs)) ∷ []) none ∙ ap (λ ys. m ys ∷ []) (take_all w xs (omega arith))

pub items_of-nil : {T : Type 0} (w : ℕ) (m : List ℕ → T) → 0 < w → items_of w m [] ≡ []
unfolding items_of
items_of-nil w m p =
    let none : 0 ≡ 0 * w = omega arith in
    ap (λ c. map (λ index. m (item_bytes w [] index)) (range_with_len 0 c)) (count_is w 0 0 p none).0

module _ {IsGood : List ℕ → Type 0} where
  -- joined bytes are good where both parts are
  pub AreItems-append : (w : ℕ) (xs ys : List ℕ) → 0 < w → AreItems w IsGood xs → AreItems w IsGood ys → AreItems w IsGood (xs ++ ys)
  AreItems-append w xs ys p a b =
      let n = length xs / w in
      let k = length ys / w in
      let e = whole_count w xs p a.whole in
      let f = whole_count w ys p b.whole in
      let joined : length (xs ++ ys) ≡ (n + k) * w = rw length-append (omega arith) in
      let all = count_is w (n + k) (length (xs ++ ys)) p joined in
      record {
        whole = all.1;
        each = λ i h. elim (cases_lt i n) [
          | inl low ↦ subst IsGood (sym (item_bytes_front w xs ys n i e low)) (a.each i low)
          | inr high ↦
              let index : n + (i - n) ≡ i = omega arith in
              subst (λ q. IsGood (item_bytes w (xs ++ ys) q)) index (subst IsGood (sym (item_bytes_back w xs ys n (i - n) e)) (b.each (i - n) (omega arith)))
        ];
      }

  pub AreItems-nil : (w : ℕ) → 0 < w → AreItems w IsGood []
  AreItems-nil w p =
      let none : 0 ≡ 0 * w = omega arith in
      let c = count_is w 0 0 p none in
      record { whole = c.1; each = λ i h. absurd (omega arith) }

  pub AreItems-one : (w : ℕ) (xs : List ℕ) → 0 < w → length xs ≡ w → IsGood xs → AreItems w IsGood xs
  AreItems-one w xs p e good =
      let once : length xs ≡ 1 * w = omega arith in
      let c = count_is w 1 (length xs) p once in
      record {
        whole = c.1;
        each = λ i h.
            let none : 0 ≡ i * w = omega (arith, ap (λ j. j * w) (first_index i (omega arith))) in
            subst (λ k. IsGood (take w (drop k xs))) none (subst IsGood (sym (take_all w xs (omega arith))) good);
      }

  -- after whole items, whole items are left
  pub AreItems_front : (w : ℕ) (xs ys : List ℕ) (n k : ℕ) → 0 < w → length xs ≡ n * w → length ys ≡ k * w → AreItems w IsGood (xs ++ ys) → AreItems w IsGood xs
  AreItems_front w xs ys n k p e f a =
      let joined : length (xs ++ ys) ≡ (n + k) * w = rw length-append (omega arith) in
      let in_all = (count_is w (n + k) (length (xs ++ ys)) p joined).0 in
      let c = count_is w n (length xs) p e in
      record { whole = c.1; each = λ i h. subst IsGood (item_bytes_front w xs ys n i e (omega arith)) (a.each i (omega arith)) }

  pub AreItems_back : (w : ℕ) (xs ys : List ℕ) (n k : ℕ) → 0 < w → length xs ≡ n * w → length ys ≡ k * w → AreItems w IsGood (xs ++ ys) → AreItems w IsGood ys
  AreItems_back w xs ys n k p e f a =
      let joined : length (xs ++ ys) ≡ (n + k) * w = rw length-append (omega arith) in
      let in_all = (count_is w (n + k) (length (xs ++ ys)) p joined).0 in
      let c = count_is w k (length ys) p f in
      record { whole = c.1; each = λ i h. subst IsGood (item_bytes_back w xs ys n i e) (a.each (n + i) (omega arith)) }

  pub IsGood_one : (w : ℕ) (xs : List ℕ) → 0 < w → length xs ≡ w → AreItems w IsGood xs → IsGood xs
  IsGood_one w xs p e a =
      let once : length xs ≡ 1 * w = omega arith in
      let c = (count_is w 1 (length xs) p once).0 in
      let none : 0 * w ≡ 0 = omega arith in
      subst IsGood (take_all w xs (omega arith)) (subst (λ k. IsGood (take w (drop k xs))) none (a.each 0 (omega arith)))

-- whole items that are not none begin with one, and end with one
at_least_one : (w : ℕ) (bytes : List ℕ) → 0 < w → length bytes % w ≡ 0 → 0 < length bytes → (1 ≤ length bytes / w) × (length bytes ≡ (length bytes / w - 1) * w + w)
at_least_one w bytes p e h =
    let some : 1 ≤ length bytes / w = grind arith in
    let back : length bytes / w - 1 + 1 ≡ length bytes / w = omega arith in
    (some, omega (arith, ap (λ c. c * w) back))

pub first_fits : (w : ℕ) (bytes : List ℕ) → 0 < w → length bytes % w ≡ 0 → 0 < length bytes → (w ≤ length bytes) × (length (take w bytes) ≡ w) × (length (drop w bytes) ≡ (length bytes / w - 1) * w)
first_fits w bytes p e h =
    let one = at_least_one w bytes p e h in
    (omega (arith, one.1), length-take-le w bytes (omega (arith, one.1)), simp length-drop (omega (arith, one.1)))

pub last_fits : (w : ℕ) (bytes : List ℕ) → 0 < w → length bytes % w ≡ 0 → 0 < length bytes → (w ≤ length bytes) × (length (take (length bytes - w) bytes) ≡ (length bytes / w - 1) * w) × (length (drop (length bytes - w) bytes) ≡ w)
last_fits w bytes p e h =
    let one = at_least_one w bytes p e h in
    (omega (arith, one.1), length-take-le (length bytes - w) bytes (omega arith) ∙ omega (arith, one.1), simp length-drop (omega (arith, one.1)))

part_in_middle : {T : Type 0} (front part behind : List T) (s k : ℕ) → length front ≡ s → length part ≡ k → slice_range (front ++ (part ++ behind)) s (s + k) ≡ part
part_in_middle front part behind s k e f =
    let size : s + k - s ≡ k = omega arith in
    ap (λ n. take n (drop s (front ++ (part ++ behind)))) size ∙ ap (take k) (drop_at front (part ++ behind) s e) ∙ take_at part behind k f

-- what a range of indices has, of whole items in three parts
record Parts (w s k j : ℕ) (bytes : List ℕ) : Type 0 where
  pub front : List ℕ
  pub part : List ℕ
  pub behind : List ℕ
  pub joined : bytes ≡ front ++ (part ++ behind)
  pub front_length : length front ≡ s * w
  pub part_length : length part ≡ k * w
  pub behind_length : length behind ≡ j * w
  pub part_is : slice_range bytes (s * w) ((s + k) * w) ≡ part

parts : (w s k j : ℕ) (bytes : List ℕ) → length bytes ≡ (s + k + j) * w → Parts w s k j bytes
parts w s k j bytes e =
    let rest = drop (s * w) bytes in
    let size : (s + k) * w - s * w ≡ k * w = omega arith in
    let rest_length : length rest ≡ (k + j) * w = simp length-drop (omega arith) in
    record {
      front = take (s * w) bytes;
      part = take (k * w) rest;
      behind = drop (k * w) rest;
      joined = sym (ap (λ ys. take (s * w) bytes ++ ys) (take-append-drop (k * w) rest) ∙ take-append-drop (s * w) bytes);
      front_length = length-take-le (s * w) bytes (omega arith);
      part_length = length-take-le (k * w) rest (omega arith);
      behind_length = simp length-drop (omega arith);
      part_is = ap (λ n. take n rest) size;
    }

module _ {T : Type 0} (w : ℕ) (m : List ℕ → T) (p : 0 < w) where
  items_of_parts : (s k j : ℕ) (bytes : List ℕ) (q : Parts w s k j bytes) → slice_range (items_of w m bytes) s (s + k) ≡ items_of w m q.part
  items_of_parts s k j bytes q =
      let rest_length : length (q.part ++ q.behind) ≡ (k + j) * w = rw length-append (omega (arith, q.part_length, q.behind_length)) in
      let all = ap (items_of w m) q.joined ∙ items_of-append w m q.front (q.part ++ q.behind) s (k + j) p q.front_length rest_length
      ∙ ap (λ ys. items_of w m q.front ++ ys) (items_of-append w m q.part q.behind k j p q.part_length q.behind_length) in
      let in_front = length-items_of w m q.front ∙ (count_is w s (length q.front) p q.front_length).0 in
      let in_part = length-items_of w m q.part ∙ (count_is w k (length q.part) p q.part_length).0 in
      ap (λ xs. slice_range xs s (s + k)) all ∙ part_in_middle (items_of w m q.front) (items_of w m q.part) (items_of w m q.behind) s k in_front in_part

  items_of-range_of : (s k j : ℕ) (bytes : List ℕ) → length bytes ≡ (s + k + j) * w → items_of w m (slice_range bytes (s * w) ((s + k) * w)) ≡ slice_range (items_of w m bytes) s (s + k)
  items_of-range_of s k j bytes e =
      let q = parts w s k j bytes e in
      ap (items_of w m) q.part_is ∙ sym (items_of_parts s k j bytes q)

  -- the items of a range of indices
  pub items_of-range : (s e : ℕ) (bytes : List ℕ) → length bytes % w ≡ 0 → s ≤ e → e ≤ length bytes / w → items_of w m (slice_range bytes (s * w) (e * w)) ≡ slice_range (items_of w m bytes) s e
  items_of-range s e bytes a h l =
      let n = length bytes / w in
      let to_end : n ≡ s + (e - s) + (n - e) = omega arith in
      let to_range_end : s + (e - s) ≡ e = omega arith in
      let P : ℕ → Type 0 = λ c. items_of w m (slice_range bytes (s * w) (c * w)) ≡ slice_range (items_of w m bytes) s c in
      subst P to_range_end (items_of-range_of s (e - s) (n - e) bytes (whole_count w bytes p a ∙ ap (λ c. c * w) to_end))

  -- the first item, and the others
  pub items_of_first : (bytes : List ℕ) → length bytes % w ≡ 0 → 0 < length bytes → items_of w m bytes ≡ m (take w bytes) ∷ items_of w m (drop w bytes)
  items_of_first bytes a h =
      let f = first_fits w bytes p a h in
      ap (items_of w m) (sym (take-append-drop w bytes))
      ∙ items_of-append w m (take w bytes) (drop w bytes) 1 (length bytes / w - 1) p (omega (arith, f.1)) f.2
      ∙ ap (λ xs. xs ++ items_of w m (drop w bytes)) (items_of-one w m (take w bytes) p f.1)

  -- the last item, and the others
  pub items_of_last : (bytes : List ℕ) → length bytes % w ≡ 0 → 0 < length bytes → items_of w m bytes ≡ items_of w m (take (length bytes - w) bytes) ++ m (drop (length bytes - w) bytes) ∷ []
  items_of_last bytes a h =
      let f = last_fits w bytes p a h in
      let n = length bytes - w in
      ap (items_of w m) (sym (take-append-drop n bytes))
      ∙ items_of-append w m (take n bytes) (drop n bytes) (length bytes / w - 1) 1 p f.1 (omega (arith, f.2))
      ∙ ap (λ xs. items_of w m (take n bytes) ++ xs) (items_of-one w m (drop n bytes) p f.2)

module _ {IsGood : List ℕ → Type 0} (w : ℕ) (p : 0 < w) where
  good_part : (s k j : ℕ) (bytes : List ℕ) (q : Parts w s k j bytes) → AreItems w IsGood bytes → AreItems w IsGood q.part
  good_part s k j bytes q a =
      let rest_length : length (q.part ++ q.behind) ≡ (k + j) * w = rw length-append (omega (arith, q.part_length, q.behind_length)) in
      AreItems_front w q.part q.behind k j p q.part_length q.behind_length
      (AreItems_back w q.front (q.part ++ q.behind) s (k + j) p q.front_length rest_length (subst (AreItems w IsGood) q.joined a))

  AreItems-range_of : (s k j : ℕ) (bytes : List ℕ) → length bytes ≡ (s + k + j) * w → AreItems w IsGood bytes → AreItems w IsGood (slice_range bytes (s * w) ((s + k) * w))
  AreItems-range_of s k j bytes e a =
      let q = parts w s k j bytes e in
      subst (AreItems w IsGood) (sym q.part_is) (good_part s k j bytes q a)

  pub AreItems-range : (s e : ℕ) (bytes : List ℕ) → AreItems w IsGood bytes → s ≤ e → e ≤ length bytes / w → AreItems w IsGood (slice_range bytes (s * w) (e * w))
  AreItems-range s e bytes a h l =
      let n = length bytes / w in
      let to_end : n ≡ s + (e - s) + (n - e) = omega arith in
      let to_range_end : s + (e - s) ≡ e = omega arith in
      let P : ℕ → Type 0 = λ c. AreItems w IsGood (slice_range bytes (s * w) (c * w)) in
      subst P to_range_end (AreItems-range_of s (e - s) (n - e) bytes (whole_count w bytes p a.whole ∙ ap (λ c. c * w) to_end) a)

  pub IsGood_first : (bytes : List ℕ) → AreItems w IsGood bytes → 0 < length bytes → IsGood (take w bytes) × AreItems w IsGood (drop w bytes)
  IsGood_first bytes a h =
      let f = first_fits w bytes p a.whole h in
      let b = subst (AreItems w IsGood) (sym (take-append-drop w bytes)) a in (
        IsGood_one w (take w bytes) p f.1 (AreItems_front w (take w bytes) (drop w bytes) 1 (length bytes / w - 1) p (omega (arith, f.1)) f.2 b),
        AreItems_back w (take w bytes) (drop w bytes) 1 (length bytes / w - 1) p (omega (arith, f.1)) f.2 b,
      )

  pub IsGood_last : (bytes : List ℕ) → AreItems w IsGood bytes → 0 < length bytes → AreItems w IsGood (take (length bytes - w) bytes) × IsGood (drop (length bytes - w) bytes)
  IsGood_last bytes a h =
      let n = length bytes - w in
      let f = last_fits w bytes p a.whole h in
      let b = subst (AreItems w IsGood) (sym (take-append-drop n bytes)) a in (
        AreItems_front w (take n bytes) (drop n bytes) (length bytes / w - 1) 1 p f.1 (omega (arith, f.2)) b,
        IsGood_one w (drop n bytes) p f.2 (AreItems_back w (take n bytes) (drop n bytes) (length bytes / w - 1) 1 p f.1 (omega (arith, f.2)) b),
      )

-- one more item after whole items
pub items_of_push : {T : Type 0} (w : ℕ) (m : List ℕ → T) (xs ys : List ℕ) → 0 < w → length xs % w ≡ 0 → length ys ≡ w → items_of w m (xs ++ ys) ≡ items_of w m xs ++ m ys ∷ []
items_of_push w m xs ys p a e =
    items_of-append w m xs ys (length xs / w) 1 p (whole_count w xs p a) (omega arith) ∙ ap (λ zs. items_of w m xs ++ zs) (items_of-one w m ys p e)

pub AreItems-push : {IsGood : List ℕ → Type 0} (w : ℕ) (xs ys : List ℕ) → 0 < w → AreItems w IsGood xs → length ys ≡ w → IsGood ys → AreItems w IsGood (xs ++ ys)
AreItems-push w xs ys p a e good = AreItems-append w xs ys p a (AreItems-one w ys p e good)

pub items_of_none : {T : Type 0} (w : ℕ) (m : List ℕ → T) (bytes : List ℕ) → 0 < w → length bytes ≡ 0 → items_of w m bytes ≡ []
items_of_none w m bytes p e = ap (items_of w m) (nil_from_length bytes e) ∙ items_of-nil w m p

-- items of bytes are values, where good bytes of their width mean values
pub items_are_values : {T : Type 0} {IsGood : List ℕ → Type 0} (IsValue : T → Type 0) (w : ℕ) (m : List ℕ → T) (bytes : List ℕ)
    → ((item : List ℕ) → All (λ byte. byte < 2 ^ 8) item → length item ≡ w → IsGood item → IsValue (m item))
    → 0 < w → All (λ byte. byte < 2 ^ 8) bytes → AreItems w IsGood bytes → All IsValue (items_of w m bytes)
items_are_values {T} {IsGood} IsValue w m bytes law p small good = λ i d h.
    let index : i < length bytes / w = rw length-items_of at h in
    let whole = whole_count w bytes p good.whole in
    let room = product_below w (length bytes / w) i index in
    let width : length (item_bytes w bytes i) ≡ w = length-take-le w (drop (i * w) bytes) (simp length-drop (omega (arith, whole, room))) in
    let item_small = All-take (λ byte. byte < 2 ^ 8) w (drop (i * w) bytes) (All-drop (λ byte. byte < 2 ^ 8) (i * w) bytes small) in
    subst IsValue (sym (get_or-items_of w m bytes i d index)) (law (item_bytes w bytes i) item_small width (good.each i index))
