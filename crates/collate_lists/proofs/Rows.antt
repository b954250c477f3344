-- Lists in a row: where each begins, and what an edit of one does to all.
use Rattle.std.proofs.Common.{◌≡◌, Bool, true, cond, subst, ℕ, zero, suc, ◌+◌, ◌-◌, ◌<◌, ◌≤◌, List, [], ◌∷◌, ◌++◌, All, length, get_or, set, take, drop, map, Some, refl, sym, ap, ◌∙◌, arith, append_assoc, length-append, add-one, suc-add}
use Rattle.std.proofs.Math.Seq.{take-append-add, drop-append-add}
use Rattle.std.proofs.lemmas.List.{take-append-le, drop-append-le, take-append-drop, drop_more, set_split, get_or-map, get_or-append-add, length-take, length-drop, take-map, drop-map, map-append, map-set, nil_from_length}
use Rattle.std.proofs.lemmas.List.Concat.{flat_map-append}
use Rattle.std.proofs.lemmas.List.Elements.{All-nil, All-cons, All-weaker, All-append, All-take, All-drop, All-set}
use Rattle.std.proofs.lemmas.Option.{slice_get-get_or}
use Rattle.std.proofs.lemmas.List.Edits.{length-insert, length-remove, get_or-remove_below}
use Rattle.std.proofs.Math.ListN.{get_or-append}
use Rattle.std.specs.Prelude.{insert, remove, slice_get, slice_index, vec_len, vec_capacity}
use Rattle.collate_lists.specs.declared.list_rows.TheConstants.{FULL}
use Rattle.collate_lists.specs.declared.windows.FrontedSlot.{FrontedSlot}
use Rattle.std.specs.Global.{Vec}
use Rattle.collate_lists.specs.Lists.{joined, lengths, rank_of, starts_from, starts_of, raised, lowered, AreRoomy}

-- what is said of a call that is done
pub done_is : {X : Type 0} (done : Bool) (xs ys zs : List X) → done ≡ true → zs ≡ cond done xs ys → zs ≡ xs
done_is done xs ys zs h e = e ∙ ap (λ b. cond b xs ys) h

pub All-insert : {X : Type 0} (P : X → Type 0) (xs : List X) (n : ℕ) (x : X) → All P xs → P x → All P (insert xs n x)
All-insert P xs n x all h = All-append P (take n xs) (x ∷ drop n xs) (All-take P n xs all) (All-cons P x (drop n xs) h (All-drop P n xs all))

pub All-remove : {X : Type 0} (P : X → Type 0) (xs : List X) (n : ℕ) → All P xs → All P (remove xs n)
All-remove P xs n all = All-append P (take n xs) (drop (suc n) xs) (All-take P n xs all) (All-drop P (suc n) xs all)

-- ---- an edit of a list, seen in the lists before and after it

-- the lists around one of them
pub split_at : (lists : List (Vec FrontedSlot)) (i : ℕ) (list : Vec FrontedSlot) → i < length lists → list ≡ get_or lists i list → lists ≡ take i lists ++ list ∷ drop (i + 1) lists
split_at lists i list within is =
    sym (take-append-drop i lists) ∙ ap (λ rest. take i lists ++ rest) (drop_more lists i list within) ∙ ap (λ (l : Vec FrontedSlot). take i lists ++ l ∷ drop (i + 1) lists) (sym is)

pub set_at_split : (lists : List (Vec FrontedSlot)) (i : ℕ) (list : Vec FrontedSlot) → i < length lists → set lists i list ≡ take i lists ++ list ∷ drop (i + 1) lists
set_at_split lists i list within = set_split lists i list within ∙ ap (λ n. take i lists ++ list ∷ drop n lists) (sym (add-one i))

pub joined-append : (front back : List (Vec FrontedSlot)) → joined (front ++ back) ≡ joined front ++ joined back
joined-append front back = flat_map-append (λ (list : Vec FrontedSlot). list.items) front back

pub insert_behind : {X : Type 0} (xs ys : List X) (k : ℕ) (x : X) → insert (xs ++ ys) (length xs + k) x ≡ xs ++ insert ys k x
insert_behind xs ys k x = rw (take-append-add xs ys k, drop-append-add xs ys k) (append_assoc xs (take k ys) (x ∷ drop k ys))

pub insert_within : {X : Type 0} (xs ys : List X) (k : ℕ) (x : X) → k ≤ length xs → insert (xs ++ ys) k x ≡ insert xs k x ++ ys
insert_within xs ys k x h = rw (take-append-le k xs ys h, drop-append-le k xs ys h) (sym (append_assoc (take k xs) (x ∷ drop k xs) ys))

pub remove_behind : {X : Type 0} (xs ys : List X) (k : ℕ) → remove (xs ++ ys) (length xs + k) ≡ xs ++ remove ys k
remove_behind xs ys k =
    let next : suc (length xs + k) ≡ length xs + suc k = omega arith in
    rw (next, take-append-add xs ys k, drop-append-add xs ys (suc k)) (append_assoc xs (take k ys) (drop (suc k) ys))

pub remove_within : {X : Type 0} (xs ys : List X) (k : ℕ) → k < length xs → remove (xs ++ ys) k ≡ remove xs k ++ ys
remove_within xs ys k h =
    let from : k ≤ length xs = omega arith in
    let next : suc k ≤ length xs = omega arith in
    rw (take-append-le k xs ys from, drop-append-le (suc k) xs ys next) (sym (append_assoc (take k xs) (drop (suc k) xs) ys))

-- ---- where lists begin

pub length-starts_from : (rank : ℕ) (lists : List (Vec FrontedSlot)) → length (starts_from rank lists) ≡ length lists
length-starts_from rank [] = refl
length-starts_from rank (list ∷ lists) = omega (arith, length-starts_from (rank + length list.items) lists)

pub starts_from-append : (rank : ℕ) (front back : List (Vec FrontedSlot)) → starts_from rank (front ++ back) ≡ starts_from rank front ++ starts_from (rank + length (joined front)) back
starts_from-append rank [] back =
    let same : rank ≡ rank + 0 = omega arith in
    ap (λ n. starts_from n back) same
starts_from-append rank (list ∷ front) back =
    let next : rank + length list.items + length (joined front) ≡ rank + length (list.items ++ joined front) = omega (arith, length-append list.items (joined front)) in
    ap (λ starts. rank ∷ starts) (starts_from-append (rank + length list.items) front back ∙ ap (λ n. starts_from (rank + length list.items) front ++ starts_from n back) next)

pub starts_from-suc : (rank : ℕ) (lists : List (Vec FrontedSlot)) → starts_from (rank + 1) lists ≡ map (λ start. start + 1) (starts_from rank lists)
starts_from-suc rank [] = refl
starts_from-suc rank (list ∷ lists) =
    let next : rank + 1 + length list.items ≡ rank + length list.items + 1 = omega arith in
    ap (λ starts. (rank + 1) ∷ starts) (ap (λ n. starts_from n lists) next ∙ starts_from-suc (rank + length list.items) lists)

pub starts_from-pred : (rank : ℕ) (lists : List (Vec FrontedSlot)) → starts_from rank lists ≡ map (λ start. start - 1) (starts_from (rank + 1) lists)
starts_from-pred rank [] = refl
starts_from-pred rank (list ∷ lists) =
    let here : rank ≡ rank + 1 - 1 = omega arith in
    let next : rank + length list.items + 1 ≡ rank + 1 + length list.items = omega arith in
    ap (λ n. n ∷ starts_from (rank + length list.items) lists) here
    ∙ ap (λ starts. (rank + 1 - 1) ∷ starts) (starts_from-pred (rank + length list.items) lists ∙ ap (λ n. map (λ start. start - 1) (starts_from n lists)) next)

-- no list begins before the first, or after all values
pub starts_from_low : (rank : ℕ) (lists : List (Vec FrontedSlot)) → All (λ start. rank ≤ start) (starts_from rank lists)
starts_from_low rank [] = All-nil (λ start. rank ≤ start)
starts_from_low rank (list ∷ lists) =
    All-cons (λ start. rank ≤ start) rank (starts_from (rank + length list.items) lists) (omega arith)
    (All-weaker (λ start. rank + length list.items ≤ start) (λ start. rank ≤ start) (λ start h. omega arith) (starts_from (rank + length list.items) lists) (starts_from_low (rank + length list.items) lists))

pub starts_from_high : (rank : ℕ) (lists : List (Vec FrontedSlot)) → All (λ start. start ≤ rank + length (joined lists)) (starts_from rank lists)
starts_from_high rank [] = All-nil (λ start. start ≤ rank + 0)
starts_from_high rank (list ∷ lists) =
    let all : length (list.items ++ joined lists) ≡ length list.items + length (joined lists) = length-append list.items (joined lists) in
    All-cons (λ start. start ≤ rank + length (list.items ++ joined lists)) rank (starts_from (rank + length list.items) lists) (omega arith)
    (All-weaker (λ start. start ≤ rank + length list.items + length (joined lists)) (λ start. start ≤ rank + length (list.items ++ joined lists)) (λ start h. omega (arith, all)) (starts_from (rank + length list.items) lists) (starts_from_high (rank + length list.items) lists))

-- ---- an element between a front and a back

insert_next : {X : Type 0} (front back : List X) (x y : X) (n : ℕ) → n ≡ length front + 1 → insert (front ++ x ∷ back) n y ≡ front ++ x ∷ y ∷ back
insert_next front back x y n e = rw e (insert_behind front (x ∷ back) 1 y)

remove_at : {X : Type 0} (front back : List X) (x : X) (n : ℕ) → n ≡ length front → remove (front ++ x ∷ back) n ≡ front ++ back
remove_at front back x n e =
    let at : n ≡ length front + 0 = omega arith in
    rw at (remove_behind front (x ∷ back) 0)

-- ---- what each edit leaves

-- lists in a row, one of them with its front and its back
module _ (front back : List (Vec FrontedSlot)) where
  starts_around : (list : Vec FrontedSlot) → starts_of (front ++ list ∷ back) ≡ starts_of front ++ length (joined front) ∷ starts_from (length (joined front) + length list.items) back
  starts_around list =
      let none : 0 + length (joined front) ≡ length (joined front) = omega arith in
      starts_from-append 0 front (list ∷ back) ∙ ap (λ n. starts_of front ++ n ∷ starts_from (n + length list.items) back) none

  moved_behind : (f : ℕ → ℕ) (x : ℕ) (later : List ℕ) (n : ℕ) → n ≡ length front
      → take (n + 1) (starts_of front ++ x ∷ later) ++ map f (drop (n + 1) (starts_of front ++ x ∷ later)) ≡ starts_of front ++ x ∷ map f later
  moved_behind f x later n e =
      let at : n + 1 ≡ length (starts_of front) + 1 = omega (arith, length-starts_from 0 front) in
      rw (at, take-append-add (starts_of front) (x ∷ later) 1, drop-append-add (starts_of front) (x ∷ later) 1) (append_assoc (starts_of front) (x ∷ []) (map f later))

  pub put_values : (list new : Vec FrontedSlot) (place : ℕ) (value : FrontedSlot) → place ≤ length list.items → new.items ≡ insert list.items place value
      → joined (front ++ new ∷ back) ≡ insert (joined (front ++ list ∷ back)) (length (joined front) + place) value
  put_values list new place value h e =
      joined-append front (new ∷ back)
      ∙ ap (λ items. joined front ++ (items ++ joined back)) e
      ∙ ap (λ items. joined front ++ items) (sym (insert_within list.items (joined back) place value h))
      ∙ sym (insert_behind (joined front) (list.items ++ joined back) place value)
      ∙ ap (λ items. insert items (length (joined front) + place) value) (sym (joined-append front (list ∷ back)))

  pub put_starts : (list new : Vec FrontedSlot) (part : ℕ) → part ≡ length front → length new.items ≡ length list.items + 1
      → starts_of (front ++ new ∷ back) ≡ raised (part + 1) (starts_of (front ++ list ∷ back))
  put_starts list new part at h =
      let next : length (joined front) + length new.items ≡ length (joined front) + length list.items + 1 = omega arith in
      starts_around new
      ∙ ap (λ n. starts_of front ++ length (joined front) ∷ starts_from n back) next
      ∙ ap (λ later. starts_of front ++ length (joined front) ∷ later) (starts_from-suc (length (joined front) + length list.items) back)
      ∙ sym (moved_behind (λ start. start + 1) (length (joined front)) (starts_from (length (joined front) + length list.items) back) part at)
      ∙ ap (λ starts. raised (part + 1) starts) (sym (starts_around list))

  pub taken_values : (list new : Vec FrontedSlot) (place : ℕ) → place < length list.items → new.items ≡ remove list.items place
      → joined (front ++ new ∷ back) ≡ remove (joined (front ++ list ∷ back)) (length (joined front) + place)
  taken_values list new place h e =
      joined-append front (new ∷ back)
      ∙ ap (λ items. joined front ++ (items ++ joined back)) e
      ∙ ap (λ items. joined front ++ items) (sym (remove_within list.items (joined back) place h))
      ∙ sym (remove_behind (joined front) (list.items ++ joined back) place)
      ∙ ap (λ items. remove items (length (joined front) + place)) (sym (joined-append front (list ∷ back)))

  pub taken_starts : (list new : Vec FrontedSlot) (part : ℕ) → part ≡ length front → length new.items + 1 ≡ length list.items
      → starts_of (front ++ new ∷ back) ≡ lowered (part + 1) (starts_of (front ++ list ∷ back))
  taken_starts list new part at h =
      let next : length (joined front) + length new.items + 1 ≡ length (joined front) + length list.items = omega arith in
      starts_around new
      ∙ ap (λ later. starts_of front ++ length (joined front) ∷ later) (starts_from-pred (length (joined front) + length new.items) back)
      ∙ ap (λ n. starts_of front ++ length (joined front) ∷ map (λ start. start - 1) (starts_from n back)) next
      ∙ sym (moved_behind (λ start. start - 1) (length (joined front)) (starts_from (length (joined front) + length list.items) back) part at)
      ∙ ap (λ starts. lowered (part + 1) starts) (sym (starts_around list))

  pub value_at : (list : Vec FrontedSlot) (place : ℕ) (value : FrontedSlot) → place < length list.items → value ≡ get_or list.items place value
      → slice_get (joined (front ++ list ∷ back)) (length (joined front) + place) ≡ Some value
  value_at list place value h e =
      let values : joined (front ++ list ∷ back) ≡ joined front ++ (list.items ++ joined back) = joined-append front (list ∷ back) in
      let inside : length (joined front) + place < length (joined front ++ (list.items ++ joined back)) =
      omega (arith, length-append (joined front) (list.items ++ joined back), length-append list.items (joined back)) in
      rw values (
      slice_get-get_or (joined front ++ (list.items ++ joined back)) (length (joined front) + place) value inside
      ∙ ap Some (get_or-append-add (joined front) (list.items ++ joined back) place value ∙ get_or-append list.items (joined back) value place h ∙ sym e)
      )

  pub halved_values : (list low high : Vec FrontedSlot) → list.items ≡ low.items ++ high.items → joined (front ++ low ∷ high ∷ back) ≡ joined (front ++ list ∷ back)
  halved_values list low high e =
      joined-append front (low ∷ high ∷ back)
      ∙ ap (λ items. joined front ++ items) (sym (append_assoc low.items high.items (joined back)) ∙ ap (λ items. items ++ joined back) (sym e))
      ∙ sym (joined-append front (list ∷ back))

  pub halved_starts : (list low high : Vec FrontedSlot) (part half start : ℕ) → part ≡ length front → list.items ≡ low.items ++ high.items → length low.items ≡ half
      → start ≡ length (joined front) + half → starts_of (front ++ low ∷ high ∷ back) ≡ insert (starts_of (front ++ list ∷ back)) (part + 1) start
  halved_starts list low high part half start at e h from =
      let b : ℕ = length (joined front) in
      let none : 0 + b ≡ b = omega arith in
      let next : b + length low.items ≡ start = omega arith in
      let last : start + length high.items ≡ b + length list.items = omega (arith, length-append low.items high.items, ap length e) in
      let place : part + 1 ≡ length (starts_of front) + 1 = omega (arith, length-starts_from 0 front) in
      starts_from-append 0 front (low ∷ high ∷ back)
      ∙ ap (λ n. starts_of front ++ n ∷ (n + length low.items) ∷ starts_from (n + length low.items + length high.items) back) none
      ∙ ap (λ n. starts_of front ++ b ∷ n ∷ starts_from (n + length high.items) back) next
      ∙ ap (λ n. starts_of front ++ b ∷ start ∷ starts_from n back) last
      ∙ sym (insert_next (starts_of front) (starts_from (b + length list.items) back) b start (part + 1) place)
      ∙ ap (λ starts. insert starts (part + 1) start) (sym (starts_around list))

  pub let_go_values : (list : Vec FrontedSlot) → list.items ≡ [] → joined (front ++ back) ≡ joined (front ++ list ∷ back)
  let_go_values list e =
      joined-append front back ∙ ap (λ items. joined front ++ (items ++ joined back)) (sym e) ∙ sym (joined-append front (list ∷ back))

  pub let_go_starts : (list : Vec FrontedSlot) (part : ℕ) → part ≡ length front → list.items ≡ [] → starts_of (front ++ back) ≡ remove (starts_of (front ++ list ∷ back)) part
  let_go_starts list part at e =
      let none : 0 + length (joined front) ≡ length (joined front) + length list.items = omega (arith, ap length e) in
      let place : part ≡ length (starts_of front) = omega (arith, length-starts_from 0 front) in
      starts_from-append 0 front back
      ∙ ap (λ n. starts_of front ++ starts_from n back) none
      ∙ sym (remove_at (starts_of front) (starts_from (length (joined front) + length list.items) back) (length (joined front)) part place)
      ∙ ap (λ starts. remove starts part) (sym (starts_around list))

-- ---- the same at a place in the lists

pub length_at : (lists : List (Vec FrontedSlot)) (part : ℕ) (list : Vec FrontedSlot) → part < length lists → list ≡ get_or lists part list → slice_index (lengths lists) part ≡ length list.items
length_at lists part list within is = get_or-map (λ (l : Vec FrontedSlot). length l.items) lists part list 0 within ∙ ap (λ (l : Vec FrontedSlot). length l.items) (sym is)

pub room_at : (lists : List (Vec FrontedSlot)) (part : ℕ) (list : Vec FrontedSlot) → part < length lists → list ≡ get_or lists part list → AreRoomy lists → (length list.items ≤ FULL) × (FULL ≤ vec_capacity list)
room_at lists part list within is room = subst (λ (l : Vec FrontedSlot). (length l.items ≤ FULL) × (FULL ≤ vec_capacity l)) (sym is) (room part list within)

length_front : (lists : List (Vec FrontedSlot)) (part : ℕ) → part < length lists → part ≡ length (take part lists)
length_front lists part within = omega (arith, length-take part lists)

-- a value is put at a place, where there is room, so that it is done
pub put_in : (lists : List (Vec FrontedSlot)) (part : ℕ) (list new : Vec FrontedSlot) (place : ℕ) (value : FrontedSlot) (done : Bool) → part < length lists → list ≡ get_or lists part list
    → place ≤ slice_index (lengths lists) part → slice_index (lengths lists) part < FULL → AreRoomy lists → (vec_len list < vec_capacity list → done ≡ true)
    → new.items ≡ cond done (insert list.items place value) list.items
    → (joined (set lists part new) ≡ insert (joined lists) (rank_of lists part place) value) × (starts_of (set lists part new) ≡ raised (part + 1) (starts_of lists))
put_in lists part list new place value done within is at space room succeeds items =
    let front = take part lists in
    let back = drop (part + 1) lists in
    let rows : lists ≡ front ++ list ∷ back = split_at lists part list within is in
    let rows_new : set lists part new ≡ front ++ new ∷ back = set_at_split lists part new within in
    let long : slice_index (lengths lists) part ≡ length list.items = length_at lists part list within is in
    let memory : FULL ≤ vec_capacity list = (room_at lists part list within is room).1 in
    let h : place ≤ length list.items = omega arith in
    let e : new.items ≡ insert list.items place value = done_is done (insert list.items place value) list.items new.items (succeeds (omega (arith, list.ok))) items in
    let more : length new.items ≡ length list.items + 1 = ap length e ∙ length-insert list.items place value h in (
      ap joined rows_new ∙ put_values front back list new place value h e ∙ ap (λ all. insert (joined all) (length (joined front) + place) value) (sym rows),
      ap starts_of rows_new ∙ put_starts front back list new part (length_front lists part within) more ∙ ap (λ all. raised (part + 1) (starts_of all)) (sym rows),
    )

pub taken_from : (lists : List (Vec FrontedSlot)) (part : ℕ) (list new : Vec FrontedSlot) (place : ℕ) → part < length lists → list ≡ get_or lists part list → place < length list.items → new.items ≡ remove list.items place
    → (joined (set lists part new) ≡ remove (joined lists) (rank_of lists part place)) × (starts_of (set lists part new) ≡ lowered (part + 1) (starts_of lists))
taken_from lists part list new place within is h e =
    let front = take part lists in
    let back = drop (part + 1) lists in
    let rows : lists ≡ front ++ list ∷ back = split_at lists part list within is in
    let rows_new : set lists part new ≡ front ++ new ∷ back = set_at_split lists part new within in
    let fewer : length new.items + 1 ≡ length list.items = ap (λ items. length items + 1) e ∙ length-remove list.items place h in (
      ap joined rows_new ∙ taken_values front back list new place h e ∙ ap (λ all. remove (joined all) (length (joined front) + place)) (sym rows),
      ap starts_of rows_new ∙ taken_starts front back list new part (length_front lists part within) fewer ∙ ap (λ all. lowered (part + 1) (starts_of all)) (sym rows),
    )

pub value_in : (lists : List (Vec FrontedSlot)) (part : ℕ) (list : Vec FrontedSlot) (place : ℕ) (value : FrontedSlot) → part < length lists → list ≡ get_or lists part list → place < length list.items → value ≡ get_or list.items place value
    → slice_get (joined lists) (rank_of lists part place) ≡ Some value
value_in lists part list place value within is h e =
    let front = take part lists in
    let back = drop (part + 1) lists in
    ap (λ all. slice_get (joined all) (length (joined front) + place)) (split_at lists part list within is) ∙ value_at front back list place value h e

pub let_go_in : (lists : List (Vec FrontedSlot)) (part : ℕ) (list : Vec FrontedSlot) → part < length lists → list ≡ get_or lists part list → slice_index (lengths lists) part ≡ 0
    → (joined (remove lists part) ≡ joined lists) × (starts_of (remove lists part) ≡ remove (starts_of lists) part)
let_go_in lists part list within is h =
    let front = take part lists in
    let back = drop (part + 1) lists in
    let rows : lists ≡ front ++ list ∷ back = split_at lists part list within is in
    let rows_new : remove lists part ≡ front ++ back = ap (λ n. front ++ drop n lists) (sym (add-one part)) in
    let none : list.items ≡ [] = nil_from_length list.items (sym (length_at lists part list within is) ∙ h) in (
      ap joined rows_new ∙ let_go_values front back list none ∙ ap joined (sym rows),
      ap starts_of rows_new ∙ let_go_starts front back list part (length_front lists part within) none ∙ ap (λ all. remove (starts_of all) part) (sym rows),
    )

-- the rank at which a list begins, and the next one
pub start_at : (rank : ℕ) (lists : List (Vec FrontedSlot)) (part : ℕ) → part < length lists → slice_index (starts_from rank lists) part ≡ rank + length (joined (take part lists))
start_at rank [] part h = absurd (omega arith)
start_at rank (list ∷ lists) zero h = omega arith
start_at rank (list ∷ lists) (suc part) h =
    omega (arith, start_at (rank + length list.items) lists part (omega arith), length-append list.items (joined (take part lists)))

pub start_next : (lists : List (Vec FrontedSlot)) (part : ℕ) → part < length lists → length (joined (take (part + 1) lists)) ≡ length (joined (take part lists)) + slice_index (lengths lists) part
start_next [] part h = absurd (omega arith)
start_next (list ∷ lists) zero h = omega (arith, length-append list.items [])
start_next (list ∷ lists) (suc part) h =
    rw (suc-add part 1) (omega (arith, start_next lists part (omega arith), length-append list.items (joined (take part lists)), length-append list.items (joined (take (part + 1) lists))))

-- the ranks at which later lists begin
pub drop-starts_from : (rank n : ℕ) (lists : List (Vec FrontedSlot)) → drop n (starts_from rank lists) ≡ starts_from (rank + length (joined (take n lists))) (drop n lists)
drop-starts_from rank zero lists =
    let none : rank ≡ rank + 0 = omega arith in
    ap (λ m. starts_from m lists) none
drop-starts_from rank (suc n) [] = refl
drop-starts_from rank (suc n) (list ∷ lists) =
    let next : rank + length list.items + length (joined (take n lists)) ≡ rank + length (list.items ++ joined (take n lists)) = omega (arith, length-append list.items (joined (take n lists))) in
    drop-starts_from (rank + length list.items) n lists ∙ ap (λ m. starts_from m (drop n lists)) next

-- no list ends after all values
pub list_ends : (rank : ℕ) (lists : List (Vec FrontedSlot)) (part : ℕ) → part < length lists → slice_index (starts_from rank lists) part + slice_index (lengths lists) part ≤ rank + length (joined lists)
list_ends rank [] part h = absurd (omega arith)
list_ends rank (list ∷ lists) zero h = omega (arith, length-append list.items (joined lists))
list_ends rank (list ∷ lists) (suc part) h = omega (arith, list_ends (rank + length list.items) lists part (omega arith), length-append list.items (joined lists))

-- ---- a full list becomes two

pub lengths-insert : (lists : List (Vec FrontedSlot)) (n : ℕ) (list : Vec FrontedSlot) → lengths (insert lists n list) ≡ insert (lengths lists) n (length list.items)
lengths-insert lists n list =
    let f : Vec FrontedSlot → ℕ = λ l. length l.items in
    map-append f (take n lists) (list ∷ drop n lists)
    ∙ ap (λ xs. xs ++ f list ∷ map f (drop n lists)) (sym (take-map f n lists))
    ∙ ap (λ xs. take n (map f lists) ++ f list ∷ xs) (sym (drop-map f n lists))

pub halved : (lists : List (Vec FrontedSlot)) (part : ℕ) (list low high : Vec FrontedSlot) (new : List (Vec FrontedSlot)) (half : ℕ) (done : Bool) → part < length lists → list ≡ get_or lists part list
    → low.items ≡ take half list.items → high.items ≡ drop half list.items → length list.items ≡ half + half → done ≡ true → new ≡ cond done (insert (set lists part low) (part + 1) high) (set lists part low)
    → (joined new ≡ joined lists) × (starts_of new ≡ insert (starts_of lists) (part + 1) (slice_index (starts_of lists) part + half))
    × (lengths new ≡ insert (set (lengths lists) part half) (part + 1) half)
halved lists part list low high new half done within is lower upper long succeeds items =
    let made : new ≡ insert (set lists part low) (part + 1) high = done_is done (insert (set lists part low) (part + 1) high) (set lists part low) new succeeds items in
    let front = take part lists in
    let back = drop (part + 1) lists in
    let e : list.items ≡ low.items ++ high.items = sym (take-append-drop half list.items) ∙ ap (λ xs. xs ++ drop half list.items) (sym lower) ∙ ap (λ xs. low.items ++ xs) (sym upper) in
    let h : length low.items ≡ half = omega (arith, ap length lower, length-take half list.items) in
    let k : length high.items ≡ half = omega (arith, ap length upper, length-drop half list.items) in
    let rows : lists ≡ front ++ list ∷ back = split_at lists part list within is in
    let at : part ≡ length front = length_front lists part within in
    let next : part + 1 ≡ length front + 1 = omega arith in
    let rows_new : new ≡ front ++ low ∷ high ∷ back =
    made ∙ ap (λ all. insert all (part + 1) high) (set_at_split lists part low within) ∙ insert_next front back low high (part + 1) next in
    let start : slice_index (starts_of lists) part + half ≡ length (joined front) + half = omega (arith, start_at 0 lists part within) in (
      ap joined rows_new ∙ halved_values front back list low high e ∙ ap joined (sym rows),
      ap starts_of rows_new ∙ halved_starts front back list low high part half (slice_index (starts_of lists) part + half) at e h start
          ∙ ap (λ all. insert (starts_of all) (part + 1) (slice_index (starts_of lists) part + half)) (sym rows),
      ap lengths made ∙ lengths-insert (set lists part low) (part + 1) high
          ∙ ap (λ n. insert (lengths (set lists part low)) (part + 1) n) k
          ∙ ap (λ xs. insert xs (part + 1) half) (map-set (λ (l : Vec FrontedSlot). length l.items) lists part low ∙ ap (λ n. set (lengths lists) part n) h),
    )

-- a list is cut at a half, and the second one put after it
pub AreRoomy-halved : (lists : List (Vec FrontedSlot)) (part : ℕ) (low high : Vec FrontedSlot) (new : List (Vec FrontedSlot)) (done : Bool) → done ≡ true
    → new ≡ cond done (insert (set lists part low) (part + 1) high) (set lists part low) → AreRoomy lists
    → (length low.items ≤ FULL) × (FULL ≤ vec_capacity low) → (length high.items ≤ FULL) × (FULL ≤ vec_capacity high) → AreRoomy new
AreRoomy-halved lists part low high new done succeeds items all lower upper =
    let made : new ≡ insert (set lists part low) (part + 1) high = done_is done (insert (set lists part low) (part + 1) high) (set lists part low) new succeeds items in
    let P : Vec FrontedSlot → Type 0 = λ l. (length l.items ≤ FULL) × (FULL ≤ vec_capacity l) in
    subst AreRoomy (sym made) (All-insert P (set lists part low) (part + 1) high (All-set P lists part low lower all) upper)

-- ---- a list and the one after it become one

-- the lists around two of them
split_two : (lists : List (Vec FrontedSlot)) (part : ℕ) (low high : Vec FrontedSlot) → suc part < length lists → low ≡ get_or lists part low → high ≡ get_or lists (suc part) high
    → lists ≡ take part lists ++ low ∷ high ∷ drop (suc (suc part)) lists
split_two [] part low high within is next = absurd (omega arith)
split_two (list ∷ []) part low high within is next = absurd (omega arith)
split_two (list ∷ other ∷ lists) zero low high within is next = ap (λ l. l ∷ other ∷ lists) (sym is) ∙ ap (λ l. low ∷ l ∷ lists) (sym next)
split_two (list ∷ other ∷ lists) (suc part) low high within is next = ap (λ ls. list ∷ ls) (split_two (other ∷ lists) part low high (omega arith) is next)

-- one list in the place of two
joined_two : (front back : List (Vec FrontedSlot)) (low high list : Vec FrontedSlot) (part : ℕ) → part ≡ length front → set (remove (front ++ low ∷ high ∷ back) (suc part)) part list ≡ front ++ list ∷ back
joined_two [] back low high list zero at = refl
joined_two [] back low high list (suc part) at = absurd (omega arith)
joined_two (first ∷ front) back low high list zero at = absurd (omega arith)
joined_two (first ∷ front) back low high list (suc part) at = ap (λ ls. first ∷ ls) (joined_two front back low high list part (omega arith))

remove_inserted : {X : Type 0} (xs : List X) (n : ℕ) (x : X) → n ≤ length xs → remove (insert xs n x) n ≡ xs
remove_inserted [] zero x h = refl
remove_inserted [] (suc n) x h = absurd (omega arith)
remove_inserted (y ∷ ys) zero x h = refl
remove_inserted (y ∷ ys) (suc n) x h = ap (λ zs. y ∷ zs) (remove_inserted ys n x (omega arith))

-- the second list is taken out, and what it held goes after what the first one holds
module _ (lists : List (Vec FrontedSlot)) (part : ℕ) (low high list : Vec FrontedSlot) (within : part + 1 < length lists) (is : low ≡ get_or (remove lists (part + 1)) part low) (next : high ≡ get_or lists (part + 1) high)
    (few : slice_index (lengths lists) part + slice_index (lengths lists) (part + 1) ≤ FULL) (room : AreRoomy lists) where
  low_is : low ≡ get_or lists part low
  low_is = is ∙ get_or-remove_below lists (part + 1) low part (omega arith) within

  pub joined_fits : vec_len low + length high.items ≤ vec_capacity low
  joined_fits =
      omega (
        arith,
        few,
        length_at lists part low (omega arith) low_is,
        length_at lists (part + 1) high within next,
        (room_at lists part low (omega arith) low_is room).1,
        low.ok.0,
      )

  module _ (e : list.items ≡ low.items ++ high.items) where
    rows : lists ≡ take part lists ++ low ∷ high ∷ drop (suc (suc part)) lists
    rows = split_two lists part low high (omega arith) low_is (next ∙ ap (λ n. get_or lists n high) (add-one part))

    rows_new : set (remove lists (part + 1)) part list ≡ take part lists ++ list ∷ drop (suc (suc part)) lists
    rows_new =
        ap (λ n. set (remove lists n) part list) (add-one part)
        ∙ ap (λ ls. set (remove ls (suc part)) part list) rows
        ∙ joined_two (take part lists) (drop (suc (suc part)) lists) low high list part (length_front lists part (omega arith))

    pub joined_values : joined (set (remove lists (part + 1)) part list) ≡ joined lists
    joined_values =
        ap joined rows_new ∙ sym (halved_values (take part lists) (drop (suc (suc part)) lists) list low high e) ∙ ap joined (sym rows)

    pub joined_starts : starts_of (set (remove lists (part + 1)) part list) ≡ remove (starts_of lists) (part + 1)
    joined_starts =
        let front = take part lists in
        let back = drop (suc (suc part)) lists in
        let at : part ≡ length front = length_front lists part (omega arith) in
        let from : ℕ = length (joined front) + length low.items in
        let parted : starts_of (front ++ low ∷ high ∷ back) ≡ insert (starts_of (front ++ list ∷ back)) (part + 1) from = halved_starts front back list low high part (length low.items) from at e refl refl in
        let long : part + 1 ≤ length (starts_of (front ++ list ∷ back)) = omega (arith, length-starts_from 0 (front ++ list ∷ back), length-append front (list ∷ back)) in
        ap starts_of rows_new ∙ sym (remove_inserted (starts_of (front ++ list ∷ back)) (part + 1) from long)
        ∙ ap (λ xs. remove xs (part + 1)) (sym parted) ∙ ap (λ ls. remove (starts_of ls) (part + 1)) (sym rows)

    pub joined_room : vec_capacity low ≤ vec_capacity list → AreRoomy (set (remove lists (part + 1)) part list)
    joined_room more =
        let P : Vec FrontedSlot → Type 0 = λ l. (length l.items ≤ FULL) × (FULL ≤ vec_capacity l) in
        let long : length list.items ≡ length low.items + length high.items = ap length e ∙ length-append low.items high.items in
        let here : (length list.items ≤ FULL) × (FULL ≤ vec_capacity list) = (
          omega (arith, long, few, length_at lists part low (omega arith) low_is, length_at lists (part + 1) high within next),
          omega (arith, more, (room_at lists part low (omega arith) low_is room).1),
        ) in
        All-set P (remove lists (part + 1)) part list here (All-remove P lists (part + 1) room)
