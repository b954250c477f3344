-- A character put in an index of a list.
use Rattle.std.proofs.Common.{◌≡◌, ℕ, ◌+◌, ◌-◌, ◌<◌, ◌≤◌, ⊎_elim, true, ltb, List, [], ◌∷◌, ◌++◌, length, take, drop, set, get_or, length-drop, sym, ap, subst, ◌∙◌, arith, append_assoc, take-append-drop}
use Rattle.std.proofs.Math.Seq.{paste, take-set-lt}
use Rattle.std.proofs.lemmas.List.{drop-take, drop_more, drop_all, drop-append-le, length-take-le, set_at, take-append-le, take_all, take_more}
use Rattle.std.proofs.lemmas.List.Edits.{take-paste}
use Rattle.std.proofs.lemmas.Bool.{cases_lt}
use Rattle.std.specs.List.{list_all}
use Rattle.icu_normalizer_core.specs.Canonical.{marks_in_order}
use Rattle.icu_normalizer.specs.Marks.{stands_to}
use Rattle.icu_normalizer.proofs.writing.OrderLemmas.{mark_put, mark_stands, mark_stands_last, stands_split, stands_behind}

-- those after it stand one index further on
pub inserted : (xs ys : List ℕ) (index count c : ℕ) → index ≤ count → count < length xs → ys ≡ paste xs (index + 1) (drop index xs) (count - index)
    → take (count + 1) (set ys index c) ≡ take index xs ++ c ∷ drop index (take count xs)
inserted xs ys index count c within room moved =
    let m = count - index in
    let whole : index + m ≡ count = omega (arith, within) in
    let on : count + 1 ≡ (index + 1) + m = omega (arith, within) in
    let back : take m (drop index xs) ≡ drop index (take count xs) = sym (drop-take index m xs) ∙ ap (λ k. drop index (take k xs)) whole in
    let front : take (index + 1) xs ≡ take index xs ++ get_or xs index 0 ∷ [] = take_more xs index 0 (omega (arith, within, room)) in
    let pasted : take (count + 1) ys ≡ take (index + 1) xs ++ take m (drop index xs) =
    ap (take (count + 1)) moved ∙ ap (λ k. take k (paste xs (index + 1) (drop index xs) m)) on
    ∙ take-paste xs (index + 1) (drop index xs) m (omega (arith, within, room)) (omega (arith, within, room, length-drop index xs)) in
    let all : take (count + 1) ys ≡ take index xs ++ get_or xs index 0 ∷ drop index (take count xs) =
    pasted ∙ ap (λ l. l ++ take m (drop index xs)) front ∙ append_assoc (take index xs) (get_or xs index 0 ∷ []) (take m (drop index xs))
    ∙ ap (λ l. take index xs ++ get_or xs index 0 ∷ l) back in
    let long : length (take index xs) ≡ index = length-take-le index xs (omega (arith, within, room)) in
    take-set-lt (count + 1) ys index c (omega (arith, within)) ∙ ap (λ l. set l index c) all
    ∙ set_at (take index xs) (get_or xs index 0) (drop index (take count xs)) c index long

module _ (class : ℕ → ℕ) (xs : List ℕ) (index count c k : ℕ) (long : length xs ≡ count) (within : index ≤ count) (is : k ≡ class c)
    (above : list_all (λ d. ltb k (class d)) (drop index xs) ≡ true) (behind : (last : ℕ) → stands_to class 0 last (take index xs) ≡ true → last ≤ k) where
  above_c : list_all (λ d. ltb (class c) (class d)) (drop index xs) ≡ true
  above_c = subst (λ n. list_all (λ d. ltb n (class d)) (drop index xs) ≡ true) is above

  behind_c : (last : ℕ) → stands_to class 0 last (take index xs) ≡ true → last ≤ class c
  behind_c last h = let le = behind last h in omega (arith, le, is)

  stands_among : (last : ℕ) → index < count → stands_to class 0 last xs ≡ true → stands_to class 0 last (take index xs ++ c ∷ drop index xs) ≡ true
  stands_among last lt h =
      let more : drop index xs ≡ get_or xs index 0 ∷ drop (index + 1) xs = drop_more xs index 0 (omega (arith, long, lt)) in
      let whole : xs ≡ take index xs ++ get_or xs index 0 ∷ drop (index + 1) xs = sym (take-append-drop index xs) ∙ ap (λ l. take index xs ++ l) more in
      subst (λ l. stands_to class 0 last (take index xs ++ c ∷ l) ≡ true) (sym more)
      (mark_stands class last c (take index xs) (get_or xs index 0) (drop (index + 1) xs)
      (subst (λ l. stands_to class 0 last l ≡ true) whole h)
      (subst (λ l. list_all (λ d. ltb (class c) (class d)) l ≡ true) more above_c) behind_c)

  stands_end : (last : ℕ) → count ≤ index → stands_to class 0 last xs ≡ true → stands_to class 0 k (take index xs ++ c ∷ drop index xs) ≡ true
  stands_end last le h =
      let none : drop index xs ≡ [] = drop_all index xs (omega (arith, long, le)) in
      let all : take index xs ≡ xs = take_all index xs (omega (arith, long, le)) in
      subst (λ n. stands_to class 0 n (take index xs ++ c ∷ drop index xs) ≡ true) (sym is)
      (subst (λ l. stands_to class 0 (class c) (take index xs ++ c ∷ l) ≡ true) (sym none)
      (mark_stands_last class last c (take index xs) (subst (λ l. stands_to class 0 last l ≡ true) (sym all) h) behind_c))

  -- what was in order is, with one more
  pub inserted_stands : (last last' : ℕ) → stands_to class 0 last xs ≡ true → (index ≡ count → last' ≡ k) → (index < count → last' ≡ last)
      → stands_to class 0 last' (take index xs ++ c ∷ drop index xs) ≡ true
  inserted_stands last last' h end among =
      ⊎_elim
      (λ (lt : index < count). subst (λ n. stands_to class 0 n (take index xs ++ c ∷ drop index xs) ≡ true) (sym (among lt)) (stands_among last lt h))
      (λ (le : count ≤ index).
      let same : index ≡ count = omega (arith, le, within) in
      subst (λ n. stands_to class 0 n (take index xs ++ c ∷ drop index xs) ≡ true) (sym (end same)) (stands_end last le h))
      (cases_lt index count)

  -- and the mark is where order puts it
  pub inserted_order : (rest : List ℕ) → 0 < class c → marks_in_order class ((take index xs ++ c ∷ drop index xs) ++ rest) ≡ marks_in_order class (xs ++ c ∷ rest)
  inserted_order rest mark =
      ap (marks_in_order class) (append_assoc (take index xs) (c ∷ drop index xs) rest)
      ∙ sym (mark_put class (take index xs) (drop index xs) c rest mark above_c)
      ∙ ap (marks_in_order class) (sym (append_assoc (take index xs) (drop index xs) (c ∷ rest)) ∙ ap (λ l. l ++ c ∷ rest) (take-append-drop index xs))

-- what is put in order from the end the last starter on is in order as a whole
pub order_from : (class : ℕ → ℕ) (last from : ℕ) (xs ms all sorted : List ℕ) → from ≤ length xs → stands_to class 0 last xs ≡ true
    → ((k : ℕ) → stands_to class 0 k (take from xs) ≡ true → k ≤ 0) → all ≡ xs ++ ms → sorted ≡ take from all ++ marks_in_order class (drop from all)
    → sorted ≡ marks_in_order class (xs ++ ms)
order_from class last from xs ms all sorted within h behind is e =
    let parts = stands_split class 0 last (take from xs) (drop from xs) (subst (λ l. stands_to class 0 last l ≡ true) (sym (take-append-drop from xs)) h) in
    let le = behind parts.middle parts.front in
    let zero : parts.middle ≡ 0 = omega (arith, le) in
    let front = subst (λ n. stands_to class 0 n (take from xs) ≡ true) zero parts.front in
    let whole : xs ++ ms ≡ take from xs ++ (drop from xs ++ ms) = ap (λ l. l ++ ms) (sym (take-append-drop from xs)) ∙ append_assoc (take from xs) (drop from xs) ms in
    e ∙ ap (λ l. take from l ++ marks_in_order class (drop from l)) is
    ∙ ap (λ l. l ++ marks_in_order class (drop from (xs ++ ms))) (take-append-le from xs ms within)
    ∙ ap (λ l. take from xs ++ marks_in_order class l) (drop-append-le from xs ms within)
    ∙ sym (ap (marks_in_order class) whole ∙ stands_behind class 0 (take from xs) (drop from xs ++ ms) front)
