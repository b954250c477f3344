-- the ordered part of values: it rises, is a first part of them, and ends before the first that is below the one before it
use Rattle.std.proofs.Common.{◌≡◌, ℕ, zero, suc, ◌+◌, ◌<◌, true, false, cond, not, List, [], ◌∷◌, length, get_or, refl, sym, ap, ◌∙◌, subst, arith, add-one, true≢false}
use Rattle.std.specs.List.{All}
use Rattle.std.specs.Cmp.{IsTotalOrder}
use Rattle.std.specs.declared.cmp.Ordering.{Ordering}
use Rattle.std.proofs.lemmas.Cmp.{tied_itself}
use Rattle.std.proofs.lemmas.List.Elements.{All-cons, All-weaker}
use Rattle.collate_keyed_lines.specs.KeyedLines.{AreInOrder, IsFirstUnordered}
use Rattle.collate_lists.specs.Names.{is_greater}
use Rattle.collate_lists.proofs.NamesLemmas.{Rises, first_upto, upto_chain}
use Rattle.collate_merge.specs.Merged.{StartsAbove, StartsUpto, ordered_behind, ordered_part}

module _ {A : Type 0} (R : A → A → Ordering) where
  -- after a value that isn't above the next the ordered part goes on
  pub next_part : (x : A) (more : List A) → StartsUpto R x more → ordered_behind R x more ≡ ordered_part R more
  unfolding ordered_behind
  next_part x [] up = refl
  next_part x (y ∷ ys) up = ap (λ b. cond b [] (y ∷ ordered_behind R y ys)) up

  -- it ends before one that is below
  pub part_ends : (x y : A) (ys : List A) → is_greater (R x y) ≡ true → ordered_behind R x (y ∷ ys) ≡ []
  unfolding ordered_behind
  part_ends x y ys down = ap (λ b. cond b [] (y ∷ ordered_behind R y ys)) down

  order_next : (x y : A) (ys : List A) (d : A) → is_greater (R x y) ≡ false
      → ((k : ℕ) → k < length (ordered_behind R y ys) → is_greater (R (get_or (y ∷ ys) k d) (get_or ys k d)) ≡ false)
      → (k : ℕ) → k < length (y ∷ ordered_behind R y ys) → is_greater (R (get_or (x ∷ y ∷ ys) k d) (get_or (y ∷ ys) k d)) ≡ false
  order_next x y ys d e later zero l = e
  order_next x y ys d e later (suc k) l = later k (omega arith)

  order_behind : (x : A) (xs : List A) (k : ℕ) (d : A) → k < length (ordered_behind R x xs) → is_greater (R (get_or (x ∷ xs) k d) (get_or xs k d)) ≡ false
  unfolding ordered_behind
  order_behind x [] k d h = absurd (omega arith)
  order_behind x (y ∷ ys) k d h =
      elim (is_greater (R x y)) as (λ b. is_greater (R x y) ≡ b → k < length (cond b [] (y ∷ ordered_behind R y ys)) → is_greater (R (get_or (x ∷ y ∷ ys) k d) (get_or (y ∷ ys) k d)) ≡ false) [
        | true ↦ λ e l. absurd (omega arith)
        | false ↦ λ e l. order_next x y ys d e (λ n m. order_behind y ys n d m) k l
      ]
      refl h

  -- the values of the ordered part stand in order
  pub part_in_order : (xs : List A) → AreInOrder false R xs (length (ordered_part R xs))
  part_in_order [] k d h = absurd (omega arith)
  part_in_order (x ∷ xs) k d h =
      let next : get_or (x ∷ xs) (k + 1) d ≡ get_or xs k d = rw add-one refl in
      ap (λ y. not (is_greater (R (get_or (x ∷ xs) k d) y))) next ∙ ap not (order_behind x xs k d (omega arith))

  stops_behind : (x : A) (xs : List A) (d : A) → length (ordered_behind R x xs) < length xs
      → is_greater (R (get_or (x ∷ xs) (length (ordered_behind R x xs)) d) (get_or xs (length (ordered_behind R x xs)) d)) ≡ true
  unfolding ordered_behind
  stops_behind x [] d h = absurd (omega arith)
  stops_behind x (y ∷ ys) d h =
      elim (is_greater (R x y)) as (λ b. is_greater (R x y) ≡ b → length (cond b [] (y ∷ ordered_behind R y ys)) < length (y ∷ ys)
      → is_greater (R (get_or (x ∷ y ∷ ys) (length (cond b [] (y ∷ ordered_behind R y ys))) d) (get_or (y ∷ ys) (length (cond b [] (y ∷ ordered_behind R y ys))) d)) ≡ true) [
        | true ↦ λ e l. e
        | false ↦ λ e l. stops_behind y ys d (omega arith)
      ]
      refl h

  -- where it isn't all, what stands after it is the first that is below the one before it
  pub part_unordered : (xs : List A) (index : ℕ) → index ≡ length (ordered_part R xs) → index < length xs → IsFirstUnordered false R xs index
  part_unordered [] index is h = absurd (omega arith)
  part_unordered (x ∷ xs) index is h = record {
    behind = omega arith;
    within = h;
    before = subst (λ (n : ℕ). AreInOrder false R (x ∷ xs) n) (sym is) (part_in_order (x ∷ xs));
    here = λ before d at.
        let n : ℕ = length (ordered_behind R x xs) in
        let low : before ≡ n = omega arith in
        let high : index ≡ suc n = omega arith in
        ap (λ (k : ℕ). not (is_greater (R (get_or (x ∷ xs) k d) (get_or (x ∷ xs) index d)))) low
        ∙ ap (λ (k : ℕ). not (is_greater (R (get_or (x ∷ xs) n d) (get_or (x ∷ xs) k d)))) high
        ∙ ap not (stops_behind x xs d (omega arith));
  }

module _ {A : Type 0} (R : A → A → Ordering) (o : IsTotalOrder R) where
  behind_rises : (x : A) (xs : List A) → Rises R o (x ∷ ordered_behind R x xs)
  unfolding ordered_behind
  behind_rises x [] = (tt, tt)
  behind_rises x (y ∷ ys) =
      elim (is_greater (R x y)) as (λ b. is_greater (R x y) ≡ b → Rises R o (x ∷ cond b [] (y ∷ ordered_behind R y ys)))
      [ true ↦ λ e. (tt, tt) | false ↦ λ e. (e, behind_rises y ys) ]
      refl

  -- above an element, if above one that isn't above this
  above_later : (y z n : A) → is_greater (R y n) ≡ true → is_greater (R y z) ≡ false → is_greater (R z n) ≡ true
  above_later y z n h k =
      elim (is_greater (R z n)) as (λ b. is_greater (R z n) ≡ b → b ≡ true) [ true ↦ λ e. refl | false ↦ λ e. absurd (true≢false (sym h ∙ upto_chain R o y z n k e)) ] refl

  from_first : (x : A) (xs : List A) → All (λ y. is_greater (R x y) ≡ false) (x ∷ ordered_behind R x xs)
  from_first x xs =
      let rises = behind_rises x xs in
      All-cons (λ y. is_greater (R x y) ≡ false) x (ordered_behind R x xs) (ap is_greater (tied_itself o x)) (first_upto R o x (ordered_behind R x xs) rises.0 rises.1)

  -- if x is below the first, it is below all of the ordered part
  pub part_above : (x : A) (part : List A) → StartsAbove R x part → All (λ y. is_greater (R y x) ≡ true) (ordered_part R part)
  part_above x [] up = λ k d h. absurd (omega arith)
  part_above x (y ∷ ys) up =
      All-weaker (λ z. is_greater (R y z) ≡ false) (λ z. is_greater (R z x) ≡ true) (λ z k. above_later y z x up k) (y ∷ ordered_behind R y ys) (from_first y ys)

  -- if x isn't above the first, it is above none
  pub part_upto : (x : A) (part : List A) → StartsUpto R x part → All (λ y. is_greater (R x y) ≡ false) (ordered_part R part)
  part_upto x [] up = λ k d h. absurd (omega arith)
  part_upto x (y ∷ ys) up =
      All-weaker (λ z. is_greater (R y z) ≡ false) (λ z. is_greater (R x z) ≡ false) (λ z k. upto_chain R o x y z up k) (y ∷ ordered_behind R y ys) (from_first y ys)

  pub behind_upto : (x : A) (xs : List A) → All (λ y. is_greater (R x y) ≡ false) (ordered_behind R x xs)
  behind_upto x xs = first_upto R o x (ordered_behind R x xs) (behind_rises x xs).0 (behind_rises x xs).1
