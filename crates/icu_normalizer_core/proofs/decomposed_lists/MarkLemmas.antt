-- Marks put in order from the right, one character after another.
use Rattle.std.proofs.Common.{◌≡◌, ℕ, suc, ◌+◌, ◌<◌, ◌≤◌, ◌⊎◌, inl, inr, Bool, true, false, List, [], ◌∷◌, ◌++◌, length, get_or, set, take, drop, refl, sym, arith, append_assoc, add-one, drop-cons}
use Rattle.std.proofs.lemmas.Bool.{cases_lt}
use Rattle.std.proofs.Math.ListN.{drop_of_length-le}
use Rattle.std.proofs.Math.Seq.{drop-append_seam, take-length, drop-length}
use Rattle.std.proofs.lemmas.Grind.{common_steps}
use Rattle.std.proofs.lemmas.List.{set_split, take_more_set, drop-set-lt, length-take-le, append-nil}
use Rattle.icu_normalizer_core.specs.Canonical.{put_in_order, marks_in_order}
use Rattle.icu_normalizer_core.specs.Marks.{is_mark_below}

-- a mark of a lower class goes first
put_after : (class : ℕ → ℕ) (c d : ℕ) (ds : List ℕ) → is_mark_below (class d) (class c) ≡ true
    → put_in_order class c (d ∷ ds) ≡ d ∷ put_in_order class c ds
unfolding put_in_order
put_after class c d ds h = rw h refl

-- else the character stays in front
put_before : (class : ℕ → ℕ) (c d : ℕ) (ds : List ℕ) → is_mark_below (class d) (class c) ≡ false
    → put_in_order class c (d ∷ ds) ≡ c ∷ d ∷ ds
unfolding put_in_order
put_before class c d ds h = rw h refl

put_last : (class : ℕ → ℕ) (c : ℕ) → put_in_order class c [] ≡ c ∷ []
unfolding put_in_order
put_last class c = refl

-- a mark moved one index to the left, past which the character goes
pub put_step : (class : ℕ → ℕ) (c : ℕ) (list : List ℕ) (index : ℕ) → index + 1 < length list
    → is_mark_below (class (get_or list (index + 1) 0)) (class c) ≡ true
    → take (index + 1) (set list index (get_or list (index + 1) 0)) ++ put_in_order class c (drop ((index + 1) + 1) (set list index (get_or list (index + 1) 0)))
    ≡ take index list ++ put_in_order class c (drop (index + 1) list)
put_step class c list index lt h =
    let d = get_or list (index + 1) 0
    in let here : index < length list = omega arith
    in let further : index < (index + 1) + 1 = omega arith
    in let e = drop-cons list (index + 1) 0 lt
    in let s = put_after class c d (drop (suc (index + 1)) list) h
    in rw (take_more_set list index d here, drop-set-lt ((index + 1) + 1) list index d further, e, s, add-one (index + 1))
    (append_assoc (take index list) (d ∷ []) _)

-- the index of the character: at the end
put_at_end : (class : ℕ → ℕ) (c : ℕ) (list : List ℕ) (index : ℕ) → index < length list → length list ≤ index + 1
    → set list index c ≡ take index list ++ put_in_order class c (drop (index + 1) list)
put_at_end class c list index lt le =
    let e : drop (index + 1) list ≡ [] = drop_of_length-le list le
    in rw (e, put_last class c, set_split list index c lt, ← add-one index, e) refl

-- or before one that isn't a mark of a lower class
put_in_front : (class : ℕ → ℕ) (c : ℕ) (list : List ℕ) (index : ℕ) → index + 1 < length list
    → is_mark_below (class (get_or list (index + 1) 0)) (class c) ≡ false
    → set list index c ≡ take index list ++ put_in_order class c (drop (index + 1) list)
put_in_front class c list index lt f =
    let here : index < length list = omega arith
    in let e = drop-cons list (index + 1) 0 lt
    in rw (set_split list index c here, ← add-one index, e, put_before class c (get_or list (index + 1) 0) (drop (suc (index + 1)) list) f) refl

-- the index of the character
pub put_end : (class : ℕ → ℕ) (c : ℕ) (list : List ℕ) (index : ℕ) → index < length list
    → (length list ≤ index + 1) ⊎ (is_mark_below (class (get_or list (index + 1) 0)) (class c) ≡ false)
    → set list index c ≡ take index list ++ put_in_order class c (drop (index + 1) list)
put_end class c list index lt (inl le) = put_at_end class c list index lt le
put_end class c list index lt (inr f) =
    elim (cases_lt (index + 1) (length list)) [
      | inl more ↦ put_in_front class c list index more f
      | inr le ↦ put_at_end class c list index lt le
    ]

-- one more character put in order before those that are
pub marks_step : (class : ℕ → ℕ) (list : List ℕ) (i : ℕ) → i < length list
    → marks_in_order class (drop i list) ≡ put_in_order class (get_or list i 0) (marks_in_order class (drop (i + 1) list))
unfolding marks_in_order
marks_step class list i lt = rw (drop-cons list i 0 lt, add-one i) refl

-- what a test says of the classes that it was given
pub test_at : (k l m n : ℕ) (r b : Bool) → k ≡ m → l ≡ n → r ≡ is_mark_below k l → r ≡ b → is_mark_below m n ≡ b
test_at k l m n r b ek el er eb = rw (← ek, ← el, ← er) eb

drop_seam : (n : ℕ) (xs ys : List ℕ) → length xs ≡ n → drop n (xs ++ ys) ≡ ys
drop_seam n xs ys e = rw (← e) (drop-append_seam xs ys)

-- a list whose characters from one index on are in order, and then from the index before
pub marks_more : (class : ℕ → ℕ) (list sorted : List ℕ) (i : ℕ) → i < length list
    → sorted ≡ take (i + 1) list ++ marks_in_order class (drop (i + 1) list)
    → take i sorted ++ put_in_order class (get_or sorted i 0) (drop (i + 1) sorted) ≡ take i list ++ marks_in_order class (drop i list)
marks_more class list sorted i lt e =
    let marks = marks_in_order class (drop (i + 1) list)
    in let n : length (take (i + 1) list) ≡ i + 1 = length-take-le (i + 1) list (omega arith)
    in let a : take i sorted ≡ take i list = rw (e) (grind (arith, common_steps))
    in let g : get_or sorted i 0 ≡ get_or list i 0 = rw (e) (grind (arith, common_steps))
    in let d : drop (i + 1) sorted ≡ marks = rw (e) (drop_seam (i + 1) (take (i + 1) list) marks n)
    in rw (a, g, d, marks_step class list i lt) refl

-- the same of an index given by the one after it
pub marks_previous : (class : ℕ → ℕ) (list sorted : List ℕ) (p q : ℕ) → q + 1 ≡ p → p ≤ length list
    → sorted ≡ take p list ++ marks_in_order class (drop p list)
    → take q sorted ++ put_in_order class (get_or sorted q 0) (drop (q + 1) sorted) ≡ take q list ++ marks_in_order class (drop q list)
marks_previous class list sorted p q h le e =
    let lt : q < length list = omega arith
    in marks_more class list sorted q lt (rw (h) e)

-- at index 0 the whole list is in order
pub marks_all : (class : ℕ → ℕ) (list sorted : List ℕ) (p : ℕ) → p ≤ 0 → sorted ≡ take p list ++ marks_in_order class (drop p list)
    → sorted ≡ marks_in_order class list
marks_all class list sorted p le e =
    let z : p ≡ 0 = omega arith
    in rw (z) at e

-- nothing is in order at the end
pub nothing_in_order : (class : ℕ → ℕ) (list : List ℕ) → list ≡ take (length list) list ++ marks_in_order class (drop (length list) list)
unfolding marks_in_order
nothing_in_order class list = rw (take-length list, drop-length list) (sym (append-nil list))
