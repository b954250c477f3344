-- Sorted keys, and keys with units in front.
use Rattle.std.proofs.Common.{◌≡◌, ℕ, ℤ, ◌+◌, ◌*◌, ◌<◌, ◌≤◌, ⊎_elim, List, [], ◌∷◌, ◌++◌, length, take, drop, refl, ap, ◌∙◌, sym, subst, arith, Bor, append_assoc, length-append}
use Rattle.std.proofs.lemmas.List.{map-append, take-append-drop, length-map}
use Rattle.icu_char16trie.specs.UnitPairs.{Below, ComesFirst, AreSorted, HaveUnits, rests, prefixed, room, Extends}

pub rests_append : (depth : ℕ) (xs ys : List (Bor (List ℕ) × ℤ)) → rests depth (xs ++ ys) ≡ rests depth xs ++ rests depth ys
rests_append depth xs ys = map-append (λ pair. (drop depth pair.0.now, pair.1)) xs ys

pub rests_split : (depth n : ℕ) (pairs : List (Bor (List ℕ) × ℤ)) → rests depth pairs ≡ rests depth (take n pairs) ++ rests depth (drop n pairs)
rests_split depth n pairs = ap (λ xs. rests depth xs) (sym (take-append-drop n pairs)) ∙ rests_append depth (take n pairs) (drop n pairs)

pub rests_length : (depth : ℕ) (pairs : List (Bor (List ℕ) × ℤ)) → length (rests depth pairs) ≡ length pairs
rests_length depth pairs = length-map pairs (λ pair. (drop depth pair.0.now, pair.1))

first_append : (key : List ℕ) (xs ys : List (List ℕ × ℤ)) → ComesFirst key (xs ++ ys) → ComesFirst key xs × ComesFirst key ys
first_append key [] ys h = (tt, h)
first_append key (x ∷ xs) ys h = let r = first_append key xs ys h.1 in ((h.0, r.0), r.1)

pub sorted_append : (xs ys : List (List ℕ × ℤ)) → AreSorted (xs ++ ys) → AreSorted xs × AreSorted ys
sorted_append [] ys h = (tt, h)
sorted_append (x ∷ xs) ys h =
    let r = sorted_append xs ys h.1 in
    (((first_append x.0 xs ys h.0).0, r.0), r.1)

pub longer_append : (xs ys : List (List ℕ × ℤ)) → HaveUnits (xs ++ ys) → HaveUnits ys
longer_append [] ys h = h
longer_append (x ∷ xs) ys h = longer_append xs ys h.1

below_behind : (unit : ℕ) (xs ys : List ℕ) → Below (unit ∷ xs) (unit ∷ ys) → Below xs ys
below_behind unit xs ys h = ⊎_elim (λ (less : unit < unit). absurd (omega (arith, less))) (λ same. same.1) h

first_behind : (unit : ℕ) (key : List ℕ) (pairs : List (List ℕ × ℤ)) → ComesFirst (unit ∷ key) (prefixed (unit ∷ []) pairs) → ComesFirst key pairs
first_behind unit key [] h = tt
first_behind unit key (pair ∷ pairs) h = (below_behind unit key pair.0 h.0, first_behind unit key pairs h.1)

pub sorted_behind : (unit : ℕ) (pairs : List (List ℕ × ℤ)) → AreSorted (prefixed (unit ∷ []) pairs) → AreSorted pairs
sorted_behind unit [] h = tt
sorted_behind unit (pair ∷ pairs) h = (first_behind unit pair.0 pairs h.0, sorted_behind unit pairs h.1)

pub prefixed_none : (pairs : List (List ℕ × ℤ)) → prefixed [] pairs ≡ pairs
prefixed_none [] = refl
prefixed_none (pair ∷ pairs) = ap (λ rest. pair ∷ rest) (prefixed_none pairs)

pub prefixed_more : (unit : ℕ) (units : List ℕ) (pairs : List (List ℕ × ℤ)) → prefixed (unit ∷ units) pairs ≡ prefixed (unit ∷ []) (prefixed units pairs)
prefixed_more unit units [] = refl
prefixed_more unit units (pair ∷ pairs) = ap (λ rest. (unit ∷ (units ++ pair.0), pair.1) ∷ rest) (prefixed_more unit units pairs)

pub prefixed_push : (units : List ℕ) (unit : ℕ) (pairs : List (List ℕ × ℤ)) → prefixed units (prefixed (unit ∷ []) pairs) ≡ prefixed (units ++ unit ∷ []) pairs
prefixed_push units unit [] = refl
prefixed_push units unit (pair ∷ pairs) =
    ap (λ key. (key, pair.1) ∷ prefixed units (prefixed (unit ∷ []) pairs)) (sym (append_assoc units (unit ∷ []) pair.0))
    ∙ ap (λ rest. (units ++ unit ∷ [] ++ pair.0, pair.1) ∷ rest) (prefixed_push units unit pairs)

pub sorted_run : (run : List ℕ) (pairs : List (List ℕ × ℤ)) → AreSorted (prefixed run pairs) → AreSorted pairs
sorted_run [] pairs h = subst (λ pairs. AreSorted pairs) (prefixed_none pairs) h
sorted_run (unit ∷ run) pairs h =
    sorted_run run pairs (sorted_behind unit (prefixed run pairs) (subst (λ pairs. AreSorted pairs) (prefixed_more unit run pairs) h))

below_longer : (xs ys : List ℕ) → Below xs ys → 0 < length ys
below_longer xs [] h = absurd h
below_longer xs (y ∷ ys) h = omega arith

-- the keys after the first of sorted ones are not empty
first_longer : (key : List ℕ) (pairs : List (List ℕ × ℤ)) → ComesFirst key pairs → HaveUnits pairs
first_longer key [] h = tt
first_longer key (pair ∷ pairs) h = (below_longer key pair.0 h.0, first_longer key pairs h.1)

pub sorted_longer : (pair : List ℕ × ℤ) (pairs : List (List ℕ × ℤ)) → AreSorted (pair ∷ pairs) → HaveUnits pairs
sorted_longer pair pairs h = first_longer pair.0 pairs h.0

pub room_append : (xs ys : List (List ℕ × ℤ)) → room (xs ++ ys) ≡ room xs + room ys
room_append [] ys = omega arith
room_append (x ∷ xs) ys = let r = room_append xs ys in omega (arith, r)

pub room_behind : (unit : ℕ) (pairs : List (List ℕ × ℤ)) → room (prefixed (unit ∷ []) pairs) ≡ 10 * length pairs + room pairs
room_behind unit [] = omega arith
room_behind unit (pair ∷ pairs) = let r = room_behind unit pairs in omega (arith, r)

room_more : (run : List ℕ) (pairs : List (List ℕ × ℤ)) → room pairs ≤ room (prefixed run pairs)
room_more run [] = omega arith
room_more run (pair ∷ pairs) = let r = room_more run pairs in let e = length-append run pair.0 in omega (arith, r, e)

pub room_run : (run : List ℕ) (pairs : List (List ℕ × ℤ)) → 0 < length pairs → 10 * length run + room pairs ≤ room (prefixed run pairs)
room_run run [] h = absurd (omega (arith, h))
room_run run (pair ∷ pairs) h = let r = room_more run pairs in let e = length-append run pair.0 in omega (arith, r, e)

pub extends_more : (xs ys zs : List ℕ) → Extends xs ys → Extends ys zs → Extends xs zs
extends_more xs ys zs h k = (k.0 ++ h.0, k.1 ∙ ap (λ ys. k.0 ++ ys) h.1 ∙ sym (append_assoc k.0 h.0 xs))
