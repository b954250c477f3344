-- Keys cut into groups of those that go on with the same unit.
use Rattle.std.proofs.Common.{◌≡◌, ℕ, ℤ, ◌+◌, ◌^◌, ◌<◌, ◌≤◌, ⊎_elim, List, [], ◌∷◌, ◌++◌, length, take, drop, Option, Some, None, refl, ap, ◌∙◌, sym, subst, arith, Bor, append_assoc, add_assoc}
use Rattle.std.proofs.lemmas.List.{map-append, append-nil, drop-drop, length-drop}
use Rattle.std.proofs.Math.Seq.{take-length}
use Rattle.std.specs.Option.{MatchOption, IsSome}
use Rattle.icu_char16trie.specs.UnitPairs.{FirstEnds, Below, ComesFirst, AreSorted, HaveUnits, rests, prefixed, spread, AreGroups, parts, StartsOther, StartsWith, GoesOnOther}
use Rattle.icu_char16trie.specs.declared.writer.group.Group.{Group}
use Rattle.icu_char16trie.proofs.Pairs.SortedPairLemmas.{rests_split, rests_length, sorted_append, longer_append, sorted_behind, prefixed_push}

pub groups_bounds : (low high : ℕ) (groups : List (ℕ × List (List ℕ × ℤ))) → AreGroups low high groups → low + length groups ≤ high
groups_bounds low high [] h = omega (arith, h)
groups_bounds low high (group ∷ groups) h = let r = groups_bounds (group.0 + 1) high groups h.4 in omega (arith, r, h.0)

pub groups_wider : (low high least most : ℕ) (groups : List (ℕ × List (List ℕ × ℤ))) → least ≤ low → high ≤ most → AreGroups low high groups → AreGroups least most groups
groups_wider low high least most [] l m h = omega (arith, l, m, h)
groups_wider low high least most (group ∷ groups) l m h =
    (omega (arith, l, h.0), omega (arith, m, h.1), h.2, h.3, groups_wider (group.0 + 1) high (group.0 + 1) most groups (omega arith) m h.4)

groups_push : (low high unit : ℕ) (pairs : List (List ℕ × ℤ)) (groups : List (ℕ × List (List ℕ × ℤ))) → AreGroups low high groups → high ≤ unit
    → 0 < length pairs → AreSorted pairs → AreGroups low (unit + 1) (groups ++ (unit, pairs) ∷ [])
groups_push low high unit pairs [] h m some sorted = (omega (arith, h, m), omega arith, some, sorted, omega arith)
groups_push low high unit pairs (group ∷ groups) h m some sorted =
    (h.0, omega (arith, h.1, m), h.2, h.3, groups_push (group.0 + 1) high unit pairs groups h.4 m some sorted)

-- where groups are halved, the lower ones stay below the first unit of the upper ones
pub groups_halved : (low high : ℕ) (lower : List (ℕ × List (List ℕ × ℤ))) (group : ℕ × List (List ℕ × ℤ)) (groups : List (ℕ × List (List ℕ × ℤ)))
    → AreGroups low high (lower ++ (group ∷ groups)) → AreGroups low group.0 lower × AreGroups group.0 high (group ∷ groups)
groups_halved low high [] group groups h = (h.0, (omega arith, h.1, h.2, h.3, h.4))
groups_halved low high (first ∷ lower) group groups h =
    let r = groups_halved (first.0 + 1) high lower group groups h.4 in
    let b = groups_bounds (first.0 + 1) group.0 lower r.0 in
    ((h.0, omega (arith, b), h.2, h.3, r.0), r.1)

spread_push : (groups : List (ℕ × List (List ℕ × ℤ))) (unit : ℕ) (pairs : List (List ℕ × ℤ)) → spread (groups ++ (unit, pairs) ∷ []) ≡ spread groups ++ prefixed (unit ∷ []) pairs
spread_push [] unit pairs = append-nil (prefixed (unit ∷ []) pairs)
spread_push (group ∷ groups) unit pairs =
    ap (λ rest. prefixed (group.0 ∷ []) group.1 ++ rest) (spread_push groups unit pairs)
    ∙ sym (append_assoc (prefixed (group.0 ∷ []) group.1) (spread groups) (prefixed (unit ∷ []) pairs))

pub spread_append : (lower upper : List (ℕ × List (List ℕ × ℤ))) → spread (lower ++ upper) ≡ spread lower ++ spread upper
spread_append [] upper = refl
spread_append (group ∷ lower) upper =
    ap (λ rest. prefixed (group.0 ∷ []) group.1 ++ rest) (spread_append lower upper)
    ∙ sym (append_assoc (prefixed (group.0 ∷ []) group.1) (spread lower) (spread upper))

-- the first key, if there is one, goes on with a unit from the bound on
abbrev IsFrom : ℕ → List ℕ → Type 0
IsFrom bound [] = Unit {0}
IsFrom bound (unit ∷ units) = bound ≤ unit

abbrev pub StartsFrom : ℕ → List (List ℕ × ℤ) → Type 0
StartsFrom bound [] = Unit {0}
StartsFrom bound (pair ∷ pairs) = IsFrom bound pair.0

-- the groups so far, and the pairs that are left
pub record SoFar (depth : ℕ) (pairs : List (Bor (List ℕ) × ℤ)) (groups : List Group) (left : List (Bor (List ℕ) × ℤ)) : Type 0 where
  pub spelled : spread (parts depth groups) ++ rests depth left ≡ rests depth pairs
  pub sorted : AreSorted (rests depth left)
  pub longer : HaveUnits (rests depth left)
  pub bound : ℕ
  pub fits : bound ≤ 0x10000
  pub rising : AreGroups 0 bound (parts depth groups)
  pub from : StartsFrom bound (rests depth left)

from_first : (bound unit : ℕ) (pairs : List (List ℕ × ℤ)) → StartsFrom bound pairs → StartsWith unit pairs → bound ≤ unit
from_first bound unit [] from with_ = absurd with_
from_first bound unit (pair ∷ pairs) from with_ = subst (λ key. IsFrom bound key) with_.1 from

-- a first part of none would begin otherwise
some_first : (unit : ℕ) (xs ys : List (List ℕ × ℤ)) → StartsWith unit (prefixed (unit ∷ []) xs ++ ys) → StartsOther unit ys → 0 < length xs
some_first unit (x ∷ xs) ys with_ other = omega arith
some_first unit [] [] with_ other = absurd with_
some_first unit [] (y ∷ ys) with_ other = absurd (subst (λ key. GoesOnOther unit key) with_.1 other refl)

from_below : (unit : ℕ) (key other : List ℕ) → Below (unit ∷ key) other → GoesOnOther unit other → IsFrom (unit + 1) other
from_below unit key [] below differs = tt
from_below unit key (second ∷ rest) below differs =
    ⊎_elim (λ (less : unit < second). omega (arith, less)) (λ same. absurd (differs (sym same.0))) below

first_other : (unit : ℕ) (key : List ℕ) (xs ys : List (List ℕ × ℤ)) → ComesFirst (unit ∷ key) (xs ++ ys) → StartsOther unit ys → StartsFrom (unit + 1) ys
first_other unit key [] [] sorted other = tt
first_other unit key [] (y ∷ ys) sorted other = from_below unit key y.0 sorted.0 other
first_other unit key (x ∷ xs) ys sorted other = first_other unit key xs ys sorted.1 other

next_from : (unit : ℕ) (xs ys : List (List ℕ × ℤ)) → 0 < length xs → AreSorted (prefixed (unit ∷ []) xs ++ ys) → StartsOther unit ys → StartsFrom (unit + 1) ys
next_from unit [] ys some sorted other = absurd (omega (arith, some))
next_from unit (x ∷ xs) ys some sorted other = first_other unit x.0 (prefixed (unit ∷ []) xs) ys sorted.0 other

parts_push : (depth : ℕ) (groups : List Group) (group : Group) → parts depth (groups ++ group ∷ []) ≡ parts depth groups ++ (group.unit, rests (depth + 1) group.pairs.now) ∷ []
parts_push depth groups group = map-append (λ group. (group.unit, rests (depth + 1) group.pairs.now)) groups (group ∷ [])

module _ (depth : ℕ) (pairs left : List (Bor (List ℕ) × ℤ)) (groups : List Group) (group : Group) (n : ℕ) (so_far : SoFar depth pairs groups left)
    (starts : StartsWith group.unit (rests depth left)) (unit : group.unit < 2 ^ 16) (of : group.pairs.now ≡ take n left)
    (same : rests depth (take n left) ≡ prefixed (group.unit ∷ []) (rests (depth + 1) (take n left)))
    (other : StartsOther group.unit (rests depth (drop n left))) where
  cut : rests depth left ≡ prefixed (group.unit ∷ []) (rests (depth + 1) (take n left)) ++ rests depth (drop n left)
  cut = rests_split depth n left ∙ ap (λ xs. xs ++ rests depth (drop n left)) same

  sorted_cut : AreSorted (prefixed (group.unit ∷ []) (rests (depth + 1) (take n left)) ++ rests depth (drop n left))
  sorted_cut = subst (λ xs. AreSorted xs) cut so_far.sorted

  some : 0 < length (rests (depth + 1) (take n left))
  some = some_first group.unit (rests (depth + 1) (take n left)) (rests depth (drop n left)) (subst (λ xs. StartsWith group.unit xs) cut starts) other

  sorted_parts : AreSorted (prefixed (group.unit ∷ []) (rests (depth + 1) (take n left))) × AreSorted (rests depth (drop n left))
  sorted_parts = sorted_append (prefixed (group.unit ∷ []) (rests (depth + 1) (take n left))) (rests depth (drop n left)) sorted_cut

  pushed : parts depth (groups ++ group ∷ []) ≡ parts depth groups ++ (group.unit, rests (depth + 1) (take n left)) ∷ []
  pushed = parts_push depth groups group ∙ ap (λ xs. parts depth groups ++ (group.unit, rests (depth + 1) xs) ∷ []) of

  pub so_far_more : SoFar depth pairs (groups ++ group ∷ []) (drop n left)
  so_far_more = record {
    spelled = ap (λ parts. spread parts ++ rests depth (drop n left)) pushed
        ∙ ap (λ xs. xs ++ rests depth (drop n left)) (spread_push (parts depth groups) group.unit (rests (depth + 1) (take n left)))
        ∙ append_assoc (spread (parts depth groups)) (prefixed (group.unit ∷ []) (rests (depth + 1) (take n left))) (rests depth (drop n left))
        ∙ ap (λ xs. spread (parts depth groups) ++ xs) (sym cut)
        ∙ so_far.spelled;
    sorted = sorted_parts.1;
    longer = longer_append (prefixed (group.unit ∷ []) (rests (depth + 1) (take n left))) (rests depth (drop n left)) (subst (λ xs. HaveUnits xs) cut so_far.longer);
    bound = group.unit + 1;
    fits = omega (arith, unit);
    rising = subst (λ parts. AreGroups 0 (group.unit + 1) parts) (sym pushed)
        (groups_push 0 so_far.bound group.unit (rests (depth + 1) (take n left)) (parts depth groups) so_far.rising
        (from_first so_far.bound group.unit (rests depth left) so_far.from starts) some
        (sorted_behind group.unit (rests (depth + 1) (take n left)) sorted_parts.0));
    from = next_from group.unit (rests (depth + 1) (take n left)) (rests depth (drop n left)) some sorted_cut other;
  }

-- the same where the pairs that are left begin at an index
pub so_far_step : (depth start n : ℕ) (pairs left : List (Bor (List ℕ) × ℤ)) (groups more : List Group) (group : Group) → left ≡ drop start pairs → more ≡ groups ++ group ∷ []
    → SoFar depth pairs groups (drop start pairs) → StartsWith group.unit (rests depth left) → group.unit < 2 ^ 16 → group.pairs.now ≡ take n left
    → rests depth (take n left) ≡ prefixed (group.unit ∷ []) (rests (depth + 1) (take n left)) → StartsOther group.unit (rests depth (drop n left))
    → SoFar depth pairs more (drop (start + n) pairs)
so_far_step depth start n pairs left groups more group back pushed so_far starts unit of same other =
    subst (λ more. SoFar depth pairs more (drop (start + n) pairs)) (sym pushed)
    (subst (λ left. SoFar depth pairs (groups ++ group ∷ []) left) (ap (λ left. drop n left) back ∙ drop-drop n start pairs)
    (so_far_more depth pairs left groups group n (subst (λ left. SoFar depth pairs groups left) (sym back) so_far) starts unit of same other))

-- one unit more that all keys go on with
module _ (depth run n unit : ℕ) (pairs : List (Bor (List ℕ) × ℤ)) (all : n ≡ length pairs)
    (same : rests (depth + run) (take n pairs) ≡ prefixed (unit ∷ []) (rests (depth + run + 1) (take n pairs))) where
  whole : take n pairs ≡ pairs
  whole = ap (λ n. take n pairs) all ∙ take-length pairs

  pub run_more : (units : List ℕ) → rests depth pairs ≡ prefixed units (rests (depth + run) pairs) → rests depth pairs ≡ prefixed (units ++ unit ∷ []) (rests (depth + (run + 1)) pairs)
  run_more units e =
      e ∙ ap (λ xs. prefixed units (rests (depth + run) xs)) (sym whole) ∙ ap (λ xs. prefixed units xs) same
      ∙ prefixed_push units unit (rests (depth + run + 1) (take n pairs))
      ∙ ap (λ xs. prefixed (units ++ unit ∷ []) (rests (depth + run + 1) xs)) whole
      ∙ ap (λ depth. prefixed (units ++ unit ∷ []) (rests depth pairs)) (add_assoc depth run 1)

-- a first key that has units does not end
pub first_some : (pairs : List (List ℕ × ℤ)) (o : Option ℕ) → 0 < length pairs → HaveUnits pairs → MatchOption o (FirstEnds pairs) (λ unit. StartsWith unit pairs) → IsSome o
first_some pairs (Some unit) positive longer h = refl
first_some [] None positive longer h = absurd (omega (arith, positive))
first_some (pair ∷ pairs) None positive longer h = let l = ap length h in absurd (omega (arith, l, longer.0))

-- where a run ends, no unit is left that all keys go on with

abbrev GoOn : ℕ → List (List ℕ × ℤ) → Type 0
GoOn unit [] = Unit {0}
GoOn unit (pair ∷ pairs) = (rest : List ℕ) × (pair.0 ≡ unit ∷ rest) × GoOn unit pairs

prefixed_go_on : (unit : ℕ) (pairs : List (List ℕ × ℤ)) → GoOn unit (prefixed (unit ∷ []) pairs)
prefixed_go_on unit [] = tt
prefixed_go_on unit (pair ∷ pairs) = (pair.0, refl, prefixed_go_on unit pairs)

go_on_behind : (unit : ℕ) (xs ys : List (List ℕ × ℤ)) → GoOn unit (xs ++ ys) → GoOn unit ys
go_on_behind unit [] ys h = h
go_on_behind unit (x ∷ xs) ys h = go_on_behind unit xs ys h.2

ends_not : (unit : ℕ) (pairs : List (List ℕ × ℤ)) → 0 < length pairs → FirstEnds pairs → GoOn unit pairs → ⊥
ends_not unit [] positive ends h = omega (arith, positive)
ends_not unit (pair ∷ pairs) positive ends h = let l = ap length (sym ends ∙ h.1) in omega (arith, l)

other_not : (unit : ℕ) (pairs : List (List ℕ × ℤ)) → 0 < length pairs → StartsOther unit pairs → GoOn unit pairs → ⊥
other_not unit [] positive other h = omega (arith, positive)
other_not unit (pair ∷ pairs) positive other h = subst (λ key. GoesOnOther unit key) h.1 other refl

head_of : List ℕ → ℕ
head_of [] = 0
head_of (unit ∷ units) = unit

same_first : (unit other : ℕ) (xs ys : List ℕ) → unit ∷ xs ≡ other ∷ ys → unit ≡ other
unfolding head_of
same_first unit other xs ys e = ap head_of e

with_same : (unit other : ℕ) (pairs : List (List ℕ × ℤ)) → StartsWith other pairs → GoOn unit pairs → unit ≡ other
with_same unit other [] starts h = absurd starts
with_same unit other (pair ∷ pairs) starts h = same_first unit other h.0 starts.0 (sym h.1 ∙ starts.1)

pub run_ends : (depth : ℕ) (pairs : List (Bor (List ℕ) × ℤ)) → 0 < length pairs → FirstEnds (rests depth pairs)
    → (unit : ℕ) → rests depth pairs ≡ prefixed (unit ∷ []) (rests (depth + 1) pairs) → ⊥
run_ends depth pairs positive ends unit e =
    let l = rests_length depth pairs in
    ends_not unit (rests depth pairs) (omega (arith, l, positive)) ends (subst (λ pairs. GoOn unit pairs) (sym e) (prefixed_go_on unit (rests (depth + 1) pairs)))

pub run_parts : (depth n other : ℕ) (pairs : List (Bor (List ℕ) × ℤ)) → n < length pairs → StartsWith other (rests depth pairs) → StartsOther other (rests depth (drop n pairs))
    → (unit : ℕ) → rests depth pairs ≡ prefixed (unit ∷ []) (rests (depth + 1) pairs) → ⊥
run_parts depth n other pairs short starts differs unit e =
    let all : GoOn unit (rests depth pairs) = subst (λ pairs. GoOn unit pairs) (sym e) (prefixed_go_on unit (rests (depth + 1) pairs)) in
    let same = with_same unit other (rests depth pairs) starts all in
    let at_state : GoOn unit (rests depth (drop n pairs)) = go_on_behind unit (rests depth (take n pairs)) (rests depth (drop n pairs)) (subst (λ pairs. GoOn unit pairs) (rests_split depth n pairs) all) in
    let l = rests_length depth (drop n pairs) in
    let d = length-drop n pairs in
    other_not other (rests depth (drop n pairs)) (omega (arith, l, d, short)) differs (subst (λ unit. GoOn unit (rests depth (drop n pairs))) same at_state)
