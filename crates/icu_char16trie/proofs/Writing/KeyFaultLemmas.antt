-- Keys that are not at fault are sorted, and units that lay them from their first index spell them.
use Rattle.std.proofs.Common.{◌≡◌, ◌≢◌, ℕ, ℤ, zero, suc, ◌+◌, ◌-◌, ◌*◌, ◌^◌, ◌<◌, ◌≤◌, Bool, true, false, ◌==◌, IsTrue, slice_index_or, ◌⊎◌, ⊎_elim, inl, inr, ◌↔◌, List, [], ◌∷◌, ◌++◌, length, take, refl, ap, ◌∙◌, sym, subst, arith, Bor, Some, None, slice_get, nat_cmp}
use Rattle.std.specs.Cmp.Lexicographic.{slice_cmp}
use Rattle.std.specs.Cmp.{nat_cmp_is}
use Rattle.std.specs.Ordering.{ordering_then}
use Rattle.std.specs.declared.cmp.Ordering.TheVariants.{Less, Equal, Greater}
use Rattle.std.proofs.lemmas.Bool.{cases_lt, cases_eq}
use Rattle.std.proofs.lemmas.List.{take_more, length-map}
use Rattle.icu_char16trie.specs.UnitSteps.{opened, or_stopped, start}
use Rattle.icu_char16trie.specs.UnitMaps.{IsNode, at_node, at_state, MapsKey, IsWhole}
use Rattle.icu_char16trie.specs.UnitGrammar.{IsUnitTrie, no_units, rooted}
use Rattle.icu_char16trie.specs.UnitPairs.{Below, ComesFirst, AreSorted, HaveUnits, Has, rests, room}
use Rattle.icu_char16trie.specs.UnitLayouts.{Lays, node}
use Rattle.icu_char16trie.specs.UnitLayouts as layout
use Rattle.icu_char16trie.specs.WrittenUnits.{keyed, total, IsEmptyKey, IsUnsorted, NoneBefore, AreWritten}
use Rattle.icu_char16trie.specs.declared.node.State.{State}
use Rattle.icu_char16trie.proofs.Cursors.SearchLemmas.{if_ltb}
use Rattle.icu_char16trie.proofs.Cursors.BranchLemmas.{some-same}
use Rattle.icu_char16trie.proofs.Cursors.StepLemmas.{node_forth, stopped_none}
use Rattle.icu_char16trie.proofs.Writing.NodeMeaningLemmas.{SpotMeans, FollowsMeans, bare_node, bare_means}
use Rattle.icu_char16trie.proofs.Writing.BranchMeaningLemmas.{means}

-- order

pub below_along : (xs ys zs : List ℕ) → Below xs ys → Below ys zs → Below xs zs
below_along xs [] zs h k = absurd h
below_along xs (y ∷ ys) [] h k = absurd k
below_along [] (y ∷ ys) (z ∷ zs) h k = tt
below_along (x ∷ xs) (y ∷ ys) (z ∷ zs) h k =
    ⊎_elim
    (λ (less : x < y). ⊎_elim (λ (more : y < z). inl (omega (arith, less, more))) (λ same. inl (let e = same.0 in omega (arith, less, e))) k)
    (λ first. ⊎_elim (λ (more : y < z). inl (let e = first.0 in omega (arith, more, e)))
    (λ same. inr (first.0 ∙ same.0, below_along xs ys zs first.1 same.1)) k) h

less_not_equal : Equal ≡ Less → ⊥
less_not_equal e = cc

less_not_greater : Greater ≡ Less → ⊥
less_not_greater e = cc

pub less_below : (xs ys : List ℕ) → slice_cmp nat_cmp xs ys ≡ Less → Below xs ys
less_below [] [] e = less_not_equal e
less_below [] (y ∷ ys) e = tt
less_below (x ∷ xs) [] e = less_not_greater e
less_below (x ∷ xs) (y ∷ ys) e =
    ⊎_elim (λ (less : x < y). inl less)
    (λ (more : y ≤ x). ⊎_elim
    (λ (same : x ≡ y). inr (same, less_below xs ys (ap (λ o. ordering_then o (slice_cmp nat_cmp xs ys)) (nat_cmp_is x y Equal same) ∙ e)))
    (λ (other : x ≢ y). let greater : y < x = omega (arith, more, other) in
    absurd (less_not_greater (ap (λ o. ordering_then o (slice_cmp nat_cmp xs ys)) (nat_cmp_is x y Greater greater) ∙ e)))
    (cases_eq x y)) (cases_lt x y)

pub below_less : (xs ys : List ℕ) → Below xs ys → slice_cmp nat_cmp xs ys ≡ Less
below_less xs [] h = absurd h
below_less [] (y ∷ ys) h = refl
below_less (x ∷ xs) (y ∷ ys) h =
    ⊎_elim
    (λ (less : x < y). ap (λ o. ordering_then o (slice_cmp nat_cmp xs ys)) (sym (nat_cmp_is x y Less less)))
    (λ same. ap (λ o. ordering_then o (slice_cmp nat_cmp xs ys)) (sym (nat_cmp_is x y Equal same.0)) ∙ below_less xs ys same.1) h

below_or : (xs ys : List ℕ) → Below xs ys ⊎ (Below xs ys → ⊥)
below_or xs [] = inr (λ h. h)
below_or [] (y ∷ ys) = inl tt
below_or (x ∷ xs) (y ∷ ys) =
    ⊎_elim (λ (less : x < y). inl (inl less))
    (λ (more : y ≤ x). ⊎_elim
    (λ (same : x ≡ y). ⊎_elim (λ below. inl (inr (same, below)))
    (λ none. inr (λ h. ⊎_elim (λ (less : x < y). omega (arith, less, more)) (λ at_state. none at_state.1) h)) (below_or xs ys))
    (λ (other : x ≢ y). inr (λ h. ⊎_elim (λ (less : x < y). omega (arith, less, more)) (λ at_state. other at_state.0) h))
    (cases_eq x y)) (cases_lt x y)

first_along : (key other : List ℕ) (pairs : List (List ℕ × ℤ)) → Below key other → ComesFirst other pairs → ComesFirst key pairs
first_along key other [] h k = tt
first_along key other (pair ∷ pairs) h k = (below_along key other pair.0 h k.0, first_along key other pairs h k.1)

-- keys that are not at fault

unsorted_behind : (pair : List ℕ × ℤ) (pairs : List (List ℕ × ℤ)) (index : ℕ) → IsUnsorted pairs index → IsUnsorted (pair ∷ pairs) (suc index)
unsorted_behind pair pairs index h =
    let positive = h.2 in
    let same : suc (index - 1) ≡ suc index - 1 = omega (arith, positive) in
    (h.0, h.1, omega arith, subst (λ index. slice_get (pair ∷ pairs) index ≡ Some h.0) same h.3, h.4, h.5)

none_behind : (pair : List ℕ × ℤ) (pairs : List (List ℕ × ℤ)) → NoneBefore (pair ∷ pairs) (length (pair ∷ pairs)) → NoneBefore pairs (length pairs)
none_behind pair pairs h = λ index less fault. h (suc index) (omega (arith, less))
    (⊎_elim (λ empty. inl empty) (λ unsorted. inr (unsorted_behind pair pairs index unsorted)) fault)

key_some : (key : List ℕ) → (key ≡ [] → ⊥) → 0 < length key
key_some [] h = absurd (h refl)
key_some (unit ∷ units) h = omega arith

pub longer_from : (pairs : List (List ℕ × ℤ)) → NoneBefore pairs (length pairs) → HaveUnits pairs
longer_from [] h = tt
longer_from (pair ∷ pairs) h =
    (key_some pair.0 (λ e. h 0 (omega arith) (inl (pair.1, ap (λ key. Some (key, pair.1)) e))), longer_from pairs (none_behind pair pairs h))

pub sorted_from : (pairs : List (List ℕ × ℤ)) → NoneBefore pairs (length pairs) → AreSorted pairs
sorted_from [] h = tt
sorted_from (pair ∷ []) h = (tt, tt)
sorted_from (pair ∷ next ∷ pairs) h =
    let rest = sorted_from (next ∷ pairs) (none_behind pair (next ∷ pairs) h) in
    let below : Below pair.0 next.0 = ⊎_elim (λ below. below)
    (λ none. absurd (h 1 (omega arith) (inr (pair, next, omega arith, refl, refl, none)))) (below_or pair.0 next.0) in
    ((below, first_along pair.0 next.0 pairs below rest.0), rest)

pub room_is : (pairs : List (List ℕ × ℤ)) → room pairs ≡ 10 * total pairs + 3 * length pairs
room_is [] = omega arith
room_is (pair ∷ pairs) = let r = room_is pairs in omega (arith, r)

pub room_total : (pairs : List (List ℕ × ℤ)) → HaveUnits pairs → room pairs ≤ 13 * total pairs
room_total [] h = omega arith
room_total (pair ∷ pairs) h = let r = room_total pairs h.1 in let l = h.0 in omega (arith, r, l)

pub keyed_rests : (pairs : List (Bor (List ℕ) × ℤ)) → rests 0 pairs ≡ keyed pairs
keyed_rests [] = refl
keyed_rests (pair ∷ pairs) = ap (λ rest. (pair.0.now, pair.1) ∷ rest) (keyed_rests pairs)

-- what the call that writes asks for
pub record CanWrite (pairs : List (Bor (List ℕ) × ℤ)) : Type 0 where
  pub sorted : AreSorted (rests 0 pairs)
  pub longer : HaveUnits (rests 0 pairs)
  pub fits : room (rests 0 pairs) < 2 ^ 32

pub can_write : (pairs : List (Bor (List ℕ) × ℤ)) → AreWritten (keyed pairs) → CanWrite pairs
can_write pairs h =
    let longer = longer_from (keyed pairs) h.0 in
    let bound = room_total (keyed pairs) longer in
    let few = h.1 in
    let e = ap room (keyed_rests pairs) in
    record {
      sorted = subst (λ pairs. AreSorted pairs) (sym (keyed_rests pairs)) (sorted_from (keyed pairs) h.0);
      longer = subst (λ pairs. HaveUnits pairs) (sym (keyed_rests pairs)) longer;
      fits = omega (arith, e, bound, few);
    }

-- the units of all pairs

pub record RootMeans (units : List ℕ) (pairs : List (List ℕ × ℤ)) : Type 0 where
  pub next : State
  pub at : IsNode units 0 None (Some next)
  pub starts : start units ≡ next
  pub node : SpotMeans units (at_node 0) pairs
  pub at_state : SpotMeans units (at_state next) pairs

root_means : {units : List ℕ} {pairs : List (List ℕ × ℤ)} → Lays units (node pairs) → HaveUnits pairs → RootMeans units pairs
root_means (layout.final number units) some = let none = some.0 in absurd (omega (arith, none))
root_means (layout.valued kind number units pairs low h) some = let none = some.0 in absurd (omega (arith, none))
root_means (layout.bare kind units pairs low inner) some =
    let f : FollowsMeans (kind ∷ units) 1 kind pairs = means inner (kind ∷ units) 1 refl in
    record {
      next = f.next;
      at = bare_node (kind ∷ units) 0 kind units pairs refl low f;
      starts = ap or_stopped (if_ltb kind 0x40 (opened (kind ∷ units) kind 1) None low ∙ f.opens);
      node = bare_means (kind ∷ units) 0 kind units pairs refl low f;
      at_state = f.means;
    }

-- what the units of pairs that are written say
pub record Writes (units : List ℕ) (pairs : List (List ℕ × ℤ)) : Type 0 where
  pub entries : (key : List ℕ) (number : ℤ) → MapsKey units (at_node 0) key number ↔ Has pairs key number
  pub followed : (key : List ℕ) (number : ℤ) → MapsKey units (at_state (start units)) key number ↔ Has pairs key number
  pub whole : 0 < length pairs → IsWhole units (at_node 0)
  pub whole_start : 0 < length pairs → IsWhole units (at_state (start units))
  pub grammar : IsUnitTrie units

pub writes_some : (units written : List ℕ) (pairs : List (Bor (List ℕ) × ℤ)) → Lays units (node (rests 0 pairs)) → HaveUnits (rests 0 pairs) → written ≡ units → Writes written (keyed pairs)
writes_some units written pairs lays longer same =
    let r = root_means lays longer in
    let w : Writes units (rests 0 pairs) = record {
      entries = λ key number. (r.node.spelled key number, r.node.spells key number);
      followed = λ key number. subst (λ next. MapsKey units (at_state next) key number ↔ Has (rests 0 pairs) key number) (sym r.starts) (r.at_state.spelled key number, r.at_state.spells key number);
      whole = λ some. r.node.whole;
      whole_start = λ some. subst (λ next. IsWhole units (at_state next)) (sym r.starts) r.at_state.whole;
      grammar = rooted r.next r.at r.at_state.sound;
    } in
    subst (λ written. Writes written (keyed pairs)) (sym same) (subst (λ pairs. Writes units pairs) (keyed_rests pairs) w)

nothing_spelled : (key : List ℕ) (number : ℤ) → MapsKey [] (at_node 0) key number → ⊥
nothing_spelled key number h = node_forth [] h

nothing_followed : (key : List ℕ) (number : ℤ) → MapsKey [] (at_state (start [])) key number → ⊥
nothing_followed key number h = stopped_none [] key number h

pub writes_none : (written : List ℕ) (pairs : List (Bor (List ℕ) × ℤ)) → length pairs ≡ 0 → written ≡ [] → Writes written (keyed pairs)
writes_none written [] none same =
    subst (λ written. Writes written []) (sym same) (record {
      entries = λ key number. (nothing_spelled key number, λ h. absurd h);
      followed = λ key number. (nothing_followed key number, λ h. absurd h);
      whole = λ some. absurd (omega (arith, some));
      whole_start = λ some. absurd (omega (arith, some));
      grammar = no_units refl;
    })
writes_none written (pair ∷ pairs) none same = absurd (omega (arith, none))

-- faults that are found one after another

pub none_more : (pairs : List (List ℕ × ℤ)) (index : ℕ) → NoneBefore pairs index → (IsEmptyKey pairs index → ⊥) → (IsUnsorted pairs index → ⊥) → NoneBefore pairs (index + 1)
none_more pairs index before some sorted = λ other less fault.
    ⊎_elim (λ (earlier : other < index). before other earlier fault)
    (λ (late : index ≤ other).
    let same : other ≡ index = omega (arith, less, late) in
    ⊎_elim (λ empty. some (subst (λ index. IsEmptyKey pairs index) same empty)) (λ unsorted. sorted (subst (λ index. IsUnsorted pairs index) same unsorted)) fault)
    (cases_lt other index)

true_not_false : true ≡ false → ⊥
true_not_false e = cc

not_zero : (n : ℕ) → 0 < n → (n == 0) ≡ false
not_zero n h = grind arith

pub keyed_at : (pairs : List (Bor (List ℕ) × ℤ)) (index : ℕ) (d : Bor (List ℕ) × ℤ) → index < length pairs
    → slice_get (keyed pairs) index ≡ Some ((slice_index_or pairs index d).0.now, (slice_index_or pairs index d).1)
keyed_at [] index d less = absurd (omega (arith, less))
keyed_at (pair ∷ pairs) zero d less = refl
keyed_at (pair ∷ pairs) (suc index) d less = keyed_at pairs index d (omega (arith, less))

pub keyed_length : (pairs : List (Bor (List ℕ) × ℤ)) → length (keyed pairs) ≡ length pairs
keyed_length pairs = length-map pairs (λ pair. (pair.0.now, pair.1))

pub keyed_room : (pairs : List (Bor (List ℕ) × ℤ)) → room (rests 0 pairs) ≡ 10 * total (keyed pairs) + 3 * length pairs
keyed_room pairs = let e = ap room (keyed_rests pairs) in let r = room_is (keyed pairs) in let l = keyed_length pairs in omega (arith, e, r, l)

pub key_none : (key : List ℕ) (b : Bool) → b ≡ (length key == 0) → b ≡ true → key ≡ []
key_none [] b e t = refl
key_none (unit ∷ units) b e t = absurd (true_not_false (sym t ∙ e ∙ not_zero (length (unit ∷ units)) (omega arith)))

key_not_none : (key : List ℕ) (b : Bool) → b ≡ (length key == 0) → b ≡ false → key ≡ [] → ⊥
key_not_none [] b e f same = true_not_false (sym e ∙ f)
key_not_none (unit ∷ units) b e f same = let l = ap length same in omega (arith, l)

pub untrue : (b : Bool) {P : Type 0} → IsTrue b ↔ P → b ≡ false → P → ⊥
untrue b h f p = true_not_false (sym (h.1 p) ∙ f)

module _ (pairs : List (Bor (List ℕ) × ℤ)) (index : ℕ) (d : Bor (List ℕ) × ℤ) (less : index < length pairs) where
  pub empty_at : (slice_index_or pairs index d).0.now ≡ [] → IsEmptyKey (keyed pairs) index
  empty_at e = ((slice_index_or pairs index d).1, keyed_at pairs index d less ∙ ap (λ key. Some (key, (slice_index_or pairs index d).1)) e)

  pub not_empty_at : (b : Bool) → b ≡ (length (slice_index_or pairs index d).0.now == 0) → b ≡ false → IsEmptyKey (keyed pairs) index → ⊥
  not_empty_at b e f h =
      let same = some-same ((slice_index_or pairs index d).0.now, (slice_index_or pairs index d).1) ([], h.0) (sym (keyed_at pairs index d less) ∙ h.1) in
      key_not_none (slice_index_or pairs index d).0.now b e f (ap (λ pair. pair.0) same)

  pub unsorted_at : 0 < index → (Below (slice_index_or pairs (index - 1) d).0.now (slice_index_or pairs index d).0.now → ⊥) → IsUnsorted (keyed pairs) index
  unsorted_at positive none = (
    ((slice_index_or pairs (index - 1) d).0.now, (slice_index_or pairs (index - 1) d).1),
    ((slice_index_or pairs index d).0.now, (slice_index_or pairs index d).1),
    positive,
    keyed_at pairs (index - 1) d (omega (arith, less)),
    keyed_at pairs index d less,
    none,
  )

  pub sorted_at : Below (slice_index_or pairs (index - 1) d).0.now (slice_index_or pairs index d).0.now → IsUnsorted (keyed pairs) index → ⊥
  sorted_at below h =
      let first = some-same ((slice_index_or pairs (index - 1) d).0.now, (slice_index_or pairs (index - 1) d).1) h.0 (sym (keyed_at pairs (index - 1) d (omega (arith, less))) ∙ h.3) in
      let second = some-same ((slice_index_or pairs index d).0.now, (slice_index_or pairs index d).1) h.1 (sym (keyed_at pairs index d less) ∙ h.4) in
      h.5 (subst (λ pair. Below pair.0 h.1.0) first (subst (λ pair. Below (slice_index_or pairs (index - 1) d).0.now pair.0) second below))

pub first_sorted : (pairs : List (List ℕ × ℤ)) (index : ℕ) → index ≤ 0 → IsUnsorted pairs index → ⊥
first_sorted pairs index none h = let positive = h.2 in omega (arith, none, positive)

pub none_all : (pairs : List (Bor (List ℕ) × ℤ)) (index : ℕ) → NoneBefore (keyed pairs) index → length pairs ≤ index → NoneBefore (keyed pairs) (length (keyed pairs))
none_all pairs index h all = λ other less fault. let l = keyed_length pairs in h other (omega (arith, less, l, all)) fault

total_push : (pairs : List (Bor (List ℕ) × ℤ)) (pair : Bor (List ℕ) × ℤ) → total (keyed (pairs ++ pair ∷ [])) ≡ total (keyed pairs) + length pair.0.now
total_push [] pair = omega arith
total_push (first ∷ pairs) pair = let r = total_push pairs pair in omega (arith, r)

pub total_more : (pairs : List (Bor (List ℕ) × ℤ)) (index : ℕ) (d : Bor (List ℕ) × ℤ) → index < length pairs
    → total (keyed (take (index + 1) pairs)) ≡ total (keyed (take index pairs)) + length (slice_index_or pairs index d).0.now
total_more pairs index d less = ap (λ pairs. total (keyed pairs)) (take_more pairs index d less) ∙ total_push (take index pairs) (slice_index_or pairs index d)

pub total_least : (pairs : List (Bor (List ℕ) × ℤ)) (n : ℕ) → total (keyed (take n pairs)) ≤ total (keyed pairs)
total_least [] zero = omega arith
total_least [] (suc n) = omega arith
total_least (pair ∷ pairs) zero = omega arith
total_least (pair ∷ pairs) (suc n) = let r = total_least pairs n in omega (arith, r)

pub total_few : (pairs : List (List ℕ × ℤ)) (b : Bool) → IsTrue b ↔ (268_435_456 < total pairs) → b ≡ false → total pairs ≤ 268_435_456
total_few pairs b h f = ⊎_elim (λ (more : 268_435_456 < total pairs). absurd (untrue b h f more)) (λ few. few) (cases_lt 268_435_456 (total pairs))
