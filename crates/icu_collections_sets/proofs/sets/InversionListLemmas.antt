-- Facts on inversion lists.
use Rattle.std.proofs.Common.{◌≡◌, ℕ, zero, suc, ◌+◌, ◌-◌, ◌*◌, ◌/◌, ◌%◌, ◌<◌, ◌≤◌, Bool, true, false, not, cond, List, [], ◌∷◌, length, get_or, refl, sym, ap, ◌∙◌, subst, arith, ◌==◌, inl, inr, slice_get, Some, IsTrue, nat_lt, ◌↔◌}
use Rattle.std.proofs.lemmas.Bool.{cases_lt, false≢true}
use Rattle.std.proofs.lemmas.List.{get_or_default}
use Rattle.std.proofs.lemmas.Bool.Decides.{nat_tests}
use Rattle.icu_collections_sets.specs.CodePoints.{Rises, IsInversionList, is_in, holds, ranges_of, in_ranges, IsCountUpTo, count_below}

pub Rises_least : (least : ℕ) (xs : List ℕ) (i d : ℕ) → Rises least xs → i < length xs → least ≤ get_or xs i d
Rises_least least [] i d r h = absurd (omega arith)
Rises_least least (x ∷ xs) zero d r h = r.0
Rises_least least (x ∷ xs) (suc i) d r h = omega (arith, Rises_least (x + 1) xs i d r.2 (omega arith))

pub Rises_end : (least : ℕ) (xs : List ℕ) (i d : ℕ) → Rises least xs → i < length xs → get_or xs i d ≤ 1114112
Rises_end least [] i d r h = absurd (omega arith)
Rises_end least (x ∷ xs) zero d r h = r.1
Rises_end least (x ∷ xs) (suc i) d r h = Rises_end (x + 1) xs i d r.2 (omega arith)

pub Rises_below : (least : ℕ) (xs : List ℕ) (i j d : ℕ) → Rises least xs → i < j → j < length xs → get_or xs i d < get_or xs j d
Rises_below least [] i j d r h l = absurd (omega arith)
Rises_below least (x ∷ xs) i zero d r h l = absurd (omega arith)
Rises_below least (x ∷ xs) zero (suc j) d r h l = omega (arith, Rises_least (x + 1) xs j d r.2 (omega arith))
Rises_below least (x ∷ xs) (suc i) (suc j) d r h l = Rises_below (x + 1) xs i j d r.2 (omega arith) (omega arith)

-- in or out, after a number of turns
unfoldable pub turned : Bool → ℕ → Bool
turned now zero = now
turned now (suc n) = turned (not now) n

pub turned_out : (n : ℕ) → (turned false n ≡ (n % 2 == 1)) × (turned true n ≡ (n % 2 == 0))
unfolding turned
turned_out zero = (refl, refl)
turned_out (suc n) =
    let h = turned_out n in
    (h.1 ∙ grind (arith, nat_tests), h.0 ∙ grind (arith, nat_tests))

pub is_in_count : (now : Bool) (xs : List ℕ) (c n : ℕ) → IsCountUpTo xs c n → is_in now xs c ≡ turned now n
unfolding turned
is_in_count now [] c zero h = refl
is_in_count now [] c (suc n) h = absurd (omega (arith, h.within))
is_in_count now (x ∷ xs) c zero h = let above : c < x = h.behind 0 0 (omega arith) (omega arith) in grind (arith, nat_tests)
is_in_count now (x ∷ xs) c (suc n) h =
    let below : x ≤ c = h.before 0 0 (omega arith) in
    let rest : IsCountUpTo xs c n = record {
      within = omega (arith, h.within);
      before = λ k d l. h.before (suc k) d (omega arith);
      behind = λ k d l m. h.behind (suc k) d (omega arith) (omega arith);
    } in
    let inner = is_in_count (not now) xs c n rest in
    grind (arith, nat_tests, inner)

pub length-ranges_of : (xs : List ℕ) → length (ranges_of xs) ≡ length xs / 2
length-ranges_of [] = omega arith
length-ranges_of (x ∷ []) = omega arith
length-ranges_of (x ∷ y ∷ xs) = omega (arith, length-ranges_of xs)

-- one step of the search for an index
pub low_side : (xs : List ℕ) (middle c : ℕ) → Rises 0 xs → middle < length xs → ((d : ℕ) → get_or xs middle d ≤ c) → (k d : ℕ) → k < middle + 1 → get_or xs k d ≤ c
low_side xs middle c r h here k d l = elim (cases_lt k middle) [
  | inl below ↦ omega (arith, Rises_below 0 xs k middle d r below h, here d)
  | inr up ↦
      let same : middle ≡ k = omega arith in
      subst (λ i. get_or xs i d ≤ c) same (here d)
]

pub high_side : (xs : List ℕ) (middle c : ℕ) → Rises 0 xs → middle < length xs → ((d : ℕ) → c < get_or xs middle d) → (k d : ℕ) → middle ≤ k → k < length xs → c < get_or xs k d
high_side xs middle c r h here k d l m = elim (cases_lt middle k) [
  | inl above ↦ omega (arith, Rises_below 0 xs middle k d r above m, here d)
  | inr up ↦
      let same : middle ≡ k = omega arith in
      subst (λ i. c < get_or xs i d) same (here d)
]

pub slice_get-ranges_of : (xs : List ℕ) (index d : ℕ) → index < length xs / 2 → slice_get (ranges_of xs) index ≡ Some (get_or xs (2 * index) d, get_or xs (2 * index + 1) d - 1)
slice_get-ranges_of [] index d h = absurd (omega arith)
slice_get-ranges_of (x ∷ []) index d h = absurd (omega arith)
slice_get-ranges_of (x ∷ y ∷ xs) zero d h = refl
slice_get-ranges_of (x ∷ y ∷ xs) (suc index) d h =
    let list = x ∷ y ∷ xs in
    let first : suc (suc (2 * index)) ≡ 2 * suc index = omega arith in
    let second : suc (suc (2 * index + 1)) ≡ 2 * suc index + 1 = omega arith in
    slice_get-ranges_of xs index d (omega arith)
    ∙ ap (λ i. Some (get_or list i d, get_or xs (2 * index + 1) d - 1)) first
    ∙ ap (λ i. Some (get_or list (2 * suc index) d, get_or list i d - 1)) second

-- numbers that rise from a bound on rise from a lower one
pub Rises_lower : (low least : ℕ) (xs : List ℕ) → low ≤ least → Rises least xs → Rises low xs
Rises_lower low least [] h r = tt
Rises_lower low least (x ∷ xs) h r = (omega (arith, r.0), r.1, r.2)

-- ---- how many code points a set holds

nothing : (held : Bool) → ◌≡◌ {A = ℕ} (cond held 0 0) 0
nothing true = refl
nothing false = refl

one_more : (held : Bool) (n : ℕ) → ◌≡◌ {A = ℕ} (cond held (suc n) 0) (cond held n 0 + cond held 1 0)
one_more true n = omega arith
one_more false n = omega arith

-- as many of the numbers below a bound pass as below a lower one and in the stretch between
pub count_stretch : (test : ℕ → Bool) (held : Bool) (low n : ℕ) → ((c : ℕ) → low ≤ c → c < low + n → test c ≡ held) → count_below test (low + n) ≡ count_below test low + cond held n 0
unfolding count_below
count_stretch test held low zero h =
    let e : low + 0 ≡ low = omega arith in
    omega (arith, ap (count_below test) e, nothing held)
count_stretch test held low (suc n) h =
    let e : low + suc n ≡ suc (low + n) = omega arith in
    let t : test (low + n) ≡ held = h (low + n) (omega arith) (omega arith) in
    let before = count_stretch test held low n (λ c a b. h c a (omega arith)) in
    let step : count_below test (suc (low + n)) ≡ count_below test (low + n) + cond (test (low + n)) 1 0 = refl in
    omega (arith, ap (count_below test) e, ap {B = ℕ} (λ b. cond b 1 0) t, before, one_more held n, step)

at_most_one : (held : Bool) → cond held 1 0 ≤ 1
at_most_one true = omega arith
at_most_one false = omega arith

pub count_below_least : (test : ℕ → Bool) (n : ℕ) → count_below test n ≤ n
unfolding count_below
count_below_least test zero = omega arith
count_below_least test (suc n) = omega (arith, count_below_least test n, at_most_one (test n))

pub is_in_before : (inside : Bool) (edge : ℕ) (rest : List ℕ) (c : ℕ) → c < edge → is_in inside (edge ∷ rest) c ≡ inside
is_in_before inside edge rest c h = grind (arith, nat_tests)

pub is_in_past : (inside : Bool) (edge : ℕ) (rest : List ℕ) (c : ℕ) → edge ≤ c → is_in inside (edge ∷ rest) c ≡ is_in (not inside) rest c
is_in_past inside edge rest c h = grind (arith, nat_tests)

-- what a walk over the edges knows: the edges that are left, and the count up to the last one
pub record CountsUpTo (list : List ℕ) (bound : ℕ) (rest : List ℕ) (inside : Bool) (last count : ℕ) : Type 0 where
  pub counted : count ≡ count_below (holds list) last
  pub within : last ≤ bound
  pub rises : Rises last rest
  pub same : (c : ℕ) → last ≤ c → holds list c ≡ is_in inside rest c

pub CountsUpTo-none : (list : List ℕ) (bound : ℕ) → Rises 0 list → CountsUpTo list bound list false 0 0
unfolding count_below
CountsUpTo-none list bound r = record { counted = refl; within = omega arith; rises = r; same = λ c h. refl }

pub CountsUpTo-more : (list : List ℕ) (bound edge : ℕ) (rest : List ℕ) (inside : Bool) (last count : ℕ) → CountsUpTo list bound (edge ∷ rest) inside last count → edge < bound → CountsUpTo list bound rest (not inside) edge (count + cond inside (edge - last) 0)
CountsUpTo-more list bound edge rest inside last count w h =
    let n = edge - last in
    let end : last + n ≡ edge = omega (arith, w.rises.0) in
    let stretch = count_stretch (holds list) inside last n (λ c a b. w.same c a ∙ is_in_before inside edge rest c (omega arith)) in
    record {
      counted = omega (arith, stretch, w.counted, ap (count_below (holds list)) end);
      within = omega arith;
      rises = Rises_lower edge (edge + 1) rest (omega arith) w.rises.2;
      same = λ c a. w.same c (omega (arith, w.rises.0)) ∙ is_in_past inside edge rest c a;
    }

-- up to a bound before the next edge
pub CountsUpTo-all : (list : List ℕ) (bound : ℕ) (rest : List ℕ) (inside : Bool) (last count : ℕ) → CountsUpTo list bound rest inside last count → ((c : ℕ) → last ≤ c → c < bound → is_in inside rest c ≡ inside) → count + cond inside (bound - last) 0 ≡ count_below (holds list) bound
CountsUpTo-all list bound rest inside last count w h =
    let n = bound - last in
    let end : last + n ≡ bound = omega (arith, w.within) in
    let stretch = count_stretch (holds list) inside last n (λ c a b. w.same c a ∙ h c a (omega arith)) in
    omega (arith, stretch, w.counted, ap (count_below (holds list)) end)

-- ---- the ranges of a set hold what it holds

pub Rises_from : (least : ℕ) (xs : List ℕ) (c : ℕ) → Rises least xs → holds xs c ≡ true → least ≤ c
Rises_from least [] c r h = absurd (false≢true h)
Rises_from least (x ∷ xs) c r h = elim (cases_lt c x) [
  | inl below ↦ absurd (false≢true (sym (is_in_before false x xs c below) ∙ h))
  | inr past ↦ omega (arith, r.0)
]

none_below : (least : ℕ) (xs : List ℕ) (c : ℕ) → Rises least xs → c < least → holds xs c ≡ false
none_below least [] c r h = refl
none_below least (x ∷ xs) c r h = is_in_before false x xs c (omega (arith, r.0))

pub holds_range : (start end : ℕ) (xs : List ℕ) (c : ℕ) → start ≤ c → c < end → holds (start ∷ end ∷ xs) c ≡ true
holds_range start end xs c h l = is_in_past false start (end ∷ xs) c h ∙ is_in_before true end xs c l

pub holds_behind : (start end : ℕ) (xs : List ℕ) (c : ℕ) → start < end → end ≤ c → holds (start ∷ end ∷ xs) c ≡ holds xs c
holds_behind start end xs c h l = is_in_past false start (end ∷ xs) c (omega arith) ∙ is_in_past true end xs c l

pub in_ranges_of : (least : ℕ) (xs : List ℕ) (c : ℕ) → Rises least xs → length xs % 2 ≡ 0 → in_ranges (ranges_of xs) c ≡ holds xs c
in_ranges_of least [] c r e = refl
in_ranges_of least (x ∷ []) c r e = absurd (omega arith)
in_ranges_of least (x ∷ y ∷ xs) c r e =
    let rest = in_ranges_of (y + 1) xs c r.2.2 (omega arith) in
    let rise : x < y = omega (arith, r.2.0) in
    elim (cases_lt c x) [
      | inl below ↦
          let none : holds xs c ≡ false = none_below (y + 1) xs c r.2.2 (omega arith) in
          let here = is_in_before false x (y ∷ xs) c below in
          grind (arith, nat_tests)
      | inr past ↦ elim (cases_lt c y) [
        | inl within ↦ let here = holds_range x y xs c past within in grind (arith, nat_tests)
        | inr behind ↦ let here = holds_behind x y xs c rise behind in grind (arith, nat_tests)
      ]
    ]

pub grown_small : (held : Bool) (count last edge : ℕ) → count ≤ last → last ≤ edge → count + cond held (edge - last) 0 ≤ edge
grown_small true count last edge h l = omega arith
grown_small false count last edge h l = omega arith

-- where the next edge is past the bound, and where none is left
pub CountsUpTo-before : (list : List ℕ) (bound edge : ℕ) (rest : List ℕ) (inside : Bool) (last count : ℕ) → CountsUpTo list bound (edge ∷ rest) inside last count → bound ≤ edge → count + cond inside (bound - last) 0 ≡ count_below (holds list) bound
CountsUpTo-before list bound edge rest inside last count w h =
    CountsUpTo-all list bound (edge ∷ rest) inside last count w (λ c a b. is_in_before inside edge rest c (omega arith))

pub CountsUpTo-end : (list : List ℕ) (bound : ℕ) (inside : Bool) (last count : ℕ) → CountsUpTo list bound [] inside last count → count + cond inside (bound - last) 0 ≡ count_below (holds list) bound
CountsUpTo-end list bound inside last count w = CountsUpTo-all list bound [] inside last count w (λ c a b. refl)

-- ---- a stretch of code points, from the count of edges up to its first

pub held_up_to : (xs : List ℕ) (first c index : ℕ) → Rises 0 xs → IsCountUpTo xs first index → first ≤ c → ((d : ℕ) → index < length xs → c < get_or xs index d) → holds xs c ≡ turned false index
held_up_to xs first c index r n h l =
    is_in_count false xs c index record {
      within = n.within;
      before = λ k d m. omega (arith, n.before k d m);
      behind = λ k d m q. high_side xs index c r (omega arith) (λ e. l e (omega arith)) k d m q;
    }

pub held_first : (xs : List ℕ) (first index : ℕ) → IsCountUpTo xs first index → holds xs first ≡ turned false index
held_first xs first index n = is_in_count false xs first index n

pub held_edge : (xs : List ℕ) (first index : ℕ) → Rises 0 xs → IsCountUpTo xs first index → index < length xs → (edge : ℕ) → ((d : ℕ) → edge ≡ get_or xs index d) → holds xs edge ≡ turned false (index + 1)
held_edge xs first index r n h edge e =
    is_in_count false xs edge (index + 1) record {
      within = omega arith;
      before = λ k d m. low_side xs index edge r h (λ f. omega (arith, e f)) k d m;
      behind = λ k d m q. omega (arith, Rises_below 0 xs index k d r (omega arith) q, e d);
    }

abbrev pub HoldsStretch : List ℕ → ℕ → ℕ → Type 0
HoldsStretch xs first last = (c : ℕ) → first ≤ c → c ≤ last → holds xs c ≡ true

pub stretch_held : (xs : List ℕ) (first last index edge : ℕ) → IsInversionList xs → first ≤ last → IsCountUpTo xs first index → index % 2 ≡ 1 → ((d : ℕ) → edge ≡ get_or xs index d) → IsTrue (nat_lt last edge) ↔ HoldsStretch xs first last
stretch_held xs first last index edge list h n odd e =
    let inside : index < length xs = omega (arith, list.even, n.within) in
    let is_odd : turned false index ≡ true = (turned_out index).0 ∙ grind (arith, nat_tests) in
    let is_even : turned false (index + 1) ≡ false = (turned_out (index + 1)).0 ∙ grind (arith, nat_tests) in
    let above : first < edge = omega (arith, n.behind index 0 (omega arith) inside, e 0) in (
      λ t c a b. let lower : last < edge = grind (arith, nat_tests) in held_up_to xs first c index list.rises n a (λ d l. omega (arith, e d)) ∙ is_odd,
      λ held. elim (cases_lt last edge) [
        | inl below ↦ grind (arith, nat_tests)
        | inr past ↦ absurd (false≢true (sym is_even ∙ sym (held_edge xs first index list.rises n inside edge e) ∙ held edge (omega arith) past))
      ],
    )

pub stretch_out : (xs : List ℕ) (first last index : ℕ) → first ≤ last → IsCountUpTo xs first index → (index % 2 ≡ 1 → ⊥) → HoldsStretch xs first last → ⊥
stretch_out xs first last index h n odd held =
    let is_even : turned false index ≡ false = (turned_out index).0 ∙ grind (arith, nat_tests) in
    false≢true (sym is_even ∙ sym (held_first xs first index n) ∙ held first (omega arith) h)

pub low_side_below : (xs : List ℕ) (middle bound : ℕ) → Rises 0 xs → middle < length xs → ((d : ℕ) → get_or xs middle d < bound) → (k d : ℕ) → k < middle + 1 → get_or xs k d < bound
low_side_below xs middle bound r h here k d l =
    omega (arith, low_side xs middle (get_or xs middle d) r h (λ e. omega (arith, get_or_default xs middle e d h)) k d l, here d)

pub high_side_from : (xs : List ℕ) (middle bound : ℕ) → Rises 0 xs → middle < length xs → ((d : ℕ) → bound ≤ get_or xs middle d) → (k d : ℕ) → middle ≤ k → k < length xs → bound ≤ get_or xs k d
high_side_from xs middle bound r h here k d l m = elim (cases_lt middle k) [
  | inl above ↦ omega (arith, Rises_below 0 xs middle k d r above m, here d)
  | inr up ↦
      let same : middle ≡ k = omega arith in
      subst (λ i. bound ≤ get_or xs i d) same (here d)
]
