-- The room that full lists of mapped characters take is no more than that which lines take.
use Rattle.std.proofs.Common.{◌≡◌, ◌≢◌, ℕ, ◌+◌, ◌<◌, ◌≤◌, Bool, true, false, cond, ◌==◌, eqb, List, [], ◌∷◌, length, map, get_or, Option, Some, None, All, refl, sym, ap, ◌∙◌, arith, subst, ⊎_elim}
use Rattle.std.specs.Prelude.{sum_by}
use Rattle.std.specs.Cmp.{nat_eq_equiv}
use Rattle.std.specs.List.{AllByRecursion, IsDistinct, list_any}
use Rattle.std.proofs.Math.Path.{fun_ext}
use Rattle.std.proofs.lemmas.Bool.{eq-eqb, eqb-true, false≢true, or_cases, or_left, or_right}
use Rattle.std.proofs.lemmas.List.Elements.{All-head, All-tail}
use Rattle.std.proofs.lemmas.List.Sums.{get_or-le-sum_by, sum_by-cons}
use Rattle.std.proofs.lemmas.Option.{unwrap_or-slice_get}
use Rattle.collate_lines.specs.Record.{Record, nothing}
use Rattle.collate_lines.specs.Repeats.{record_at}

-- ---- Numbers that are told apart

-- one number of a list
pub member_mapped : (f : ℕ → ℕ) (q x : ℕ) (ys : List ℕ) → eqb q (f x) ≡ true → list_any (λ d. eqb x d) ys ≡ true → list_any (λ d. eqb q d) (map f ys) ≡ true
member_mapped f q x [] e h = absurd (false≢true h)
member_mapped f q x (y ∷ ys) e h =
    ⊎_elim
    (λ here. let same : x ≡ y = eqb-true x y here in or_left (eqb q (f y)) _ (subst (λ (z : ℕ). eqb q (f z) ≡ true) same e))
    (λ later. or_right (eqb q (f y)) _ (member_mapped f q x ys e later))
    (or_cases (eqb x y) _ h)

-- what is taken from numbers that stand in another list is taken from its numbers
pub mapped_within : (f : ℕ → ℕ) (xs ys : List ℕ) → ((q : ℕ) → list_any (λ d. eqb q d) xs ≡ true → list_any (λ d. eqb q d) ys ≡ true)
    → (q : ℕ) → list_any (λ d. eqb q d) (map f xs) ≡ true → list_any (λ d. eqb q d) (map f ys) ≡ true
mapped_within f [] ys within q h = absurd (false≢true h)
mapped_within f (x ∷ xs) ys within q h =
    ⊎_elim
    (λ here. member_mapped f q x ys here (within x (or_left (eqb x x) _ (eq-eqb x x refl))))
    (λ later. mapped_within f xs ys (λ p is. within p (or_right (eqb p x) _ is)) q later)
    (or_cases (eqb q (f x)) _ h)

-- ---- A sum over characters, and one over lines

none_counted : (d n : ℕ) (cs : List ℕ) → AllByRecursion (λ y. eqb d y ≡ false) cs → sum_by (λ c. cond (c == d) n 0) cs ≡ 0
none_counted d n [] apart = refl
none_counted d n (c ∷ cs) apart =
    let here : (c == d) ≡ false = nat_eq_equiv.symm c d ∙ apart.0 in
    let later = none_counted d n cs apart.1 in
    let first = ap (λ (b : Bool). cond b n 0) here in
    omega (arith, first, later, sum_by-cons (λ (x : ℕ). cond (x == d) n 0) c cs)

-- one of distinct characters at most is this one
once_counted : (d n : ℕ) (cs : List ℕ) → IsDistinct eqb cs → sum_by (λ c. cond (c == d) n 0) cs ≤ n
unfolding IsDistinct
once_counted d n [] distinct = omega arith
once_counted d n (c ∷ cs) distinct = by (c == d) refl (once_counted d n cs distinct.1)
  where
    by : (b : Bool) → (c == d) ≡ b → sum_by (λ x. cond (x == d) n 0) cs ≤ n → sum_by (λ x. cond (x == d) n 0) (c ∷ cs) ≤ n
    by true e below =
        let same : c ≡ d = eqb-true c d e in
        let apart : AllByRecursion (λ y. eqb d y ≡ false) cs = subst (λ (x : ℕ). AllByRecursion (λ y. eqb x y ≡ false) cs) same distinct.0 in
        let later = none_counted d n cs apart in
        let first = ap (λ (t : Bool). cond t n 0) e in
        omega (arith, first, later, sum_by-cons (λ (x : ℕ). cond (x == d) n 0) c cs)
    by false e below =
        let first = ap (λ (t : Bool). cond t n 0) e in
        omega (arith, first, below, sum_by-cons (λ (x : ℕ). cond (x == d) n 0) c cs)

sums_apart : (f g : ℕ → ℕ) (cs : List ℕ) → sum_by (λ c. f c + g c) cs ≡ sum_by f cs + sum_by g cs
sums_apart f g [] = refl
sums_apart f g (c ∷ cs) =
    let later = sums_apart f g cs in
    omega (arith, later, sum_by-cons (λ (x : ℕ). f x + g x) c cs, sum_by-cons f c cs, sum_by-cons g c cs)

sum_of_none : (cs : List ℕ) → sum_by (λ (c : ℕ). 0) cs ≡ 0
sum_of_none [] = refl
sum_of_none (c ∷ cs) = let later = sum_of_none cs in omega (arith, later, sum_by-cons (λ (x : ℕ). 0) c cs)

pub sum_below : {X : Type 0} (f g : X → ℕ) (P : X → Type 0) → ((c : X) → P c → f c ≤ g c) → (cs : List X) → All P cs → sum_by f cs ≤ sum_by g cs
sum_below f g P below [] all = omega arith
sum_below f g P below (c ∷ cs) all =
    let here = below c (All-head P c cs all) in
    let later = sum_below f g P below cs (All-tail P c cs all) in
    omega (arith, here, later, sum_by-cons f c cs, sum_by-cons g c cs)

-- lines that are for one character each, if for any, and take room
module _ (key : Record → Option ℕ) (room : Record → ℕ) where
  -- the room that a line takes for a character
  abbrev pub room_for : ℕ → Record → ℕ
  room_for c r = elim (key r) [ Some d ↦ cond (c == d) (room r) 0 | None ↦ 0 ]

  line_once : (r : Record) (cs : List ℕ) → IsDistinct eqb cs → sum_by (λ c. room_for c r) cs ≤ room r
  line_once r cs distinct = by (key r)
    where
      by : (o : Option ℕ) → sum_by (λ (c : ℕ). elim o as (λ _. ℕ) [ Some d ↦ cond (c == d) (room r) 0 | None ↦ 0 ]) cs ≤ room r
      by (Some d) = once_counted d (room r) cs distinct
      by None = let none = sum_of_none cs in omega (arith, none)

  lines_once : (lines : List Record) (cs : List ℕ) → IsDistinct eqb cs → sum_by (λ c. sum_by (room_for c) lines) cs ≤ sum_by room lines
  lines_once [] cs distinct = let none = sum_of_none cs in omega (arith, none)
  lines_once (r ∷ rs) cs distinct =
      let apart = sums_apart (λ c. room_for c r) (λ c. sum_by (room_for c) rs) cs in
      let each : sum_by (λ c. sum_by (room_for c) (r ∷ rs)) cs ≡ sum_by (λ c. room_for c r + sum_by (room_for c) rs) cs =
      ap (λ (f : ℕ → ℕ). sum_by f cs) (fun_ext (λ c. sum_by-cons (room_for c) r rs)) in
      omega (arith, apart, each, line_once r cs distinct, lines_once rs cs distinct, sum_by-cons room r rs)

  -- a line is for a character
  pub line_room : (lines : List Record) (i c : ℕ) (s : Record) → i < length lines → record_at lines i ≡ s → key s ≡ Some c → room s ≤ sum_by (room_for c) lines
  line_room lines i c s lt is for_it =
      let at : get_or lines i nothing ≡ s = sym (unwrap_or-slice_get lines i nothing) ∙ is in
      let below : room_for c (get_or lines i nothing) ≤ sum_by (room_for c) lines = get_or-le-sum_by (room_for c) lines i nothing lt in
      let here : room_for c (get_or lines i nothing) ≡ room s =
      ap (room_for c) at ∙ ap (λ (o : Option ℕ). elim o as (λ _. ℕ) [ Some d ↦ cond (c == d) (room s) 0 | None ↦ 0 ]) for_it ∙ ap (λ (b : Bool). cond b (room s) 0) (eq-eqb c c refl) in
      omega (arith, below, here)

  -- each of distinct characters has a line that takes as much room as it: all of them take no more than all lines
  pub rooms_within : (lines : List Record) (f : ℕ → ℕ) (P : ℕ → Type 0) → ((c : ℕ) → P c → f c ≤ sum_by (room_for c) lines)
      → (cs : List ℕ) → IsDistinct eqb cs → All P cs → sum_by f cs ≤ sum_by room lines
  rooms_within lines f P each cs distinct all =
      omega (arith, sum_below f (λ c. sum_by (room_for c) lines) P each cs all, lines_once lines cs distinct)
