-- Weights in order: where none begins the next one, none begins another.
use Rattle.std.proofs.Common.{◌≡◌, ◌↔◌, ⊎_elim, ℕ, suc, ◌-◌, ◌%◌, ◌^◌, ◌<◌, ◌≤◌, Bool, true, false, not, ◌==◌, ltb, ◌&&◌, ◌||◌, List, [], ◌∷◌, refl, sym, ◌∙◌, subst, arith, nat_cmp, IsTrue}
use Rattle.std.specs.List.{Contains}
use Rattle.std.specs.List.Sorted.{IsNonDecreasing, IsSorted}
use Rattle.std.proofs.lemmas.Bool.{and_from, and_left, and_parts, and_right, cases_lt, false≢true, false_from_ne_true, le-ltb, lt-ltb, ltb-true, not-true, not_from_false, or_cases, or_left, or_right}
use Rattle.std.proofs.lemmas.List.Sorted.{IsNonDecreasingBy-from_sort}
use Rattle.icu_collator_core.specs.WeightLists.{are_steps_apart, begins}
use Rattle.icu_collator_core.proofs.apart.GrowthLemmas.{first_in, first_or_later, later_in, none_in}

-- ---- Beginnings

-- whether one is within the room after another
abbrev within : ℕ → ℕ → Bool
within v room =
    ((v % 2 ^ 24 == 0) && ltb room (2 ^ 24))
    || (((v % 2 ^ 16 == 0) && ltb room (2 ^ 16)) || ((v % 2 ^ 8 == 0) && ltb room (2 ^ 8)))

less_room : (a : Bool) (room less n : ℕ) → less ≤ room → (a && ltb room n) ≡ true → (a && ltb less n) ≡ true
less_room a room less n le h =
    let p = and_parts a (ltb room n) h in
    and_from a (ltb less n) p.0 (lt-ltb less n (let lt = ltb-true room n p.1 in omega (arith, lt, le)))

within_less : (v room less : ℕ) → less ≤ room → within v room ≡ true → within v less ≡ true
within_less v room less le h =
    let a24 = v % 2 ^ 24 == 0 in
    let a16 = v % 2 ^ 16 == 0 in
    let a8 = v % 2 ^ 8 == 0 in
    ⊎_elim
    (λ x. or_left (a24 && ltb less (2 ^ 24)) _ (less_room a24 room less (2 ^ 24) le x))
    (λ y. or_right (a24 && ltb less (2 ^ 24)) _ (⊎_elim
    (λ x. or_left (a16 && ltb less (2 ^ 16)) _ (less_room a16 room less (2 ^ 16) le x))
    (λ x. or_right (a16 && ltb less (2 ^ 16)) _ (less_room a8 room less (2 ^ 8) le x))
    (or_cases (a16 && ltb room (2 ^ 16)) (a8 && ltb room (2 ^ 8)) y)))
    (or_cases (a24 && ltb room (2 ^ 24)) ((a16 && ltb room (2 ^ 16)) || (a8 && ltb room (2 ^ 8))) h)

pub begins_none_below : (v w : ℕ) → w ≤ v → begins v w ≡ false
begins_none_below v w le = and_right (not (v == 0)) _ (and_left (ltb v w) _ (le-ltb v w le))

-- what begins a weight begins those between
begins_between : (v w z : ℕ) → v < w → w ≤ z → begins v z ≡ true → begins v w ≡ true
begins_between v w z lt le h =
    let p = and_parts (not (v == 0)) (ltb v z && within v (z - v)) h in
    let q = and_parts (ltb v z) (within v (z - v)) p.1 in
    and_from (not (v == 0)) _ p.0 (and_from (ltb v w) (within v (w - v)) (lt-ltb v w lt)
    (within_less v (z - v) (w - v) (omega (arith, lt, le)) q.1))

-- ---- Sorted lists

abbrev AtLeast : ℕ → List ℕ → Type 0
AtLeast low ws = (x : ℕ) → Contains ws x → low ≤ x

abbrev Rises : List ℕ → Type 0
Rises [] = Unit {0}
Rises (w ∷ ws) = AtLeast w ws × Rises ws

rises_from : (ws : List ℕ) → IsNonDecreasing ws → Rises ws
rises_from [] h = tt
rises_from (w ∷ ws) h = (
  λ x c. subst (λ n. w ≤ n) c.2 (h 0 (suc c.0) x (omega arith) (let lt = c.1 in omega arith)),
  rises_from ws (λ i j d le lt. h (suc i) (suc j) d (let l = le in omega arith) (let l = lt in omega arith)),
)

abbrev pub NoneBegun : ℕ → List ℕ → Type 0
NoneBegun v ws = (x : ℕ) → Contains ws x → begins v x ≡ false

abbrev pub NoneBegins : List ℕ → Type 0
NoneBegins ws = (x y : ℕ) → Contains ws x → Contains ws y → begins x y ≡ false

none_begun_behind : (v w x : ℕ) → v ≤ w → w ≤ x → begins v w ≡ false → begins w x ≡ false → begins v x ≡ false
none_begun_behind v w x le more here there =
    ⊎_elim
    (λ (lt : v < w). false_from_ne_true (begins v x) (λ h. false≢true (sym here ∙ begins_between v w x lt more h)))
    (λ (ge : w ≤ v). let same : v ≡ w = omega (arith, le, ge) in subst (λ v. begins v x ≡ false) (sym same) there)
    (cases_lt v w)

steps_are_all : (v : ℕ) (ws : List ℕ) → AtLeast v ws → Rises ws → are_steps_apart v ws ≡ true → NoneBegun v ws × NoneBegins ws
steps_are_all v [] low rises h = (λ x c. absurd (none_in x c), λ x y c d. absurd (none_in x c))
steps_are_all v (w ∷ ws) low rises h =
    let p = and_parts (not (begins v w)) (are_steps_apart w ws) h in
    let here : begins v w ≡ false = not-true (begins v w) p.0 in
    let rest = steps_are_all w ws rises.0 rises.1 p.1 in (
      λ x c. ⊎_elim
          (λ e. subst (λ x. begins v x ≡ false) e here)
          (λ l. none_begun_behind v w x (low w (first_in w ws)) (rises.0 x l) here (rest.0 x l))
          (first_or_later w x ws c),
      λ x y c d. ⊎_elim
          (λ e. ⊎_elim
          (λ f. begins_none_below x y (subst (λ x. y ≤ x) e (subst (λ y. y ≤ w) f (omega arith))))
          (λ l. subst (λ x. begins x y ≡ false) e (rest.0 y l))
          (first_or_later w y ws d))
          (λ l. ⊎_elim
          (λ f. begins_none_below x y (subst (λ y. y ≤ x) f (rises.0 x l)))
          (λ m. rest.1 x y l m)
          (first_or_later w y ws d))
          (first_or_later w x ws c),
    )

all_are_steps : (v : ℕ) (ws : List ℕ) → NoneBegun v ws → NoneBegins ws → are_steps_apart v ws ≡ true
all_are_steps v [] none nones = refl
all_are_steps v (w ∷ ws) none nones =
    and_from (not (begins v w)) (are_steps_apart w ws) (not_from_false (begins v w) (none w (first_in w ws)))
    (all_are_steps w ws (λ x c. nones w x (first_in w ws) (later_in w x ws c)) (λ x y c d. nones x y (later_in w x ws c) (later_in w y ws d)))

pub steps_tell : (ws : List ℕ) → IsSorted nat_cmp ws → IsTrue (are_steps_apart 0 ws) ↔ NoneBegins ws
steps_tell ws sorted = (
  λ t. (steps_are_all 0 ws (λ x c. omega arith) (rises_from ws (IsNonDecreasingBy-from_sort (λ w. w) ws sorted)) t).1,
  λ nones. all_are_steps 0 ws (λ x c. refl) nones,
)
