-- Different characters among others, and those that are named with more.
use Rattle.std.proofs.Common.{◌≡◌, ℕ, ◌≤◌, Bool, true, false, cond, ◌||◌, List, [], ◌∷◌, ◌++◌, length, map, flat_map, refl, ap, ◌∙◌}
use Rattle.std.specs.Prelude.{nat_eq}
use Rattle.std.specs.List.{IsDistinct, list_any}
use Rattle.std.specs.Set.{distinct_count, is_member, unique_keys}
use Rattle.std.proofs.lemmas.Bool.{or_left, or_right}
use Rattle.std.proofs.lemmas.Cmp.{nat_eq_equiv}
use Rattle.std.proofs.lemmas.List.Folds.{list_any-append}
use Rattle.std.proofs.lemmas.Map.Made.{length-le_from_is_member}
use Rattle.std.proofs.lemmas.Map.Steps.{list_any_congr}

-- ---- Distinct numbers among others

-- a list without repetitions has the items of the list
pub members_kept : (xs : List ℕ) (q : ℕ) → is_member nat_eq (unique_keys nat_eq xs) q ≡ is_member nat_eq xs q
members_kept [] q = refl
members_kept (x ∷ xs) q = by (is_member nat_eq xs x) (nat_eq q x) refl refl (members_kept xs q)
  where
    by : (b c : Bool) → is_member nat_eq xs x ≡ b → nat_eq q x ≡ c → is_member nat_eq (unique_keys nat_eq xs) q ≡ is_member nat_eq xs q
        → is_member nat_eq (cond b (unique_keys nat_eq xs) (x ∷ unique_keys nat_eq xs)) q ≡ (c || is_member nat_eq xs q)
    by true true m t r = r ∙ list_any_congr nat_eq_equiv q x xs t ∙ m
    by true false m t r = r
    by false c m t r = rw t (ap (λ v. c || v) r)

pub distinct_among : (xs ys : List ℕ) → IsDistinct nat_eq xs → ((q : ℕ) → is_member nat_eq xs q ≡ true → is_member nat_eq ys q ≡ true) → length xs ≤ distinct_count nat_eq ys
distinct_among xs ys distinct among =
    length-le_from_is_member nat_eq_equiv xs (unique_keys nat_eq ys) distinct (λ q m. members_kept ys q ∙ among q m)

-- ---- Classes and mappings

pub front_named : (xs ys : List ℕ) (q : ℕ) → is_member nat_eq xs q ≡ true → is_member nat_eq (xs ++ ys) q ≡ true
front_named xs ys q e = list_any-append (nat_eq q) xs ys ∙ or_left (list_any (nat_eq q) xs) (list_any (nat_eq q) ys) e

pub behind_named : (xs ys : List ℕ) (q : ℕ) → is_member nat_eq ys q ≡ true → is_member nat_eq (xs ++ ys) q ≡ true
behind_named xs ys q e = list_any-append (nat_eq q) xs ys ∙ or_right (list_any (nat_eq q) xs) (list_any (nat_eq q) ys) e

-- keys stand among what is named with more
pub keys_named : {X : Type 0} (key : X → ℕ) (more : X → List ℕ) (xs : List X) (q : ℕ) → is_member nat_eq (map key xs) q ≡ true
    → is_member nat_eq (flat_map (λ x. key x ∷ more x) xs) q ≡ true
keys_named key more [] q e = e
keys_named {X} key more (x ∷ xs) q e = by (nat_eq q (key x)) (keys_named key more xs q) e
  where
    by : (b : Bool) → (is_member nat_eq (map key xs) q ≡ true → is_member nat_eq (flat_map (λ y. key y ∷ more y) xs) q ≡ true)
        → (b || is_member nat_eq (map key xs) q) ≡ true → (b || is_member nat_eq (more x ++ flat_map (λ y. key y ∷ more y) xs) q) ≡ true
    by true later e = refl
    by false later e = behind_named (more x) (flat_map (λ y. key y ∷ more y) xs) q (later e)
