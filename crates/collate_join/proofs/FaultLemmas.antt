-- The first line that passes a test, looked for one by one.
use Rattle.std.proofs.Common.{◌≡◌, ℕ, ◌+◌, ◌<◌, ◌≤◌, Bool, true, false, cond, List, [], ◌∷◌, map, length, get_or, drop, Some, None, refl, sym, ap, ◌∙◌, add-one}
use Rattle.std.specs.List.{position_from}
use Rattle.std.proofs.Math.Seq.{drop-cons}
use Rattle.std.proofs.lemmas.List.{drop_all}

-- what is looked for is among the lines from i on
abbrev pub IsBehind : {A : Type 0} → (A → Bool) → List A → ℕ → Type 0
IsBehind test xs i = position_from test 1 xs ≡ position_from test (i + 1) (drop i xs)

pub at_line : {A : Type 0} (test : A → Bool) (xs : List A) (i : ℕ) (d : A) → i < length xs → IsBehind test xs i
    → position_from test 1 xs ≡ cond (test (get_or xs i d)) (Some (i + 1)) (position_from test (i + 1 + 1) (drop (i + 1) xs))
at_line test xs i d there behind =
    behind ∙ ap (position_from test (i + 1)) (drop-cons xs i d there ∙ ap (λ (n : ℕ). get_or xs i d ∷ drop n xs) (sym (add-one i)))

pub behind_line : {A : Type 0} (test : A → Bool) (xs : List A) (i : ℕ) (d : A) → i < length xs → IsBehind test xs i → test (get_or xs i d) ≡ false → IsBehind test xs (i + 1)
behind_line test xs i d there behind fails =
    at_line test xs i d there behind ∙ ap (λ (b : Bool). cond b (Some (i + 1)) (position_from test (i + 1 + 1) (drop (i + 1) xs))) fails

pub found_line : {A : Type 0} (test : A → Bool) (xs : List A) (i : ℕ) (d : A) → i < length xs → IsBehind test xs i → test (get_or xs i d) ≡ true → Some (i + 1) ≡ position_from test 1 xs
found_line test xs i d there behind passes =
    sym (at_line test xs i d there behind ∙ ap (λ (b : Bool). cond b (Some (i + 1)) (position_from test (i + 1 + 1) (drop (i + 1) xs))) passes)

pub none_found : {A : Type 0} (test : A → Bool) (xs : List A) (i : ℕ) → length xs ≤ i → IsBehind test xs i → None ≡ position_from test 1 xs
none_found test xs i past behind = sym (behind ∙ ap (position_from test (i + 1)) (drop_all i xs past))

-- the same of what is made of each
pub position_from-map : {A B : Type 0} (f : A → B) (test : B → Bool) (n : ℕ) (xs : List A) → position_from (λ x. test (f x)) n xs ≡ position_from test n (map f xs)
position_from-map f test n [] = refl
position_from-map f test n (x ∷ xs) = ap (cond (test (f x)) (Some n)) (position_from-map f test (n + 1) xs)
