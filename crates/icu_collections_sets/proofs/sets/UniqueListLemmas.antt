-- An inversion list is the only one of its code points.
use Rattle.std.proofs.Common.{◌≡◌, ℕ, ◌+◌, ◌<◌, ◌≤◌, Bool, true, false, not, List, [], ◌∷◌, length, refl, sym, ap, ◌∙◌, subst, arith, inl, inr}
use Rattle.std.proofs.lemmas.Bool.{cases_lt, false≢true}
use Rattle.icu_collections_sets.specs.CodePoints.{Rises, IsInversionList, is_in, holds}
use Rattle.icu_collections_sets.proofs.sets.InversionListLemmas.{turned, is_in_past, is_in_before}
use Rattle.icu_collections_sets.proofs.edits.SetEditLemmas.{is_in_early, even_turns}

not_itself : (b : Bool) → not b ≡ b → ⊥
not_itself true h = false≢true h
not_itself false h = false≢true (sym h)

-- an edge before the end of the code points turns
turns_at : (now : Bool) (x : ℕ) (xs : List ℕ) → Rises (x + 1) xs → is_in now (x ∷ xs) x ≡ not now
turns_at now x xs r = is_in_past now x xs x (omega arith) ∙ is_in_early (not now) xs x (x + 1) (omega arith) r

-- one list has no edge left and the other has one
no_edge : (now : Bool) (least y : ℕ) (ys : List ℕ) → Rises least (y ∷ ys) → now ≡ false → turned now (length (y ∷ ys)) ≡ false → ((c : ℕ) → least ≤ c → c < 1114112 → now ≡ is_in now (y ∷ ys) c) → ⊥
unfolding turned
no_edge now least y [] r e t h = not_itself now (t ∙ sym e)
no_edge now least y (z ∷ zs) r e t h =
    let before : y < 1114112 = omega (arith, r.2.0, r.2.1) in
    not_itself now (sym (h y r.0 before ∙ turns_at now y (z ∷ zs) r.2))

-- one list has its next edge before the other
early_edge : (now : Bool) (least x y : ℕ) (xs ys : List ℕ) → Rises least (x ∷ xs) → Rises least (y ∷ ys) → x < y → ((c : ℕ) → least ≤ c → c < 1114112 → is_in now (x ∷ xs) c ≡ is_in now (y ∷ ys) c) → ⊥
early_edge now least x y xs ys rx ry l h =
    not_itself now (sym (turns_at now x xs rx.2) ∙ h x rx.0 (omega (arith, ry.1)) ∙ is_in_before now y ys x l)

-- two lists that rise from a bound on, begin alike, end out, and hold the same from the bound on
same_from : (now : Bool) (least : ℕ) (xs ys : List ℕ) → Rises least xs → Rises least ys → turned now (length xs) ≡ false → turned now (length ys) ≡ false → ((c : ℕ) → least ≤ c → c < 1114112 → is_in now xs c ≡ is_in now ys c) → xs ≡ ys
unfolding turned
same_from now least [] [] rx ry ex ey h = refl
same_from now least [] (y ∷ ys) rx ry ex ey h = absurd (no_edge now least y ys ry ex ey h)
same_from now least (x ∷ xs) [] rx ry ex ey h = absurd (no_edge now least x xs rx ey ex (λ c a b. sym (h c a b)))
same_from now least (x ∷ xs) (y ∷ ys) rx ry ex ey h = elim (cases_lt x y) [
  | inl below ↦ absurd (early_edge now least x y xs ys rx ry below h)
  | inr past ↦ elim (cases_lt y x) [
    | inl above ↦ absurd (early_edge now least y x ys xs ry rx above (λ c a b. sym (h c a b)))
    | inr up ↦
        let same : y ≡ x = omega arith in
        let rest = same_from (not now) (x + 1) xs ys rx.2 (subst (λ z. Rises (z + 1) ys) same ry.2) ex ey
        (λ c a b. sym (is_in_past now x xs c (omega arith)) ∙ h c (omega (arith, rx.0)) b ∙ is_in_past now y ys c (omega arith)) in
        ap (λ z. z ∷ xs) (sym same) ∙ ap (λ zs. y ∷ zs) rest
  ]
]

pub same_list : (first second : List ℕ) → IsInversionList first → IsInversionList second → ((c : ℕ) → c < 1114112 → holds first c ≡ holds second c) → first ≡ second
same_list first second a b h = same_from false 0 first second a.rises b.rises (even_turns first a.even) (even_turns second b.even) (λ c _ l. h c l)
