-- Which leads are compressible, as a list of answers: one more is set.
use Rattle.std.proofs.Common.{◌≡◌, ⊎_elim, ℕ, ◌<◌, Bool, true, false, ◌==◌, ◌||◌, List, length, get_or, set, replicate, sym, ap, ◌∙◌, subst, arith, refl}
use Rattle.std.proofs.lemmas.Bool.{cases_Bool, cases_lt, eqb-false, eqb-true}
use Rattle.std.proofs.lemmas.List.{get_or-replicate, get_or-set_other, get_or-set_same, get_or_past, length-replicate}

pub one_more_set : (xs : List Bool) (i j : ℕ) → i < length xs → get_or (set xs i true) j false ≡ ((j == i) || get_or xs j false)
one_more_set xs i j lt =
    ⊎_elim
    (λ e.
    subst (λ k. get_or (set xs i true) k false ≡ true) (sym (eqb-true j i e)) (get_or-set_same xs i true false lt)
    ∙ sym (ap (λ b. b || get_or xs j false) e))
    (λ e. get_or-set_other xs i j true false (eqb-false j i e) ∙ sym (ap (λ b. b || get_or xs j false) e))
    (cases_Bool (j == i))

none_set : (n j : ℕ) → get_or (replicate n false) j false ≡ false
none_set n j =
    ⊎_elim
    (λ lt. get_or-replicate n j false false lt)
    (λ le. let many = length-replicate n false in get_or_past (replicate n false) j false (omega (arith, many, le)))
    (cases_lt j n)

or_none : (b : Bool) → (b || false) ≡ b
or_none true = refl
or_none false = refl

pub one_set : (n i j : ℕ) → i < n → get_or (set (replicate n false) i true) j false ≡ (j == i)
one_set n i j lt =
    let many = length-replicate n false in
    one_more_set (replicate n false) i j (omega (arith, many, lt))
    ∙ ap (λ b. (j == i) || b) (none_set n j)
    ∙ or_none (j == i)
