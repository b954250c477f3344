-- The work that a walk along steps has left.
use Rattle.std.proofs.Common.{◌≡◌, ◌≢◌, ℕ, zero, suc, ◌+◌, ◌<◌, List, length, sym, ap, ◌∙◌, refl, arith, ⊎_elim, Bool, true, false, Option, Some, None}
use Rattle.std.proofs.lemmas.Bool.{cases_eq}
use Rattle.icu_normalizer_core.specs.StepVisits.{work, worth}
use Rattle.icu_normalizer_core.proofs.steps.StepWalkLemmas.{Notes, noted_here, noted_other}

work_along : (step : ℕ → List ℕ) (is_left after : ℕ → Option Bool) (n : ℕ)
    → ((d : ℕ) → d < n → worth (after d) (length (step d)) ≡ worth (is_left d) (length (step d))) → work step after n ≡ work step is_left n
unfolding work
work_along step is_left after zero same = refl
work_along step is_left after (suc n) same =
    let before = work_along step is_left after n (λ d h. same d (omega arith)) in
    let here = same n (omega arith) in
    omega arith

worth_known : (a b : Option Bool) (x y : Bool) (m : ℕ) → a ≡ Some x → b ≡ Some y → worth a m ≡ worth b m
worth_known a b x y m e f = ap (λ o. worth o m) e ∙ sym (ap (λ o. worth o m) f)

-- no less where a character is left that was entered
pub work_kept : (step : ℕ → List ℕ) (is_left after : ℕ → Option Bool) (n c : ℕ) → is_left c ≡ Some false → Notes is_left after c true
    → work step after n ≡ work step is_left n
work_kept step is_left after n c opened notes =
    work_along step is_left after n
    (λ d h. ⊎_elim
    (λ same. worth_known (after d) (is_left d) true false (length (step d)) (noted_here is_left after c true notes d same) (ap is_left same ∙ opened))
    (λ apart. ap (λ o. worth o (length (step d))) (noted_other is_left after c true notes d apart))
    (cases_eq d c))

-- less where a character is entered
pub work_less : (step : ℕ → List ℕ) (is_left after : ℕ → Option Bool) (n c : ℕ) → c < n → is_left c ≡ None → Notes is_left after c false
    → work step after n + (length (step c) + 1) ≡ work step is_left n
unfolding work
work_less step is_left after zero c within free notes = absurd (omega arith)
work_less step is_left after (suc n) c within free notes =
    ⊎_elim
    (λ (same : n ≡ c).
    let before : work step after n ≡ work step is_left n = work_along step is_left after n
    (λ d h. ap (λ o. worth o (length (step d))) (noted_other is_left after c false notes d (λ e. absurd (omega arith)))) in
    let now : worth (after n) (length (step n)) ≡ 0 = ap (λ o. worth o (length (step n))) (noted_here is_left after c false notes n same) in
    let was : worth (is_left n) (length (step n)) ≡ length (step n) + 1 = ap (λ o. worth o (length (step n))) (ap is_left same ∙ free) in
    let count : length (step n) ≡ length (step c) = ap (λ m. length (step m)) same in
    omega arith)
    (λ (apart : n ≢ c).
    let before = work_less step is_left after n c (omega arith) free notes in
    let here : worth (after n) (length (step n)) ≡ worth (is_left n) (length (step n)) = ap (λ o. worth o (length (step n))) (noted_other is_left after c false notes n apart) in
    omega arith)
    (cases_eq n c)
