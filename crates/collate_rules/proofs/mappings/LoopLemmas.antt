-- What mapping steps reach, and loops of steps.
use Rattle.std.proofs.Common.{◌≡◌, ◌≢◌, ℕ, ◌<◌, List, refl, sym, ◌∙◌, subst, arith, ◌⊎◌, inl, inr, ⊎_elim}
use Rattle.std.specs.List.{Contains}
use Rattle.std.proofs.lemmas.Bool.Decides.{eqb_tells}
use Rattle.icu_normalizer_core.specs.Canonical.{Reaches, stands, steps}

-- what is reached from what is reached
pub reaches_on : (step : ℕ → List ℕ) (t : List ℕ) (y x : ℕ) → Reaches step t y → Reaches step (step y) x → Reaches step t x
reaches_on step t y x (stands s d h) r = steps s d x h r
reaches_on step t y x (steps s d e h q) r = steps s d x h (reaches_on step (step d) e x q r)

-- where two kinds of steps differ at c alone, what the one reaches the other reaches too, or it goes through c
pub reaches_through : (step later : ℕ → List ℕ) (c : ℕ) → ((d : ℕ) → d ≢ c → later d ≡ step d) → (t : List ℕ) (x : ℕ)
    → Reaches later t x → Reaches step t x ⊎ (Reaches step t c × Reaches later (later c) x)
reaches_through step later c agree t x (stands s d h) = inl (stands s d h)
reaches_through step later c agree t x (steps s d e h r) =
    ⊎_elim
    (λ w. let P : ℕ → Type 0 = λ n. Contains s n in let Q : ℕ → Type 0 = λ n. Reaches later (later n) e in
    inr (stands s c (subst P w.1 h), subst Q w.1 r))
    (λ w. let further = reaches_through step later c agree (later d) e r in
    ⊎_elim
    (λ p. inl (steps s d e h (subst (λ (l : List ℕ). Reaches step l e) (agree d w.1) p)))
    (λ p. inr (steps s d c h (subst (λ (l : List ℕ). Reaches step l c) (agree d w.1) p.0), p.1))
    further)
    (eqb_tells d c)

-- where two kinds of steps differ at c alone, what reaches c by the one does so by the other
pub reaches_to : (step later : ℕ → List ℕ) (c : ℕ) → ((d : ℕ) → d ≢ c → later d ≡ step d) → (t : List ℕ) (x : ℕ) → x ≡ c → Reaches step t x → Reaches later t x
reaches_to step later c agree t x e (stands s d h) = stands s d h
reaches_to step later c agree t x e (steps s d y h r) =
    ⊎_elim
    (λ w. let P : ℕ → Type 0 = λ n. Contains s n in stands s y (subst P (w.1 ∙ sym e) h))
    (λ w. steps s d y h (subst (λ (l : List ℕ). Reaches later l y) (sym (agree d w.1)) (reaches_to step later c agree (step d) y e r)))
    (eqb_tells d c)

-- and where the one has no loop, each loop of the other goes through c
pub loop_through : (step later : ℕ → List ℕ) (c : ℕ) → ((d : ℕ) → d ≢ c → later d ≡ step d) → ((y : ℕ) → Reaches step (step y) y → ⊥)
    → (y : ℕ) → Reaches later (later y) y → Reaches later (later c) c
loop_through step later c agree before y loop =
    ⊎_elim
    (λ w. let Q : ℕ → Type 0 = λ n. Reaches later (later n) n in subst Q w.1 loop)
    (λ w. ⊎_elim
    (λ p. absurd (before y p))
    (λ p. reaches_on later (later c) y c p.1 (subst (λ (l : List ℕ). Reaches later l c) (sym (agree y w.1)) (reaches_to step later c agree (step y) c refl p.0)))
    (reaches_through step later c agree (step y) y (subst (λ (l : List ℕ). Reaches later l y) (agree y w.1) loop)))
    (eqb_tells y c)

-- a list that has the text, and with each character what a step makes of it, has whatever the text reaches
pub reached_in_closed : (step : ℕ → List ℕ) (all : List ℕ) → ((c : ℕ) → Contains all c → (d : ℕ) → Contains (step c) d → Contains all d)
    → (t : List ℕ) (x : ℕ) → ((d : ℕ) → Contains t d → Contains all d) → Reaches step t x → Contains all x
reached_in_closed step all closed t x within (stands s d h) = within d h
reached_in_closed step all closed t x within (steps s d y h r) =
    reached_in_closed step all closed (step d) y (closed d (within d h)) r

reached_below : (step : ℕ → List ℕ) → ((c d : ℕ) → Contains (step c) d → d < c) → (t : List ℕ) (x bound : ℕ)
    → ((d : ℕ) → Contains t d → d < bound) → Reaches step t x → x < bound
reached_below step falls t x bound small (stands s d h) = small d h
reached_below step falls t x bound small (steps s d y h r) =
    reached_below step falls (step d) y bound (λ e stepped. let a = falls d e stepped in let b = small d h in omega arith) r

-- steps that go down lead in no loop
pub falling_never : (step : ℕ → List ℕ) → ((c d : ℕ) → Contains (step c) d → d < c) → (c : ℕ) → Reaches step (step c) c → ⊥
falling_never step falls c r =
    let below = reached_below step falls (step c) c c (λ d h. falls c d h) r in omega arith
