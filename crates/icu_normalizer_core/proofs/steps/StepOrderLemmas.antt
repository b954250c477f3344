-- Characters in order of steps: none of them is in a loop.
use Rattle.std.proofs.Common.{◌≡◌, ℕ, ◌<◌, ◌≤◌, nat_eq, List, length, sym, ◌∙◌, subst, arith}
use Rattle.std.specs.List.{All, Contains, IsDistinct, slice_index}
use Rattle.std.proofs.lemmas.Map.Steps.{length-le_from_distinct_below}
use Rattle.std.proofs.lemmas.Map.Views.{Contains-from_any}
use Rattle.std.proofs.lemmas.Bool.Decides.{Decides-eqb}
use Rattle.icu_normalizer_core.specs.Canonical.{Reaches, stands, steps}
use Rattle.icu_normalizer_core.specs.StepOrder.{AreInOrder, StandsBefore}
use Rattle.icu_normalizer_core.proofs.steps.StepWalkLemmas.{one_index, index_read}

-- what is reached from characters before an index stands before it
reached_before : (step : ℕ → List ℕ) (list : List ℕ) → AreInOrder step list → (text : List ℕ) (c bound : ℕ) → bound ≤ length list
    → ((d : ℕ) → Contains text d → StandsBefore list bound d) → Reaches step text c → StandsBefore list bound c
reached_before step list order text c bound within before (stands t d h) = before d h
reached_before step list order text c bound within before (steps t d e h r) =
    let at = before d h in
    let lower = at.1 in
    let P : ℕ → Type 0 = λ n. Contains (step n) e in
    let further = reached_before step list order (step d) e at.0 (omega arith)
    (λ f stepped. let Q : ℕ → Type 0 = λ n. Contains (step n) f in order.behind at.0 (omega arith) f (subst Q (sym at.2) stepped)) r in
    let before_it = further.1 in
    (further.0, omega arith, further.2)

-- steps lead from none of them back to itself
pub no_loop_in_order : (step : ℕ → List ℕ) (list : List ℕ) → AreInOrder step list → (c : ℕ) → Contains list c → Reaches step (step c) c → ⊥
no_loop_in_order step list order c h r =
    let within = h.1 in
    let at : slice_index list h.0 ≡ c = index_read list c h in
    let back = reached_before step list order (step c) c h.0 (omega arith)
    (λ d stepped. let Q : ℕ → Type 0 = λ n. Contains (step n) d in order.behind h.0 h.1 d (subst Q (sym at) stepped)) r in
    one_index list back.0 h.0 order.distinct back.1 h.1 (back.2 ∙ sym at)

-- so many different numbers are below a bound at most
pub order_fits : (list : List ℕ) (bound : ℕ) → IsDistinct nat_eq list → All (λ c. c < bound) list → length list ≤ bound
order_fits list bound distinct below =
    length-le_from_distinct_below list bound distinct
    (λ q h. let at : Contains list q = Contains-from_any (λ x y e. (Decides-eqb x y).0 e) q list h in
    subst (λ (n : ℕ). n < bound) (index_read list q at) (below at.0 0 at.1))
