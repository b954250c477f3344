-- Each loop of the steps that parts say goes through a character of which one says something.
use Rattle.std.proofs.Common.{◌≡◌, ◌≢◌, ℕ, zero, suc, ◌<◌, List, [], ◌∷◌, length, map, refl, sym, ap, ◌∙◌, subst, arith, ◌⊎◌, inl, inr, ⊎_elim, Bool, true, false, cond, Option, None, MatchBool, ◌↔◌, ◌++◌}
use Rattle.std.specs.List.{All, Contains}
use Rattle.std.specs.Option.{unwrap_or}
use Rattle.std.specs.Bool.{IsTrue}
use Rattle.std.proofs.lemmas.Bool.{cases_eq, false≢true}
use Rattle.collate_rules.proofs.mappings.LoopPartLemmas.{loop_tells}
use Rattle.std.proofs.lemmas.List.{get_or-map, length-map}
use Rattle.icu_normalizer_core.specs.BuiltIn.{built_in_step, built_in_compatibility_step, is_built_in}
use Rattle.icu_normalizer_core.specs.Canonical.{Reaches, stands, steps}
use Rattle.collate_rules.specs.declared.canonical_part.CanonicalPart.{CanonicalPart}
use Rattle.collate_rules.specs.Meaning.{any_step, compatibility_in, else_mapped, first_found}
use Rattle.collate_rules.specs.Rules.{HasLoop}
use Rattle.collate_rules.specs.CanonicalParts.{in_full, subject_of}
use Rattle.collate_rules.proofs.mappings.BuiltInFallLemmas.{built_in_falls}
use Rattle.collate_rules.proofs.mappings.CanonicalPartLemmas.{unsaid_compatibility, unsaid_mapping}
use Rattle.collate_rules.proofs.mappings.LoopLemmas.{reaches_on}

in_cons : (y : ℕ) (ys : List ℕ) (d : ℕ) → Contains (y ∷ ys) d → (y ≡ d) ⊎ Contains ys d
in_cons y ys d (zero, within, read) = inl read
in_cons y ys d (suc k, within, read) = inr (k, omega arith, read)

-- whether a list has a character
contains_or_not : (list : List ℕ) (c : ℕ) → Contains list c ⊎ (Contains list c → ⊥)
contains_or_not [] c = inr (λ h. let within = h.1 in absurd (omega arith))
contains_or_not (x ∷ xs) c =
    ⊎_elim
    (λ (same : x ≡ c). inl (0, omega arith, same))
    (λ (apart : x ≢ c). ⊎_elim
    (λ (later : Contains xs c). let within = later.1 in inl (suc later.0, omega arith, later.2))
    (λ (none : Contains xs c → ⊥). inr (λ h. ⊎_elim apart none (in_cons x xs c h)))
    (contains_or_not xs c))
    (cases_eq x c)

-- where steps fall but from named characters, what is reached is low, or it is reached through a named one
reached_low : (step base : ℕ → List ℕ) (named : List ℕ) → ((d : ℕ) → (Contains named d → ⊥) → step d ≡ base d)
    → ((c d : ℕ) → Contains (base c) d → d < c) → (text : List ℕ) (x bound : ℕ) → ((d : ℕ) → Contains text d → d < bound) → Reaches step text x
    → (x < bound) ⊎ ((c : ℕ) × Contains named c × Reaches step text c × Reaches step (step c) x)
reached_low step base named agree falls text x bound small (stands t d h) = inl (small d h)
reached_low step base named agree falls text x bound small (steps t d y h r) =
    ⊎_elim
    (λ (at : Contains named d). inr (d, at, stands t d h, r))
    (λ (other : Contains named d → ⊥).
    let below = small d h in
    let lower : (e : ℕ) → Contains (step d) e → e < d = λ e stepped. falls d e (subst (λ (l : List ℕ). Contains l e) (agree d other) stepped) in
    ⊎_elim
    (λ (low : y < d). inl (omega arith))
    (λ through. inr (through.0, through.1, steps t d through.0 h through.2, through.3))
    (reached_low step base named agree falls (step d) y d lower r))
    (contains_or_not named d)

-- and where no named character is in a loop, none is
pub no_loop_named : (step base : ℕ → List ℕ) (named : List ℕ) → ((d : ℕ) → (Contains named d → ⊥) → step d ≡ base d)
    → ((c d : ℕ) → Contains (base c) d → d < c) → ((c : ℕ) → Contains named c → Reaches step (step c) c → ⊥)
    → (c : ℕ) → Reaches step (step c) c → ⊥
no_loop_named step base named agree falls none c loop =
    ⊎_elim
    (λ (at : Contains named c). none c at loop)
    (λ (other : Contains named c → ⊥).
    let lower : (e : ℕ) → Contains (step c) e → e < c = λ e stepped. falls c e (subst (λ (l : List ℕ). Contains l e) (agree c other) stepped) in
    ⊎_elim
    (λ (low : c < c). absurd (omega arith))
    (λ through. none through.0 through.1 (reaches_on step (step through.0) c through.0 through.3 through.2))
    (reached_low step base named agree falls (step c) c c lower loop))
    (contains_or_not named c)

-- a character of which no part says anything
unnamed : (parts : List CanonicalPart) (c : ℕ) → (Contains (map subject_of parts) c → ⊥) → All (λ part. c ≢ subject_of part) parts
unnamed parts c none k d within same =
    let read = get_or-map subject_of parts k d c within in
    let count : length (map subject_of parts) ≡ length parts = length-map parts subject_of in
    none (k, omega arith, read ∙ sym same)

-- a step by the mappings of either kind that lines say first
step_by : ℕ → Option (List ℕ) → Option (List ℕ) → List ℕ
step_by c said other =
    unwrap_or (built_in_compatibility_step c)
    (else_mapped (cond (is_built_in c) (unwrap_or (built_in_step c) []) (unwrap_or said [])) (cond (is_built_in c) [] (unwrap_or other [])))

any_step-unnamed : (parts : List CanonicalPart) (c : ℕ) → (Contains (map subject_of parts) c → ⊥) → any_step (map in_full parts) c ≡ any_step [] c
unfolding step_by
any_step-unnamed parts c none =
    let apart = unnamed parts c none in
    ap (λ (o : Option (List ℕ)). step_by c o (first_found (compatibility_in c) (map in_full parts))) (unsaid_mapping parts c apart)
    ∙ ap (step_by c None) (unsaid_compatibility parts c apart)

-- where steps lead from no character of a part back to itself, there is no loop
pub HasLoop-named : (parts : List CanonicalPart) (named : List ℕ) → named ≡ map subject_of parts
    → ((c : ℕ) → Contains named c → Reaches (any_step (map in_full parts)) (any_step (map in_full parts) c) c → ⊥) → HasLoop (map in_full parts) → ⊥
HasLoop-named parts named e none loop =
    no_loop_named (any_step (map in_full parts)) (any_step []) named
    (λ d other. any_step-unnamed parts d (subst (λ (l : List ℕ). Contains l d → ⊥) e other))
    built_in_falls none loop.0 loop.1

-- where the parts before the last have no loop, a walk from the last part's character tells whether all have one
pub loop_walked : (before after : List CanonicalPart) (part : CanonicalPart) (c : ℕ) (b : Bool) → after ≡ before ++ part ∷ [] → c ≡ subject_of part
    → MatchBool b (HasLoop (map in_full after)) ((d : ℕ) → Contains (c ∷ []) d → Reaches (any_step (map in_full after)) (any_step (map in_full after) d) d → ⊥)
    → (HasLoop (map in_full before) → ⊥) → IsTrue b ↔ HasLoop (map in_full after)
loop_walked before after part c true e at walked unbroken = (λ t. walked, λ loop. refl)
loop_walked before after part c false e at walked unbroken =
    loop_tells before after part c false e at
    (λ t. absurd (false≢true t), λ r. absurd (walked c (0, omega arith, refl) r)) unbroken
