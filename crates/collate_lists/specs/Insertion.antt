-- where a new element goes among elements in order
use Rattle.std.specs.Prelude.{◌≡◌, ◌≢◌, List, ◌∷◌, ◌++◌}
use Rattle.std.specs.List.{All}
use Rattle.std.specs.declared.cmp.Ordering.{Ordering}
use Rattle.std.specs.declared.cmp.Ordering.TheVariants.{Greater}

-- new is old with x inserted: after all elements that aren't above it, and before all that are
abbrev pub IsInserted : {A : Type 0} → (A → A → Ordering) → A → List A → List A → Type 0
IsInserted {A} order x old new =
    (front : List A) × (back : List A) × (old ≡ front ++ back) × (new ≡ front ++ x ∷ back) × All (λ other. order other x ≢ Greater) front × All (λ other. order other x ≡ Greater) back
