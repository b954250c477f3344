-- Lists in which marks changed places with marks, and prefixes that know no mark.
use Rattle.std.specs.Prelude.{◌≡◌, ℕ, Bool, true, false, not, ◌==◌, ◌&&◌, ◌||◌, List, [], ◌∷◌}
use Rattle.std.specs.List.{list_all}
use Rattle.std.specs.Option.{is_some}
use Rattle.icu_collator_core.specs.Weights.{Weights}

-- every starter stands where it stood, and where a mark stood stands a mark
unfoldable pub moves_marks : (ℕ → ℕ) → List ℕ → List ℕ → Bool
moves_marks class [] [] = true
moves_marks class [] (d ∷ ds) = false
moves_marks class (c ∷ cs) [] = false
moves_marks class (c ∷ cs) (d ∷ ds) =
    ((c == d) || (not (class c == 0) && not (class d == 0))) && moves_marks class cs ds

-- a recorded prefix has starters only, and so has what is recorded after it
pub record KnowNoMarksBefore (class : ℕ → ℕ) (weights : Weights) : Type 0 where
  pub at : (b : ℕ) (bs : List ℕ) (c : ℕ) → is_some (weights.recorded (b ∷ bs) (c ∷ [])) ≡ true
      → (class c ≡ 0) × (list_all (λ d. class d == 0) (b ∷ bs) ≡ true)
