-- What mapping steps bring in, step by step, and whether a test finds it.
use Rattle.std.specs.Prelude.{ℕ, zero, suc, Bool, true, false, List, [], ◌∷◌, flat_map}
use Rattle.icu_normalizer_core.specs.Canonical.{Reaches}

-- the characters that at most so many steps, one after another, bring in for a character, itself among them
unfoldable pub brought_within : (ℕ → List ℕ) → ℕ → ℕ → List ℕ
brought_within step zero c = c ∷ []
brought_within step (suc n) c = c ∷ flat_map (brought_within step n) (step c)

-- of a character that a text reaches a test says yes
abbrev pub ReachesOne : (ℕ → List ℕ) → (ℕ → Bool → Type 0) → List ℕ → Type 0
ReachesOne step answers text = (c : ℕ) × Reaches step text c × answers c true

-- of each character that a text reaches a test says no
abbrev pub ReachesNone : (ℕ → List ℕ) → (ℕ → Bool → Type 0) → List ℕ → Type 0
ReachesNone step answers text = (c : ℕ) → Reaches step text c → answers c false
