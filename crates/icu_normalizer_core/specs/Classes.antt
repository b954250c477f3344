-- What is left of an iterator of decomposed text with classes.
use Rattle.std.specs.Prelude.{◌≡◌, ℕ, ◌≤◌, List, map, Option, Result}
use Rattle.std.specs.Iterator.{Count}
use Rattle.icu_normalizer_core.specs.declared.decomposition.classed.Classed.{Classed}
use Rattle.icu_normalizer_core.specs.BorrowedMeaning.{borrowed_meaning}
use Rattle.icu_normalizer_core.specs.Canonical.{Canonical}
use Rattle.icu_normalizer_core.specs.Decompositions.{DecomposesTo, CanDecompose, decomposition_size, IsFinished as IsDecompositionFinished}
use Rattle.icu_normalizer_core.specs.Iter.{YieldsFirstOk, EndsOnce}

-- characters, each with its class
abbrev pub with_classes : Canonical → List ℕ → List (ℕ × ℕ)
with_classes canonical cs = map (λ c. (c, canonical.class c)) cs

-- these are still to come, unless memory runs out
pub record ClassesTo {I : Type 0} (steps : I → Option ℕ → I → Type 0) (s : Classed I) (out : List (ℕ × ℕ)) : Type 0 where
  pub unread : List ℕ
  pub source : DecomposesTo steps s.chars unread
  pub text : out ≡ with_classes (borrowed_meaning s.canonical) unread

-- nothing is to come, and the source is not called again
abbrev pub IsFinished : {I : Type 0} → Classed I → Type 0
IsFinished s = IsDecompositionFinished s.chars

-- it may be called
abbrev pub CanClass : {I : Type 0} → (I → Type 0) → (I → Count) → Classed I → Type 0
CanClass can left s = CanDecompose can left s.chars

-- how many characters may still come
abbrev pub classed_size : {I : Type 0} → (I → Count) → Classed I → ℕ
classed_size left s = decomposition_size left s.chars

-- A call gave the first that was left, `None` if none was, and leaves an iterator that may be called again. An error
-- comes once, and ends it.
pub record ClassedSteps {I E : Type 0} (can : I → Type 0) (steps : I → Option ℕ → I → Type 0) (left : I → Count) (s : Classed I) (r : Option (Result (ℕ × ℕ) E)) (t : Classed I) : Type 0 where
  pub first : YieldsFirstOk (ClassesTo steps) s r t
  pub ends : EndsOnce IsFinished s r t
  pub again : CanClass can left t
  pub size : classed_size left t ≤ classed_size left s
