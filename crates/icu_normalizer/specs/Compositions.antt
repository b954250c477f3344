-- What is left of an iterator of composed text.
use Rattle.std.specs.Prelude.{◌≡◌, ℕ, ◌+◌, ◌≤◌, List, Option, Result}
use Rattle.std.specs.Iterator.{Count}
use Rattle.icu_normalizer_core.specs.Decompositions.{DecomposesTo, CanDecompose, decomposition_size, IsFinished as IsDecompositionFinished}
use Rattle.icu_normalizer_core.specs.Iter.{YieldsFirstOk, EndsOnce}
use Rattle.icu_normalizer.specs.declared.composing.characters.Composition.{Composition}
use Rattle.icu_normalizer.specs.Composer.{coming, waiting}

-- these characters are still to come, unless memory runs out
pub record ComposesTo {I : Type 0} (steps : I → Option ℕ → I → Type 0) (s : Composition I) (out : List ℕ) : Type 0 where
  pub unread : List ℕ
  pub source : DecomposesTo steps s.chars unread
  pub text : out ≡ coming s.composer unread

-- nothing is to come, and the source is not called again
pub record IsFinished {I : Type 0} (s : Composition I) : Type 0 where
  pub source : IsDecompositionFinished s.chars
  pub empty : waiting s.composer ≡ 0

-- it may be called
abbrev pub CanCompose : {I : Type 0} → (I → Type 0) → (I → Count) → Composition I → Type 0
CanCompose can left s = CanDecompose can left s.chars

-- how many characters may still come
abbrev pub composition_size : {I : Type 0} → (I → Count) → Composition I → ℕ
composition_size left s = waiting s.composer + decomposition_size left s.chars

-- A call gave the first character that was left, `None` if none was, and leaves an iterator that may be called again. An
-- error comes once, and ends it.
pub record CompositionSteps {I E : Type 0} (can : I → Type 0) (steps : I → Option ℕ → I → Type 0) (left : I → Count) (s : Composition I) (r : Option (Result ℕ E)) (t : Composition I) : Type 0 where
  pub first : YieldsFirstOk (ComposesTo steps) s r t
  pub ends : EndsOnce IsFinished s r t
  pub again : CanCompose can left t
  pub size : composition_size left t ≤ composition_size left s
