-- What is left of an iterator of decomposed text.
use Rattle.std.specs.Prelude.{◌≡◌, ℕ, ◌+◌, ◌*◌, ◌≤◌, true, List, flat_map, Option, Result}
use Rattle.std.specs.Iterator.{Count}
use Rattle.icu_normalizer_core.specs.Canonical.{Canonical}
use Rattle.icu_normalizer_core.specs.declared.decomposition.characters.Decomposition.{Decomposition}
use Rattle.icu_normalizer_core.specs.Iter.{SourceSpells, SourceIsReady, source_size, source_calls, YieldsFirstOk, EndsOnce}
use Rattle.icu_normalizer_core.specs.Run.{reordered, held, data_of}

-- what the data of an iterator say of characters
abbrev pub canonical_by_run : {I : Type 0} → Decomposition I → Canonical
canonical_by_run s = data_of s.run

-- these characters are still to come, unless memory runs out
pub record DecomposesTo {I : Type 0} (steps : I → Option ℕ → I → Type 0) (s : Decomposition I) (out : List ℕ) : Type 0 where
  pub unread : List ℕ
  pub source : SourceSpells steps s.done s.chars unread
  pub text : out ≡ reordered s.run (flat_map (canonical_by_run s).full unread)

-- nothing is to come, and the source is not called again
pub record IsFinished {I : Type 0} (s : Decomposition I) : Type 0 where
  pub done : s.done ≡ true
  pub empty : held s.run ≡ 0

-- it may be called
abbrev pub CanDecompose : {I : Type 0} → (I → Type 0) → (I → Count) → Decomposition I → Type 0
CanDecompose can left s = SourceIsReady can left s.done s.chars

-- no full list has more than eight characters
abbrev pub decomposition_size : {I : Type 0} → (I → Count) → Decomposition I → ℕ
decomposition_size left s = held s.run + 8 * source_size left s.done s.chars

-- how often the source may still be called
abbrev pub pulls_left : {I : Type 0} → (I → Count) → Decomposition I → ℕ
pulls_left left s = source_calls left s.done s.chars

-- A call gave the first character that was left, `None` if none was, and leaves an iterator that may be called again. An
-- error comes once, and ends it.
pub record DecompositionSteps {I E : Type 0} (can : I → Type 0) (steps : I → Option ℕ → I → Type 0) (left : I → Count) (s : Decomposition I) (r : Option (Result ℕ E)) (t : Decomposition I) : Type 0 where
  pub first : YieldsFirstOk (DecomposesTo steps) s r t
  pub ends : EndsOnce IsFinished s r t
  pub again : CanDecompose can left t
  pub size : decomposition_size left t ≤ decomposition_size left s
