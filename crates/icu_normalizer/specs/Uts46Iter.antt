-- What is left of the mapped characters of a domain name.
use Rattle.std.specs.Prelude.{◌≡◌, ℕ, ◌+◌, ◌*◌, ◌≤◌, List, [], ◌++◌, length, option_to_list, Option, MatchOption}
use Rattle.std.specs.Iterator.{Count}
use Rattle.icu_normalizer_core.specs.Iter.{SourceSpells, SourceIsReady, source_size, source_calls, IsFirstOf}
use Rattle.icu_normalizer.specs.declared.uts46.mapped_characters.MappedChars.{MappedChars}
use Rattle.icu_normalizer.specs.Uts46.{mapper_of, mapped_with}

-- what characters of the source become
abbrev pub mapped_by : {I : Type 0} → MappedChars I → List ℕ → List ℕ
mapped_by s text = mapped_with (option_to_list s.ignored) (mapper_of s.table.now) text

-- these characters are still to come
pub record MapsTo {I : Type 0} (steps : I → Option ℕ → I → Type 0) (s : MappedChars I) (out : List ℕ) : Type 0 where
  pub unread : List ℕ
  pub source : SourceSpells steps s.done s.chars unread
  pub text : out ≡ s.list ++ mapped_by s unread

-- it may be called
abbrev pub CanMap : {I : Type 0} → (I → Type 0) → (I → Count) → MappedChars I → Type 0
CanMap can left s = SourceIsReady can left s.done s.chars

-- no character becomes more than 31
abbrev pub mapped_size : {I : Type 0} → (I → Count) → MappedChars I → ℕ
mapped_size left s = length s.list + 31 * source_size left s.done s.chars

-- how often the source may still be called
abbrev pub pulls_left : {I : Type 0} → (I → Count) → MappedChars I → ℕ
pulls_left left s = source_calls left s.done s.chars

-- a call gave the first character that was left, `None` if none was, and leaves an iterator that may be called again
pub record MappingSteps {I : Type 0} (can : I → Type 0) (steps : I → Option ℕ → I → Type 0) (left : I → Count) (s : MappedChars I) (r : Option ℕ) (t : MappedChars I) : Type 0 where
  pub at : (cs : List ℕ) → MapsTo steps s cs → MatchOption r ((cs ≡ []) × MapsTo steps t []) (IsFirstOf (MapsTo steps) cs t)
  pub again : CanMap can left t
  pub size : mapped_size left t ≤ mapped_size left s
