-- What is left of a mapped and composed domain name, and what a mapper's tables mean.
use Rattle.std.specs.Prelude.{ℕ, ◌≤◌, List, Option, Result}
use Rattle.std.specs.Iterator.{Count, at_most}
use Rattle.icu_normalizer_core.specs.Canonical.{Canonical}
use Rattle.icu_normalizer_core.specs.CanonicalMeaning.{meaning}
use Rattle.icu_normalizer_core.specs.Iter.{YieldsFirstOk, EndsOnce}
use Rattle.icu_normalizer.specs.declared.uts46.borrowed.Uts46MapperBorrowed.{Uts46MapperBorrowed}
use Rattle.icu_normalizer.specs.declared.uts46.iter.Uts46Iter.{Uts46Iter}
use Rattle.icu_normalizer.specs.Compositions.{ComposesTo, CanCompose, composition_size, IsFinished as IsCompositionFinished}
use Rattle.icu_normalizer.specs.Uts46.{Mapping, mapper_of}
use Rattle.icu_normalizer.specs.Uts46Iter.{MappingSteps, CanMap, mapped_size}
use Rattle.icu_normalizer.specs.Uts46Loading.{MapperTables}

-- the tables of a mapper, what its canonical data mean, and what its mapper table says of characters
abbrev pub borrowed_mapper : Uts46MapperBorrowed → MapperTables
borrowed_mapper borrowed = borrowed.mapper.now

abbrev pub mapper_data : Uts46MapperBorrowed → Canonical
mapper_data borrowed = meaning (borrowed_mapper borrowed).canonical

abbrev pub mapper_table : Uts46MapperBorrowed → ℕ → Mapping
mapper_table borrowed = mapper_of (borrowed_mapper borrowed).mapping

-- these characters are still to come, unless memory runs out
abbrev pub Gives : {I : Type 0} → (I → Type 0) → (I → Option ℕ → I → Type 0) → (I → Count) → Uts46Iter I → List ℕ → Type 0
Gives can steps left s out = ComposesTo (MappingSteps can steps left) s.composed out

-- nothing is to come, and the source is not called again
abbrev pub IsFinished : {I : Type 0} → Uts46Iter I → Type 0
IsFinished s = IsCompositionFinished s.composed

-- it may be called
abbrev pub CanGive : {I : Type 0} → (I → Type 0) → (I → Count) → Uts46Iter I → Type 0
CanGive can left s = CanCompose (CanMap can left) (λ m. at_most (mapped_size left m)) s.composed

-- how many characters may still come
abbrev pub uts46_size : {I : Type 0} → (I → Count) → Uts46Iter I → ℕ
uts46_size left s = composition_size (λ m. at_most (mapped_size left m)) s.composed

-- A call gave the first character that was left, `None` if none was, and leaves an iterator that may be called again. An
-- error comes once, and ends it.
pub record Uts46Steps {I E : Type 0} (can : I → Type 0) (steps : I → Option ℕ → I → Type 0) (left : I → Count) (s : Uts46Iter I) (r : Option (Result ℕ E)) (t : Uts46Iter I) : Type 0 where
  pub first : YieldsFirstOk (Gives can steps left) s r t
  pub ends : EndsOnce IsFinished s r t
  pub again : CanGive can left t
  pub size : uts46_size left t ≤ uts46_size left s
