-- What is still to be read of a text: characters that were put before, then those of an iterator.
use Rattle.std.specs.Prelude.{◌≡◌, ℕ, ◌+◌, List, [], ◌++◌, reverse, Option, MatchOption}
use Rattle.std.specs.Iterator.{Count}
use Rattle.smallvec.specs.SmallVec.{small_vec_len}
use Rattle.icu_normalizer_core.specs.Iter.{IsFirstOf, SourceIsReady, SourceSpells, source_size}
use Rattle.icu_collator_core.specs.declared.elements.upcoming.Upcoming.{Upcoming}

-- these were put before, the last one first, and these the iterator has yet to give
pub record HasUnread {I : Type 0} (steps : I → Option ℕ → I → Type 0) (s : Upcoming I) (before rest : List ℕ) : Type 0 where
  pub before_is : reverse s.first.items ≡ before
  pub source : SourceSpells steps s.done s.chars rest

-- these characters are still to come
pub record ComesTo {I : Type 0} (steps : I → Option ℕ → I → Type 0) (s : Upcoming I) (out : List ℕ) : Type 0 where
  pub rest : List ℕ
  pub source : SourceSpells steps s.done s.chars rest
  pub text : out ≡ reverse s.first.items ++ rest

-- it may be called
abbrev pub CanComeUp : {I : Type 0} → (I → Type 0) → (I → Count) → Upcoming I → Type 0
CanComeUp can left s = SourceIsReady can left s.done s.chars

-- how many characters may still come
abbrev pub upcoming_size : {I : Type 0} → (I → Count) → Upcoming I → ℕ
upcoming_size left s = small_vec_len s.first + source_size left s.done s.chars

-- the iterator gave the first of its characters, `None` where none was left
abbrev pub PullsFirst : {I : Type 0} → (I → Option ℕ → I → Type 0) → Upcoming I → Option ℕ → Upcoming I → Type 0
PullsFirst steps s r t =
    (before rest : List ℕ) → HasUnread steps s before rest
    → MatchOption r ((rest ≡ []) × HasUnread steps t before []) (IsFirstOf (λ u cs. HasUnread steps u before cs) rest t)

-- a call gave the first character that was left, `None` if none was, and leaves an iterator that may be called again
pub record UpcomingSteps {I : Type 0} (can : I → Type 0) (steps : I → Option ℕ → I → Type 0) (left : I → Count) (s : Upcoming I) (r : Option ℕ) (t : Upcoming I) : Type 0 where
  pub at : (cs : List ℕ) → ComesTo steps s cs → MatchOption r ((cs ≡ []) × ComesTo steps t []) (IsFirstOf (ComesTo steps) cs t)
  pub again : CanComeUp can left t
