-- Words for iterators whose source is an iterator of characters.
use Rattle.std.specs.Prelude.{◌≡◌, ℕ, ◌+◌, Bool, true, false, List, [], ◌∷◌, ◌++◌, Option, Result, MatchBool, MatchOption, MatchResult, IfSome, IfNone, OnErr, None, if◌then◌else◌, ⊤}
use Rattle.std.specs.Iterator.{Count, IsFinite, size, AlwaysYields}

-- each run of the iterator gives these characters
abbrev pub Spells : {I : Type 0} → (I → Option ℕ → I → Type 0) → I → List ℕ → Type 0
Spells steps it cs = AlwaysYields steps (λ c. c) it cs

-- the same, of a source that is not called again once it is done
abbrev pub SourceSpells : {I : Type 0} → (I → Option ℕ → I → Type 0) → Bool → I → List ℕ → Type 0
SourceSpells steps done it cs = MatchBool done (cs ≡ []) (Spells steps it cs)

abbrev pub SourceIsReady : {I : Type 0} → (I → Type 0) → (I → Count) → Bool → I → Type 0
SourceIsReady can left done it = MatchBool done ⊤ (can it × IsFinite (left it))

-- how many characters may still come from a source
abbrev pub source_size : {I : Type 0} → (I → Count) → Bool → I → ℕ
source_size left done it = elim done [ true ↦ 0 | false ↦ size (left it) ]

-- how often a source may still be called
abbrev pub source_calls : {I : Type 0} → (I → Count) → Bool → I → ℕ
source_calls left done it = source_size left done it + (if done then 0 else 1)

-- `written` came out
pub record KeepsLeft {S A : Type 0} (HasLeft : S → List A → Type 0) (old : S) (written : List A) (new : S) : Type 0 where
  pub at : (cs : List A) → HasLeft old cs → (rest : List A) × (cs ≡ written ++ rest) × HasLeft new rest

-- the first of cs came, and the others are left
abbrev pub IsFirstOf : {S A : Type 0} → (S → List A → Type 0) → List A → S → A → Type 0
IsFirstOf HasLeft cs t c = (rest : List _) × (cs ≡ c ∷ rest) × HasLeft t rest

-- A call from s gave the first of the characters that were left, or `None` where none was left. Nothing comes after
-- `None` or an error.
pub record YieldsFirstOk {S A E : Type 0} (HasLeft : S → List A → Type 0) (s : S) (r : Option (Result A E)) (t : S) : Type 0 where
  pub at : (cs : List A) → HasLeft s cs → MatchOption r ((cs ≡ []) × HasLeft t []) (λ item. MatchResult item (IsFirstOf HasLeft cs t) (λ _. HasLeft t []))

-- A call from s gave r, whatever the source is: after an error and after `None` the iterator is finished. One that is
-- finished gives `None`, and stays so.
pub record EndsOnce {S A E : Type 0} (IsFinished : S → Type 0) (s : S) (r : Option (Result A E)) (t : S) : Type 0 where
  pub finished : IfSome r (λ item. OnErr item (IsFinished t))
  pub last : IfNone r (IsFinished t)
  pub ended : IsFinished s → r ≡ None
  pub stays : IsFinished s → IsFinished t
