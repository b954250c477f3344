-- The primaries of a character that is read flat, or of two that are read together, all at once.
use Rattle.std.specs.Prelude.{◌≡◌, ℕ, List, ◌∷◌, ◌++◌, Option}
use Rattle.icu_collator_core.specs.Acceptance.{CollationSource}
use Rattle.icu_collator_core.specs.FlatNotes.{IsPushed, MayStandBehind}
use Rattle.icu_collator_core.specs.FlatSteps.{primaries_in, primary_if_any}
use Rattle.icu_collator_core.specs.Pairs.{IsPair}
use Rattle.icu_collator_core.specs.ReadSources.{canonical_by}
use Rattle.icu_collator_core.specs.declared.flat.primaries.NextPrimaries.{NextPrimaries}

-- those that are not 0, in their order
abbrev pub primaries_listed : NextPrimaries → List ℕ
primaries_listed next = primary_if_any next.first ++ (primary_if_any next.second ++ primary_if_any next.third)

-- a character was pushed whose elements have these primaries
pub record IsPushedWith (source : CollationSource) (numeric : Option ℕ) (c before : ℕ) (old : List ℕ) (next : NextPrimaries) (new : List ℕ) : Type 0 where
  pub pushed : IsPushed source numeric c before old next.class new
  pub primaries : primaries_in new ≡ primaries_in old ++ primaries_listed next

-- a character after one of a class has these, whatever elements stand before its own
abbrev pub HasPrimaries : CollationSource → Option ℕ → ℕ → ℕ → NextPrimaries → Type 0
HasPrimaries source numeric c before next = (old : List ℕ) → (new : List ℕ) × IsPushedWith source numeric c before old next new

-- two characters that are read together have these
pub record HavePrimaries (source : CollationSource) (first second : ℕ) (next : NextPrimaries) : Type 0 where
  pub items : List ℕ
  pub pair : IsPair source first second items next.class
  pub primaries : primaries_in items ≡ primaries_listed next

-- the full list of a character begins with a starter, and it may stand after one of a class
pub record StartsBehind (source : CollationSource) (numeric : Option ℕ) (c class : ℕ) : Type 0 where
  pub first : ℕ
  pub rest : List ℕ
  pub full : (canonical_by source).full c ≡ first ∷ rest
  pub starter : (canonical_by source).class first ≡ 0
  pub follows : MayStandBehind source numeric class (first ∷ rest)
