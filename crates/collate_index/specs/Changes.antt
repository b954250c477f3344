-- the characters that reach a changed one from one records file to another, as far as they are found out
use Rattle.std.specs.Prelude.{◌≡◌, ℕ, Bool, List, [], ◌∷◌, Contains, MatchBool, None, Option, Some, slice_index_or}
use Rattle.icu_normalizer_core.specs.Canonical.{Reaches}
use Rattle.collate_laws.specs.Unchanged.{ReachesUnchanged}
use Rattle.collate_records.specs.Changes.{IsChanged}
use Rattle.collate_records.specs.Differences.{TwoFiles}
use Rattle.collate_rules.specs.Meaning.{step_of}
use Rattle.collate_index.specs.declared.changes.Look.{Look}
use Rattle.collate_index.specs.declared.changes.Look.TheVariants.{Found, Before}

-- a text reaches a changed character, by the steps of the first file
abbrev pub ReachesChanged : TwoFiles → List ℕ → Type 0
ReachesChanged files text = (c : ℕ) × Reaches (step_of files.before) text c × IsChanged files.before files.after c

-- an answer to whether a character reaches a changed one is right
abbrev pub Tells : TwoFiles → ℕ → Bool → Type 0
Tells files c is = MatchBool is (ReachesChanged files (c ∷ [])) (ReachesUnchanged files.before files.after (c ∷ []))

-- what is known of characters, by code point, is so
abbrev pub AreKnown : TwoFiles → List (Option Bool) → Type 0
AreKnown files known = (c : ℕ) (is : Bool) → slice_index_or known c None ≡ Some is → Tells files c is

-- nothing is known of a character
abbrev pub IsUnknown : List (Option Bool) → ℕ → Type 0
IsUnknown known c = slice_index_or known c None ≡ None

-- what a look at a character finds is right, or it brings in one of which nothing is known
abbrev pub IsLook : TwoFiles → List (Option Bool) → ℕ → Look → Type 0
IsLook files known c (Found is) = Tells files c is
IsLook files known c (Before d) = Contains (step_of files.before c) d × IsUnknown known d
