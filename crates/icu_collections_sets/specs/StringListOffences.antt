-- What is wrong with one of several texts.
use Rattle.std.specs.Prelude.{◌≡◌, ℕ, ◌-◌, ◌<◌, List, Option, Some, None}
use Rattle.std.specs.Ordering.{nat_cmp}
use Rattle.std.specs.Cmp.Lexicographic.{slice_cmp}
use Rattle.std.specs.declared.cmp.Ordering.TheVariants.{Less, Equal, Greater}
use Rattle.icu_collections_sets.specs.StringList.{IsOneCharacter, text_at}
use Rattle.icu_collections_sets.specs.declared.codepointinvliststringlist.Offence.{Offence}
use Rattle.icu_collections_sets.specs.declared.codepointinvliststringlist.Offence.TheVariants.{Length, NotUnique, NotSorted}

-- what is wrong with the text at an index, or that nothing is
abbrev pub IsOffence : List (List ℕ) → ℕ → Option Offence → Type 0
IsOffence texts index None =
    (¬ IsOneCharacter (text_at texts index)) × (0 < index → slice_cmp nat_cmp (text_at texts (index - 1)) (text_at texts index) ≡ Less)
IsOffence texts index (Some Length) = IsOneCharacter (text_at texts index)
IsOffence texts index (Some NotUnique) =
    (¬ IsOneCharacter (text_at texts index)) × (0 < index) × (slice_cmp nat_cmp (text_at texts (index - 1)) (text_at texts index) ≡ Equal)
IsOffence texts index (Some NotSorted) =
    (¬ IsOneCharacter (text_at texts index)) × (0 < index) × (slice_cmp nat_cmp (text_at texts (index - 1)) (text_at texts index) ≡ Greater)
