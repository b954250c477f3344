-- Why texts are no strings of a set.
use Rattle.std.specs.Prelude.{◌≡◌, ℕ, ◌-◌, ◌<◌, List, ◌++◌, length, codes, string_bytes}
use Rattle.std.specs.Ordering.{nat_cmp}
use Rattle.std.specs.Cmp.Lexicographic.{slice_cmp}
use Rattle.std.specs.declared.cmp.Ordering.TheVariants.{Greater}
use Rattle.icu_collections_sets.specs.StringList.{IsOneCharacter, text_at, AreStringsUpTo}
use Rattle.icu_collections_sets.specs.declared.codepointinvliststringlist.InvalidStringList.{InvalidStringList}
use Rattle.icu_collections_sets.specs.declared.codepointinvliststringlist.InvalidStringList.TheVariants.{InvalidStringLength, StringListNotUnique, StringListNotSorted}

-- what is wrong with the text at an index: it is one character, else it equals the one before, else it is below that
abbrev pub IsFaultAt : List (List ℕ) → ℕ → InvalidStringList → Type 0
IsFaultAt texts index (InvalidStringLength text) = (string_bytes text ≡ text_at texts index) × IsOneCharacter (text_at texts index)
IsFaultAt texts index (StringListNotUnique text) =
    (string_bytes text ≡ text_at texts index) × (¬ IsOneCharacter (text_at texts index))
    × (0 < index) × (text_at texts (index - 1) ≡ text_at texts index)
IsFaultAt texts index (StringListNotSorted before text) =
    (string_bytes before ≡ text_at texts (index - 1)) × (string_bytes text ≡ text_at texts index) × (¬ IsOneCharacter (text_at texts index))
    × (0 < index) × (slice_cmp nat_cmp (text_at texts (index - 1)) (text_at texts index) ≡ Greater)

-- the first text that something is wrong with, and what
pub record IsFirstFault (texts : List (List ℕ)) (fault : InvalidStringList) : Type 0 where
  pub index : ℕ
  pub within : index < length texts
  pub before : AreStringsUpTo texts index
  pub wrong : IsFaultAt texts index fault

-- the fault as it prints
abbrev pub fault_text : InvalidStringList → List ℕ
fault_text (InvalidStringLength text) = codes "one character alone: " ++ string_bytes text
fault_text (StringListNotUnique text) = codes "twice in the list: " ++ string_bytes text
fault_text (StringListNotSorted before text) = codes "not sorted: " ++ (string_bytes before ++ (codes ", " ++ string_bytes text))
