-- What compatibility words are refused for, beside canonical tables that are accepted. Each fault names the least character of its kind, and a kind comes only where no earlier one does.
use Rattle.std.specs.Prelude.{◌≡◌, ◌≢◌, ℕ, ◌<◌, ◌⊎◌, Bool, true, false, ◌==◌, ◌&&◌, List, [], ◌∷◌, length, flat_map, Contains, Some}
use Rattle.std.specs.Char.{IsScalar}
use Rattle.icu_normalizer_core.specs.declared.canonical.tables.CanonicalFault.{CanonicalFault}
use Rattle.icu_normalizer_core.specs.declared.canonical.tables.CanonicalFault.TheVariants.{BadValue, BadList, Loop, BuiltIn, BadPair}
use Rattle.icu_normalizer_core.specs.CanonicalFaults.{NoneOffends, IsLeastOffender, begins_with_mark}
use Rattle.icu_normalizer_core.specs.CanonicalLists.{CanonicalLists, canonical_of}
use Rattle.icu_normalizer_core.specs.CanonicalWords.{is_word, states_list}
use Rattle.icu_normalizer_core.specs.Compatibility.{IsUnbound, fixed_list}
use Rattle.icu_normalizer_core.specs.Words.{WordLists, full_in, class_in, is_inside_in}

-- ---- BadValue: no word, one that has none of the forms, or another class than the canonical one

abbrev pub is_good_word : CanonicalLists → WordLists → ℕ → Bool
is_good_word lists words c = (words.has_word c && is_word c (words.word c)) && (class_in words c == (canonical_of lists).class c)

abbrev pub OffendsWord : CanonicalLists → WordLists → ℕ → Type 0
OffendsWord lists words c = is_good_word lists words c ≡ false

-- ---- BadList: a full list outside the lists, too long, with an item that is mapped or no character, or with a mark first; or not the full lists
-- of what canonical mappings leave, one after another, which can't be where no canonical mapping stands

-- an item of a full list is a character and its own full list
abbrev pub IsOwnItem : WordLists → ℕ → Type 0
IsOwnItem words d = IsScalar d × (full_in words d ≡ d ∷ [])

abbrev pub HasOtherItem : WordLists → List ℕ → Type 0
HasOtherItem words list = (d : ℕ) × Contains list d × (IsOwnItem words d → ⊥)

abbrev pub BeginsWithMark : CanonicalLists → WordLists → ℕ → Type 0
BeginsWithMark lists words c = IsUnbound c × (states_list (words.word c) ≡ true) × (begins_with_mark (canonical_of lists) (full_in words c) ≡ true)

abbrev pub OffendsWordList : CanonicalLists → WordLists → ℕ → Type 0
OffendsWordList lists words c =
    (is_inside_in words c ≡ false)
    ⊎ ((8 < length (full_in words c))
    ⊎ (HasOtherItem words (full_in words c)
    ⊎ (BeginsWithMark lists words c
    ⊎ (full_in words c ≢ flat_map (full_in words) ((canonical_of lists).full c)))))

-- ---- BuiltIn: another full list than the one that is fixed; classes are the canonical ones, so they contradict nothing

abbrev pub OffendsFixed : WordLists → ℕ → Type 0
OffendsFixed words c = (list : List ℕ) × (fixed_list c ≡ Some list) × (full_in words c ≢ list)

-- ---- Accepted, or refused by the first fault

pub record AreAcceptedWords (lists : CanonicalLists) (words : WordLists) : Type 0 where
  pub values : NoneOffends (OffendsWord lists words)
  pub full_lists : NoneOffends (OffendsWordList lists words)
  pub built_ins : NoneOffends (OffendsFixed words)

abbrev pub IsFirstWordFault : CanonicalLists → WordLists → CanonicalFault → Type 0
IsFirstWordFault lists words (BadValue c) = IsLeastOffender (OffendsWord lists words) c
IsFirstWordFault lists words (BadList c) = NoneOffends (OffendsWord lists words) × IsLeastOffender (OffendsWordList lists words) c
IsFirstWordFault lists words (BuiltIn c) =
    NoneOffends (OffendsWord lists words) × NoneOffends (OffendsWordList lists words) × IsLeastOffender (OffendsFixed words) c
IsFirstWordFault lists words (Loop c) = ⊥
IsFirstWordFault lists words (BadPair c) = ⊥
