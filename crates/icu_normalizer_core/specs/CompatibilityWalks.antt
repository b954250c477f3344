-- What a walk over the code points has found so far of compatibility words that are at fault.
use Rattle.std.specs.Prelude.{◌≡◌, ℕ, ◌<◌, ◌≤◌, ◌⊎◌, true, [], ◌∷◌, Option, None, MatchOption}
use Rattle.std.specs.Char.{IsScalar}
use Rattle.icu_normalizer_core.specs.declared.canonical.canonical_words.Words.{Words}
use Rattle.icu_normalizer_core.specs.declared.canonical.tables.CanonicalTables.{CanonicalTables}
use Rattle.icu_normalizer_core.specs.declared.compatibility.check.walk.Faults.{Faults}
use Rattle.icu_codepointtrie.specs.Slots.{has_cell, value_at}
use Rattle.icu_normalizer_core.specs.BuiltIn.{is_jamo, is_syllable}
use Rattle.icu_normalizer_core.specs.CanonicalFaults.{IsLeastOffender}
use Rattle.icu_normalizer_core.specs.CanonicalLists.{CanonicalLists}
use Rattle.icu_normalizer_core.specs.Compatibility.{fixed_list}
use Rattle.icu_normalizer_core.specs.CompatibilityFaults.{OffendsWord, OffendsWordList, OffendsFixed}
use Rattle.icu_normalizer_core.specs.Words.{WordLists, full_in}

-- both words are 0, and no full list is fixed
abbrev pub SaysNothing : CanonicalLists → WordLists → ℕ → Type 0
SaysNothing lists words c = (words.has_word c ≡ true) × (words.word c ≡ 0) × (lists.word c ≡ 0) × (fixed_list c ≡ None)

-- each jamo is its own full list
abbrev pub AreLettersOwn : WordLists → Type 0
AreLettersOwn words = (c : ℕ) → is_jamo c ≡ true → full_in words c ≡ c ∷ []

-- both words are those of syllables, and it is one; the jamo are their own full lists
abbrev pub IsSilentSyllable : CanonicalLists → WordLists → ℕ → Type 0
IsSilentSyllable lists words c = (words.has_word c ≡ true) × (words.word c ≡ 1) × (lists.word c ≡ 1) × (is_syllable c ≡ true) × AreLettersOwn words

-- nothing can be wrong with it
abbrev pub IsHarmless : CanonicalLists → WordLists → ℕ → Type 0
IsHarmless lists words c = SaysNothing lists words c ⊎ IsSilentSyllable lists words c

-- nor with each code point from start to before the end
abbrev pub AreHarmless : CanonicalLists → WordLists → ℕ → ℕ → Type 0
AreHarmless lists words start end = (c : ℕ) → start ≤ c → c < end → IsHarmless lists words c

-- both tries have one word from start to before the end
pub record IsCommonRun (tables : CanonicalTables) (others : Words) (start end : ℕ) : Type 0 where
  pub canonical : (c : ℕ) → start ≤ c → c < end → value_at tables.trie c ≡ value_at tables.trie start
  pub words : (c : ℕ) → start ≤ c → c < end → value_at others.trie.now c ≡ value_at others.trie.now start
  pub cells : (c : ℕ) → start ≤ c → c < end → has_cell others.trie.now c ≡ has_cell others.trie.now start

-- no character below the code point offends
abbrev pub NoneOffendsBelow : (ℕ → Type 0) → ℕ → Type 0
NoneOffendsBelow Offends code = (d : ℕ) → IsScalar d → d < code → Offends d → ⊥

-- the least offender, if one is below the code point
abbrev pub IsLeastBelow : (ℕ → Type 0) → ℕ → Option ℕ → Type 0
IsLeastBelow Offends code found = MatchOption found (NoneOffendsBelow Offends code) (IsLeastOffender Offends)

-- below the code point no word is bad, and these are the first faults of the other kinds
pub record AreFaultsBelow (lists : CanonicalLists) (words : WordLists) (code : ℕ) (faults : Faults) : Type 0 where
  pub values : NoneOffendsBelow (OffendsWord lists words) code
  pub full_lists : IsLeastBelow (OffendsWordList lists words) code faults.full_list
  pub built_ins : IsLeastBelow (OffendsFixed words) code faults.built_in
