-- Characters of which tables say nothing and nothing is built in, Hangul syllables, and lists of all others.
use Rattle.std.specs.Prelude.{◌≡◌, ℕ, ◌-◌, ◌*◌, ◌<◌, ◌≤◌, ◌⊎◌, true, List, length, slice_index, None}
use Rattle.icu_codepointtrie.specs.Slots.{has_cell, value_at}
use Rattle.icu_normalizer_core.specs.declared.canonical.tables.CanonicalTables.{CanonicalTables}
use Rattle.icu_normalizer_core.specs.BuiltIn.{built_in_class, is_syllable}
use Rattle.icu_normalizer_core.specs.Canonical.{IsFree}
use Rattle.icu_normalizer_core.specs.CanonicalLists.{CanonicalLists, AreTriples}
use Rattle.icu_normalizer_core.specs.Triples.{IsUnlisted}

-- it has a word, which is 0; it is not below U+0300; nothing is built in of it
abbrev pub IsPlain : CanonicalLists → ℕ → Type 0
IsPlain lists c = (lists.has_word c ≡ true) × (lists.word c ≡ 0) × (0x300 ≤ c) × (built_in_class c ≡ None) × IsFree c

-- it is not below U+0300, and nothing is built in of it
abbrev pub IsNothingBuiltIn : ℕ → Type 0
IsNothingBuiltIn c = (0x300 ≤ c) × (built_in_class c ≡ None) × IsFree c

-- with this word there is nothing to be told of it: it is 0 and nothing is built in, or 1 and that of a syllable
abbrev pub IsSilent : ℕ → ℕ → Type 0
IsSilent word c = ((word ≡ 0) × IsNothingBuiltIn c) ⊎ ((word ≡ 1) × (is_syllable c ≡ true))

-- so it is from start to before the end
abbrev pub AreSilent : ℕ → ℕ → ℕ → Type 0
AreSilent word start end = (c : ℕ) → start ≤ c → c < end → IsSilent word c

-- a Hangul syllable with the word of syllables, which is 1
abbrev pub IsPlainSyllable : CanonicalLists → ℕ → Type 0
IsPlainSyllable lists c = (lists.has_word c ≡ true) × (lists.word c ≡ 1) × (is_syllable c ≡ true)

-- there is nothing to be told of it
abbrev pub IsUntold : CanonicalLists → ℕ → Type 0
IsUntold lists c = IsPlain lists c ⊎ IsPlainSyllable lists c

-- there is nothing to be told of each code point from start to before the end
abbrev pub AreUntold : CanonicalLists → ℕ → ℕ → Type 0
AreUntold lists start end = (c : ℕ) → start ≤ c → c < end → IsUntold lists c

-- the trie has one word from start to before the end
pub record IsRun (tables : CanonicalTables) (start end : ℕ) : Type 0 where
  pub words : (c : ℕ) → start ≤ c → c < end → value_at tables.trie c ≡ value_at tables.trie start
  pub cells : (c : ℕ) → start ≤ c → c < end → has_cell tables.trie c ≡ has_cell tables.trie start

-- the number stands in the list
abbrev pub IsIn : List ℕ → ℕ → Type 0
IsIn told c = (i : ℕ) × (i < length told) × (slice_index told i ≡ c)

abbrev pub Rises : List ℕ → Type 0
Rises told = (i j : ℕ) → i < j → j < length told → slice_index told i < slice_index told j

-- the list rises; there is nothing to be told of each code point outside it, which is no triple's where mappings are triples
pub record Tells (lists : CanonicalLists) (told : List ℕ) : Type 0 where
  pub rises : Rises told
  pub words : (c : ℕ) → c < 0x110000 → IsIn told c ⊎ IsUntold lists c
  pub triples : AreTriples lists.steps → (c : ℕ) → c < 0x110000 → IsIn told c ⊎ IsUnlisted lists.steps c

-- of rising triples, counted by threes, those before the index are below the code point and the others are not
pub record IsCursor (steps : List ℕ) (code index : ℕ) : Type 0 where
  pub within : 3 * index ≤ length steps
  pub below : 0 < index → slice_index steps (3 * (index - 1)) < code
  pub above : 3 * index < length steps → code ≤ slice_index steps (3 * index)

-- the list tells of the code points below one; of rising triples those before the index are theirs
pub record TellsBelow (lists : CanonicalLists) (told : List ℕ) (code index : ℕ) : Type 0 where
  pub rises : Rises told
  pub below : (i : ℕ) → i < length told → slice_index told i < code
  pub words : (c : ℕ) → c < code → IsIn told c ⊎ IsUntold lists c
  pub cursor : AreTriples lists.steps → IsCursor lists.steps code index
  pub triples : AreTriples lists.steps → (c : ℕ) → c < code → IsIn told c ⊎ IsUnlisted lists.steps c
