-- What collation tables are refused for where a word is at fault. Each fault names the least character of its kind, the
-- root's before the tailoring's, and a kind comes only where no earlier one does.
use Rattle.std.specs.Prelude.{ℕ, ◌⊎◌, true, List, ◌++◌, codes, IsTrue, IfSome, MatchOption}
use Rattle.std.specs.Fmt.{decimal, digits}
use Rattle.icu_codepointtrie.specs.Slots.{has_cell}
use Rattle.std.specs.Char.{IsScalar}
use Rattle.icu_normalizer_core.specs.CanonicalFaults.{IsLeastOffender}
use Rattle.icu_collator_core.specs.declared.check.TableFault.{TableFault}
use Rattle.icu_collator_core.specs.declared.check.TableFault.TheVariants.{Trie, Word, Index, Context, Weight, PrefixOfWeight, Diacritics, Jamo, Reordering, SpecialPrimaries, Memory}
use Rattle.icu_collator_core.specs.declared.check.layers.Layer.{Layer}
use Rattle.icu_collator_core.specs.declared.check.layers.Layer.TheVariants.{Root, Tailoring}
use Rattle.icu_collator_core.specs.declared.tables.CollationTables.{CollationTables}
use Rattle.icu_collator_core.specs.declared.tables.data.CollationData.{CollationData}
use Rattle.icu_collator_core.specs.TableMeaning.{pools_of, word_at}
use Rattle.icu_collator_core.specs.WordForms.{IsWord, keeps_special}
use Rattle.icu_collator_core.specs.WordIndices.{IsInside}

-- a fault as it is printed; the code of its character in hexadecimal digits
abbrev pub fault_text : TableFault → List ℕ
fault_text (Trie c) = codes "no word at " ++ digits 16 true c
fault_text (Word c) = codes "bad word at " ++ digits 16 true c
fault_text (Index c) = codes "bad index at " ++ digits 16 true c
fault_text (Context c) = codes "bad context at " ++ digits 16 true c
fault_text (Weight c) = codes "bad weight at " ++ digits 16 true c
fault_text PrefixOfWeight = codes "a weight begins another one"
fault_text Diacritics = codes "bad diacritics"
fault_text (Jamo i) = codes "bad jamo at " ++ decimal i
fault_text Reordering = codes "bad reordering"
fault_text SpecialPrimaries = codes "bad special primaries"
fault_text Memory = codes "out of memory"

-- every character passes
abbrev pub AllPass : (ℕ → Type 0) → Type 0
AllPass Passes = (c : ℕ) → IsScalar c → Passes c

-- the least character that doesn't
abbrev pub IsLeastRefused : (ℕ → Type 0) → ℕ → Type 0
IsLeastRefused Passes c = IsLeastOffender (λ d. Passes d → ⊥) c

-- every character passes, in the root and in the tailoring
abbrev pub AllPassIn : CollationTables → (Layer → CollationData → ℕ → Type 0) → Type 0
AllPassIn tables Passes =
    AllPass (Passes Root tables.root) × IfSome tables.tailoring (λ source. AllPass (Passes Tailoring source))

-- the least character that doesn't pass in the root, or, where all do there, in the tailoring
abbrev pub IsFirstRefused : CollationTables → (Layer → CollationData → ℕ → Type 0) → ℕ → Type 0
IsFirstRefused tables Passes c =
    IsLeastRefused (Passes Root tables.root) c
    ⊎ (AllPass (Passes Root tables.root) × MatchOption tables.tailoring ⊥ (λ source. IsLeastRefused (Passes Tailoring source) c))

-- there is a word
abbrev pub HasCell : Layer → CollationData → ℕ → Type 0
HasCell layer source c = IsTrue (has_cell source.trie c)

-- the word has one of the forms
abbrev pub HasWord : Layer → CollationData → ℕ → Type 0
HasWord layer source c = IsTrue (keeps_special c (word_at source c)) × IsWord layer (pools_of source) (word_at source c)

-- what the word names is in the lists
abbrev pub HasIndices : Layer → CollationData → ℕ → Type 0
HasIndices layer source c = IsInside (pools_of source) (word_at source c)
