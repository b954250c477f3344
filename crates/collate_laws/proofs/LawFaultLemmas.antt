-- Tables that are accepted have no first fault.
use Rattle.std.proofs.Common.{ℕ, sym, ◌∙◌, Option, Some, None, ⊎_elim}
use Rattle.std.specs.Prelude.{IfSome, MatchOption}
use Rattle.std.proofs.lemmas.Bool.{true≢false}
use Rattle.icu_normalizer_core.specs.declared.canonical.tables.CanonicalFault.{CanonicalFault}
use Rattle.icu_normalizer_core.specs.declared.canonical.tables.CanonicalFault.TheVariants.{BadValue, BadList, Loop, BuiltIn, BadPair}
use Rattle.icu_normalizer_core.specs.CanonicalLists.{CanonicalLists}
use Rattle.icu_normalizer_core.specs.CompatibilityFaults.{AreAcceptedWords, IsFirstWordFault}
use Rattle.icu_normalizer_core.specs.Canonical.{Canonical}
use Rattle.icu_normalizer_core.specs.Words.{WordLists}
use Rattle.icu_collator_core.specs.declared.check.TableFault.{TableFault}
use Rattle.icu_collator_core.specs.declared.check.TableFault.TheVariants.{Trie, Word, Index, Context, Weight, PrefixOfWeight, Diacritics, Jamo, Reordering, SpecialPrimaries, Memory}
use Rattle.icu_collator_core.specs.declared.check.layers.Layer.{Layer}
use Rattle.icu_collator_core.specs.declared.check.layers.Layer.TheVariants.{Root, Tailoring}
use Rattle.icu_collator_core.specs.declared.tables.CollationTables.{CollationTables}
use Rattle.icu_collator_core.specs.declared.tables.data.CollationData.{CollationData}
use Rattle.icu_collator_core.specs.Acceptance.{IsAccepted, IsFirstFault}
use Rattle.icu_collator_core.specs.WeightFaults.{IsJamoFault}
use Rattle.icu_collator_core.specs.ContextFaults.{HasContexts}
use Rattle.icu_collator_core.specs.WordWeights.{HasWeights}
use Rattle.icu_collator_core.specs.TableFaults.{AllPass, AllPassIn, HasCell, HasIndices, HasWord, IsFirstRefused, IsLeastRefused}

-- words that are accepted have none
pub word_fault_refutes : (lists : CanonicalLists) (words : WordLists) (fault : CanonicalFault)
    → IsFirstWordFault lists words fault → AreAcceptedWords lists words → ⊥
word_fault_refutes lists words (BadValue c) (s, o, l) a = a.values c s o
word_fault_refutes lists words (BadList c) (n, (s, o, l)) a = a.full_lists c s o
word_fault_refutes lists words (BuiltIn c) (n, m, (s, o, l)) a = a.built_ins c s o
word_fault_refutes lists words (Loop c) none a = none
word_fault_refutes lists words (BadPair c) none a = none

-- no character is refused where all pass
least_refutes : (Passes : ℕ → Type 0) (c : ℕ) → IsLeastRefused Passes c → AllPass Passes → ⊥
least_refutes Passes c (s, o, l) all = o (all c s)

tailoring_refutes : (Passes : Layer → CollationData → ℕ → Type 0) (c : ℕ) (tailoring : Option CollationData)
    → MatchOption tailoring ⊥ (λ source. IsLeastRefused (Passes Tailoring source) c)
    → IfSome tailoring (λ source. AllPass (Passes Tailoring source)) → ⊥
tailoring_refutes Passes c None none all = none
tailoring_refutes Passes c (Some source) least all = least_refutes (Passes Tailoring source) c least all

refused_refutes : (tables : CollationTables) (Passes : Layer → CollationData → ℕ → Type 0) (c : ℕ)
    → IsFirstRefused tables Passes c → AllPassIn tables Passes → ⊥
refused_refutes tables Passes c is all =
    ⊎_elim (λ root. least_refutes (Passes Root tables.root) c root all.0)
    (λ behind. tailoring_refutes Passes c tables.tailoring behind.1 all.1) is

-- tables that are accepted have none
pub table_fault_refutes : (canonical : Canonical) (tables : CollationTables) (fault : TableFault)
    → IsFirstFault canonical tables fault → IsAccepted canonical tables → ⊥
table_fault_refutes canonical tables (Trie c) is a = refused_refutes tables HasCell c is a.characters.cells
table_fault_refutes canonical tables (Word c) (n, is) a = refused_refutes tables HasWord c is a.characters.words
table_fault_refutes canonical tables (Index c) (n, m, is) a = refused_refutes tables HasIndices c is a.characters.indices
table_fault_refutes canonical tables (Context c) (n, m, p, is) a = refused_refutes tables (HasContexts canonical tables) c is a.characters.contexts
table_fault_refutes canonical tables (Weight c) (n, m, p, q, is) a = refused_refutes tables (HasWeights tables.special_primaries) c is a.characters.weights
table_fault_refutes canonical tables PrefixOfWeight (h, none) a = none a.apart
table_fault_refutes canonical tables Diacritics (h, p, none) a = true≢false (sym a.diacritics ∙ none)
table_fault_refutes canonical tables (Jamo index) (h, p, d, is) a = jamo_refutes is
  where
    jamo_refutes : IsJamoFault tables index → ⊥
    jamo_refutes is =
        ⊎_elim (λ least. true≢false (sym (a.jamo.sound index least.inside) ∙ least.offends))
        (λ count. count.0 a.jamo.count) is
table_fault_refutes canonical tables Reordering (h, p, d, j, none) a = none a.reordering
table_fault_refutes canonical tables SpecialPrimaries (h, p, d, j, r, none) a = none a.special_primaries
table_fault_refutes canonical tables Memory none a = none
