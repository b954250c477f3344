-- Tables that are packed are built of the maps.
use Rattle.std.proofs.Common.{◌≡◌, ℕ, ◌<◌, ◌≤◌, ◌%◌, ◌^◌, ⊎_elim, Bool, true, false, cond, List, [], Option, sym, ap, subst, ◌∙◌, arith}
use Rattle.std.specs.Char.{IsScalar}
use Rattle.std.specs.Option.{unwrap_or, IsSomeAnd}
use Rattle.icu_codepointtrie.specs.BuiltTries.{IsTrieOf}
use Rattle.icu_codepointtrie.specs.CodePointMaps.{CodePointMap, mapped}
use Rattle.icu_codepointtrie.specs.Slots.{TrieTables, value_at}
use Rattle.icu_normalizer_core.specs.declared.builder.given.GivenClass.{GivenClass}
use Rattle.icu_normalizer_core.specs.declared.builder.given.GivenMapping.{GivenMapping}
use Rattle.icu_normalizer_core.specs.declared.canonical.tables.CanonicalTables.{CanonicalTables}
use Rattle.icu_normalizer_core.specs.declared.canonical.tables.CanonicalFault.{CanonicalFault}
use Rattle.icu_normalizer_core.specs.declared.canonical.tables.CanonicalFault.TheVariants.{BadValue, BadList, Loop, BuiltIn, BadPair}
use Rattle.icu_normalizer_core.specs.BuiltIn.{is_syllable}
use Rattle.icu_normalizer_core.specs.BuiltMaps.{AreBuiltOf, AreStepsOf, ArePairsOf, HasPlainWords, IsWordTrieOf}
use Rattle.icu_normalizer_core.specs.CanonicalFaults.{IsAccepted, IsFirstFault}
use Rattle.icu_normalizer_core.specs.CanonicalLists.{CanonicalLists}
use Rattle.icu_normalizer_core.specs.CanonicalMeaning.{lists_of}
use Rattle.icu_normalizer_core.specs.CanonicalWords.{plain_word}
use Rattle.icu_normalizer_core.specs.CharacterWords.{class_with, IsWordOf, HasNamed, HasRightWords, HasWords, AreStarters, unnamed_word}
use Rattle.icu_normalizer_core.specs.CanonicalMaps.{CanonicalMaps, KeepCanonicalRules}
use Rattle.icu_normalizer_core.proofs.building.AcceptedMappingLemmas.{built_accepted}
use Rattle.icu_normalizer_core.proofs.building.CoveredLemmas.{among_or_not, covered}
use Rattle.icu_normalizer_core.proofs.decoded.ScalarLemmas.{scalar_below}

pub scalar_bound : (c : ℕ) → IsScalar c → c ≤ 0x10_FFFF
scalar_bound c h = let below = scalar_below c h in omega (arith, below)

-- the trie reads the words
pub word_read : (classes : List GivenClass) (mappings : List GivenMapping) (steps scalars24 list : List ℕ) (words : CodePointMap ℕ) (trie : TrieTables ℕ)
    → HasWords classes steps scalars24 list words → HasNamed classes mappings list → AreStepsOf mappings steps → IsTrieOf words trie → IsWordTrieOf classes steps scalars24 trie
word_read classes mappings steps scalars24 list words trie has named of is = record {
  cells = λ c h. is.cells c;
  words = λ c h.
      let bound = scalar_bound c h in
      let w = covered classes mappings steps scalars24 list words has named of.listed c bound in
      let small : mapped words c % 2 ^ 30 ≡ mapped words c = let f = w.fits in omega arith in
      let same : plain_word (unwrap_or (value_at trie c) 0) ≡ mapped words c =
      ap (λ (o : Option ℕ). plain_word (unwrap_or o 0)) (is.within c bound) ∙ small in
      subst (λ (n : ℕ). IsWordOf (class_with classes c) steps scalars24 c n) (sym same) w;
}

-- no word has one of the two uppermost bits
unnamed_small : (c : ℕ) → unnamed_word c < 2 ^ 30
unnamed_small c = by (is_syllable c)
  where
    by : (b : Bool) → cond b 1 0 < 2 ^ 30
    by true = omega arith
    by false = omega arith

pub plain_read : (IsRight : ℕ → ℕ → Type 0) (list : List ℕ) (words : CodePointMap ℕ) (trie : TrieTables ℕ) → ((c word : ℕ) → IsRight c word → word < 2 ^ 30)
    → HasRightWords IsRight list words → IsTrieOf words trie → HasPlainWords trie
plain_read IsRight list words trie fits has is c bound =
    let small : mapped words c < 2 ^ 30 =
    ⊎_elim
    (λ yes. fits c (mapped words c) (has.among c bound yes))
    (λ no. subst (λ (w : ℕ). w < 2 ^ 30) (sym (has.others c bound no)) (unnamed_small c))
    (among_or_not list c) in
    subst (λ (o : Option ℕ). IsSomeAnd o (λ word. word < 2 ^ 30)) (sym (is.within c bound)) small

pub put_together : (classes : List GivenClass) (mappings : List GivenMapping) (tables : CanonicalTables)
    → tables.scalars16 ≡ [] → AreStepsOf mappings tables.steps → AreStarters classes tables.steps → ArePairsOf mappings tables.pairs
    → IsWordTrieOf classes tables.steps tables.scalars24 tables.trie → AreBuiltOf (record { classes = classes; mappings = mappings }) (lists_of tables)
put_together classes mappings tables none steps starters pairs trie = record {
  has_word = trie.cells;
  words = trie.words;
  scalars16 = none;
  triples = steps.triples;
  steps = steps.listed;
  starters = starters;
  pairs = pairs.form;
  listed_pairs = pairs.listed;
}

-- a fault refutes that the tables are accepted
pub fault_refutes : (lists : CanonicalLists) (fault : CanonicalFault) → IsFirstFault lists fault → IsAccepted lists → ⊥
fault_refutes lists (BadValue c) (s, o, l) a = a.values c s o
fault_refutes lists (BadList c) (n, (s, o, l)) a = a.full_lists c s o
fault_refutes lists (Loop c) (n, m, (s, o, l)) a = o (a.ends c s)
fault_refutes lists (BuiltIn c) (n, m, e, (s, o, l)) a = a.built_ins c s o
fault_refutes lists (BadPair c) (n, m, e, b, (s, o, l)) a = a.composing c s o

-- so maps of which the tables are built break the rules
pub fault_breaks : (maps : CanonicalMaps) (lists : CanonicalLists) (fault : CanonicalFault) → AreBuiltOf maps lists → IsFirstFault lists fault → KeepCanonicalRules maps → ⊥
fault_breaks maps lists fault built first rules = fault_refutes lists fault first (built_accepted maps lists built rules)
