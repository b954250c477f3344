-- What accepted tables make unsafe: just the characters that stand later in recorded texts or have recorded prefixes.
use Rattle.std.proofs.Common.{◌≡◌, ◌↔◌, ◌⊎◌, inl, inr, ⊎_elim, ℕ, true, false, List, [], ◌∷◌, Option, Some, None, refl, ap, sym, subst, ◌∙◌, arith}
use Rattle.std.specs.Prelude.{◌&&◌, MatchOption}
use Rattle.std.specs.Char.{IsScalar}
use Rattle.std.specs.List.{Contains}
use Rattle.std.proofs.lemmas.Bool.{and_from, and_parts, cond-true, true≢false}
use Rattle.std.proofs.lemmas.Option.{none-some}
use lib.Utf8.{scalar, scalars}
use Rattle.icu_normalizer_core.specs.Canonical.{Canonical}
use Rattle.icu_collator_types.specs.declared.elements.Element.{Element}
use Rattle.icu_collator_types.specs.declared.elements.word_tags.Tag.TheVariants.{Contraction, Prefix}
use Rattle.icu_collator_types.specs.ElementWords.{has_tag}
use Rattle.icu_collator_core.specs.declared.tables.CollationTables.{CollationTables}
use Rattle.icu_collator_core.specs.declared.tables.data.CollationData.{CollationData}
use Rattle.icu_collator_core.specs.Acceptance.{IsAccepted}
use Rattle.icu_collator_core.specs.Pools.{unprefixed_word}
use Rattle.icu_collator_core.specs.TableMeaning.{TableWord, counting_word, recorded_by, recorded_in, secondary_word, weights_of, word_at}
use Rattle.icu_collator_core.specs.UnsafeWords.{IsUnsafeIn, IsUnsafeInTailoring, WordMakesUnsafe, names_context}
use Rattle.icu_collator_core.specs.UnsafeCharacters.{HasPrefix, IsUnsafeByRecords, StandsLater}
use Rattle.icu_collator_core.specs.Weights.{Weights}
use Rattle.icu_collator_core.proofs.apart.GrowthLemmas.{none_in}
use Rattle.icu_collator_core.proofs.meaning.CountingWordLemmas.{counting_holds, in_some, jamo_word, mark_word}
use Rattle.icu_collator_core.proofs.meaning.GoodWordLemmas.{asked}
use Rattle.icu_collator_core.proofs.meaning.StatedWordLemmas.{jamo_untagged}
use Rattle.icu_collator_core.proofs.meaning.WordTagLemmas.{no_tag, unprefixed_same}
use Rattle.icu_collator_core.proofs.unsafety.UnsafeWordLemmas.{AreShortKeys, RecordsBefore, RecordsBehind, before_makes_unsafe, behind_makes_unsafe, source_short, tagged_names, unsafe_records, unsafe_tagged, untagged_short}

mark_unprefixed : (s : ℕ) → has_tag Prefix (secondary_word s) ≡ false
mark_unprefixed s = no_tag Prefix (secondary_word s) (λ same. omega (arith, same))

mark_uncontracted : (s : ℕ) → has_tag Contraction (secondary_word s) ≡ false
mark_uncontracted s = no_tag Contraction (secondary_word s) (λ same. omega (arith, same))

-- what holds of the tailoring, if there is one, is so of one that is there
there_is : (o : Option CollationData) (source : CollationData) (P : CollationData → Type 0) → o ≡ Some source → P source → MatchOption o ⊥ P
there_is o source P is p = subst (λ o. MatchOption o ⊥ P) (sym is) p

found_there : (o : Option CollationData) (P : CollationData → Type 0) → MatchOption o ⊥ P → (source : CollationData) × (o ≡ Some source) × P source
found_there None P h = absurd h
found_there (Some source) P h = (source, refl, h)

module _ (canonical : Canonical) (tables : CollationTables) (accepted : IsAccepted canonical tables) where
  abbrev weights : Weights
  weights = weights_of canonical tables

  abbrev counting : ℕ → TableWord
  counting = counting_word canonical tables

  -- ---- Words that count

  counting_short : (c : ℕ) → IsScalar c → AreShortKeys (counting c)
  counting_short c s =
      counting_holds canonical tables c AreShortKeys
      (source_short canonical weights.digit tables.root c (accepted.characters.contexts.0 c s))
      (λ source is. source_short canonical weights.digit source c ((in_some tables.tailoring source _ is accepted.characters.contexts.1) c s))
      (λ secondary is. untagged_short (mark_word tables secondary) (mark_unprefixed secondary) (mark_uncontracted secondary))
      (λ yes. untagged_short (jamo_word tables c) (jamo_untagged tables c accepted.jamo yes Prefix (omega arith)) (jamo_untagged tables c accepted.jamo yes Contraction (omega arith)))

  -- the character's word in the root names a context, or that in the tailoring
  abbrev NamesContext : ℕ → Type 0
  NamesContext c =
      (names_context (word_at tables.root c) ≡ true) ⊎ MatchOption tables.tailoring ⊥ (λ source. names_context (word_at source c) ≡ true)

  -- a word that has a tag for contexts
  abbrev IsTagged : TableWord → Type 0
  IsTagged entry = (has_tag Contraction (unprefixed_word entry.pools entry.word) ≡ true) ⊎ (has_tag Prefix entry.word ≡ true)

  untagged : (entry : TableWord) → has_tag Prefix entry.word ≡ false → has_tag Contraction entry.word ≡ false → IsTagged entry → ⊥
  untagged entry prefix contraction tagged =
      ⊎_elim
      (λ (yes : has_tag Contraction (unprefixed_word entry.pools entry.word) ≡ true).
      true≢false (sym yes ∙ ap (has_tag Contraction) (unprefixed_same entry.pools entry.word prefix) ∙ contraction))
      (λ (yes : has_tag Prefix entry.word ≡ true). true≢false (sym yes ∙ prefix))
      tagged

  counting_names : (c : ℕ) → IsTagged (counting c) → NamesContext c
  counting_names c =
      counting_holds canonical tables c (λ entry. IsTagged entry → NamesContext c)
      (λ tagged. inl (tagged_names tables.root c tagged))
      (λ source is tagged. inr (there_is tables.tailoring source (λ one. names_context (word_at one c) ≡ true) is (tagged_names source c tagged)))
      (λ secondary is tagged. absurd (untagged (mark_word tables secondary) (mark_unprefixed secondary) (mark_uncontracted secondary) tagged))
      (λ yes tagged. absurd (untagged (jamo_word tables c)
      (jamo_untagged tables c accepted.jamo yes Prefix (omega arith)) (jamo_untagged tables c accepted.jamo yes Contraction (omega arith)) tagged))

  -- ---- What is recorded

  recorded_at : (c : ℕ) (prefix later : List ℕ) (es : List Element) → scalars prefix ≡ true → IsScalar c → scalars later ≡ true
      → recorded_by (counting c) c prefix later ≡ Some es → weights.recorded prefix (c ∷ later) ≡ Some es
  unfolding recorded_in
  recorded_at c prefix later es p s l h =
      cond-true (scalars prefix && scalars (c ∷ later)) (recorded_by (counting c) c prefix later) None
      (and_from (scalars prefix) (scalars (c ∷ later)) p (and_from (scalar c) (scalars later) s l)) ∙ h

  -- what is recorded is so by the word of the first character
  record ByWord (prefix : List ℕ) (c : ℕ) (later : List ℕ) (es : List Element) : Type 0 where
    pub prefixed : scalars prefix ≡ true
    pub scalar : IsScalar c
    pub scalars : scalars later ≡ true
    pub recorded : recorded_by (counting c) c prefix later ≡ Some es

  by_word : (prefix : List ℕ) (c : ℕ) (later : List ℕ) (es : List Element) → weights.recorded prefix (c ∷ later) ≡ Some es → ByWord prefix c later es
  unfolding recorded_in
  by_word prefix c later es h =
      let both = asked (scalars prefix && scalars (c ∷ later)) (recorded_by (counting c) c prefix later) es h in
      let parts = and_parts (scalars prefix) (scalars (c ∷ later)) both.0 in
      let own = and_parts (scalar c) (scalars later) parts.1 in
      record { prefixed = parts.0; scalar = own.0; scalars = own.1; recorded = both.1 }

  -- ---- Characters that are unsafe

  -- a word of a character makes it unsafe
  abbrev pub IsUnsafeBySome : ℕ → Type 0
  IsUnsafeBySome d = (c : ℕ) × IsScalar c × WordMakesUnsafe (counting c) c d

  later_unsafe : (prefix : List ℕ) (c : ℕ) (later : List ℕ) (es : List Element) (d : ℕ) → ByWord prefix c later es → Contains later d → IsUnsafeBySome d
  unfolding recorded_by
  later_unsafe [] c later es d by within = (c, by.scalar, behind_makes_unsafe (counting c) c later es d (counting_short c by.scalar) by.scalars by.recorded within)
  later_unsafe (b ∷ bs) c [] es d by within = absurd (none_in d within)
  later_unsafe (b ∷ bs) c (x ∷ xs) es d by within = absurd (none-some es by.recorded)

  prefix_unsafe : (b : ℕ) (bs : List ℕ) (c : ℕ) (later : List ℕ) (es : List Element) → ByWord (b ∷ bs) c later es → IsUnsafeBySome c
  unfolding recorded_by
  prefix_unsafe b bs c [] es by = (c, by.scalar, before_makes_unsafe (counting c) c b bs es (counting_short c by.scalar) by.prefixed by.recorded)
  prefix_unsafe b bs c (x ∷ xs) es by = absurd (none-some es by.recorded)

  word_unsafe : (d : ℕ) → IsUnsafeByRecords weights d → IsUnsafeBySome d
  word_unsafe d (inl later) =
      later_unsafe later.prefix later.first later.later later.elements d (by_word later.prefix later.first later.later later.elements later.recorded) later.within
  word_unsafe d (inr has) =
      prefix_unsafe has.nearest has.further d has.later has.elements (by_word (has.nearest ∷ has.further) d has.later has.elements has.recorded)

  stands_later : (c d : ℕ) → IsScalar c → RecordsBehind (counting c) c d → StandsLater weights d
  stands_later c d s behind = record {
    prefix = [];
    first = c;
    later = behind.later;
    elements = behind.elements;
    recorded = recorded_at c [] behind.later behind.elements refl s behind.scalars behind.recorded;
    within = behind.within;
  }

  has_prefix : (c : ℕ) → IsScalar c → RecordsBefore (counting c) c → HasPrefix weights c
  has_prefix c s before = record {
    nearest = before.nearest;
    further = before.further;
    later = [];
    elements = before.elements;
    recorded = recorded_at c (before.nearest ∷ before.further) [] before.elements before.scalars s refl before.recorded;
  }

  is_unsafe_by_records : (d : ℕ) → IsUnsafeBySome d → IsUnsafeByRecords weights d
  is_unsafe_by_records d by =
      ⊎_elim
      (λ (behind : RecordsBehind (counting by.0) by.0 d). inl (stands_later by.0 d by.1 behind))
      (λ (before : (d ≡ by.0) × RecordsBefore (counting by.0) by.0). inr (subst (HasPrefix weights) (sym before.0) (has_prefix by.0 by.1 before.1)))
      (unsafe_records (counting by.0) by.0 d by.2)

  -- ---- All that is gathered

  gathered : (d : ℕ) → IsUnsafeBySome d → IsUnsafeIn canonical tables tables.root d ⊎ IsUnsafeInTailoring canonical tables d
  gathered d by =
      ⊎_elim
      (λ (root : names_context (word_at tables.root by.0) ≡ true). inl (by.0, (by.1, root, by.2)))
      (λ (other : MatchOption tables.tailoring ⊥ (λ source. names_context (word_at source by.0) ≡ true)).
      let found = found_there tables.tailoring (λ source. names_context (word_at source by.0) ≡ true) other in
      inr (there_is tables.tailoring found.0 (λ source. IsUnsafeIn canonical tables source d) found.1 (by.0, (by.1, found.2, by.2))))
      (counting_names by.0 (unsafe_tagged (counting by.0) by.0 d by.2))

  unsafe_in : (d : ℕ) → IsUnsafeIn canonical tables tables.root d ⊎ IsUnsafeInTailoring canonical tables d → IsUnsafeBySome d
  unsafe_in d (inl root) = (root.0, root.1.0, root.1.2)
  unsafe_in d (inr tailoring) =
      let found = found_there tables.tailoring (λ source. IsUnsafeIn canonical tables source d) tailoring in (found.2.0, found.2.1.0, found.2.1.2)

  pub all_unsafe : (d : ℕ) → (IsUnsafeIn canonical tables tables.root d ⊎ IsUnsafeInTailoring canonical tables d) ↔ IsUnsafeByRecords weights d
  all_unsafe d = (λ g. is_unsafe_by_records d (unsafe_in d g), λ t. gathered d (word_unsafe d t))
