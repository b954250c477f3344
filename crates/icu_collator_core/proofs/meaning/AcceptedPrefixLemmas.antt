-- What accepted tables say of prefixes: they are starters, and stand before a starter.
use Rattle.std.proofs.Common.{◌≡◌, ℕ, ◌≤◌, true, false, List, [], ◌∷◌, Option, Some, None, refl, sym, ◌∙◌, arith}
use Rattle.std.specs.Prelude.{◌==◌, ◌&&◌, leb, length, reverse}
use Rattle.std.specs.Char.{IsScalar}
use Rattle.std.specs.List.{list_all}
use Rattle.std.specs.Option.{is_some}
use Rattle.std.proofs.lemmas.Bool.{and_from, and_parts, eqb-true, false≢true, leb-true, true≢false}
use Rattle.std.proofs.lemmas.Option.{option_and_then_some}
use lib.Utf8.{scalar, scalars}
use Rattle.icu_normalizer_core.specs.Canonical.{Canonical, is_starter}
use Rattle.icu_collator_types.specs.declared.elements.Element.{Element}
use Rattle.icu_collator_types.specs.declared.elements.word_tags.Tag.TheVariants.{Prefix}
use Rattle.icu_collator_types.specs.ElementWords.{has_tag}
use Rattle.icu_collator_core.specs.declared.tables.CollationTables.{CollationTables}
use Rattle.icu_collator_core.specs.declared.tables.data.CollationData.{CollationData}
use Rattle.icu_collator_core.specs.Acceptance.{IsAccepted}
use Rattle.icu_collator_core.specs.ContextRules.{KeepsContextRules, is_prefix, is_prefix_character}
use Rattle.icu_collator_core.specs.Elements.{longest_prefix}
use Rattle.icu_collator_core.specs.MovedMarks.{KnowNoMarksBefore}
use Rattle.icu_collator_core.specs.Pools.{elements_of_word, prefix_word}
use Rattle.icu_collator_core.specs.TableMeaning.{TableWord, counting_word, pools_of, recorded_by, recorded_in, secondary_word, weights_of, word_at, word_in}
use Rattle.icu_collator_core.proofs.lookups.PrefixLemmas.{scalars_back}
use Rattle.icu_collator_core.proofs.meaning.AcceptedWeightLemmas.{accepted_weights}
use Rattle.icu_collator_core.proofs.meaning.ContextTextLemmas.{text_passes}
use Rattle.icu_collator_core.proofs.meaning.CountingWordLemmas.{counting_holds, in_some, jamo_word, mark_word}
use Rattle.icu_collator_core.proofs.meaning.GoodWordLemmas.{asked}
use Rattle.icu_collator_core.proofs.meaning.StatedWordLemmas.{jamo_unprefixed}
use Rattle.icu_collator_core.proofs.meaning.WordTagLemmas.{no_tag}
use Rattle.icu_collator_core.proofs.readings.MovedMarkLemmas.{list_all-reverse}

-- what a word says of a character after others, it says of a starter after starters
abbrev KnowsNoMarks : Canonical → ℕ → TableWord → Type 0
KnowsNoMarks canonical c entry =
    (b : ℕ) (bs : List ℕ) (es : List Element) → scalars (b ∷ bs) ≡ true → recorded_by entry c (b ∷ bs) [] ≡ Some es
    → (is_starter canonical c ≡ true) × (list_all (is_starter canonical) (b ∷ bs) ≡ true)

-- ---- Words

prefixed_by_word : (entry : TableWord) (c b : ℕ) (bs : List ℕ) (es : List Element) → recorded_by entry c (b ∷ bs) [] ≡ Some es
    → (one : ℕ) × (prefix_word entry.pools entry.word (b ∷ bs) ≡ Some one)
unfolding recorded_by
prefixed_by_word entry c b bs es h =
    option_and_then_some (elements_of_word entry.pools) (prefix_word entry.pools entry.word (b ∷ bs)) es h (λ one found told. (one, found))

-- a word with no prefixes says nothing of a character after others
unprefixed_knows : (canonical : Canonical) (c : ℕ) (entry : TableWord) → has_tag Prefix entry.word ≡ false → KnowsNoMarks canonical c entry
unfolding prefix_word
unprefixed_knows canonical c entry none b bs es s h =
    let found = prefixed_by_word entry c b bs es h
    in absurd (true≢false (sym (asked (has_tag Prefix entry.word) _ found.0 found.1).0 ∙ none))

starters_in : (canonical : Canonical) (digit : ℕ → Option ℕ) (cs : List ℕ) → list_all (is_prefix_character canonical digit) cs ≡ true
    → list_all (is_starter canonical) cs ≡ true
starters_in canonical digit [] h = refl
starters_in canonical digit (c ∷ cs) h =
    let both = and_parts (is_prefix_character canonical digit c) (list_all (is_prefix_character canonical digit) cs) h
    in and_from _ _ (and_parts (is_starter canonical c) _ both.0).0 (starters_in canonical digit cs both.1)

-- the word that data have for a character, where it keeps the rules on contexts
source_knows : (canonical : Canonical) (digit : ℕ → Option ℕ) (source : CollationData) (c : ℕ)
    → KeepsContextRules canonical digit (word_in source c) c → KnowsNoMarks canonical c (word_in source c)
unfolding prefix_word
source_knows canonical digit source c rules b bs es s h =
    let found = prefixed_by_word (word_in source c) c b bs es h
    in let both = asked (has_tag Prefix (word_at source c)) _ found.0 found.1
    in let passes = text_passes (is_prefix canonical digit) (pools_of source) (word_at source c) (reverse (b ∷ bs)) found.0 (scalars_back (b ∷ bs) s) (rules.prefixes both.0) both.1
    in let starters = starters_in canonical digit (reverse (b ∷ bs)) (and_parts (leb (length (reverse (b ∷ bs))) longest_prefix) _ passes).1
    in (
      (and_parts (is_starter canonical c) _ (rules.prefixed both.0)).0,
      sym (list_all-reverse (is_starter canonical) (b ∷ bs)) ∙ starters,
    )

-- ---- Tables

mark_unprefixed : (s : ℕ) → has_tag Prefix (secondary_word s) ≡ false
mark_unprefixed s = no_tag Prefix (secondary_word s) (λ same. omega (arith, same))

module _ (canonical : Canonical) (tables : CollationTables) (accepted : IsAccepted canonical tables) where
  counting_knows : (c : ℕ) → IsScalar c → KnowsNoMarks canonical c (counting_word canonical tables c)
  counting_knows c s =
      counting_holds canonical tables c (KnowsNoMarks canonical c)
      (source_knows canonical (weights_of canonical tables).digit tables.root c (accepted.characters.contexts.0 c s))
      (λ source is. source_knows canonical (weights_of canonical tables).digit source c ((in_some tables.tailoring source _ is accepted.characters.contexts.1) c s))
      (λ secondary is. unprefixed_knows canonical c (mark_word tables secondary) (mark_unprefixed secondary))
      (λ yes. unprefixed_knows canonical c (jamo_word tables c) (jamo_unprefixed tables c accepted.jamo yes))

  some_of : (o : Option (List Element)) → is_some o ≡ true → (es : List Element) × (o ≡ Some es)
  some_of None h = absurd (false≢true h)
  some_of (Some es) h = (es, refl)

  known_at : (b : ℕ) (bs : List ℕ) (c : ℕ) → is_some ((weights_of canonical tables).recorded (b ∷ bs) (c ∷ [])) ≡ true
      → (canonical.class c ≡ 0) × (list_all (λ d. canonical.class d == 0) (b ∷ bs) ≡ true)
  unfolding recorded_in
  known_at b bs c h =
      let some = some_of (recorded_in (counting_word canonical tables) (b ∷ bs) (c ∷ [])) h
      in let both = asked (scalars (b ∷ bs) && scalars (c ∷ [])) (recorded_by (counting_word canonical tables c) c (b ∷ bs) []) some.0 some.1
      in let characters = and_parts (scalars (b ∷ bs)) (scalars (c ∷ [])) both.0
      in let known = counting_knows c (and_parts (scalar c) (scalars []) characters.1).0 b bs some.0 characters.0 both.1
      in (eqb-true (canonical.class c) 0 known.0, known.1)

  -- accepted tables record no mark in a prefix, and none after one
  pub accepted_tables_know_no_marks_before : KnowNoMarksBefore canonical.class (weights_of canonical tables)
  accepted_tables_know_no_marks_before = record { at = known_at }

  -- the value of a digit has one figure
  pub accepted_digit : (c d : ℕ) → (weights_of canonical tables).digit c ≡ Some d → d ≤ 9
  accepted_digit c d h = leb-true d 9 ((accepted_weights canonical tables accepted).digits c d h)
