-- What accepted tables say of texts that begin with a mark: they have marks only, and are recorded without the last one too.
use Rattle.std.proofs.Common.{◌≡◌, ◌≢◌, ℕ, ◌-◌, ◌<◌, Bool, true, false, List, [], ◌∷◌, Option, Some, None, refl, sym, ◌∙◌, ap, arith, inl, inr, cond}
use Rattle.std.specs.Prelude.{◌&&◌, ◌||◌, leb, length, not, reverse, take}
use Rattle.std.specs.Char.{IsScalar}
use Rattle.std.specs.List.{list_all}
use Rattle.std.specs.Option.{is_some}
use Rattle.std.proofs.lemmas.Bool.{and_from, and_parts, cases_Bool, cond-false, cond-true, false≢true, lt-leb, or_cases, true≢false}
use Rattle.std.proofs.lemmas.List.{length-reverse}
use Rattle.std.proofs.lemmas.Option.{option_and_then_some}
use lib.Utf8.{scalar, scalars}
use Rattle.icu_normalizer_core.specs.Canonical.{Canonical, is_starter}
use Rattle.icu_collator_types.specs.declared.elements.Element.{Element}
use Rattle.icu_collator_types.specs.declared.elements.word_tags.Tag.{Tag}
use Rattle.icu_collator_types.specs.declared.elements.word_tags.Tag.TheVariants.{Contraction, Digit, Prefix}
use Rattle.icu_collator_types.specs.ElementWords.{has_tag, tag_number}
use Rattle.icu_collator_core.specs.declared.tables.CollationTables.{CollationTables}
use Rattle.icu_collator_core.specs.declared.tables.data.CollationData.{CollationData}
use Rattle.icu_collator_core.specs.Acceptance.{IsAccepted}
use Rattle.icu_collator_core.specs.ContextRules.{KeepsContextRules, begins_with_mark, ends_in_mark, has_marks_last, is_recorded_by, is_recorded_shorter, is_suffix, longest_suffix}
use Rattle.icu_collator_core.specs.Pools.{Pools, default_word, digit_value, elements_of_word, index_of, suffix_word, unprefixed_word}
use Rattle.icu_collator_core.specs.ReadSteps.{weights_for}
use Rattle.icu_collator_core.specs.TableMeaning.{TableWord, counting_word, digit_by, pools_of, recorded_by, recorded_in, secondary_word, weights_of, word_at, word_in}
use Rattle.icu_collator_core.specs.Weights.{Weights}
use Rattle.icu_collator_core.proofs.lookups.MatchLemmas.{scalars_front}
use Rattle.icu_collator_core.proofs.meaning.ContextTextLemmas.{text_passes}
use Rattle.icu_collator_core.proofs.meaning.CountingWordLemmas.{counting_holds, in_some, jamo_word, mark_word}
use Rattle.icu_collator_core.proofs.meaning.GoodWordLemmas.{asked}
use Rattle.icu_collator_core.proofs.meaning.StatedWordLemmas.{jamo_unprefixed, jamo_untagged}
use Rattle.icu_collator_core.proofs.meaning.WordTagLemmas.{no_tag}
use Rattle.icu_collator_core.proofs.readings.MovedMarkLemmas.{list_all-reverse}

-- a text that begins with a mark has marks only, and is recorded without the last one; and the mark is no digit
pub record KnowMark (canonical : Canonical) (weights : Weights) (c : ℕ) : Type 0 where
  pub marks : (suffix : List ℕ) → is_some (weights.recorded [] (c ∷ suffix)) ≡ true → list_all (λ m. not (is_starter canonical m)) suffix ≡ true
  pub shorter : (suffix : List ℕ) → 1 < length suffix → is_some (weights.recorded [] (c ∷ suffix)) ≡ true
      → is_some (weights.recorded [] (c ∷ take (length suffix - 1) suffix)) ≡ true
  pub digit : is_some (weights.digit c) ≡ false

pub mark_for : (numeric : Option ℕ) (canonical : Canonical) (weights : Weights) (c : ℕ) → KnowMark canonical weights c → KnowMark canonical (weights_for numeric weights) c
mark_for numeric canonical weights c known = record { marks = known.marks; shorter = known.shorter; digit = known.digit }

-- so by a word
abbrev KnowsMarks : Canonical → ℕ → TableWord → Type 0
KnowsMarks canonical c entry =
    (d : ℕ) (ds : List ℕ) (es : List Element) → scalars (d ∷ ds) ≡ true → recorded_by entry c [] (d ∷ ds) ≡ Some es
    → (list_all (λ m. not (is_starter canonical m)) (d ∷ ds) ≡ true)
    × (1 < length (d ∷ ds) → is_some (recorded_by entry c [] (take (length (d ∷ ds) - 1) (d ∷ ds))) ≡ true)

-- ---- Words

suffixed_by_word : (entry : TableWord) (c d : ℕ) (ds : List ℕ) (es : List Element) → recorded_by entry c [] (d ∷ ds) ≡ Some es
    → (one : ℕ) × (suffix_word entry.pools entry.word (d ∷ ds) ≡ Some one)
unfolding recorded_by
suffixed_by_word entry c d ds es h =
    option_and_then_some (elements_of_word entry.pools) (suffix_word entry.pools entry.word (d ∷ ds)) es h (λ one found told. (one, found))

-- a word with no suffixes says nothing of longer texts
unsuffixed_knows : (canonical : Canonical) (c : ℕ) (entry : TableWord) → has_tag Contraction (unprefixed_word entry.pools entry.word) ≡ false → KnowsMarks canonical c entry
unfolding suffix_word
unsuffixed_knows canonical c entry none d ds es s h =
    let found = suffixed_by_word entry c d ds es h
    in absurd (true≢false (sym (asked (has_tag Contraction (unprefixed_word entry.pools entry.word)) _ found.0 found.1).0 ∙ none))

no_contraction : (pools : Pools) (word : ℕ) → has_tag Prefix word ≡ false → has_tag Contraction word ≡ false → has_tag Contraction (unprefixed_word pools word) ≡ false
unfolding unprefixed_word
no_contraction pools word first second =
    ap (has_tag Contraction) (cond-false (has_tag Prefix word) (default_word pools.contexts (index_of word)) word first) ∙ second

first_marked : (canonical : Canonical) (cs : List ℕ) → 0 < length cs → list_all (λ m. not (is_starter canonical m)) cs ≡ true → begins_with_mark canonical cs ≡ true
first_marked canonical [] some h = absurd (omega (arith, some))
first_marked canonical (c ∷ cs) some h = (and_parts (not (is_starter canonical c)) _ h).0

-- a text of marks ends in one
last_marked : (canonical : Canonical) (cs : List ℕ) → 0 < length cs → list_all (λ m. not (is_starter canonical m)) cs ≡ true → ends_in_mark canonical cs ≡ true
last_marked canonical cs some h =
    first_marked canonical (reverse cs) (let same = length-reverse cs in omega (arith, same, some)) (list_all-reverse (λ m. not (is_starter canonical m)) cs ∙ h)

marks_after : (canonical : Canonical) (c : ℕ) (cs : List ℕ) → is_starter canonical c ≡ false → has_marks_last canonical (c ∷ cs) ≡ true
    → list_all (λ m. not (is_starter canonical m)) cs ≡ true
unfolding has_marks_last
marks_after canonical c cs mark h =
    sym (cond-false (is_starter canonical c) (has_marks_last canonical cs) (list_all (λ m. not (is_starter canonical m)) cs) mark) ∙ h

shorter_by : (canonical : Canonical) (is_recorded : List ℕ → List ℕ → Bool) (c : ℕ) (cs : List ℕ) → 1 < length cs → ends_in_mark canonical cs ≡ true
    → is_recorded_shorter canonical is_recorded c cs ≡ true → is_recorded [] (c ∷ take (length cs - 1) cs) ≡ true
shorter_by canonical is_recorded c cs more last h =
    let shorter = is_recorded [] (c ∷ take (length cs - 1) cs) in
    elim (or_cases (leb (length cs) 1) (not (ends_in_mark canonical cs) || shorter) h) [
      | inl few ↦ absurd (true≢false (sym few ∙ lt-leb (length cs) 1 more))
      | inr other ↦ elim (or_cases (not (ends_in_mark canonical cs)) shorter other) [
        | inl none ↦ absurd (false≢true (sym (ap not last) ∙ none))
        | inr is ↦ is
      ]
    ]

-- the word that data have for a mark, where it keeps the rules on contexts
source_knows : (canonical : Canonical) (digit : ℕ → Option ℕ) (source : CollationData) (c : ℕ) → is_starter canonical c ≡ false
    → KeepsContextRules canonical digit (word_in source c) c → KnowsMarks canonical c (word_in source c)
unfolding suffix_word
source_knows canonical digit source c mark rules d ds es s h =
    let entry = word_in source c
    in let word = unprefixed_word (pools_of source) (word_at source c)
    in let found = suffixed_by_word entry c d ds es h
    in let both = asked (has_tag Contraction word) _ found.0 found.1
    in let passes = text_passes (is_suffix canonical (is_recorded_by entry) c) (pools_of source) word (d ∷ ds) found.0 s (rules.suffixes both.0) both.1
    in let parts = and_parts (has_marks_last canonical (c ∷ d ∷ ds)) (is_recorded_shorter canonical (is_recorded_by entry) c (d ∷ ds))
    (and_parts (leb (length (d ∷ ds)) longest_suffix) _ passes).1
    in let marks = marks_after canonical c (d ∷ ds) mark parts.0
    in (marks, λ more. shorter_by canonical (is_recorded_by entry) c (d ∷ ds) more (last_marked canonical (d ∷ ds) (omega arith) marks) parts.1)

-- a word that may be no digit's has no value
digit_none : (entry : TableWord) → (has_tag Digit entry.word ≡ true → ⊥) → is_some (digit_by entry) ≡ false
digit_none entry never = elim (cases_Bool (has_tag Digit entry.word)) [
  | inl is ↦ absurd (never is)
  | inr e ↦ ap (λ b. is_some (cond b (Some (digit_value entry.word)) None)) e
]

-- ---- Tables

untagged : (tag : Tag) (s : ℕ) → tag_number tag ≢ 2 → has_tag tag (secondary_word s) ≡ false
untagged tag s other = no_tag tag (secondary_word s) (λ same. other (omega (arith, same)))

module _ (canonical : Canonical) (tables : CollationTables) (accepted : IsAccepted canonical tables) (c : ℕ) (s : IsScalar c) (mark : is_starter canonical c ≡ false) where
  abbrev digits : ℕ → Option ℕ
  digits = (weights_of canonical tables).digit

  abbrev word : TableWord
  word = counting_word canonical tables c

  counting_knows : KnowsMarks canonical c word
  counting_knows =
      counting_holds canonical tables c (KnowsMarks canonical c)
      (source_knows canonical digits tables.root c mark (accepted.characters.contexts.0 c s))
      (λ source is. source_knows canonical digits source c mark ((in_some tables.tailoring source _ is accepted.characters.contexts.1) c s))
      (λ secondary is. unsuffixed_knows canonical c (mark_word tables secondary)
      (no_contraction (pools_of tables.root) (secondary_word secondary) (untagged Prefix secondary (omega arith)) (untagged Contraction secondary (omega arith))))
      (λ one. unsuffixed_knows canonical c (jamo_word tables c)
      (no_contraction (pools_of tables.root) (jamo_word tables c).word (jamo_unprefixed tables c accepted.jamo one) (jamo_untagged tables c accepted.jamo one Contraction (omega arith))))

  counting_none : is_some (digit_by word) ≡ false
  counting_none =
      counting_holds canonical tables c (λ entry. is_some (digit_by entry) ≡ false)
      (digit_none (word_in tables.root c) (by_rules tables.root (accepted.characters.contexts.0 c s)))
      (λ source is. digit_none (word_in source c) (by_rules source ((in_some tables.tailoring source _ is accepted.characters.contexts.1) c s)))
      (λ secondary is. digit_none (mark_word tables secondary) (λ tagged. true≢false (sym tagged ∙ untagged Digit secondary (omega arith))))
      (λ one. digit_none (jamo_word tables c) (λ is. true≢false (sym is ∙ jamo_untagged tables c accepted.jamo one Digit (omega arith))))
    where
      by_rules : (source : CollationData) → KeepsContextRules canonical digits (word_in source c) c → has_tag Digit (word_at source c) ≡ true → ⊥
      by_rules source rules is = true≢false (sym (and_parts (is_starter canonical c) _ (rules.digits is)).0 ∙ mark)

  abbrev says : List ℕ → Option (List Element)
  says cs = recorded_in (counting_word canonical tables) [] (c ∷ cs)

  some_of : (o : Option (List Element)) → is_some o ≡ true → (es : List Element) × (o ≡ Some es)
  some_of None h = absurd (false≢true h)
  some_of (Some es) h = (es, refl)

  by_word : (d : ℕ) (ds : List ℕ) → is_some (says (d ∷ ds)) ≡ true → (es : List Element) × (scalars (c ∷ d ∷ ds) ≡ true) × (recorded_by word c [] (d ∷ ds) ≡ Some es)
  unfolding recorded_in
  by_word d ds h =
      let some = some_of (says (d ∷ ds)) h
      in let both = asked (scalars [] && scalars (c ∷ d ∷ ds)) (recorded_by word c [] (d ∷ ds)) some.0 some.1
      in (some.0, (and_parts (scalars []) (scalars (c ∷ d ∷ ds)) both.0).1, both.1)

  says_more : (cs : List ℕ) → scalars (c ∷ cs) ≡ true → says cs ≡ recorded_by word c [] cs
  unfolding recorded_in
  says_more cs h = cond-true (scalars [] && scalars (c ∷ cs)) (recorded_by word c [] cs) None (and_from (scalars []) (scalars (c ∷ cs)) refl h)

  all_marks : (suffix : List ℕ) → is_some (says suffix) ≡ true → list_all (λ m. not (is_starter canonical m)) suffix ≡ true
  all_marks [] h = refl
  all_marks (d ∷ ds) h =
      let found = by_word d ds h
      in (counting_knows d ds found.0 (and_parts (scalar c) (scalars (d ∷ ds)) found.1).1 found.2).0

  without_last : (suffix : List ℕ) → 1 < length suffix → is_some (says suffix) ≡ true → is_some (says (take (length suffix - 1) suffix)) ≡ true
  without_last [] more h = absurd (omega (arith, more))
  without_last (d ∷ ds) more h =
      let found = by_word d ds h
      in let parts = and_parts (scalar c) (scalars (d ∷ ds)) found.1
      in let fewer = take (length (d ∷ ds) - 1) (d ∷ ds)
      in ap (λ (o : Option (List Element)). is_some o) (says_more fewer (and_from (scalar c) (scalars fewer) parts.0 (scalars_front (length (d ∷ ds) - 1) (d ∷ ds) parts.1)))
      ∙ (counting_knows d ds found.0 parts.1 found.2).1 more

  no_value : (b : Bool) (o : Option ℕ) → is_some o ≡ false → is_some (cond b o None) ≡ false
  no_value true o h = h
  no_value false o h = refl

  -- so of a mark by accepted tables
  pub accepted_tables_know_marks : KnowMark canonical (weights_of canonical tables) c
  accepted_tables_know_marks = record { marks = all_marks; shorter = without_last; digit = no_value (scalar c) (digit_by word) counting_none }
