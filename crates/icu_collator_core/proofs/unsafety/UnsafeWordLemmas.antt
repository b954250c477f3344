-- What the word of a character makes unsafe, by what it records.
use Rattle.std.proofs.Common.{◌≡◌, ◌⊎◌, inl, inr, ⊎_elim, ℕ, true, false, List, [], ◌∷◌, length, Option, Some, None, refl, ap, sym, ◌∙◌}
use Rattle.std.specs.Prelude.{leb, reverse}
use Rattle.std.specs.List.{Contains}
use Rattle.std.specs.Option.{option_and_then}
use Rattle.std.proofs.lemmas.Bool.{and_parts, cases_Bool, cond-true, le-leb, or_left, or_right, true≢false}
use Rattle.std.proofs.lemmas.List.{reverse-reverse}
use Rattle.std.proofs.lemmas.Option.{option_and_then_some}
use lib.Utf8.{scalars}
use Rattle.icu_normalizer_core.specs.Canonical.{Canonical}
use Rattle.icu_collator_types.specs.declared.elements.Element.{Element}
use Rattle.icu_collator_types.specs.declared.elements.word_tags.Tag.TheVariants.{Contraction, Prefix}
use Rattle.icu_collator_types.specs.ElementWords.{has_tag}
use Rattle.icu_collator_core.specs.declared.tables.data.CollationData.{CollationData}
use Rattle.icu_collator_core.specs.declared.unsafe_characters.context_texts.Side.TheVariants.{Before, Behind}
use Rattle.icu_collator_core.specs.ContextFaults.{is_short}
use Rattle.icu_collator_core.specs.ContextRules.{KeepsContextRules, is_prefix, is_recorded_by, is_suffix}
use Rattle.icu_collator_core.specs.Pools.{elements_of_word, index_of, prefix_word, suffix_word, unprefixed_word, word_in_context}
use Rattle.icu_collator_core.specs.TableMeaning.{TableWord, pools_of, recorded_by, word_at, word_in}
use Rattle.icu_collator_core.specs.UnsafeWords.{WordMakesUnsafe, names_context}
use Rattle.icu_collator_core.proofs.apart.GrowthLemmas.{none_in}
use Rattle.icu_collator_core.proofs.checks.WalkLemmas.{weaker_keys}
use Rattle.icu_collator_core.proofs.lookups.PrefixLemmas.{scalars_back}
use Rattle.icu_collator_core.proofs.meaning.GoodWordLemmas.{asked, prefix_short}
use Rattle.icu_collator_core.proofs.meaning.WordTagLemmas.{unprefixed_same}
use Rattle.icu_collator_core.proofs.unsafety.UnsafeTextLemmas.{HasShortKeys, RecordedText, no_word_alone, text_makes_unsafe, unsafe_by_text}

-- ---- Keys of accepted words

-- the contexts of a word have short keys
pub record AreShortKeys (entry : TableWord) : Type 0 where
  pub behind : has_tag Contraction (unprefixed_word entry.pools entry.word) ≡ true → HasShortKeys entry.pools (unprefixed_word entry.pools entry.word)
  pub before : has_tag Prefix entry.word ≡ true → HasShortKeys entry.pools entry.word

pub source_short : (canonical : Canonical) (digit : ℕ → Option ℕ) (source : CollationData) (c : ℕ)
    → KeepsContextRules canonical digit (word_in source c) c → AreShortKeys (word_in source c)
source_short canonical digit source c rules = record {
  behind = λ yes. weaker_keys (is_suffix canonical (is_recorded_by (word_in source c)) c) is_short _ (λ cs h. (and_parts (leb (length cs) 7) _ h).0) (rules.suffixes yes);
  before = λ yes. weaker_keys (is_prefix canonical digit) is_short _ (λ cs h. le-leb (length cs) 7 (prefix_short canonical digit cs h)) (rules.prefixes yes);
}

pub untagged_short : (entry : TableWord) → has_tag Prefix entry.word ≡ false → has_tag Contraction entry.word ≡ false → AreShortKeys entry
untagged_short entry prefix contraction = record {
  behind = λ yes. absurd (true≢false (sym yes ∙ ap (has_tag Contraction) (unprefixed_same entry.pools entry.word prefix) ∙ contraction));
  before = λ yes. absurd (true≢false (sym yes ∙ prefix));
}

-- ---- What a word records

-- a text is recorded after a character
pub record RecordsBehind (entry : TableWord) (c d : ℕ) : Type 0 where
  pub later : List ℕ
  pub elements : List Element
  pub scalars : scalars later ≡ true
  pub recorded : recorded_by entry c [] later ≡ Some elements
  pub within : Contains later d

-- a character is recorded with a text before it
pub record RecordsBefore (entry : TableWord) (c : ℕ) : Type 0 where
  pub nearest : ℕ
  pub further : List ℕ
  pub elements : List Element
  pub scalars : scalars (nearest ∷ further) ≡ true
  pub recorded : recorded_by entry c (nearest ∷ further) [] ≡ Some elements

module _ (entry : TableWord) (c : ℕ) where
  abbrev unprefixed : ℕ
  unprefixed = unprefixed_word entry.pools entry.word

  -- ---- After

  pub behind_makes_unsafe : (later : List ℕ) (es : List Element) (d : ℕ) → AreShortKeys entry → scalars later ≡ true → recorded_by entry c [] later ≡ Some es
      → Contains later d → WordMakesUnsafe entry c d
  unfolding recorded_by suffix_word
  behind_makes_unsafe [] es d keys s h within = absurd (none_in d within)
  behind_makes_unsafe (x ∷ xs) es d keys s h within =
      option_and_then_some (elements_of_word entry.pools) (suffix_word entry.pools entry.word (x ∷ xs)) es h
      (λ one found told.
      let both = asked (has_tag Contraction unprefixed) (word_in_context entry.pools.contexts (index_of unprefixed) (x ∷ xs)) one found in
      inl (
        both.0,
        text_makes_unsafe entry.pools Behind unprefixed (x ∷ xs) d (keys.behind both.0)
            (record { one = one; elements = es; scalars = s; found = both.1; told = told }) within,
      ))

  recorded_behind : (cs : List ℕ) (d : ℕ) → has_tag Contraction unprefixed ≡ true → RecordedText entry.pools unprefixed cs → Contains cs d
      → RecordsBehind entry c d
  unfolding recorded_by suffix_word
  recorded_behind [] d tagged text within = absurd (none_in d within)
  recorded_behind (x ∷ xs) d tagged text within = record {
    later = x ∷ xs;
    elements = text.elements;
    scalars = text.scalars;
    recorded = ap (option_and_then (elements_of_word entry.pools))
        (cond-true (has_tag Contraction unprefixed) (word_in_context entry.pools.contexts (index_of unprefixed) (x ∷ xs)) None tagged ∙ text.found)
        ∙ text.told;
    within = within;
  }

  -- ---- Before

  pub before_makes_unsafe : (b : ℕ) (bs : List ℕ) (es : List Element) → AreShortKeys entry → scalars (b ∷ bs) ≡ true → recorded_by entry c (b ∷ bs) [] ≡ Some es
      → WordMakesUnsafe entry c c
  unfolding recorded_by prefix_word
  before_makes_unsafe b bs es keys s h =
      option_and_then_some (elements_of_word entry.pools) (prefix_word entry.pools entry.word (b ∷ bs)) es h
      (λ one found told.
      let both = asked (has_tag Prefix entry.word) (word_in_context entry.pools.contexts (index_of entry.word) (reverse (b ∷ bs))) one found in
      inr (
        both.0,
        text_makes_unsafe entry.pools (Before c) entry.word (reverse (b ∷ bs)) c (keys.before both.0)
            (record { one = one; elements = es; scalars = scalars_back (b ∷ bs) s; found = both.1; told = told }) refl,
      ))

  recorded_before : (cs : List ℕ) → has_tag Prefix entry.word ≡ true → RecordedText entry.pools entry.word cs → RecordsBefore entry c
  unfolding recorded_by prefix_word
  recorded_before cs tagged text = at (reverse cs) refl
    where
      at : (rs : List ℕ) → reverse cs ≡ rs → RecordsBefore entry c
      at [] is =
          let none : cs ≡ [] = sym (reverse-reverse cs) ∙ ap reverse is in
          absurd (no_word_alone entry.pools.contexts (index_of entry.word) text.one
          (ap (word_in_context entry.pools.contexts (index_of entry.word)) (sym none) ∙ text.found))
      at (b ∷ bs) is =
          let back : reverse (b ∷ bs) ≡ cs = ap reverse (sym is) ∙ reverse-reverse cs in
          record {
            nearest = b;
            further = bs;
            elements = text.elements;
            scalars = ap scalars (sym is) ∙ scalars_back cs text.scalars;
            recorded = ap (option_and_then (elements_of_word entry.pools))
                (cond-true (has_tag Prefix entry.word) (word_in_context entry.pools.contexts (index_of entry.word) (reverse (b ∷ bs))) None tagged
                ∙ ap (word_in_context entry.pools.contexts (index_of entry.word)) back ∙ text.found)
                ∙ text.told;
          }

  -- ---- Both

  -- what a word makes unsafe, it records
  pub unsafe_records : (d : ℕ) → WordMakesUnsafe entry c d → RecordsBehind entry c d ⊎ ((d ≡ c) × RecordsBefore entry c)
  unsafe_records d (inl behind) =
      let text = unsafe_by_text entry.pools Behind unprefixed d behind.1 in inl (recorded_behind text.0 d behind.0 text.1 text.2)
  unsafe_records d (inr before) =
      let text = unsafe_by_text entry.pools (Before c) entry.word d before.1 in inr (text.2, recorded_before text.0 before.0 text.1)

  -- a word that makes something unsafe has a tag for it
  pub unsafe_tagged : (d : ℕ) → WordMakesUnsafe entry c d → (has_tag Contraction unprefixed ≡ true) ⊎ (has_tag Prefix entry.word ≡ true)
  unsafe_tagged d (inl behind) = inl behind.0
  unsafe_tagged d (inr before) = inr before.0

-- the word of such a character names a context
pub tagged_names : (source : CollationData) (c : ℕ)
    → (has_tag Contraction (unprefixed_word (pools_of source) (word_at source c)) ≡ true) ⊎ (has_tag Prefix (word_at source c) ≡ true)
    → names_context (word_at source c) ≡ true
tagged_names source c (inr prefix) = or_right (has_tag Contraction (word_at source c)) (has_tag Prefix (word_at source c)) prefix
tagged_names source c (inl contraction) =
    ⊎_elim
    (λ (yes : has_tag Prefix (word_at source c) ≡ true). or_right (has_tag Contraction (word_at source c)) (has_tag Prefix (word_at source c)) yes)
    (λ (no : has_tag Prefix (word_at source c) ≡ false).
    or_left (has_tag Contraction (word_at source c)) (has_tag Prefix (word_at source c))
    (ap (has_tag Contraction) (sym (unprefixed_same (pools_of source) (word_at source c) no)) ∙ contraction))
    (cases_Bool (has_tag Prefix (word_at source c)))
