-- Words that need no look at other characters say what they are written of.
use Rattle.std.proofs.Common.{◌≡◌, ℕ, ◌+◌, ◌*◌, ◌%◌, ◌^◌, ◌<◌, ◌≤◌, true, false, List, [], ◌∷◌, ◌++◌, length, map, take, get_or, Option, Some, None, refl, ap, sym, ◌∙◌, arith}
use Rattle.std.specs.Prelude.{◌==◌, not, leb, filter_map, slice_index}
use Rattle.std.specs.List.{cons_option, list_all}
use Rattle.std.specs.Option.{option_map}
use Rattle.std.proofs.lemmas.Bool.{and_from, and_parts, cond-false, cond-true, le-leb, lt-ltb, ne_eqb, or_left, or_right}
use Rattle.std.proofs.lemmas.List.{drop_at, length-append, length-map, take_all, get_or_at}
use Rattle.std.proofs.lemmas.Option.{none-some}
use Rattle.icu_normalizer_core.specs.CanonicalWords.{items_at}
use Rattle.icu_collator_types.specs.declared.elements.Element.{Element}
use Rattle.icu_collator_types.specs.declared.elements.word_tags.Tag.{Tag}
use Rattle.icu_collator_types.specs.declared.elements.word_tags.Tag.TheVariants.{Expansion32, Expansion, LongSecondary, Offset}
use Rattle.icu_collator_types.specs.ElementWords.{has_tag, is_special, tag_number}
use Rattle.icu_collator_core.specs.Pools.{Pools, element_of, elements_of_word, index_of, length_of, stated_element}
use Rattle.icu_collator_core.specs.WordForms.{has_form, is_list_of_words, states_element}
use Rattle.icu_collator_core.proofs.meaning.WordTagLemmas.{stated_elements, stated_tag}
use Rattle.collate_words.specs.Fits.{AreFit, fits_bits}
use Rattle.collate_words.specs.OwnWords.{IsOwnWord}
use Rattle.collate_words.specs.ShortWords.{States, bits_of, fits_word, word_of}
use Rattle.collate_words.proofs.owned.ElementLemmas.{States-word_of, element_of-bits_of}
use Rattle.collate_words.proofs.owned.TagLemmas.{has_form-byte, has_tag-byte}

-- ---- What lists of words and of bits say

stated_words : (es : List Element) → list_all fits_bits es ≡ true → list_all fits_word es ≡ true
    → (list_all states_element (map word_of es) ≡ true) × (filter_map stated_element (map word_of es) ≡ es)
stated_words [] fit short = (refl, refl)
stated_words (e ∷ es) fit short =
    let first = and_parts (fits_bits e) (list_all fits_bits es) fit
    in let second = and_parts (fits_word e) (list_all fits_word es) short
    in let states = States-word_of e first.0 second.0
    in let others = stated_words es first.1 second.1
    in (
      and_from (states_element (word_of e)) _ states.form others.0,
      ap (λ (o : Option Element). cons_option o (filter_map stated_element (map word_of es))) states.says
          ∙ ap (λ (fs : List Element). e ∷ fs) others.1,
    )

elements_of-bits : (es : List Element) → list_all fits_bits es ≡ true → map element_of (map bits_of es) ≡ es
elements_of-bits [] fit = refl
elements_of-bits (e ∷ es) fit =
    let both = and_parts (fits_bits e) (list_all fits_bits es) fit
    in ap (λ (f : Element). f ∷ map element_of (map bits_of es)) (element_of-bits_of e both.0)
    ∙ ap (λ (fs : List Element). e ∷ fs) (elements_of-bits es both.1)

-- ---- The fields of a word that names an index

-- a word names an index in a list, with the length of what stands there, and a byte
record IsNaming (word at count byte : ℕ) : Type 0 where
  fits : word < 2 ^ 32
  index : index_of word ≡ at
  items : length_of word ≡ count
  low : word % 2 ^ 8 ≡ byte

is_naming : (word at n byte : ℕ) → word ≡ at * 2 ^ 13 + (n * 2 ^ 8 + byte) → at < 2 ^ 19 → n < 2 ^ 5 → byte < 2 ^ 8
    → IsNaming word at n byte
is_naming word at n byte is low few small = record {
  fits = omega arith;
  index = omega arith;
  items = omega arith;
  low = omega arith;
}

-- what was appended stands at the end of what was there
items_at-end : (before more : List ℕ) → items_at (before ++ more) (length before) (length more) ≡ more
items_at-end before more =
    ap (take (length more)) (drop_at before more (length before) refl) ∙ take_all (length more) more (omega arith)

-- a word whose low byte isn't 0 is not that of no element
not_none : (word byte : ℕ) → word % 2 ^ 8 ≡ byte → 0 < byte → (word == 0) ≡ false
not_none word byte low some = ne_eqb word 0 (λ none. omega (arith, none, low, some))

-- ---- Words of each form

-- the word of no element
nothing_own : (pools : Pools) → IsOwnWord pools 0 (Some []) None
unfolding elements_of_word
nothing_own pools = record {
  fits = omega arith;
  form = refl;
  inside = refl;
  says = refl;
  ranged = refl;
  bare = λ none. absurd (none-some [] (sym none));
}

-- a word that says nothing of the character
pub implicit_own : (pools : Pools) → IsOwnWord pools 0xcf None None
unfolding elements_of_word
implicit_own pools = record {
  fits = omega arith;
  form = refl;
  inside = refl;
  says = refl;
  ranged = refl;
  bare = λ _ _. refl;
}

-- a word that states one element
stated_own : (pools : Pools) (word : ℕ) (e : Element) → States word e → IsOwnWord pools word (Some (e ∷ [])) None
stated_own pools word e states = record {
  fits = states.fits;
  form = or_left (states_element word) _ states.form;
  inside =
      and_from _ _ (or_left _ _ (ap not (untagged Expansion32 (omega arith))))
      (and_from _ _ (or_left _ _ (ap not (untagged Expansion (omega arith)))) (or_left _ _ (ap not (untagged Offset (omega arith)))));
  says = stated_elements pools word e states.says;
  ranged = cond-false (has_tag Offset word) _ _ (untagged Offset (omega arith));
  bare = λ none. absurd (none-some (e ∷ []) (sym none));
}
  where
    untagged : (tag : Tag) → 2 < tag_number tag → has_tag tag word ≡ false
    untagged tag more = stated_tag word e states.says tag more

-- the same of lists of none, and of one
pub nothing_listed : (pools : Pools) (es : List Element) → length es < 1 → IsOwnWord pools 0 (Some es) None
nothing_listed pools [] few = nothing_own pools
nothing_listed pools (e ∷ es) few = absurd (omega (arith, few))

pub one_listed : (pools : Pools) (word : ℕ) (es : List Element) (d : Element) → 1 ≤ length es → length es < 2 → States word (get_or es 0 d)
    → IsOwnWord pools word (Some es) None
one_listed pools word [] d some few states = absurd (omega (arith, some))
one_listed pools word (e ∷ []) d some few states = stated_own pools word e states
one_listed pools word (e ∷ f ∷ es) d some few states = absurd (omega (arith, few))

module _ (pools : Pools) (before : List ℕ) (es : List Element) (word : ℕ) (fit : AreFit es) (some : 0 < length es) (room : length before < 2 ^ 19) where
  -- a word that lists words
  pub words_own : list_all fits_word es ≡ true → pools.ce32s ≡ before ++ map word_of es
      → word ≡ length before * 2 ^ 13 + (length es * 2 ^ 8 + 0xc5) → IsOwnWord pools word (Some es) None
  unfolding elements_of_word
  words_own short appended is = record {
    fits = naming.fits;
    form = or_right (states_element word) _ (or_left (is_list_of_words pools word) _
        (and_from _ _ (has_form-byte Expansion32 word 0xc5 naming.low (omega arith)) (ap (list_all states_element) items ∙ stated.0)));
    inside =
        and_from _ _ (or_right _ _ (and_from _ _ (le-leb 1 (length_of word) (omega (arith, naming, some))) (le-leb _ _ (omega (arith, naming, within)))))
        (and_from _ _ (or_left _ _ (ap not (has_tag-byte Expansion word 0xc5 naming.low (omega arith))))
        (or_left _ _ (ap not (has_tag-byte Offset word 0xc5 naming.low (omega arith)))));
    says =
        cond-false (word == 0) _ _ (not_none word 0xc5 naming.low (omega arith))
        ∙ cond-true (has_tag Expansion32 word) _ _ (has_tag-byte Expansion32 word 0xc5 naming.low (omega arith))
        ∙ ap (λ (words : List ℕ). Some (filter_map stated_element words)) items
        ∙ ap (λ (fs : List Element). Some fs) stated.1;
    ranged = cond-false (has_tag Offset word) _ _ (has_tag-byte Offset word 0xc5 naming.low (omega arith));
    bare = λ none. absurd (none-some es (sym none));
  }
    where
      naming : IsNaming word (length before) (length es) 0xc5
      naming = is_naming word (length before) (length es) 0xc5 is room (omega (arith, fit)) (omega arith)

      count : length (map word_of es) ≡ length es
      count = length-map es word_of

      stated : (list_all states_element (map word_of es) ≡ true) × (filter_map stated_element (map word_of es) ≡ es)
      stated = stated_words es fit.bits short

      items : items_at pools.ce32s (index_of word) (length_of word) ≡ map word_of es
      items =
          ap (λ (list : List ℕ). items_at list (index_of word) (length_of word)) appended
          ∙ ap (λ (index : ℕ). items_at (before ++ map word_of es) index (length_of word)) naming.index
          ∙ ap (items_at (before ++ map word_of es) (length before)) (naming.items ∙ sym count)
          ∙ items_at-end before (map word_of es)

      within : length before + length es ≤ length pools.ce32s
      within = omega (arith, ap length appended, length-append before (map word_of es), count)

  -- a word that lists elements
  pub bits_own : pools.ces ≡ before ++ map bits_of es → word ≡ length before * 2 ^ 13 + (length es * 2 ^ 8 + 0xc6) → IsOwnWord pools word (Some es) None
  unfolding elements_of_word
  bits_own appended is = record {
    fits = naming.fits;
    form = or_right (states_element word) _ (or_right (is_list_of_words pools word) _
        (or_left (has_form Expansion word) _ (has_form-byte Expansion word 0xc6 naming.low (omega arith))));
    inside =
        and_from _ _ (or_left _ _ (ap not (has_tag-byte Expansion32 word 0xc6 naming.low (omega arith))))
        (and_from _ _ (or_right _ _ (and_from _ _ (le-leb 1 (length_of word) (omega (arith, naming, some))) (le-leb _ _ (omega (arith, naming, within)))))
        (or_left _ _ (ap not (has_tag-byte Offset word 0xc6 naming.low (omega arith)))));
    says =
        cond-false (word == 0) _ _ (not_none word 0xc6 naming.low (omega arith))
        ∙ cond-false (has_tag Expansion32 word) _ _ (has_tag-byte Expansion32 word 0xc6 naming.low (omega arith))
        ∙ cond-true (has_tag Expansion word) _ _ (has_tag-byte Expansion word 0xc6 naming.low (omega arith))
        ∙ ap (λ (list : List ℕ). Some (map element_of list)) items
        ∙ ap (λ (fs : List Element). Some fs) (elements_of-bits es fit.bits);
    ranged = cond-false (has_tag Offset word) _ _ (has_tag-byte Offset word 0xc6 naming.low (omega arith));
    bare = λ none. absurd (none-some es (sym none));
  }
    where
      naming : IsNaming word (length before) (length es) 0xc6
      naming = is_naming word (length before) (length es) 0xc6 is room (omega (arith, fit)) (omega arith)

      count : length (map bits_of es) ≡ length es
      count = length-map es bits_of

      items : items_at pools.ces (index_of word) (length_of word) ≡ map bits_of es
      items =
          ap (λ (list : List ℕ). items_at list (index_of word) (length_of word)) appended
          ∙ ap (λ (index : ℕ). items_at (before ++ map bits_of es) index (length_of word)) naming.index
          ∙ ap (items_at (before ++ map bits_of es) (length before)) (naming.items ∙ sym count)
          ∙ items_at-end before (map bits_of es)

      within : length before + length es ≤ length pools.ces
      within = omega (arith, ap length appended, length-append before (map bits_of es), count)

-- a word that names what moves the primary of a range
pub offset_own : (pools : Pools) (before : List ℕ) (bits word : ℕ) → length before < 2 ^ 19 → pools.ces ≡ before ++ bits ∷ []
    → word ≡ length before * 2 ^ 13 + 0xce → IsOwnWord pools word None (Some bits)
unfolding elements_of_word
offset_own pools before bits word room appended is = record {
  fits = naming.fits;
  form = or_right (states_element word) _ (or_right (is_list_of_words pools word) _
      (or_right (has_form Expansion word) _ (or_left (has_form Offset word) _ (has_form-byte Offset word 0xce naming.low (omega arith)))));
  inside =
      and_from _ _ (or_left _ _ (ap not (has_tag-byte Expansion32 word 0xce naming.low (omega arith))))
      (and_from _ _ (or_left _ _ (ap not (has_tag-byte Expansion word 0xce naming.low (omega arith))))
      (or_right _ _ (lt-ltb (index_of word) (length pools.ces) (omega (arith, naming, ap length appended, length-append before (bits ∷ []))))));
  says =
      cond-false (word == 0) _ _ (not_none word 0xce naming.low (omega arith))
      ∙ cond-false (has_tag Expansion32 word) _ _ (has_tag-byte Expansion32 word 0xce naming.low (omega arith))
      ∙ cond-false (has_tag Expansion word) _ _ (has_tag-byte Expansion word 0xce naming.low (omega arith))
      ∙ ap (λ (o : Option Element). option_map (λ f. f ∷ []) o)
      (cond-false (word == 0) _ _ (not_none word 0xce naming.low (omega arith))
      ∙ ap (option_map element_of)
      (cond-false (has_tag LongSecondary word) _ _ (has_tag-byte LongSecondary word 0xce naming.low (omega arith))
      ∙ cond-true (is_special word) _ _ (ap (leb 0xc0) naming.low)
      ∙ cond-false (word % 2 ^ 8 == 0xc1) _ _ (ap (λ (low : ℕ). low == 0xc1) naming.low)));
  ranged =
      cond-true (has_tag Offset word) _ _ (has_tag-byte Offset word 0xce naming.low (omega arith))
      ∙ ap (λ (x : ℕ). Some x) (ap (slice_index pools.ces) naming.index
      ∙ ap (λ (list : List ℕ). slice_index list (length before)) appended ∙ get_or_at before bits [] 0 (length before) refl);
  bare = λ none some. absurd (none-some bits (sym some));
}
  where
    naming : IsNaming word (length before) 0 0xce
    naming = is_naming word (length before) 0 0xce is room (omega arith) (omega arith)
