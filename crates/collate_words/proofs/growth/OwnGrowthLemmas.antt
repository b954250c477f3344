-- What a word that needs no look at other characters says stays as lists grow.
use Rattle.std.proofs.Common.{◌≡◌, ℕ, ◌+◌, ◌<◌, ◌≤◌, ◌⊎◌, inl, inr, Bool, true, false, cond, List, length, map, Option, Some, refl, ap, ◌∙◌, arith}
use Rattle.std.specs.Prelude.{◌==◌, ◌&&◌, ◌||◌, not, leb, ltb, filter_map}
use Rattle.std.specs.List.{list_all}
use Rattle.std.proofs.lemmas.Bool.{and_from, and_parts, leb-true, le-leb, lt-ltb, ltb-true, or_cases, or_left, or_right, false≢true}
use Rattle.icu_normalizer_core.specs.CanonicalWords.{items_at}
use Rattle.icu_collator_types.specs.declared.elements.Element.{Element}
use Rattle.icu_collator_types.specs.declared.elements.word_tags.Tag.{Tag}
use Rattle.icu_collator_types.specs.declared.elements.word_tags.Tag.TheVariants.{Expansion32, Expansion, Offset}
use Rattle.icu_collator_types.specs.ElementWords.{has_tag}
use Rattle.icu_collator_core.specs.Pools.{Pools, element_of, elements_of_word, index_of, length_of, stated_element}
use Rattle.icu_collator_core.specs.WordForms.{has_form, is_other_own, is_own_word, states_element}
use Rattle.icu_collator_core.specs.WordIndices.{has_items, has_list}
use Rattle.collate_words.specs.Growth.{Grows}
use Rattle.collate_words.specs.OwnWords.{IsOwnWord, offset_named}
use Rattle.collate_words.proofs.growth.FrontLemmas.{items_at-front, length-front, slice_index-front}

-- a choice stays where the parts do that are chosen
cond_same : {A : Type 0} (b : Bool) (x y z w : A) → (b ≡ true → x ≡ z) → (b ≡ false → y ≡ w) → cond b x y ≡ cond b z w
cond_same true x y z w first second = first refl
cond_same false x y z w first second = second refl

and_same : (x y z : Bool) → (x ≡ true → y ≡ z) → (x && y) ≡ (x && z)
and_same true y z same = same refl
and_same false y z same = refl

module _ (pools larger : Pools) (grows : Grows pools larger) (word : ℕ) (inside : has_items pools word ≡ true) where
  parts : (has_list Expansion32 (length pools.ce32s) word ≡ true)
      × ((has_list Expansion (length pools.ces) word && (not (has_tag Offset word) || ltb (index_of word) (length pools.ces))) ≡ true)
  parts = and_parts (has_list Expansion32 (length pools.ce32s) word) _ inside

  lower : (has_list Expansion (length pools.ces) word ≡ true)
      × ((not (has_tag Offset word) || ltb (index_of word) (length pools.ces)) ≡ true)
  lower = and_parts (has_list Expansion (length pools.ces) word) _ parts.1

  -- what a test of a word with some tag gives where the word has it
  where_tagged : (tag : Bool) (test : Bool) → (not tag || test) ≡ true → tag ≡ true → test ≡ true
  where_tagged true test h is = h
  where_tagged false test h is = absurd (false≢true is)

  within_words : has_tag Expansion32 word ≡ true → index_of word + length_of word ≤ length pools.ce32s
  within_words is = leb-true _ _ (and_parts (leb 1 (length_of word)) _ (where_tagged (has_tag Expansion32 word) _ parts.0 is)).1

  within_elements : has_tag Expansion word ≡ true → index_of word + length_of word ≤ length pools.ces
  within_elements is = leb-true _ _ (and_parts (leb 1 (length_of word)) _ (where_tagged (has_tag Expansion word) _ lower.0 is)).1

  within_offset : has_tag Offset word ≡ true → index_of word < length pools.ces
  within_offset is = ltb-true _ _ (where_tagged (has_tag Offset word) _ lower.1 is)

  words_stay : has_tag Expansion32 word ≡ true
      → items_at larger.ce32s (index_of word) (length_of word) ≡ items_at pools.ce32s (index_of word) (length_of word)
  words_stay is = items_at-front pools.ce32s larger.ce32s (index_of word) (length_of word) grows.ce32s (within_words is)

  elements_stay : has_tag Expansion word ≡ true
      → items_at larger.ces (index_of word) (length_of word) ≡ items_at pools.ces (index_of word) (length_of word)
  elements_stay is = items_at-front pools.ces larger.ces (index_of word) (length_of word) grows.ces (within_elements is)

  -- the elements of a word
  pub elements_of_word-larger : elements_of_word larger word ≡ elements_of_word pools word
  unfolding elements_of_word
  elements_of_word-larger =
      cond_same (word == 0) _ _ _ _ (λ _. refl)
      (λ _. cond_same (has_tag Expansion32 word) _ _ _ _ (λ is. ap (λ (list : List ℕ). Some (filter_map stated_element list)) (words_stay is))
      (λ _. cond_same (has_tag Expansion word) _ _ _ _ (λ is. ap (λ (list : List ℕ). Some (map element_of list)) (elements_stay is)) (λ _. refl)))

  -- what moves the primary of a range
  pub offset_named-larger : offset_named larger word ≡ offset_named pools word
  offset_named-larger =
      cond_same (has_tag Offset word) _ _ _ _
      (λ is. ap (λ (n : ℕ). Some n) (slice_index-front pools.ces larger.ces (index_of word) grows.ces (within_offset is))) (λ _. refl)

  -- the form of a word
  pub is_own_word-larger : is_own_word larger word ≡ is_own_word pools word
  is_own_word-larger =
      ap (λ (b : Bool). states_element word || (b || is_other_own word))
      (and_same (has_form Expansion32 word) _ _
      (λ form. ap (list_all states_element) (words_stay (and_parts _ (has_tag Expansion32 word) form).1)))

  list_larger : (tag : Tag) (len more : ℕ) → len ≤ more → has_list tag len word ≡ true → has_list tag more word ≡ true
  list_larger tag len more rises h = by_cases (or_cases (not (has_tag tag word)) _ h)
    where
      by_cases : (not (has_tag tag word) ≡ true) ⊎ ((leb 1 (length_of word) && leb (index_of word + length_of word) len) ≡ true)
          → has_list tag more word ≡ true
      by_cases (inl other) = or_left (not (has_tag tag word)) _ other
      by_cases (inr is) =
          let both = and_parts (leb 1 (length_of word)) _ is
          in let within = leb-true (index_of word + length_of word) len both.1
          in or_right (not (has_tag tag word)) _ (and_from _ _ both.0 (le-leb (index_of word + length_of word) more (omega (arith, within, rises))))

  -- what a word names is in the larger lists too
  pub has_items-larger : has_items larger word ≡ true
  has_items-larger =
      and_from _ _ (list_larger Expansion32 _ _ (length-front pools.ce32s larger.ce32s grows.ce32s) parts.0)
      (and_from _ _ (list_larger Expansion _ _ elements lower.0) (by_cases (or_cases (not (has_tag Offset word)) _ lower.1)))
    where
      elements : length pools.ces ≤ length larger.ces
      elements = length-front pools.ces larger.ces grows.ces

      by_cases : (not (has_tag Offset word) ≡ true) ⊎ (ltb (index_of word) (length pools.ces) ≡ true)
          → (not (has_tag Offset word) || ltb (index_of word) (length larger.ces)) ≡ true
      by_cases (inl other) = or_left (not (has_tag Offset word)) _ other
      by_cases (inr is) =
          let within = ltb-true (index_of word) (length pools.ces) is
          in or_right (not (has_tag Offset word)) _ (lt-ltb (index_of word) (length larger.ces) (omega (arith, within, elements)))

-- a word of the lists says the same in larger ones
pub IsOwnWord-larger : (pools larger : Pools) → Grows pools larger → (word : ℕ) (es : Option (List Element)) (offset : Option ℕ)
    → IsOwnWord pools word es offset → IsOwnWord larger word es offset
IsOwnWord-larger pools larger grows word es offset own = record {
  fits = own.fits;
  form = is_own_word-larger pools larger grows word own.inside ∙ own.form;
  inside = has_items-larger pools larger grows word own.inside;
  says = elements_of_word-larger pools larger grows word own.inside ∙ own.says;
  ranged = offset_named-larger pools larger grows word own.inside ∙ own.ranged;
  bare = own.bare;
}
