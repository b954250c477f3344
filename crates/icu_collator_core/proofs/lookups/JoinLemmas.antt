-- A text that one character more joins.
use Rattle.std.proofs.Common.{◌≡◌, ℕ, ◌+◌, ◌<◌, true, cond, List, [], ◌∷◌, ◌++◌, length, Option, Some, None, refl, sym, ◌∙◌, ap, arith, append-nil, drop, get_or, length-append, length-drop, subst, take}
use Rattle.std.proofs.lemmas.List.{get_or-drop, get_or_read, take_more}
use Rattle.std.proofs.lemmas.Grind.{flat_map-append}
use Rattle.std.specs.Prelude.{flat_map, option_map}
use Rattle.std.specs.Int.{cast_unsigned, w32}
use Rattle.std.specs.Option.{is_some, option_and_then}
use Rattle.icu_char16trie.specs.Cursors.{Follows, answer_to, answered, cursor_state, follow, units_of, value_of_key}
use Rattle.icu_char16trie.specs.UnitSteps.{start}
use Rattle.icu_char16trie.specs.declared.Char16TrieIterator.{Char16TrieIterator}
use Rattle.icu_char16trie.specs.declared.TrieResult.{TrieResult}
use Rattle.icu_collator_types.specs.declared.elements.Element.{Element}
use Rattle.icu_collator_types.specs.declared.elements.word_tags.Tag.TheVariants.{Contraction}
use Rattle.icu_collator_types.specs.ElementWords.{has_tag}
use Rattle.icu_collator_core.specs.Pools.{Pools, elements_of_word, unprefixed_word}
use Rattle.icu_collator_core.specs.TableMeaning.{TableWord, recorded_by}
use Rattle.icu_collator_core.specs.ReadTexts.{IsAtText, if_recorded, suffix_units, word_by}
use Rattle.icu_collator_core.proofs.lookups.MatchLemmas.{recorded_behind}
use Rattle.icu_collator_core.proofs.lookups.LookedUpTextLemmas.{answer_after, follow_after, units_some}

joined_units : (suffix : List ℕ) (c : ℕ) → flat_map units_of (suffix ++ c ∷ []) ≡ flat_map units_of suffix ++ units_of c
joined_units suffix c =
    flat_map-append units_of suffix (c ∷ []) ∙ ap (λ l. flat_map units_of suffix ++ l) (append-nil (units_of c))

module _ (trie suffix : List ℕ) (c : ℕ) (cursor after : Char16TrieIterator) (answer : TrieResult) (at : IsAtText trie suffix cursor) (step : Follows cursor (units_of c) answer after) where
  pub joined_word : option_map (cast_unsigned w32) (answered answer) ≡ word_by trie (suffix ++ c ∷ [])
  unfolding value_of_key
  joined_word =
      ap (λ a. option_map (cast_unsigned w32) (answered a))
      (step.found
      ∙ ap (λ read. answer_to read (cursor_state cursor) (units_of c)) at.reads
      ∙ ap (λ s. answer_to trie s (units_of c)) at.stands
      ∙ sym (answer_after trie (start trie) (flat_map units_of suffix) (units_of c) (units_some c))
      ∙ ap (answer_to trie (start trie)) (sym (joined_units suffix c)))

  pub joined_stands : IsAtText trie (suffix ++ c ∷ []) after
  joined_stands = record {
    reads = step.units ∙ at.reads;
    stands =
        step.stands
        ∙ ap (λ read. follow read (cursor_state cursor) (units_of c)) at.reads
        ∙ ap (λ s. follow trie s (units_of c)) at.stands
        ∙ sym (follow_after trie (start trie) (flat_map units_of suffix) (units_of c))
        ∙ ap (follow trie (start trie)) (sym (joined_units suffix c));
  }

same_recorded : (pools : Pools) (o : Option ℕ) → is_some (if_recorded pools o) ≡ is_some (option_and_then (elements_of_word pools) o)
unfolding if_recorded
same_recorded pools None = refl
same_recorded pools (Some word) = by_elements (elements_of_word pools word)
  where
    by_elements : (r : Option (List Element)) → is_some (cond (is_some r) (Some word) None) ≡ is_some r
    by_elements (Some es) = refl
    by_elements None = refl

-- a longer text is recorded just where its word has elements
pub joined_recorded : (entry : TableWord) (first : ℕ) (suffix : List ℕ) (c : ℕ) → has_tag Contraction (unprefixed_word entry.pools entry.word) ≡ true
    → is_some (if_recorded entry.pools (word_by (suffix_units entry) (suffix ++ c ∷ []))) ≡ is_some (recorded_by entry first [] (suffix ++ c ∷ []))
joined_recorded entry first suffix c is =
    let filled : 0 < length (suffix ++ c ∷ []) = let count = length-append suffix (c ∷ []) in omega (arith, count) in
    let word = word_by (suffix_units entry) (suffix ++ c ∷ []) in
    same_recorded entry.pools word
    ∙ ap (λ b. is_some (option_and_then (elements_of_word entry.pools) (cond b word None))) (sym is)
    ∙ ap (λ (o : Option (List Element)). is_some o) (sym (recorded_behind entry first (suffix ++ c ∷ []) filled))

pub behind_next : (trie list : List ℕ) (begin i x : ℕ) (cursor after : Char16TrieIterator) (answer : TrieResult)
    → begin + i < length list → x ≡ get_or list (begin + i) x
    → IsAtText trie (take i (drop begin list)) cursor → Follows cursor (units_of x) answer after
    → IsAtText trie (take (i + 1) (drop begin list)) after
behind_next trie list begin i x cursor after answer inside is at step =
    let less : i < length (drop begin list) = let count = length-drop begin list in omega (arith, count) in
    let here : get_or (drop begin list) i 0 ≡ x = get_or-drop begin list i 0 ∙ sym (get_or_read list (begin + i) x inside is 0) in
    let more : take (i + 1) (drop begin list) ≡ take i (drop begin list) ++ x ∷ [] =
    take_more (drop begin list) i 0 less ∙ ap (λ d. take i (drop begin list) ++ d ∷ []) here in
    subst (λ l. IsAtText trie l after) (sym more) (joined_stands trie (take i (drop begin list)) x cursor after answer at step)
