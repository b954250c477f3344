-- Contexts read the same in longer lists, and what words name stays inside.
use Rattle.std.proofs.Common.{◌≡◌, ◌≢◌, ◌↔◌, ⊎_elim, ℕ, ℤ, ◌+◌, ◌*◌, ◌^◌, ◌<◌, ◌≤◌, true, List, [], ◌++◌, length, drop, ap, sym, subst, ◌∙◌, arith, length-drop}
use Rattle.std.specs.Prelude.{◌&&◌, flat_map, ltb, not, slice_index}
use Rattle.std.specs.Int.{cast_unsigned, w32}
use Rattle.std.specs.Option.{option_map}
use Rattle.std.proofs.lemmas.Bool.{and_from, and_parts, lt-ltb, ltb-true, or_cases, or_left, or_right}
use Rattle.std.proofs.lemmas.List.{drop-append-le}
use Rattle.icu_char16trie.specs.Cursors.{units_of, value_of_key}
use Rattle.icu_char16trie.specs.UnitGrammar.{IsUnitTrie}
use Rattle.icu_char16trie.specs.UnitMaps.{MapsKey, at_node}
use Rattle.icu_collator_types.specs.declared.elements.word_tags.Tag.TheVariants.{Digit}
use Rattle.icu_collator_types.specs.ElementWords.{has_tag}
use Rattle.icu_collator_core.specs.Pools.{Pools, default_word, index_of, trie_of, word_in_context}
use Rattle.icu_collator_core.specs.WordIndices.{has_context, has_digit_word, has_items}
use Rattle.collate_words.specs.Contexts.{AreKeys}
use Rattle.collate_words.specs.Growth.{Grows, IsFrontOf}
use Rattle.collate_words.proofs.growth.FrontLemmas.{length-front, slice_index-front}
use Rattle.collate_words.proofs.growth.OwnGrowthLemmas.{has_items-larger}
use Rattle.collate_words.proofs.written.WrittenContextLemmas.{maps_value, value_maps}
use Rattle.collate_words.proofs.written.WordFormLemmas.{not_both}

-- ---- Contexts

-- what unit tries keep when other units follow them
pub record AreKeptLonger : Type 0 where
  pub grammar : (units more : List ℕ) → IsUnitTrie units → units ≢ [] → IsUnitTrie (units ++ more)
  pub values : (units more key : List ℕ) → IsUnitTrie units → units ≢ [] → value_of_key (units ++ more) key
      ≡ value_of_key units key

-- a context reads the same in a longer list
pub record IsSameContext (contexts longer : List ℕ) (index : ℕ) : Type 0 where
  pub default_is : default_word longer index ≡ default_word contexts index
  pub grammar : IsUnitTrie (trie_of longer index)
  pub words : (cs : List ℕ) → word_in_context longer index cs ≡ word_in_context contexts index cs
  pub maps : (key : List ℕ) (number : ℤ) → MapsKey (trie_of longer index) (at_node 0) key number ↔ MapsKey
      (trie_of contexts index) (at_node 0) key number

pub same_context : AreKeptLonger → (contexts longer : List ℕ) (index : ℕ) → IsFrontOf contexts longer
    → index + 2 < length contexts
    → IsUnitTrie (trie_of contexts index) → IsSameContext contexts longer index
unfolding word_in_context
same_context kept contexts longer index front inside trie =
    let units = trie_of contexts index in
    let is : trie_of longer index ≡ units ++ front.0 =
    ap (drop (index + 2)) front.1 ∙ drop-append-le (index + 2) contexts front.0 (omega (arith, inside)) in
    let some : units ≢ [] = λ none. (let l = ap length none in let d = length-drop (index + 2) contexts in omega
    (arith, l, d, inside)) in
    let grammar : IsUnitTrie (trie_of longer index) = subst IsUnitTrie (sym is)
    (kept.grammar units front.0 trie some) in
    let same : (key : List ℕ) → value_of_key (trie_of longer index) key ≡ value_of_key units key =
    λ key. (ap (λ us. value_of_key us key) is ∙ kept.values units front.0 key trie some) in
    record {
      default_is =
          ap (λ (n : ℕ). n * 2 ^ 16 + slice_index longer (index + 1))
          (slice_index-front contexts longer index front (omega (arith, inside)))
          ∙ ap (λ (n : ℕ). slice_index contexts index * 2 ^ 16 + n)
          (slice_index-front contexts longer (index + 1) front (omega (arith, inside)));
      grammar = grammar;
      words = λ cs. ap (option_map (cast_unsigned w32)) (same (flat_map units_of cs));
      maps = λ key number. (
        λ m. value_maps units key number trie (sym (same key) ∙ maps_value (trie_of longer index) key number grammar m),
        λ m. value_maps (trie_of longer index) key number grammar (same key ∙ maps_value units key number trie m),
      );
    }

pub keys_same : (contexts longer : List ℕ) (index : ℕ) (texts : List (List ℕ)) → IsSameContext contexts longer index
    → AreKeys (trie_of contexts index) texts → AreKeys (trie_of longer index) texts
keys_same contexts longer index texts same keys = record {
  grammar = same.grammar;
  counted = λ key number maps. keys.counted key number ((same.maps key number).0 maps);
  read = λ key number maps. keys.read key number ((same.maps key number).0 maps);
  spelled = λ text has. let w = keys.spelled text has in (w.0, w.1, (same.maps w.0 w.1).1 w.2, w.3);
}

-- ---- What words name

below_longer : (n len more : ℕ) → len ≤ more → ltb n len ≡ true → ltb n more ≡ true
below_longer n len more few h = let inside = ltb-true n len h in lt-ltb n more (omega (arith, inside, few))

module _ (pools larger : Pools) (grows : Grows pools larger) where
  -- the word of a digit is in the list
  pub digit_inside : (word : ℕ) → has_tag Digit word ≡ true → has_digit_word pools word ≡ true
      → index_of word < length pools.ce32s
  digit_inside word tag h =
      ⊎_elim
      (λ (none : not (has_tag Digit word) ≡ true). not_both (not (has_tag Digit word)) none (ap not tag))
      (λ (some : (ltb (index_of word) (length pools.ce32s) && has_items pools
      (slice_index pools.ce32s (index_of word))) ≡ true).
      ltb-true (index_of word) (length pools.ce32s) (and_parts (ltb (index_of word) (length pools.ce32s)) _ some).0)
      (or_cases (not (has_tag Digit word)) _ h)

  pub digit_longer : (word : ℕ) → has_digit_word pools word ≡ true → has_digit_word larger word ≡ true
  digit_longer word h =
      ⊎_elim
      (λ (none : not (has_tag Digit word) ≡ true). or_left (not (has_tag Digit word)) _ none)
      (λ (some : (ltb (index_of word) (length pools.ce32s) && has_items pools
      (slice_index pools.ce32s (index_of word))) ≡ true).
      let both = and_parts (ltb (index_of word) (length pools.ce32s)) _ some in
      let inside = ltb-true (index_of word) (length pools.ce32s) both.0 in
      or_right (not (has_tag Digit word)) _
      (and_from (ltb (index_of word) (length larger.ce32s)) (has_items larger
      (slice_index larger.ce32s (index_of word)))
      (below_longer (index_of word) (length pools.ce32s) (length larger.ce32s)
      (length-front pools.ce32s larger.ce32s grows.ce32s) both.0)
      (subst (λ one. has_items larger one ≡ true) (sym (slice_index-front pools.ce32s larger.ce32s
      (index_of word) grows.ce32s inside))
      (has_items-larger pools larger grows (slice_index pools.ce32s (index_of word)) both.1))))
      (or_cases (not (has_tag Digit word)) _ h)

  pub context_longer : (word : ℕ) → has_context pools word ≡ true → has_context larger word ≡ true
  context_longer word h =
      below_longer (index_of word + 2) (length pools.contexts) (length larger.contexts)
      (length-front pools.contexts larger.contexts grows.contexts) h
