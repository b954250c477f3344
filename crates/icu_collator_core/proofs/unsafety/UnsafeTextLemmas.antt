-- The texts that contexts record, where keys spell characters, no more than may be.
use Rattle.std.proofs.Common.{◌≡◌, ℕ, ℤ, true, List, [], length, Option, Some, None, refl, ap, sym, subst, ◌∙◌}
use Rattle.std.specs.Prelude.{flat_map}
use Rattle.std.specs.Int.{cast_unsigned, w32}
use Rattle.std.specs.Option.{is_some, option_map}
use Rattle.std.proofs.lemmas.Bool.{false≢true, leb-true}
use Rattle.std.proofs.lemmas.Option.{none-some, same_Some}
use lib.Utf8.{scalars}
use Rattle.icu_char16trie.specs.Cursors.{units_of, value_of_key}
use Rattle.icu_char16trie.specs.UnitMaps.{MapsKey, at_node}
use Rattle.icu_char16trie.proofs.Cursors.ValueLemmas.{value_spelled}
use Rattle.icu_char16trie.proofs.Reading.OutcomeLemmas.{start-spells}
use Rattle.icu_collator_types.specs.declared.elements.Element.{Element}
use Rattle.icu_collator_core.specs.declared.unsafe_characters.context_texts.Side.{Side}
use Rattle.icu_collator_core.specs.ContextFaults.{is_short}
use Rattle.icu_collator_core.specs.ContextRules.{KeysPass}
use Rattle.icu_collator_core.specs.Pools.{Pools, elements_of_word, index_of, trie_of, word_in_context}
use Rattle.icu_collator_core.specs.UnsafeWords.{ContextMakesUnsafe, MakesUnsafeBy}
use Rattle.icu_collator_core.proofs.meaning.ContextTextLemmas.{text_passes}
use Rattle.icu_collator_core.proofs.meaning.KeyValueLemmas.{readable}

-- the context that a word names keeps the grammar, and its keys are characters, no more than may be
abbrev pub HasShortKeys : Pools → ℕ → Type 0
HasShortKeys pools word = KeysPass is_short (trie_of pools.contexts (index_of word))

-- a text of a context, with the elements of its word
pub record RecordedText (pools : Pools) (word : ℕ) (cs : List ℕ) : Type 0 where
  pub one : ℕ
  pub elements : List Element
  pub scalars : scalars cs ≡ true
  pub found : word_in_context pools.contexts (index_of word) cs ≡ Some one
  pub told : elements_of_word pools one ≡ Some elements

pub some_of : {A : Type 0} (o : Option A) → is_some o ≡ true → (x : A) × (o ≡ Some x)
some_of None h = absurd (false≢true h)
some_of (Some x) h = (x, refl)

-- a word that a context has for characters is the value of their units
value_of_text : (pools : Pools) (word : ℕ) (cs : List ℕ) (one : ℕ) → HasShortKeys pools word
    → word_in_context pools.contexts (index_of word) cs ≡ Some one
    → (number : ℤ) × MapsKey (trie_of pools.contexts (index_of word)) (at_node 0) (flat_map units_of cs) number × (cast_unsigned w32 number ≡ one)
unfolding word_in_context
value_of_text pools word cs one keys e = at (value_of_key (trie_of pools.contexts (index_of word)) (flat_map units_of cs)) refl e
  where
    at : (o : Option ℤ) → value_of_key (trie_of pools.contexts (index_of word)) (flat_map units_of cs) ≡ o → option_map (cast_unsigned w32) o ≡ Some one
        → (number : ℤ) × MapsKey (trie_of pools.contexts (index_of word)) (at_node 0) (flat_map units_of cs) number × (cast_unsigned w32 number ≡ one)
    at None is h = absurd (none-some one h)
    at (Some number) is h =
        let units = trie_of pools.contexts (index_of word) in
        let key = flat_map units_of cs in
        (number, (start-spells units keys.0 key number).0 ((value_spelled units key number).0 is), same_Some (cast_unsigned w32 number) one h)

-- a text that a context records makes its characters unsafe
pub text_makes_unsafe : (pools : Pools) (side : Side) (word : ℕ) (cs : List ℕ) (d : ℕ) → HasShortKeys pools word → RecordedText pools word cs
    → MakesUnsafeBy side cs d → ContextMakesUnsafe pools side word d
text_makes_unsafe pools side word cs d keys text by =
    let value = value_of_text pools word cs text.one keys text.found in
    let short = text_passes is_short pools word cs text.one text.scalars keys text.found in (
      flat_map units_of cs,
      value.0,
      readable is_short (trie_of pools.contexts (index_of word)) (λ ds h. leb-true (length ds) 7 h) keys,
      value.1,
      (
        ap (λ (w : ℕ). is_some (elements_of_word pools w)) value.2 ∙ ap is_some text.told,
        (cs, record { units = refl; scalars = text.scalars; short = leb-true (length cs) 7 short }, by),
      ),
    )

-- what a context makes unsafe, a text of it does
pub unsafe_by_text : (pools : Pools) (side : Side) (word d : ℕ) → ContextMakesUnsafe pools side word d
    → (cs : List ℕ) × RecordedText pools word cs × MakesUnsafeBy side cs d
unfolding word_in_context
unsafe_by_text pools side word d ties =
    let units = trie_of pools.contexts (index_of word) in
    let cs = ties.4.1.0 in
    let is = ties.4.1.1 in
    let number = ties.1 in
    let some = some_of (elements_of_word pools (cast_unsigned w32 number)) ties.4.0 in
    let maps : MapsKey units (at_node 0) (flat_map units_of cs) number = subst (λ key. MapsKey units (at_node 0) key number) (sym is.units) ties.3 in
    let value : value_of_key units (flat_map units_of cs) ≡ Some number =
    (value_spelled units (flat_map units_of cs) number).1 ((start-spells units ties.2.0 (flat_map units_of cs) number).1 maps) in (
      cs,
      record {
        one = cast_unsigned w32 number;
        elements = some.0;
        scalars = is.scalars;
        found = ap (option_map (cast_unsigned w32)) value;
        told = some.1;
      },
      ties.4.1.2,
    )

-- no context has a word for no characters
pub no_word_alone : (contexts : List ℕ) (index one : ℕ) → word_in_context contexts index [] ≡ Some one → ⊥
unfolding word_in_context value_of_key
no_word_alone contexts index one h = none-some one h
