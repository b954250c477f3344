-- What a context says whose keys are just those of what stands beside a character.
use Rattle.std.proofs.Common.{◌≡◌, ℕ, ℤ, ◌-◌, ◌^◌, ◌≤◌, Bool, List, length, map, Option, Some, None, refl, ap, sym, subst, ◌∙◌, arith}
use Rattle.std.specs.Prelude.{flat_map, All}
use Rattle.std.specs.Char.{IsScalar}
use Rattle.std.specs.Int.{cast_signed, cast_unsigned, w32}
use Rattle.std.specs.List.{Contains, find}
use Rattle.std.specs.Option.{option_and_then, option_map}
use Rattle.std.specs.Str.{bytes_eq}
use Rattle.std.proofs.lemmas.List.Elements.{All-contains}
use Rattle.std.proofs.lemmas.Option.{none-some, same_Some}
use Rattle.std.proofs.lemmas.Slice.Eq.{bytes_eq-Decides}
use Rattle.icu_char16trie.specs.Cursors.{units_of, value_of_key}
use Rattle.icu_char16trie.specs.UnitGrammar.{IsUnitTrie, IsWithin}
use Rattle.icu_char16trie.specs.UnitMaps.{MapsKey, at_node}
use Rattle.icu_char16trie.proofs.Cursors.ValueLemmas.{value_spelled}
use Rattle.icu_char16trie.proofs.Reading.OutcomeLemmas.{start-spells}
use Rattle.icu_collator_core.specs.ContextRules.{characters_of_units}
use Rattle.icu_collator_core.specs.Pools.{Pools, elements_of_word, index_of, trie_of, word_in_context}
use Rattle.icu_collator_core.specs.PrefixFaults.{HasValue}
use Rattle.icu_collator_core.specs.WordForms.{AreReadable, ValuesPass, is_own_word}
use Rattle.icu_collator_core.specs.WordIndices.{has_items}
use Rattle.collate_words.specs.ContextKeys.{AreKeysOf, IsContext, IsKeyOf, key_text}
use Rattle.collate_words.specs.Contexts.{AreKeys}
use Rattle.collate_words.specs.Fits.{AreBeside, IsBeside}
use Rattle.collate_words.specs.OwnWords.{IsOwnWord}
use Rattle.collate_words.specs.Sayings.{SaidBeside, elements_beside}
use Rattle.collate_words.proofs.written.WrittenKeyLemmas.{found_by_text, found_in, in_map, key_short, key_spells, of_map, same_text, zip_back, zip_forth}

-- ---- Values of keys

-- the value of a key is what the units map it to
pub value_maps : (units key : List ℕ) (number : ℤ) → IsUnitTrie units → value_of_key units key ≡ Some number
    → MapsKey units (at_node 0) key number
value_maps units key number trie e = (start-spells units trie key number).0 ((value_spelled units key number).0 e)

pub maps_value : (units key : List ℕ) (number : ℤ) → IsUnitTrie units → MapsKey units (at_node 0) key number
    → value_of_key units key ≡ Some number
maps_value units key number trie maps = (value_spelled units key number).1 ((start-spells units trie key number).1 maps)

-- a word that a context has for characters is a value of it
pub value_in : (pools : Pools) (word : ℕ) (cs : List ℕ) (one : ℕ) → AreReadable (trie_of pools.contexts (index_of word))
    → word_in_context pools.contexts (index_of word) cs ≡ Some one → HasValue pools word one
unfolding word_in_context
value_in pools word cs one readable e = at (value_of_key (trie_of pools.contexts (index_of word))
    (flat_map units_of cs)) refl e
  where
    at : (o : Option ℤ) → value_of_key (trie_of pools.contexts (index_of word)) (flat_map units_of cs) ≡ o
        → option_map (cast_unsigned w32) o ≡ Some one → HasValue pools word one
    at None is h = absurd (none-some one h)
    at (Some number) is h =
        let units = trie_of pools.contexts (index_of word) in
        let key = flat_map units_of cs in
        (key, number, readable, value_maps units key number readable.0 is, same_Some (cast_unsigned w32 number) one h)

-- ---- The context that a word names

-- a value of a context, and what has it
pub record IsValueOf (pools : Pools) (backward : Bool) (saids : List SaidBeside) (key : List ℕ) (one : ℕ) : Type 0 where
  pub said : SaidBeside
  pub within : Contains saids said
  pub units : key ≡ flat_map units_of (key_text backward said.characters)
  pub word : IsOwnWord pools one (Some said.elements) None

module _
    (pools : Pools)
    (word own most : ℕ)
    (backward : Bool)
    (saids : List SaidBeside)
    (keys : List (List ℕ × ℕ))
    (short : most ≤ 7)
    (beside : AreBeside most saids)
    (context : IsContext pools.contexts (index_of word) own keys)
    (keyed : AreKeysOf pools backward saids keys) where
  scalars_in : (said : SaidBeside) → Contains saids said → All IsScalar said.characters
  scalars_in said has = (All-contains (IsBeside most) saids said beside.each has).scalars

  pub value_of : (key : List ℕ) (number : ℤ) → MapsKey (trie_of pools.contexts (index_of word)) (at_node 0) key number
      → IsValueOf pools backward saids key (cast_unsigned w32 number)
  value_of key number maps =
      let w = zip_back (IsKeyOf pools backward) saids keys (key, cast_unsigned w32 number) keyed
      (context.trie.read key number maps) in
      record { said = w.0; within = w.1; units = w.2.units; word = w.2.word }

  pub value_for : (said : SaidBeside) → Contains saids said
      → (number : ℤ) × MapsKey (trie_of pools.contexts (index_of word)) (at_node 0)
      (flat_map units_of (key_text backward said.characters)) number
  value_for said has =
      let w = zip_forth (IsKeyOf pools backward) saids keys said keyed has in
      let number = cast_signed w32 w.0.1 in (
        number,
        subst (λ key. MapsKey (trie_of pools.contexts (index_of word)) (at_node 0) key number) w.2.units
            (context.trie.spelled w.0.0 w.0.1 w.1),
      )

  counted : IsWithin (trie_of pools.contexts (index_of word)) (2 ^ 64 - 1)
  counted key number maps =
      let w = value_of key number maps in
      let is = All-contains (IsBeside most) saids w.said beside.each w.within in
      let bound = key_short backward w.said.characters is.scalars in
      let few = is.short in
      let same = ap length w.units in
      omega (arith, bound, few, same, short)

  pub value_said : (one : ℕ) → HasValue pools word one
      → (said : SaidBeside) × Contains saids said × IsOwnWord pools one (Some said.elements) None
  value_said one has =
      let w = value_of has.0 has.1 has.3 in
      (w.said, w.within, subst (λ v. IsOwnWord pools v (Some w.said.elements) None) has.4 w.word)

  pub values_own : ValuesPass pools (is_own_word pools) word
  values_own readable key number maps = (value_of key number maps).word.form

  pub values_inside : ValuesPass pools (has_items pools) word
  values_inside readable key number maps = (value_of key number maps).word.inside

  -- the keys are the texts
  pub keys_are : AreKeys (trie_of pools.contexts (index_of word))
      (map (λ said. key_text backward said.characters) saids)
  keys_are = record {
    grammar = context.trie.grammar;
    counted = counted;
    read = λ key number maps.
        let w = value_of key number maps in (
          key_text backward w.said.characters,
          ap characters_of_units w.units ∙ key_spells backward w.said.characters (scalars_in w.said w.within),
          in_map (λ said. key_text backward said.characters) saids w.said w.within,
        );
    spelled = λ text has.
        let w = of_map (λ said. key_text backward said.characters) saids text has in
        let v = value_for w.0 w.1 in (
          flat_map units_of (key_text backward w.0.characters),
          v.0,
          v.1,
          key_spells backward w.0.characters (scalars_in w.0 w.1) ∙ ap (λ cs. Some cs) w.2,
        );
  }

  -- a text that has no value is none of the texts
  none_found : (text : List ℕ) (found : Option SaidBeside) → find (λ said. bytes_eq said.characters text) saids ≡ found
      → value_of_key (trie_of pools.contexts (index_of word)) (flat_map units_of (key_text backward text)) ≡ None
      → option_map (λ said. said.elements) found ≡ None
  none_found text None e none = refl
  none_found text (Some said) e none =
      let w = found_in (λ other. bytes_eq other.characters text) saids said e in
      let same : said.characters ≡ text = (bytes_eq-Decides said.characters text).0 w.1 in
      let v = value_for said w.0 in
      let units = trie_of pools.contexts (index_of word) in
      let maps = subst (λ cs. MapsKey units (at_node 0) (flat_map units_of (key_text backward cs)) v.0) same v.1 in
      absurd (none-some v.0 (sym none ∙ maps_value units (flat_map units_of
      (key_text backward text)) v.0 context.trie.grammar maps))

  -- the elements of the character beside a text
  pub elements_by : (text : List ℕ) → All IsScalar text
      → option_and_then (elements_of_word pools) (word_in_context pools.contexts (index_of word)
      (key_text backward text)) ≡ elements_beside saids text
  unfolding word_in_context
  elements_by text scalar =
      at (value_of_key (trie_of pools.contexts (index_of word)) (flat_map units_of (key_text backward text))) refl
    where
      at : (o : Option ℤ) → value_of_key (trie_of pools.contexts (index_of word))
          (flat_map units_of (key_text backward text)) ≡ o
          → option_and_then (elements_of_word pools) (option_map (cast_unsigned w32) o) ≡ elements_beside saids text
      at None is = sym (none_found text (find (λ said. bytes_eq said.characters text) saids) refl is)
      at (Some number) is =
          let units = trie_of pools.contexts (index_of word) in
          let key = flat_map units_of (key_text backward text) in
          let w = value_of key number (value_maps units key number context.trie.grammar is) in
          let same : text ≡ w.said.characters = same_text backward text w.said.characters scalar
          (scalars_in w.said w.within) w.units in
          w.word.says
          ∙ sym (ap (option_map (λ said. said.elements)) (
          ap (λ cs. find (λ said. bytes_eq said.characters cs) saids) same
          ∙ found_by_text saids w.said beside.different w.within
          ))
