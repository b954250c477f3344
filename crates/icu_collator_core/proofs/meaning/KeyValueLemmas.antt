-- The values of keys in contexts whose keys are short: those that the units map.
use Rattle.std.proofs.Common.{◌≡◌, ℕ, ℤ, ◌+◌, ◌*◌, ◌≤◌, Bool, true, false, List, [], ◌∷◌, length, Option, Some, None, refl, ap, sym, subst, ◌∙◌, arith, ⊎_elim}
use Rattle.std.proofs.lemmas.Option.{none-some, same_Some}
use Rattle.std.specs.Int.{cast_unsigned, w32}
use Rattle.std.specs.Option.{option_map}
use Rattle.std.specs.Prelude.{◌&&◌, flat_map}
use Rattle.icu_char16trie.specs.Cursors.{units_of, value_of_key}
use Rattle.icu_char16trie.proofs.Cursors.ValueLemmas.{value_spelled}
use Rattle.icu_char16trie.proofs.Reading.OutcomeLemmas.{start-spells}
use Rattle.icu_normalizer_core.specs.BuiltIn.{is_within}
use Rattle.icu_collator_core.specs.ContextRules.{KeysPass, characters_of_units, is_lower_half, is_upper_half, joined_halves}
use Rattle.icu_collator_core.specs.Pools.{Pools, index_of, trie_of, word_in_context}
use Rattle.icu_collator_core.specs.PrefixFaults.{HasValue}
use Rattle.icu_collator_core.specs.WordForms.{AreReadable, ValuesPass}
use Rattle.icu_collator_core.proofs.checks.KeyLemmas.{branched}

one_more : (c : ℕ) (rest : Option (List ℕ)) (cs : List ℕ) (n : ℕ) → option_map (λ xs. c ∷ xs) rest ≡ Some cs
    → ((xs : List ℕ) → rest ≡ Some xs → n ≤ 2 * length xs) → n + 2 ≤ 2 * length cs
one_more c None cs n e few = absurd (none-some cs e)
one_more c (Some xs) cs n e few =
    let more = few xs refl in subst (λ ys. n + 2 ≤ 2 * length ys) (same_Some (c ∷ xs) cs e) (omega (arith, more))

-- a key has at most two units a character
pub units_few : (key cs : List ℕ) → characters_of_units key ≡ Some cs → length key ≤ 2 * length cs
unfolding characters_of_units
units_few [] cs e = omega arith
units_few (unit ∷ []) cs e =
    ⊎_elim
    (λ (no : None ≡ Some cs). absurd (none-some cs no))
    (λ (one : Some (unit ∷ []) ≡ Some cs). let n = one_more unit (Some []) cs 0 one (λ xs same. omega arith) in omega (arith, n))
    (branched (is_within 0xd800 0xdfff unit) false None (Some (unit ∷ [])) cs e)
units_few (unit ∷ next ∷ rest) cs e =
    let joined = option_map (λ xs. joined_halves unit next ∷ xs) (characters_of_units rest)
    in let single = option_map (λ xs. unit ∷ xs) (characters_of_units (next ∷ rest))
    in ⊎_elim
    (λ (two : joined ≡ Some cs).
    let n = one_more (joined_halves unit next) (characters_of_units rest) cs (length rest) two (λ xs same. units_few rest xs same) in omega (arith, n))
    (λ (one : single ≡ Some cs).
    let n = one_more unit (characters_of_units (next ∷ rest)) cs (length (next ∷ rest)) one (λ xs same. units_few (next ∷ rest) xs same) in omega (arith, n))
    (branched (is_within 0xd800 0xdfff unit) (is_upper_half unit && is_lower_half next) joined single cs e)

-- a test that no text of more than seven characters passes
abbrev pub AreShort : (List ℕ → Bool) → Type 0
AreShort passes = (cs : List ℕ) → passes cs ≡ true → length cs ≤ 7

pub readable : (passes : List ℕ → Bool) (units : List ℕ) → AreShort passes → KeysPass passes units → AreReadable units
readable passes units short keys = (
  keys.0,
  λ key number maps.
      let found = keys.1 key number maps
      in let few = units_few key found.0 found.1
      in let seven = short found.0 found.2
      in omega (arith, few, seven),
)

-- a word that a context has for characters is a value of it
pub context_value : (passes : List ℕ → Bool) (pools : Pools) (word : ℕ) (cs : List ℕ) (one : ℕ) → AreShort passes
    → KeysPass passes (trie_of pools.contexts (index_of word)) → word_in_context pools.contexts (index_of word) cs ≡ Some one
    → HasValue pools word one
unfolding word_in_context
context_value passes pools word cs one short keys e = at (value_of_key (trie_of pools.contexts (index_of word)) (flat_map units_of cs)) refl e
  where
    at : (o : Option ℤ) → value_of_key (trie_of pools.contexts (index_of word)) (flat_map units_of cs) ≡ o
        → option_map (cast_unsigned w32) o ≡ Some one → HasValue pools word one
    at None is h = absurd (none-some one h)
    at (Some number) is h =
        let units = trie_of pools.contexts (index_of word)
        in let key = flat_map units_of cs
        in (key, number, readable passes units short keys, (start-spells units keys.0 key number).0 ((value_spelled units key number).0 is), same_Some (cast_unsigned w32 number) one h)

-- where the values of a context pass a test, one of them does
pub value_passes : (pools : Pools) (passes : ℕ → Bool) (word one : ℕ) → ValuesPass pools passes word → HasValue pools word one → passes one ≡ true
value_passes pools passes word one all has = ap passes (sym has.4) ∙ all has.2 has.0 has.1 has.3
