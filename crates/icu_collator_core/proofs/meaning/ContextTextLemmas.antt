-- The texts that a context has words for: where its keys pass a test, so do they.
use Rattle.std.proofs.Common.{◌≡◌, ℕ, ℤ, ◌+◌, ◌-◌, ◌/◌, ◌%◌, ◌<◌, ◌≤◌, Bool, true, false, cond, List, [], ◌∷◌, ◌++◌, Option, Some, None, refl, ap, sym, ◌∙◌, arith, ⊎_elim}
use Rattle.std.specs.Prelude.{◌&&◌, flat_map, leb}
use Rattle.std.specs.Int.{cast_unsigned, w32}
use Rattle.std.specs.Option.{option_map}
use Rattle.std.proofs.lemmas.Bool.{and_from, and_parts, and_right, cases_lt, le-leb, le-ltb, lt-leb, lt-ltb}
use Rattle.std.proofs.lemmas.Option.{none-some, same_Some}
use lib.Utf8.{scalar, scalar_cases, scalars}
use Rattle.icu_char16trie.specs.Cursors.{units_of, value_of_key}
use Rattle.icu_char16trie.proofs.Cursors.ValueLemmas.{value_spelled}
use Rattle.icu_char16trie.proofs.Reading.OutcomeLemmas.{start-spells}
use Rattle.icu_normalizer_core.specs.BuiltIn.{is_within}
use Rattle.icu_normalizer_core.proofs.decoded.ScalarLemmas.{scalar_below}
use Rattle.icu_collator_core.specs.ContextRules.{KeysPass, characters_of_units, is_lower_half, is_upper_half, joined_halves}
use Rattle.icu_collator_core.specs.Pools.{Pools, index_of, trie_of, word_in_context}
use Rattle.icu_collator_core.proofs.checks.KeyLemmas.{two_units, whole_unit}

-- ---- Units that are those of characters

-- a character is no half
no_half : (c : ℕ) → scalar c ≡ true → is_within 0xd800 0xdfff c ≡ false
no_half c s =
    ⊎_elim (λ (low : c < 0xd800). ap (λ (b : Bool). b && leb c 0xdfff) (lt-leb 0xd800 c low))
    (λ (high : (0xe000 ≤ c) × (c < 0x110000)). let above = high.0 in and_right (leb 0xd800 c) (leb c 0xdfff) (lt-leb c 0xdfff (omega (arith, above))))
    (scalar_cases c s)

abbrev pub upper : ℕ → ℕ
upper c = 0xd800 + (c - 0x10000) / 0x400

abbrev pub lower : ℕ → ℕ
lower c = 0xdc00 + c % 0x400

pub one_unit : (c : ℕ) → c < 0x10000 → units_of c ≡ c ∷ []
one_unit c less = ap (λ (b : Bool). cond b (c ∷ []) (upper c ∷ lower c ∷ [])) (lt-ltb c 0x10000 less)

pub two_halves : (c : ℕ) → 0x10000 ≤ c → units_of c ≡ upper c ∷ lower c ∷ []
two_halves c more = ap (λ (b : Bool). cond b (c ∷ []) (upper c ∷ lower c ∷ [])) (le-ltb c 0x10000 more)

halves_read : (c : ℕ) (rest : List ℕ) → 0x10000 ≤ c → c < 0x110000
    → characters_of_units (upper c ∷ lower c ∷ rest) ≡ option_map (λ cs. c ∷ cs) (characters_of_units rest)
halves_read c rest more less =
    let first : is_upper_half (upper c) ≡ true = and_from _ _ (le-leb 0xd800 (upper c) (omega arith)) (le-leb (upper c) 0xdbff (omega (arith, more, less)))
    in let second : is_lower_half (lower c) ≡ true = and_from _ _ (le-leb 0xdc00 (lower c) (omega arith)) (le-leb (lower c) 0xdfff (omega arith))
    in let half : is_within 0xd800 0xdfff (upper c) ≡ true = and_from _ _ (le-leb 0xd800 (upper c) (omega arith)) (le-leb (upper c) 0xdfff (omega (arith, more, less)))
    in let joined : joined_halves (upper c) (lower c) ≡ c = omega (arith, more)
    in two_units (upper c) (lower c) rest half
    ∙ ap (λ (b : Bool). cond b (option_map (λ cs. joined_halves (upper c) (lower c) ∷ cs) (characters_of_units rest)) None) (and_from _ _ first second)
    ∙ ap (λ (d : ℕ). option_map (λ cs. d ∷ cs) (characters_of_units rest)) joined

unit_read : (c : ℕ) (rest : List ℕ) → scalar c ≡ true
    → characters_of_units (units_of c ++ rest) ≡ option_map (λ cs. c ∷ cs) (characters_of_units rest)
unit_read c rest s =
    ⊎_elim
    (λ (less : c < 0x10000). ap (λ (units : List ℕ). characters_of_units (units ++ rest)) (one_unit c less) ∙ whole_unit c rest (no_half c s))
    (λ (more : 0x10000 ≤ c). ap (λ (units : List ℕ). characters_of_units (units ++ rest)) (two_halves c more) ∙ halves_read c rest more (scalar_below c s))
    (cases_lt c 0x10000)

-- the units of characters spell the characters
pub units_spell : (cs : List ℕ) → scalars cs ≡ true → characters_of_units (flat_map units_of cs) ≡ Some cs
unfolding characters_of_units
units_spell [] s = refl
units_spell (c ∷ cs) s =
    let both = and_parts (scalar c) (scalars cs) s
    in unit_read c (flat_map units_of cs) both.0 ∙ ap (option_map (λ xs. c ∷ xs)) (units_spell cs both.1)

-- ---- Texts of a context

-- the characters of a key pass what all keys pass
key_passes : (passes : List ℕ → Bool) (key cs ds : List ℕ) → characters_of_units key ≡ Some cs → characters_of_units key ≡ Some ds
    → passes ds ≡ true → passes cs ≡ true
key_passes passes key cs ds is told h = ap passes (same_Some cs ds (sym is ∙ told)) ∙ h

-- a text that a context has a word for passes what its keys pass
pub text_passes : (passes : List ℕ → Bool) (pools : Pools) (word : ℕ) (cs : List ℕ) (one : ℕ) → scalars cs ≡ true
    → KeysPass passes (trie_of pools.contexts (index_of word)) → word_in_context pools.contexts (index_of word) cs ≡ Some one
    → passes cs ≡ true
unfolding word_in_context
text_passes passes pools word cs one s keys e = at (value_of_key (trie_of pools.contexts (index_of word)) (flat_map units_of cs)) refl e
  where
    at : (o : Option ℤ) → value_of_key (trie_of pools.contexts (index_of word)) (flat_map units_of cs) ≡ o
        → option_map (cast_unsigned w32) o ≡ Some one → passes cs ≡ true
    at None is h = absurd (none-some one h)
    at (Some number) is h =
        let units = trie_of pools.contexts (index_of word)
        in let key = flat_map units_of cs
        in let found = keys.1 key number ((start-spells units keys.0 key number).0 ((value_spelled units key number).0 is))
        in key_passes passes key cs found.0 (units_spell cs s) found.1 found.2
