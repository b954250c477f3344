-- Keys with words, as they are written into unit tries and read there.
use Rattle.std.proofs.Common.{◌≡◌, inl, inr, ⊎_elim, ℕ, ℤ, ◌+◌, ◌*◌, ◌<◌, ◌≤◌, List, [], ◌∷◌, length, map, Option, Some, refl, ap, sym, subst, ◌∙◌, arith, ◌↔◌}
use Rattle.std.specs.Prelude.{All}
use Rattle.std.specs.Int.{cast_signed, cast_unsigned, w32}
use Rattle.std.specs.List.{Contains}
use Rattle.std.specs.List.Sorted.{IsPermutation}
use Rattle.std.proofs.lemmas.Int.{of_z-to_z}
use Rattle.std.proofs.lemmas.List.{length-map}
use Rattle.std.proofs.lemmas.List.Elements.{All-head, All-tail}
use Rattle.std.proofs.lemmas.List.Sorted.{Contains-permutation, IsPermutation-map, IsPermutation-sym}
use Rattle.std.proofs.lemmas.Option.{none-some}
use Rattle.icu_char16trie.specs.UnitGrammar.{IsUnitTrie}
use Rattle.icu_char16trie.specs.UnitMaps.{IsNode, final, valued, bare, MapsKey, ends, goes_on, at_node}
use Rattle.icu_char16trie.specs.UnitPairs.{Has}
use Rattle.icu_char16trie.specs.WrittenUnits.{total}
use Rattle.icu_char16trie.specs.declared.node.State.{State}
use Rattle.icu_collator_core.proofs.apart.GrowthLemmas.{first_in, first_or_later, later_in}
use Rattle.collate_words.specs.declared.contexts.ContextKey.{ContextKey}
use Rattle.collate_words.specs.ContextKeys.{FitsContext, HasKeys, pair_of}

abbrev pub signed_pair : ContextKey → List ℕ × ℤ
signed_pair key = (key.units.items, cast_signed w32 key.word)

-- ---- Pairs

pub has_word : (keys : List ContextKey) (key : List ℕ) (number : ℤ) → All FitsContext keys
    → Has (map signed_pair keys) key number
    → Contains (map pair_of keys) (key, cast_unsigned w32 number)
has_word [] key number fit has = absurd has
has_word (first ∷ keys) key number fit (inl same) =
    let bound = (All-head FitsContext first keys fit).word in
    let word : first.word ≡ cast_unsigned w32 number = sym (of_z-to_z w32 first.word bound)
    ∙ ap (cast_unsigned w32) same.1 in
    subst (λ pair. Contains (map pair_of (first ∷ keys)) pair)
    (ap (λ (units : List ℕ). (units, first.word)) same.0 ∙ ap (λ (w : ℕ). (key, w)) word)
    (first_in (pair_of first) (map pair_of keys))
has_word (first ∷ keys) key number fit (inr later) =
    later_in (pair_of first) (key, cast_unsigned w32 number) (map pair_of keys)
    (has_word keys key number (All-tail FitsContext first keys fit) later)

pub word_has : (keys : List ContextKey) (key : List ℕ) (word : ℕ) → Contains (map pair_of keys) (key, word)
    → Has (map signed_pair keys) key (cast_signed w32 word)
word_has [] key word has = absurd (let none = has.1 in omega (arith, none))
word_has (first ∷ keys) key word has =
    ⊎_elim
    (λ (same : pair_of first ≡ (key, word)). inl (ap (λ pair. pair.0) same, ap (λ pair. cast_signed w32 pair.1) same))
    (λ (later : Contains (map pair_of keys) (key, word)). inr (word_has keys key word later))
    (first_or_later (pair_of first) (key, word) (map pair_of keys) has)

pub total_short : (keys : List ContextKey) → All FitsContext keys → total (map signed_pair keys) ≤ 14 * length keys
total_short [] fit = omega arith
total_short (first ∷ keys) fit =
    let short = (All-head FitsContext first keys fit).short in
    let rest = total_short keys (All-tail FitsContext first keys fit) in
    omega (arith, short, rest)

-- ---- Units

no_node : (index : ℕ) (value : Option ℕ) (next : Option State) → IsNode [] index value next → ⊥
no_node index value next (final p lead number at high found) = none-some lead at
no_node index value next (valued p lead number state at high low found opens) = none-some lead at
no_node index value next (bare p lead state at low opens) = none-some lead at

no_key : (index : ℕ) (key : List ℕ) (number : ℤ) → MapsKey [] (at_node index) key number → ⊥
no_key index key number (ends p value next node) = no_node p (Some value) next node
no_key index key number (goes_on p value next k n node rest) = no_node p value (Some next) node

some_units : (units : List ℕ) → (units ≡ [] → ⊥) → 0 < length units
some_units [] some = absurd (some refl)
some_units (unit ∷ units) some = omega arith

some_key : (keys : List ContextKey) (units : List ℕ) → 0 < length keys
    → ((key : List ℕ) (number : ℤ) → Has (map signed_pair keys) key number → MapsKey units (at_node 0) key number)
    → 0 < length units
some_key [] units some spelled = absurd (omega (arith, some))
some_key (first ∷ keys) units some spelled =
    some_units units
    (λ none.
    no_key 0 first.units.items (cast_signed w32 first.word)
    (subst (λ us. MapsKey us (at_node 0) first.units.items (cast_signed w32 first.word)) none
    (spelled first.units.items (cast_signed w32 first.word) (inl (refl, refl)))))

-- the units that are written of keys in another order
pub keys_written : (old new : List ContextKey) (pairs : List (List ℕ × ℤ)) (units : List ℕ) → IsPermutation old new
    → 0 < length old
    → length new ≡ length old → All FitsContext new → pairs ≡ map signed_pair new → IsUnitTrie units
    → ((key : List ℕ) (number : ℤ) → MapsKey units (at_node 0) key number ↔ Has pairs key number)
    → HasKeys units (map pair_of old)
keys_written old new pairs units permutation some same fit are grammar entries =
    let entries_too = subst (λ ps. (key : List ℕ) (number : ℤ)
    → MapsKey units (at_node 0) key number ↔ Has ps key number) are entries in
    let moved = IsPermutation-map pair_of old new permutation in
    record {
      some = some_key new units (omega (arith, some, same)) (λ key number has. (entries_too key number).1 has);
      grammar = grammar;
      read = λ key number maps.
          Contains-permutation (map pair_of new) (map pair_of old) (key, cast_unsigned w32 number)
          (IsPermutation-sym (map pair_of old) (map pair_of new) moved)
          (has_word new key number fit ((entries_too key number).0 maps));
      spelled = λ key word has.
          (entries_too key (cast_signed w32 word)).1 (word_has new key word
          (Contains-permutation (map pair_of old) (map pair_of new) (key, word) moved has));
    }

-- and how many they are
pub written_few : (old new : List ContextKey) (pairs : List (List ℕ × ℤ)) (count size : ℕ) → length new ≡ length old
    → All FitsContext new
    → pairs ≡ map signed_pair new → length pairs ≡ count → size ≤ 10 * total pairs + 3 * count → size ≤ 143 * length old
written_few old new pairs count size same fit are counted bound =
    let short = total_short new fit in
    let total_is = ap total are in
    let length_is = ap length are ∙ length-map new signed_pair in
    omega (arith, same, counted, bound, short, total_is, length_is)
