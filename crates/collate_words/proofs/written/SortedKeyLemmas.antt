-- Different keys that are sorted: the writer of unit tries refuses them if memory is refused alone.
use Rattle.std.proofs.Common.{◌≡◌, ℕ, ℤ, suc, zero, ◌+◌, ◌-◌, ◌^◌, ◌<◌, ◌≤◌, Bool, true, false, cond, not, List, [], ◌∷◌, length, map, get_or, slice_get, Some, refl, ap, sym, subst, ◌∙◌, arith}
use Rattle.std.specs.Prelude.{All, flat_map}
use Rattle.std.specs.Cmp.Lexicographic.{slice_cmp}
use Rattle.std.specs.Cmp.{IsStrictWeakOrder}
use Rattle.std.specs.List.{count_by, list_all}
use Rattle.std.specs.List.Sorted.{IsSortedBy}
use Rattle.std.specs.declared.cmp.Ordering.{Ordering}
use Rattle.std.specs.declared.cmp.Ordering.TheVariants.{Less, Equal, Greater}
use Rattle.std.specs.Ordering.{is_eq, is_lt, nat_cmp, ordering_reverse}
use Rattle.std.specs.Str.{bytes_eq}
use Rattle.std.proofs.Math.Numerals.{add-one}
use Rattle.std.proofs.lemmas.Bool.{and_parts, not-true, true≢false}
use Rattle.std.proofs.lemmas.Cmp.{nat_list_cmp_total}
use Rattle.std.proofs.lemmas.List.Elements.{All-get_or, All-head, All-tail}
use Rattle.std.proofs.lemmas.List.Sorted.{ranks_by}
use Rattle.std.proofs.lemmas.List.Sums.{sum_by-cons}
use Rattle.std.proofs.lemmas.Map.Text.{is_eq-slice_cmp}
use Rattle.std.proofs.lemmas.Option.{none-some, same_Some}
use Rattle.std.proofs.lemmas.Slice.Eq.{bytes_eq-Decides}
use Rattle.icu_char16trie.specs.Cursors.{units_of}
use Rattle.icu_char16trie.specs.UnitPairs.{Below}
use Rattle.icu_char16trie.specs.WrittenUnits.{Explains, IsEmptyKey, IsUnsorted, total}
use Rattle.icu_char16trie.specs.declared.writer.WriteUnitsError.{WriteUnitsError}
use Rattle.icu_char16trie.specs.declared.writer.WriteUnitsError.TheVariants.{EmptyKey, Memory, NotSorted, TooLarge}
use Rattle.icu_char16trie.proofs.Writing.KeyFaultLemmas.{less_below}
use Rattle.collate_words.specs.declared.contexts.ContextKey.{ContextKey}
use Rattle.collate_words.specs.ContextKeys.{AreKeysOf, AreKeysOnce, FitsContext, key_text, pair_of}
use Rattle.collate_words.specs.Fits.{AreBeside, IsBeside, are_different}
use Rattle.collate_words.specs.Sayings.{SaidBeside, texts_beside}
use Rattle.icu_collator_core.specs.Pools.{Pools}
use Rattle.collate_words.proofs.written.WrittenKeyLemmas.{same_text}
use Rattle.collate_words.proofs.written.TrieKeyLemmas.{signed_pair, total_short}

-- ---- The order of keys

abbrev pub comes_before : ContextKey → ContextKey → Bool
comes_before a b = is_lt (slice_cmp nat_cmp a.units.items b.units.items)

pub order_of_keys : IsStrictWeakOrder comes_before
order_of_keys = ranks_by nat_list_cmp_total (λ key. key.units.items)

-- what an item adds to a count
abbrev one_if : Bool → ℕ
one_if b = cond b 1 0

-- a test that two neighbours pass counts two
twice : (p : ContextKey → Bool) (keys : List ContextKey) (k : ℕ) (d : ContextKey) → suc k < length keys
    → p (get_or keys k d) ≡ true
    → p (get_or keys (suc k) d) ≡ true → 2 ≤ count_by p keys
twice p [] k d inside first second = absurd (omega (arith, inside))
twice p (a ∷ []) k d inside first second = absurd (omega (arith, inside))
twice p (a ∷ b ∷ keys) zero d inside first second =
    let one = sum_by-cons (λ x. one_if (p x)) a (b ∷ keys) in
    let two = sum_by-cons (λ x. one_if (p x)) b keys in
    let of_first : one_if (p a) ≡ 1 = ap one_if first in
    let of_second : one_if (p b) ≡ 1 = ap one_if second in
    omega (arith, one, two, of_first, of_second)
twice p (a ∷ b ∷ keys) (suc k) d inside first second =
    let one = sum_by-cons (λ x. one_if (p x)) a (b ∷ keys) in
    let rest = twice p (b ∷ keys) k d (omega (arith, inside)) first second in
    omega (arith, one, rest)

-- keys that differ rise where they are sorted
below_by : (a b : List ℕ) (order : Ordering) → slice_cmp nat_cmp a b ≡ order → is_lt (slice_cmp nat_cmp b a) ≡ false
    → (bytes_eq a b ≡ true → ⊥) → Below a b
below_by a b Less is sorted other = less_below a b is
below_by a b Equal is sorted other = absurd (other (sym (is_eq-slice_cmp a b) ∙ ap is_eq is))
below_by a b Greater is sorted other =
    absurd (true≢false (sym (ap is_lt (nat_list_cmp_total.antisymm b a ∙ ap ordering_reverse is)) ∙ sorted))

adjacent : (keys : List ContextKey) → AreKeysOnce keys → IsSortedBy comes_before keys → (k : ℕ) (d : ContextKey)
    → k + 1 < length keys
    → Below (get_or keys k d).units.items (get_or keys (k + 1) d).units.items
adjacent keys once sorted k d inside =
    let a = (get_or keys k d).units.items in
    let b = (get_or keys (k + 1) d).units.items in
    below_by a b (slice_cmp nat_cmp a b) refl (sorted k d (omega arith) inside)
    (λ same.
    let two = twice (λ key. bytes_eq key.units.items b) keys k d (omega (arith, inside)) same
    (subst (λ n. bytes_eq (get_or keys n d).units.items b ≡ true) (add-one k) ((bytes_eq-Decides b b).1 refl)) in
    let one = once b in
    omega (arith, one, two))

-- ---- No fault

record IsGot (keys : List ContextKey) (index : ℕ) (pair : List ℕ × ℤ) : Type 0 where
  key : ContextKey
  inside : index < length keys
  at_index : (d : ContextKey) → get_or keys index d ≡ key
  is : signed_pair key ≡ pair

got : (keys : List ContextKey) (index : ℕ) (pair : List ℕ × ℤ) → slice_get (map signed_pair keys) index ≡ Some pair
    → IsGot keys index pair
got [] index pair e = absurd (none-some pair e)
got (first ∷ keys) zero pair e = record {
  key = first;
  inside = omega arith;
  at_index = λ d. refl;
  is = same_Some
      (signed_pair first) pair e;
}
got (first ∷ keys) (suc index) pair e =
    let w = got keys index pair e in
    let before = w.inside in
    record { key = w.key; inside = omega (arith, before); at_index = w.at_index; is = w.is }

module _ (keys : List ContextKey) (fit : All FitsContext keys) (once : AreKeysOnce keys)
    (sorted : IsSortedBy comes_before keys) where
  not_empty : (index : ℕ) → IsEmptyKey (map signed_pair keys) index → ⊥
  not_empty index empty =
      let w = got keys index ([], empty.0) empty.1 in
      let some = (subst FitsContext (w.at_index w.key) (All-get_or FitsContext keys index w.key w.inside fit)).some in
      let none : length w.key.units.items ≡ 0 = ap (λ pair. length pair.0) w.is in
      omega (arith, some, none)

  not_unsorted : (index : ℕ) → IsUnsorted (map signed_pair keys) index → ⊥
  not_unsorted index fault =
      let positive = fault.2 in
      let one = got keys (index - 1) fault.0 fault.3 in
      let two = got keys index fault.1 fault.4 in
      let inside = two.inside in
      let same : index - 1 + 1 ≡ index = omega (arith, positive) in
      let rises = adjacent keys once sorted (index - 1) one.key (omega (arith, positive, inside)) in
      let second = subst (λ n. Below (get_or keys (index - 1) one.key).units.items
      (get_or keys n one.key).units.items) same rises in
      let first : (get_or keys (index - 1) one.key).units.items
      ≡ fault.0.0 = ap (λ key. key.units.items) (one.at_index one.key) ∙ ap (λ pair. pair.0) one.is in
      let last : (get_or keys index one.key).units.items ≡ fault.1.0 = ap (λ key. key.units.items)
      (two.at_index one.key) ∙ ap (λ pair. pair.0) two.is in
      fault.5 (subst (λ units. Below units fault.1.0) first (subst (λ units. Below
      (get_or keys (index - 1) one.key).units.items units) last second))

  pub no_fault : (pairs : List (List ℕ × ℤ)) → pairs ≡ map signed_pair keys → length keys ≤ 2 ^ 19
      → (error : WriteUnitsError)
      → Explains pairs error → error ≡ Memory
  no_fault pairs are few (EmptyKey index) why =
      absurd (not_empty index (subst (λ ps. IsEmptyKey ps index) are why.1))
  no_fault pairs are few (NotSorted index) why =
      absurd (not_unsorted index (subst (λ ps. IsUnsorted ps index) are why.2))
  no_fault pairs are few TooLarge why =
      let many = why.1 in
      let same = ap total are in
      let short = total_short keys fit in
      absurd (omega (arith, many, same, short, few))
  no_fault pairs are few Memory why = refl

-- ---- Keys of different texts

module _ (pools : Pools) (most : ℕ) (backward : Bool) where
  -- a text that none of these is has none of their keys
  none_counts : (said : SaidBeside) → IsBeside most said → (saids : List SaidBeside) (keys : List ContextKey)
      → All (IsBeside most) saids
      → list_all (λ other. not (bytes_eq said.characters other)) (texts_beside saids) ≡ true
      → AreKeysOf pools backward saids (map pair_of keys)
      → count_by (λ key. bytes_eq key.units.items (flat_map units_of (key_text backward said.characters))) keys ≡ 0
  none_counts said is [] [] each others are = refl
  none_counts said is [] (key ∷ keys) each others are = absurd are
  none_counts said is (other ∷ saids) [] each others are = refl
  none_counts said is (other ∷ saids) (key ∷ keys) each others are =
      let units = flat_map units_of (key_text backward said.characters) in
      let both = and_parts (not (bytes_eq said.characters other.characters)) _ others in
      let differs = not-true (bytes_eq said.characters other.characters) both.0 in
      let no : bytes_eq key.units.items units ≡ false = at (bytes_eq key.units.items units) refl differs in
      let first = sum_by-cons (λ k. one_if (bytes_eq k.units.items units)) key keys in
      let none : one_if (bytes_eq key.units.items units) ≡ 0 = ap one_if no in
      let rest = none_counts said is saids keys (All-tail (IsBeside most) other saids each) both.1 are.1 in
      omega (arith, first, none, rest)
    where
      at : (b : Bool) → bytes_eq key.units.items (flat_map units_of (key_text backward said.characters)) ≡ b
          → bytes_eq said.characters other.characters ≡ false → b ≡ false
      at true yes_so differs =
          let same = (bytes_eq-Decides key.units.items (flat_map units_of
          (key_text backward said.characters))).0 yes_so in
          let texts : said.characters ≡ other.characters =
          same_text backward said.characters other.characters is.scalars
          (All-head (IsBeside most) other saids each).scalars (sym same ∙ are.0.units) in
          absurd (true≢false (sym ((bytes_eq-Decides said.characters other.characters).1 texts) ∙ differs))
      at false no_so differs = refl

  once_each : (saids : List SaidBeside) (keys : List ContextKey) → All (IsBeside most) saids
      → are_different (texts_beside saids) ≡ true
      → AreKeysOf pools backward saids (map pair_of keys) → AreKeysOnce keys
  once_each [] [] each different are units = omega arith
  once_each [] (key ∷ keys) each different are units = absurd are
  once_each (said ∷ saids) [] each different are units = omega arith
  once_each (said ∷ saids) (key ∷ keys) each different are units =
      let both = and_parts (list_all (λ other. not (bytes_eq said.characters other)) (texts_beside saids))
      (are_different (texts_beside saids)) different in
      let first = sum_by-cons (λ k. one_if (bytes_eq k.units.items units)) key keys in
      let rest = once_each saids keys (All-tail (IsBeside most) said saids each) both.1 are.1 units in
      let none = none_counts said (All-head (IsBeside most) said saids each) saids keys
      (All-tail (IsBeside most) said saids each) both.0 are.1 in
      at (bytes_eq key.units.items units) refl first rest none
    where
      at : (b : Bool) → bytes_eq key.units.items units ≡ b
          → count_by (λ k. bytes_eq k.units.items units) (key ∷ keys)
          ≡ one_if (bytes_eq key.units.items units) + count_by (λ k. bytes_eq k.units.items units) keys
          → count_by (λ k. bytes_eq k.units.items units) keys ≤ 1
          → count_by (λ k. bytes_eq k.units.items (flat_map units_of (key_text backward said.characters))) keys ≡ 0
          → count_by (λ k. bytes_eq k.units.items units) (key ∷ keys) ≤ 1
      at true here_so first rest none =
          let same : units ≡ flat_map units_of (key_text backward said.characters) =
          sym ((bytes_eq-Decides key.units.items units).0 here_so) ∙ are.0.units in
          let one : one_if (bytes_eq key.units.items units) ≡ 1 = ap one_if here_so in
          let zero_behind : count_by (λ k. bytes_eq k.units.items units) keys ≡ 0 =
          ap (λ us. count_by (λ k. bytes_eq k.units.items us) keys) same ∙ none in
          omega (arith, first, one, zero_behind)
      at false other_so first rest none =
          let no : one_if (bytes_eq key.units.items units) ≡ 0 = ap one_if other_so in
          omega (arith, first, no, rest)

  pub keys_once : (saids : List SaidBeside) (keys : List ContextKey) → AreBeside most saids
      → AreKeysOf pools backward saids (map pair_of keys) → AreKeysOnce keys
  keys_once saids keys beside are = once_each saids keys beside.each beside.different are
