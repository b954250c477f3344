-- Keys that were written are read back.
use Rattle.std.proofs.Common.{◌≡◌, ℕ, ℤ, ◌≤◌, ◌↔◌, List, [], ◌∷◌, length, map, subst, ⊎_elim}
use Rattle.std.specs.Cmp.Lexicographic.{slice_cmp}
use Rattle.std.specs.Ordering.{nat_cmp}
use Rattle.std.specs.declared.cmp.Ordering.TheVariants.{Less}
use Rattle.std.specs.List.{AllByRecursion}
use Rattle.std.specs.List.Sorted.{IsStrictlySortedBy}
use Rattle.icu_char16trie.specs.UnitMaps.{at_node, MapsKey}
use Rattle.icu_char16trie.specs.UnitGrammar.{IsListing, IsWithin}
use Rattle.icu_char16trie.specs.UnitPairs.{ComesFirst, AreSorted, Has}
use Rattle.icu_char16trie.specs.WrittenUnits.{AreWritten, AreShort}
use Rattle.icu_char16trie.proofs.Reading.CompleteReadsLemmas.{has_contains, contains_has}
use Rattle.icu_char16trie.proofs.Writing.KeyFaultLemmas.{below_less, sorted_from}
use Rattle.icu_char16trie.proofs.Pairs.SameListLemmas.{same_list}

less-all : (key : List ℕ) (pairs : List (List ℕ × ℤ)) → ComesFirst key pairs
    → AllByRecursion (λ other. slice_cmp nat_cmp key other ≡ Less) (map (λ (pair : List ℕ × ℤ). pair.0) pairs)
less-all key [] h = tt
less-all key (pair ∷ pairs) h = (below_less key pair.0 h.0, less-all key pairs h.1)

strictly-sorted : (pairs : List (List ℕ × ℤ)) → AreSorted pairs → IsStrictlySortedBy (slice_cmp nat_cmp) (map (λ (pair : List ℕ × ℤ). pair.0) pairs)
unfolding IsStrictlySortedBy
strictly-sorted [] h = tt
strictly-sorted (pair ∷ pairs) h = (less-all pair.0 pairs h.0, strictly-sorted pairs h.1)

module _ (pairs : List (List ℕ × ℤ)) (units : List ℕ) (limit : ℕ)
    (entries : (key : List ℕ) (number : ℤ) → MapsKey units (at_node 0) key number ↔ Has pairs key number) where
  pub read_back : (list : List (List ℕ × ℤ)) → AreWritten pairs → IsListing units limit list → list ≡ pairs
  read_back list written listing =
      same_list list pairs listing.sorted (strictly-sorted pairs (sorted_from pairs written.0))
      (λ key number. (
        (λ m. has_contains pairs key number ((entries key number).0 ((listing.entries key number).0 m))),
        (λ m. (listing.entries key number).1 ((entries key number).1 (contains_has pairs (key, number) m))),
      ))

  short-has : (rest : List (List ℕ × ℤ)) → AreShort limit rest → (key : List ℕ) (number : ℤ) → Has rest key number → length key ≤ limit
  short-has [] h key number k = absurd k
  short-has (pair ∷ rest) h key number k =
      ⊎_elim (λ here. subst (λ key. length key ≤ limit) here.0 h.0) (λ there. short-has rest h.1 key number there) k

  pub within_limit : AreShort limit pairs → IsWithin units limit
  within_limit h key number spells = short-has pairs h key number ((entries key number).0 spells)
