-- Two sorted lists with the same keys and values are one.
use Rattle.std.proofs.Common.{◌≡◌, ℕ, ℤ, List, [], ◌∷◌, map, Less, refl, ap, ◌∙◌, sym, subst, inl, inr, ◌↔◌, ⊎_elim}
use Rattle.std.proofs.lemmas.Cmp.{nat_list_cmp_total, tied_itself}
use Rattle.std.specs.Cmp.Lexicographic.{slice_cmp}
use Rattle.std.specs.List.{AllByRecursion, Contains}
use Rattle.std.specs.List.Sorted.{IsStrictlySortedBy}
use Rattle.std.specs.Ordering.{nat_cmp}
use Rattle.icu_char16trie.specs.UnitPairs.{Has}
use Rattle.icu_char16trie.proofs.Grammar.ListingLemmas.{Pair}
use Rattle.icu_char16trie.proofs.Reading.CompleteReadsLemmas.{has_contains, contains_has}

abbrev keys : List Pair → List (List ℕ)
keys pairs = map (λ (pair : Pair). pair.0) pairs

abbrev Below : List ℕ → List Pair → Type 0
Below key pairs = AllByRecursion (λ other. slice_cmp nat_cmp key other ≡ Less) (keys pairs)

below-has : (key other : List ℕ) (number : ℤ) (pairs : List Pair) → Below key pairs → Has pairs other number → slice_cmp nat_cmp key other ≡ Less
below-has key other number [] h k = absurd k
below-has key other number (pair ∷ pairs) h k =
    ⊎_elim (λ here. subst (λ other. slice_cmp nat_cmp key other ≡ Less) here.0 h.0) (λ rest. below-has key other number pairs h.1 rest) k

no-round : (key other : List ℕ) → slice_cmp nat_cmp key other ≡ Less → slice_cmp nat_cmp other key ≡ Less → ⊥
no-round key other h k =
    let less = nat_list_cmp_total.trans key other key h k in
    let same = tied_itself nat_list_cmp_total key in
    cc

-- what is in one list is in the other
abbrev Within : List Pair → List Pair → Type 0
Within xs ys = (key : List ℕ) (number : ℤ) → Has xs key number → Has ys key number

first-same : (x y : Pair) (xs ys : List Pair) → Below x.0 xs → Below y.0 ys → Within (x ∷ xs) (y ∷ ys) → Within (y ∷ ys) (x ∷ xs) → x ≡ y
first-same x y xs ys low below forth back =
    ⊎_elim
    (λ (same : (y.0 ≡ x.0) × (y.1 ≡ x.1)). ap (λ key. (key, x.1)) (sym same.0) ∙ ap (λ number. (y.0, number)) (sym same.1))
    (λ (there : Has ys x.0 x.1).
    ⊎_elim
    (λ (same : (x.0 ≡ y.0) × (x.1 ≡ y.1)). ap (λ key. (key, x.1)) same.0 ∙ ap (λ number. (y.0, number)) same.1)
    (λ (here : Has xs y.0 y.1). absurd (no-round x.0 y.0 (below-has x.0 y.0 y.1 xs low here) (below-has y.0 x.0 x.1 ys below there)))
    (back y.0 y.1 (inl (refl, refl))))
    (forth x.0 x.1 (inl (refl, refl)))

rest-within : (x y : Pair) (xs ys : List Pair) → x ≡ y → Below x.0 xs → Within (x ∷ xs) (y ∷ ys) → Within xs ys
rest-within x y xs ys same low forth = λ key number h.
    ⊎_elim
    (λ (first : (y.0 ≡ key) × (y.1 ≡ number)).
    let less = below-has x.0 key number xs low h in
    let equal : x.0 ≡ key = ap (λ (p : Pair). p.0) same ∙ first.0 in
    absurd (no-round x.0 x.0 (subst (λ other. slice_cmp nat_cmp x.0 other ≡ Less) (sym equal) less) (subst (λ other. slice_cmp nat_cmp x.0 other ≡ Less) (sym equal) less)))
    (λ rest. rest)
    (forth key number (inr h))

same-has : (xs ys : List Pair) → IsStrictlySortedBy (slice_cmp nat_cmp) (keys xs) → IsStrictlySortedBy (slice_cmp nat_cmp) (keys ys) → Within xs ys → Within ys xs → xs ≡ ys
unfolding IsStrictlySortedBy
same-has [] [] h k forth back = refl
same-has [] (y ∷ ys) h k forth back = absurd (back y.0 y.1 (inl (refl, refl)))
same-has (x ∷ xs) [] h k forth back = absurd (forth x.0 x.1 (inl (refl, refl)))
same-has (x ∷ xs) (y ∷ ys) h k forth back =
    let same : x ≡ y = first-same x y xs ys h.0 k.0 forth back in
    let rest : xs ≡ ys = same-has xs ys h.1 k.1 (rest-within x y xs ys same h.0 forth) (rest-within y x ys xs (sym same) k.0 back) in
    ap (λ first. first ∷ xs) same ∙ ap (λ rest. y ∷ rest) rest

pub same_list : (xs ys : List Pair) → IsStrictlySortedBy (slice_cmp nat_cmp) (keys xs) → IsStrictlySortedBy (slice_cmp nat_cmp) (keys ys)
    → ((key : List ℕ) (number : ℤ) → Contains xs (key, number) ↔ Contains ys (key, number)) → xs ≡ ys
same_list xs ys h k both =
    same-has xs ys h k
    (λ key number m. contains_has ys (key, number) ((both key number).0 (has_contains xs key number m)))
    (λ key number m. contains_has xs (key, number) ((both key number).1 (has_contains ys key number m)))
