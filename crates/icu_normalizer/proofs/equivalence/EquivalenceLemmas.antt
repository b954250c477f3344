-- Canonically equivalent texts are those with the same decomposed list.
use Rattle.std.proofs.Common.{◌≡◌, ℕ, ◌<◌, ◌&&◌, List, [], ◌∷◌, ◌++◌, refl, sym, ap, subst, ◌∙◌, ltb, arith}
use Rattle.std.proofs.lemmas.Bool.{cond_both, ltb-true, and_parts}
use Rattle.std.specs.Prelude.{◌≢◌, ◌↔◌, All, flat_map}
use Rattle.std.specs.Char.{IsScalar}
use Rattle.icu_normalizer_core.specs.Canonical.{Canonical, IsDecomposing, Leaves, nothing, unmapped, mapped, put_in_order, marks_in_order, decomposed}
use Rattle.icu_normalizer.specs.Equivalence.{IsEquivalent, same, turned, joined, stepped, swapped}
use Rattle.icu_normalizer_core.proofs.decomposed_lists.DecomposedLemmas.{AreUnmapped, left_append, left_full, left_mapped, left_one, left_split, left_unmapped, order_swapped, order_unmapped, unmapped_left}

-- a character in front keeps equivalence
pub front_kept : (canonical : Canonical) (x : ℕ) (xs ys : List ℕ) → IsEquivalent canonical xs ys → IsEquivalent canonical (x ∷ xs) (x ∷ ys)
front_kept canonical x xs ys (same zs) = same (x ∷ zs)
front_kept canonical x xs ys (turned zs ws h) = turned _ _ (front_kept canonical x zs ws h)
front_kept canonical x xs ys (joined zs ws us h g) = joined _ _ _ (front_kept canonical x zs ws h) (front_kept canonical x ws us g)
front_kept canonical x xs ys (stepped front back c d ds h) = stepped (x ∷ front) back c d ds h
front_kept canonical x xs ys (swapped front back c d hc hd pc pd ne) = swapped (x ∷ front) back c d hc hd pc pd ne

-- what steps leave of a text is equivalent to it
pub left_equivalent : (canonical : Canonical) (xs ns : List ℕ) → Leaves canonical.step xs ns → IsEquivalent canonical xs ns
left_equivalent canonical xs ns nothing = same []
left_equivalent canonical xs ns (unmapped c cs ms e h) = front_kept canonical c cs ms (left_equivalent canonical cs ms h)
left_equivalent canonical xs ns (mapped c d ds cs ms e h) =
    joined _ _ _ (stepped [] cs c d ds e) (left_equivalent canonical ((d ∷ ds) ++ cs) ms h)

-- a character is put in order by exchanges
put_equivalent : (canonical : Canonical) (c : ℕ) (ns : List ℕ) → canonical.step c ≡ [] → AreUnmapped canonical ns
    → IsEquivalent canonical (c ∷ ns) (put_in_order canonical.class c ns)
unfolding put_in_order
put_equivalent canonical c [] h hs = same _
put_equivalent canonical c (d ∷ ds) h hs =
    cond_both (ltb 0 (canonical.class d) && ltb (canonical.class d) (canonical.class c)) _ _ (IsEquivalent canonical (c ∷ d ∷ ds))
    (λ e. let low : 0 < canonical.class d = ltb-true 0 (canonical.class d) (and_parts (ltb 0 (canonical.class d)) (ltb (canonical.class d) (canonical.class c)) e).0
    in let high : canonical.class d < canonical.class c = ltb-true (canonical.class d) (canonical.class c) (and_parts (ltb 0 (canonical.class d)) (ltb (canonical.class d) (canonical.class c)) e).1
    in let ne : canonical.class c ≢ canonical.class d = omega arith
    in let above : 0 < canonical.class c = omega arith
    in joined _ _ _ (swapped [] ds c d h hs.0 above low ne) (front_kept canonical d _ _ (put_equivalent canonical c ds h hs.1)))
    (λ e. same _)

order_equivalent : (canonical : Canonical) (ns : List ℕ) → AreUnmapped canonical ns → IsEquivalent canonical ns (marks_in_order canonical.class ns)
unfolding marks_in_order
order_equivalent canonical [] hs = same []
order_equivalent canonical (c ∷ cs) hs =
    joined _ _ _ (front_kept canonical c _ _ (order_equivalent canonical cs hs.1))
    (put_equivalent canonical c _ hs.0 (order_unmapped canonical cs hs.1))

-- what steps leave of the one text, they leave of the other but for the turn of marks
abbrev IsKept : Canonical → List ℕ → List ℕ → Type 0
IsKept canonical xs ys = (ms : List ℕ) → Leaves canonical.step xs ms
    → (ns : List ℕ) × Leaves canonical.step ys ns × (marks_in_order canonical.class ms ≡ marks_in_order canonical.class ns)

same_kept : (canonical : Canonical) (xs : List ℕ) → IsKept canonical xs xs
same_kept canonical xs ms h = (ms, h, refl)

joined_kept : (canonical : Canonical) (xs ys zs : List ℕ) → IsKept canonical xs ys → IsKept canonical ys zs → IsKept canonical xs zs
joined_kept canonical xs ys zs f g ms h =
    let there = f ms h in let further = g there.0 there.1 in (further.0, further.1, there.2 ∙ further.2)

stepped_kept : (canonical : Canonical) (front back : List ℕ) (c d : ℕ) (ds : List ℕ) → canonical.step c ≡ d ∷ ds
    → IsKept canonical (front ++ c ∷ back) (front ++ ((d ∷ ds) ++ back))
stepped_kept canonical front back c d ds m ms h =
    let parts = left_split canonical.step front (c ∷ back) ms h
    in let after = left_mapped canonical.step c d ds back parts.back m parts.of_back
    in (parts.front ++ parts.back, left_append canonical.step front ((d ∷ ds) ++ back) parts.front parts.back parts.of_front after, ap (marks_in_order canonical.class) parts.whole)

unstepped_kept : (canonical : Canonical) (front back : List ℕ) (c d : ℕ) (ds : List ℕ) → canonical.step c ≡ d ∷ ds
    → IsKept canonical (front ++ ((d ∷ ds) ++ back)) (front ++ c ∷ back)
unstepped_kept canonical front back c d ds m ms h =
    let parts = left_split canonical.step front ((d ∷ ds) ++ back) ms h
    in let before = mapped c d ds back parts.back m parts.of_back
    in (parts.front ++ parts.back, left_append canonical.step front (c ∷ back) parts.front parts.back parts.of_front before, ap (marks_in_order canonical.class) parts.whole)

swapped_kept : (canonical : Canonical) (front back : List ℕ) (c d : ℕ) → canonical.step c ≡ [] → canonical.step d ≡ []
    → 0 < canonical.class c → 0 < canonical.class d → canonical.class c ≢ canonical.class d
    → IsKept canonical (front ++ c ∷ d ∷ back) (front ++ d ∷ c ∷ back)
swapped_kept canonical front back c d hc hd pc pd ne ms h =
    let parts = left_split canonical.step front (c ∷ d ∷ back) ms h
    in let first = left_unmapped canonical.step c (d ∷ back) parts.back hc parts.of_back
    in let second = left_unmapped canonical.step d back first.rest hd first.of_rest
    in let other = unmapped d (c ∷ back) (c ∷ second.rest) hd (unmapped c back second.rest hc second.of_rest)
    in let is : ms ≡ parts.front ++ c ∷ d ∷ second.rest = cc (parts.whole, first.whole, second.whole)
    in (
      parts.front ++ d ∷ c ∷ second.rest,
      left_append canonical.step front (d ∷ c ∷ back) parts.front (d ∷ c ∷ second.rest) parts.of_front other,
      ap (marks_in_order canonical.class) is ∙ order_swapped canonical.class parts.front second.rest c d pc pd ne,
    )

-- equivalence keeps it both ways
equivalent_kept : (canonical : Canonical) (xs ys : List ℕ) → IsEquivalent canonical xs ys → IsKept canonical xs ys × IsKept canonical ys xs
equivalent_kept canonical xs ys (same zs) = (same_kept canonical zs, same_kept canonical zs)
equivalent_kept canonical xs ys (turned zs ws h) = let both = equivalent_kept canonical zs ws h in (both.1, both.0)
equivalent_kept canonical xs ys (joined zs ws us h g) =
    let first = equivalent_kept canonical zs ws h
    in let second = equivalent_kept canonical ws us g
    in (joined_kept canonical zs ws us first.0 second.0, joined_kept canonical us ws zs second.1 first.1)
equivalent_kept canonical xs ys (stepped front back c d ds h) =
    (stepped_kept canonical front back c d ds h, unstepped_kept canonical front back c d ds h)
equivalent_kept canonical xs ys (swapped front back c d hc hd pc pd ne) =
    let back_ne : canonical.class d ≢ canonical.class c = λ e. ne (sym e)
    in (swapped_kept canonical front back c d hc hd pc pd ne, swapped_kept canonical front back d c hd hc pd pc back_ne)

-- equivalent texts have one decomposed list
pub decomposed_one : (canonical : Canonical) (xs ys : List ℕ) → IsDecomposing canonical → All IsScalar xs → All IsScalar ys
    → IsEquivalent canonical xs ys → decomposed canonical xs ≡ decomposed canonical ys
unfolding decomposed
decomposed_one canonical xs ys d sx sy h =
    let there = (equivalent_kept canonical xs ys h).0 (flat_map canonical.full xs) (left_full canonical xs d sx)
    in there.2 ∙ ap (marks_in_order canonical.class) (left_one canonical.step ys there.0 (flat_map canonical.full ys) there.1 (left_full canonical ys d sy))

-- a text is equivalent to its decomposed list
pub decomposed_equivalent : (canonical : Canonical) (xs : List ℕ) → IsDecomposing canonical → All IsScalar xs → IsEquivalent canonical xs (decomposed canonical xs)
unfolding decomposed
decomposed_equivalent canonical xs d s =
    let full = left_full canonical xs d s
    in joined _ _ _ (left_equivalent canonical xs _ full) (order_equivalent canonical (flat_map canonical.full xs) (unmapped_left canonical xs _ full))

-- texts with one decomposed list are equivalent
pub equivalent_one : (canonical : Canonical) (xs ys : List ℕ) → IsDecomposing canonical → All IsScalar xs → All IsScalar ys
    → decomposed canonical xs ≡ decomposed canonical ys → IsEquivalent canonical xs ys
equivalent_one canonical xs ys d sx sy e =
    joined _ _ _ (subst (λ (w : List ℕ). IsEquivalent canonical xs w) e (decomposed_equivalent canonical xs d sx))
    (turned _ _ (decomposed_equivalent canonical ys d sy))

-- equivalent texts are those with one decomposed list
pub one_decomposed : (canonical : Canonical) (xs ys : List ℕ) → IsDecomposing canonical → All IsScalar xs → All IsScalar ys
    → IsEquivalent canonical xs ys ↔ (decomposed canonical xs ≡ decomposed canonical ys)
one_decomposed canonical xs ys d sx sy = (decomposed_one canonical xs ys d sx sy, equivalent_one canonical xs ys d sx sy)
