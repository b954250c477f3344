-- The elements of numbers order as the values do.
use Rattle.std.proofs.Common.{◌≡◌, ℕ, ◌<◌, ◌≤◌, List, [], ◌∷◌, ◌++◌, length, refl, sym, ap, subst, ◌∙◌, inl, inr, arith}
use Rattle.std.proofs.lemmas.Bool.Decides.{nat_tests}
use Rattle.std.proofs.lemmas.Cmp.{nat_list_cmp_total, tied_itself}
use Rattle.std.proofs.lemmas.List.{append-nil, take_all, drop_all, map-append}
use Rattle.std.proofs.lemmas.List.Elements.{recursion_from_All}
use Rattle.std.specs.List.{AllByRecursion}
use Rattle.std.specs.Ordering.{nat_cmp, ordering_then}
use Rattle.std.specs.Cmp.Lexicographic.{slice_cmp}
use Rattle.std.specs.declared.cmp.Ordering.{Ordering}
use Rattle.std.specs.declared.cmp.Ordering.TheVariants.{Less, Equal, Greater}
use Rattle.icu_collator_types.specs.declared.elements.Element.{Element}
use Rattle.icu_collator_core.specs.Numbers.{value_of, significant, elements_of_bytes, number_part, number_parts, number_elements}
use Rattle.icu_collator_core.specs.WholeNumbers.{IsWholeNumber, primaries_of}
use Rattle.icu_collator_core.proofs.numbers.DigitLemmas.{AreBelow, AreDigits, AreSignificant, DiffersBelow, below_lower, below_cases, significant_value, significant_digits, significant_is}
use Rattle.icu_collator_core.proofs.numbers.NumberPartLemmas.{parts_of_none}
use Rattle.icu_collator_core.proofs.numbers.NumberBytesLemmas.{number_bytes, part_is_bytes, bytes_in_order, number_bytes_below}

-- primaries of bytes differ where the bytes do
primaries_differ : (lead : ℕ) (bs cs : List ℕ) → AreBelow 256 bs → DiffersBelow bs cs
    → DiffersBelow (primaries_of (elements_of_bytes lead bs)) (primaries_of (elements_of_bytes lead cs))
unfolding elements_of_bytes
primaries_differ lead [] cs hb h = absurd h
primaries_differ lead (a ∷ bs) [] hb h = absurd h
primaries_differ lead (a ∷ []) (x ∷ []) hb (inl h) = inl (omega arith)
primaries_differ lead (a ∷ []) (x ∷ y ∷ []) hb (inl h) = inl (omega arith)
primaries_differ lead (a ∷ []) (x ∷ y ∷ z ∷ cs) hb (inl h) = inl (omega arith)
primaries_differ lead (a ∷ []) (x ∷ cs) hb (inr (e, h)) = absurd h
primaries_differ lead (a ∷ b ∷ []) (x ∷ []) hb (inl h) = let second = hb.1.0 in inl (omega arith)
primaries_differ lead (a ∷ b ∷ []) (x ∷ []) hb (inr (e, h)) = absurd h
primaries_differ lead (a ∷ b ∷ []) (x ∷ y ∷ []) hb (inl h) = let second = hb.1.0 in inl (omega arith)
primaries_differ lead (a ∷ b ∷ []) (x ∷ y ∷ []) hb (inr (e, inl h)) = inl (omega arith)
primaries_differ lead (a ∷ b ∷ []) (x ∷ y ∷ []) hb (inr (e, inr (f, h))) = absurd h
primaries_differ lead (a ∷ b ∷ []) (x ∷ y ∷ z ∷ cs) hb (inl h) = let second = hb.1.0 in inl (omega arith)
primaries_differ lead (a ∷ b ∷ []) (x ∷ y ∷ z ∷ cs) hb (inr (e, inl h)) = inl (omega arith)
primaries_differ lead (a ∷ b ∷ []) (x ∷ y ∷ z ∷ cs) hb (inr (e, inr (f, h))) = absurd h
primaries_differ lead (a ∷ b ∷ c ∷ bs) (x ∷ []) hb (inl h) = let second = hb.1.0 in let third = hb.1.1.0 in inl (omega arith)
primaries_differ lead (a ∷ b ∷ c ∷ bs) (x ∷ []) hb (inr (e, h)) = absurd h
primaries_differ lead (a ∷ b ∷ c ∷ bs) (x ∷ y ∷ []) hb (inl h) = let second = hb.1.0 in let third = hb.1.1.0 in inl (omega arith)
primaries_differ lead (a ∷ b ∷ c ∷ bs) (x ∷ y ∷ []) hb (inr (e, inl h)) = let third = hb.1.1.0 in inl (omega arith)
primaries_differ lead (a ∷ b ∷ c ∷ bs) (x ∷ y ∷ []) hb (inr (e, inr (f, h))) = absurd h
primaries_differ lead (a ∷ b ∷ c ∷ bs) (x ∷ y ∷ z ∷ cs) hb (inl h) = let second = hb.1.0 in let third = hb.1.1.0 in inl (omega arith)
primaries_differ lead (a ∷ b ∷ c ∷ bs) (x ∷ y ∷ z ∷ cs) hb (inr (e, inl h)) = let third = hb.1.1.0 in inl (omega arith)
primaries_differ lead (a ∷ b ∷ c ∷ bs) (x ∷ y ∷ z ∷ cs) hb (inr (e, inr (f, inl h))) = inl (omega arith)
primaries_differ lead (a ∷ b ∷ c ∷ bs) (x ∷ y ∷ z ∷ cs) hb (inr (e, inr (f, inr (g, h)))) =
    inr (omega arith, primaries_differ lead bs cs hb.1.1.1 h)

-- digits, as AreDigits says it
digits_are : (ds : List ℕ) → AllByRecursion (λ d. d < 10) ds → AreDigits ds
digits_are [] h = tt
digits_are (d ∷ ds) h = (h.0, digits_are ds h.1)

-- the digits that count
pub record IsCounted (ds : List ℕ) : Type 0 where
  pub digits : AreDigits ds
  pub is : AreSignificant ds
  pub short : length ds ≤ 254

pub counted : (ds : List ℕ) → IsWholeNumber ds → IsCounted (significant ds)
counted [] h = let filled = h.filled in absurd (omega arith)
counted (d ∷ ds) h =
    record {
      digits = significant_digits (d ∷ ds) (digits_are (d ∷ ds) (recursion_from_All (λ d. d < 10) (d ∷ ds) h.below_ten));
      is = significant_is d ds;
      short = h.short;
    }

-- a number that is read whole has the elements of its bytes
pub whole_elements : (lead : ℕ) (ds : List ℕ) → IsWholeNumber ds → number_elements lead ds ≡ elements_of_bytes lead (number_bytes (significant ds))
unfolding number_parts
whole_elements lead [] h = let filled = h.filled in absurd (omega arith)
whole_elements lead (d ∷ ds) h =
    let all = take_all 254 (significant (d ∷ ds)) h.short
    in let none = drop_all 254 (significant (d ∷ ds)) h.short
    in cc (all, none, parts_of_none (length ds) lead, append-nil (number_part lead (significant (d ∷ ds))), part_is_bytes lead (significant (d ∷ ds)))

-- lists that differ compare so, whatever follows
differs_less : (xs ys us vs : List ℕ) → DiffersBelow xs ys → slice_cmp nat_cmp (xs ++ us) (ys ++ vs) ≡ Less
differs_less [] ys us vs h = absurd h
differs_less (x ∷ xs) [] us vs h = absurd h
differs_less (x ∷ xs) (y ∷ ys) us vs (inl h) =
    let less : nat_cmp x y ≡ Less = grind (arith, nat_tests) in ap (λ o. ordering_then o (slice_cmp nat_cmp (xs ++ us) (ys ++ vs))) less
differs_less (x ∷ xs) (y ∷ ys) us vs (inr (e, h)) =
    let equal : nat_cmp x y ≡ Equal = grind (arith, nat_tests)
    in ap (λ o. ordering_then o (slice_cmp nat_cmp (xs ++ us) (ys ++ vs))) equal ∙ differs_less xs ys us vs h

differs_greater : (xs ys us vs : List ℕ) → DiffersBelow ys xs → slice_cmp nat_cmp (xs ++ us) (ys ++ vs) ≡ Greater
differs_greater xs [] us vs h = absurd h
differs_greater [] (y ∷ ys) us vs h = absurd h
differs_greater (x ∷ xs) (y ∷ ys) us vs (inl h) =
    let greater : nat_cmp x y ≡ Greater = grind (arith, nat_tests) in ap (λ o. ordering_then o (slice_cmp nat_cmp (xs ++ us) (ys ++ vs))) greater
differs_greater (x ∷ xs) (y ∷ ys) us vs (inr (e, h)) =
    let equal : nat_cmp x y ≡ Equal = grind (arith, nat_tests)
    in ap (λ o. ordering_then o (slice_cmp nat_cmp (xs ++ us) (ys ++ vs))) equal ∙ differs_greater xs ys us vs h

pub same_front : (xs us vs : List ℕ) → slice_cmp nat_cmp (xs ++ us) (xs ++ vs) ≡ slice_cmp nat_cmp us vs
same_front [] us vs = refl
same_front (x ∷ xs) us vs =
    let equal : nat_cmp x x ≡ Equal = grind (arith, nat_tests)
    in ap (λ o. ordering_then o (slice_cmp nat_cmp (xs ++ us) (xs ++ vs))) equal ∙ same_front xs us vs

-- whole numbers, by the digits that count
abbrev number_primaries : ℕ → List ℕ → List ℕ
number_primaries lead ds = primaries_of (elements_of_bytes lead (number_bytes ds))

counted_order : (lead : ℕ) (ds es us vs : List ℕ) → IsCounted ds → IsCounted es
    → slice_cmp nat_cmp (number_primaries lead ds ++ us) (number_primaries lead es ++ vs)
    ≡ ordering_then (nat_cmp (value_of ds) (value_of es)) (slice_cmp nat_cmp us vs)
counted_order lead ds es us vs h g =
    let rest = slice_cmp nat_cmp us vs
    in elim (below_cases ds es) [
      | inl same ↦
          let equal : nat_cmp (value_of ds) (value_of es) ≡ Equal = let values = ap value_of same in grind (arith, nat_tests)
          in subst (λ (w : List ℕ). slice_cmp nat_cmp (number_primaries lead ds ++ us) (number_primaries lead w ++ vs) ≡ rest) same (same_front (number_primaries lead ds) us vs)
          ∙ sym (ap (λ o. ordering_then o rest) equal)
      | inr (inl below) ↦
          let less : nat_cmp (value_of ds) (value_of es) ≡ Less = let lower = below_lower ds es h.digits h.is g.is below in grind (arith, nat_tests)
          in differs_less _ _ us vs (primaries_differ lead (number_bytes ds) (number_bytes es) (number_bytes_below ds h.digits h.is h.short) (bytes_in_order ds es h.digits g.digits h.is g.is below))
          ∙ sym (ap (λ o. ordering_then o rest) less)
      | inr (inr above) ↦
          let greater : nat_cmp (value_of ds) (value_of es) ≡ Greater = let lower = below_lower es ds g.digits g.is h.is above in grind (arith, nat_tests)
          in differs_greater _ _ us vs (primaries_differ lead (number_bytes es) (number_bytes ds) (number_bytes_below es g.digits g.is g.short) (bytes_in_order es ds g.digits h.digits g.is h.is above))
          ∙ sym (ap (λ o. ordering_then o rest) greater)
    ]

-- the primaries of whole numbers order as the values do, whatever follows
pub numbers_order : (lead : ℕ) (ds es us vs : List ℕ) → IsWholeNumber ds → IsWholeNumber es
    → slice_cmp nat_cmp (primaries_of (number_elements lead ds) ++ us) (primaries_of (number_elements lead es) ++ vs)
    ≡ ordering_then (nat_cmp (value_of ds) (value_of es)) (slice_cmp nat_cmp us vs)
numbers_order lead ds es us vs h g =
    rw (whole_elements lead ds h, whole_elements lead es g, ← significant_value ds, ← significant_value es)
    (counted_order lead (significant ds) (significant es) us vs (counted ds h) (counted es g))

-- equal values have equal elements
counted_equal : (ds es : List ℕ) → IsCounted ds → IsCounted es → value_of ds ≡ value_of es → ds ≡ es
counted_equal ds es h g e =
    elim (below_cases ds es) [
      | inl same ↦ same
      | inr (inl below) ↦ let lower = below_lower ds es h.digits h.is g.is below in absurd (omega arith)
      | inr (inr above) ↦ let lower = below_lower es ds g.digits g.is h.is above in absurd (omega arith)
    ]

pub equal_numbers : (lead : ℕ) (ds es : List ℕ) → IsWholeNumber ds → IsWholeNumber es → value_of ds ≡ value_of es
    → number_elements lead ds ≡ number_elements lead es
equal_numbers lead ds es h g e =
    let same = counted_equal (significant ds) (significant es) (counted ds h) (counted es g) (significant_value ds ∙ e ∙ sym (significant_value es))
    in whole_elements lead ds h ∙ ap (λ (w : List ℕ). elements_of_bytes lead (number_bytes w)) same ∙ sym (whole_elements lead es g)

-- no number's elements begin with all those of another
nothing_more : (more : List Element) (o : Ordering) → ordering_then o (slice_cmp nat_cmp (primaries_of more) []) ≡ Equal → more ≡ []
nothing_more [] o e = refl
nothing_more (x ∷ xs) Less e = cc
nothing_more (x ∷ xs) Equal e = cc
nothing_more (x ∷ xs) Greater e = cc

pub none_begins : (lead : ℕ) (ds es : List ℕ) (more : List Element) → IsWholeNumber ds → IsWholeNumber es
    → number_elements lead es ≡ number_elements lead ds ++ more → more ≡ []
none_begins lead ds es more h g e =
    let first = primaries_of (number_elements lead ds)
    in let same : first ++ primaries_of more ≡ primaries_of (number_elements lead es) ++ [] =
    sym (map-append (λ x. x.primary) (number_elements lead ds) more) ∙ ap primaries_of (sym e) ∙ sym (append-nil (primaries_of (number_elements lead es)))
    in let tied = subst (λ (w : List ℕ). slice_cmp nat_cmp (first ++ primaries_of more) w ≡ Equal) same (tied_itself nat_list_cmp_total (first ++ primaries_of more))
    in nothing_more more (nat_cmp (value_of ds) (value_of es)) (sym (numbers_order lead ds es (primaries_of more) [] h g) ∙ tied)
