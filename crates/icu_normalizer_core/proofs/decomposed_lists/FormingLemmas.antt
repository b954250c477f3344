-- What canonical data keep of what making a normal form rests on.
use Rattle.std.proofs.Common.{◌≡◌, ℕ, ◌<◌, ◌≤◌, List, [], ◌∷◌, ◌++◌, length, Some, refl, sym, ap, subst, ◌∙◌, arith, append-nil}
use Rattle.std.proofs.lemmas.List.Elements.{All-head, All-tail, All-contains, All-from_recursion}
use Rattle.std.specs.Prelude.{All, Contains}
use Rattle.std.specs.Char.{IsScalar}
use Rattle.std.specs.List.{AllByRecursion}
use lib.Utf8.{low_scalar}
use Rattle.icu_normalizer_core.specs.Canonical.{Canonical, IsCanonical, Leaves}
use Rattle.icu_normalizer_core.specs.Forming.{IsForming, AreLowBelow}
use Rattle.icu_normalizer_core.proofs.built.BuiltInFacts.{low_free}
use Rattle.icu_normalizer_core.proofs.decomposed_lists.DecomposedLemmas.{AreUnmapped, left_one, left_mapped, left_full, full_scalars, unmapped_left}

-- what steps leave of something is something
left_some : (step : ℕ → List ℕ) (xs ns : List ℕ) → Leaves step xs ns → 1 ≤ length xs → 1 ≤ length ns
left_some step xs ns Leaves.nothing h = absurd (omega (arith, h))
left_some step xs ns (Leaves.unmapped c cs ms u k) h = omega arith
left_some step xs ns (Leaves.mapped c d ds cs ms u k) h = left_some step ((d ∷ ds) ++ cs) ms k (omega arith)

none_mapped : (canonical : Canonical) (cs : List ℕ) → AreUnmapped canonical cs → AllByRecursion (λ d. canonical.step d ≡ []) cs
none_mapped canonical [] h = tt
none_mapped canonical (c ∷ cs) h = (h.0, none_mapped canonical cs h.1)

module _ (canonical : Canonical) (ok : IsCanonical canonical) where
  full_unmapped : (c : ℕ) → IsScalar c → canonical.step c ≡ [] → canonical.full c ≡ c ∷ []
  full_unmapped c s e = left_one canonical.step (c ∷ []) (canonical.full c) (c ∷ []) (ok.decomposing.ends c s) (Leaves.unmapped c [] [] e Leaves.nothing)

  full_of_scalars : (c : ℕ) → IsScalar c → All IsScalar (canonical.full c)
  full_of_scalars c s =
      subst (All IsScalar) (append-nil (canonical.full c))
      (All-from_recursion IsScalar (canonical.full c ++ []) (full_scalars canonical (c ∷ []) ok.decomposing (s, tt)))

  full_own : (c d : ℕ) → IsScalar c → Contains (canonical.full c) d → canonical.full d ≡ d ∷ []
  full_own c d s in_full =
      let unmapped = none_mapped canonical (canonical.full c) (unmapped_left canonical (c ∷ []) (canonical.full c) (ok.decomposing.ends c s)) in
      full_unmapped d (All-contains IsScalar (canonical.full c) d (full_of_scalars c s) in_full)
      (All-contains (λ e. canonical.step e ≡ []) (canonical.full c) d (All-from_recursion (λ e. canonical.step e ≡ []) (canonical.full c) unmapped) in_full)

  full_begins : (c d : ℕ) (ds : List ℕ) → c < 0x300 → canonical.full c ≡ d ∷ ds → (step : List ℕ) → canonical.step c ≡ step → canonical.class d ≡ 0
  full_begins c d ds low is [] e =
      let itself : c ∷ [] ≡ d ∷ ds = sym (full_unmapped c (low_scalar c (omega arith)) e) ∙ is in
      let same : c ≡ d = cc in
      ap canonical.class (sym same) ∙ ok.composing.starters c low
  full_begins c d ds low is (x ∷ xs) e = ok.decomposing.begins c x xs (low_scalar c (omega arith)) (low_free c low) e d ds is

  parts_scalar : (a b z : ℕ) → canonical.pair a b ≡ Some z → IsScalar a × IsScalar b × IsScalar z
  parts_scalar a b z p =
      let whole = ok.composing.scalars a b z p in
      let both : All IsScalar (a ∷ b ∷ []) = subst (All IsScalar) (ok.composing.mapped a b z p) (ok.decomposing.scalars z whole) in
      (All-head IsScalar a (b ∷ []) both, All-head IsScalar b [] (All-tail IsScalar a (b ∷ []) both), whole)

  full_pair : (a b z : ℕ) → canonical.pair a b ≡ Some z → canonical.full z ≡ canonical.full a ++ canonical.full b
  full_pair a b z p =
      let s = parts_scalar a b z p in
      left_one canonical.step (a ∷ b ∷ []) (canonical.full z) (canonical.full a ++ (canonical.full b ++ []))
      (left_mapped canonical.step z a (b ∷ []) [] (canonical.full z) (ok.composing.mapped a b z p) (ok.decomposing.ends z s.2))
      (left_full canonical (a ∷ b ∷ []) ok.decomposing (All-from_recursion IsScalar (a ∷ b ∷ []) (s.0, (s.1, tt))))
      ∙ ap (λ l. canonical.full a ++ l) (append-nil (canonical.full b))

  full_low : (c : ℕ) → c < 0xc0 → canonical.full c ≡ c ∷ []
  full_low c low = full_unmapped c (low_scalar c (omega arith)) (ok.composing.unmapped c low)

  pub forming_canonical : IsForming canonical
  forming_canonical = record {
    starters = ok.composing.starters;
    begins = λ c d ds low is. full_begins c d ds low is (canonical.step c) refl;
    low = λ c low. full_low c (omega (arith, low));
    bounded = ok.decomposing.bounded;
    nonempty = λ c s. left_some canonical.step (c ∷ []) (canonical.full c) (ok.decomposing.ends c s) (omega arith);
    scalars = full_of_scalars;
    own = full_own;
    pairs = full_pair;
    parts = parts_scalar;
    seconds = ok.composing.seconds;
  }

  pub low_canonical : AreLowBelow 0xc0 canonical
  low_canonical = record { within = omega arith; itself = full_low }
