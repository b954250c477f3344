-- How many decomposed characters a character stands for, and where this cuts a composed list.
use Rattle.std.proofs.Common.{◌≡◌, ℕ, ◌+◌, ◌<◌, ◌≤◌, max, ◌&&◌, ltb, List, [], ◌∷◌, ◌++◌, length, flat_map, Some, refl, sym, ap, ◌∙◌, arith, length-append}
use Rattle.std.proofs.lemmas.Bool.{cond_both}
use Rattle.std.proofs.lemmas.Grind.{flat_map-append}
use Rattle.std.specs.Char.{IsScalar}
use lib.Utf8.{low_scalar}
use Rattle.icu_normalizer_core.specs.Canonical.{Canonical, put_in_order, marks_in_order, decomposed, recomposed, composed}
use Rattle.icu_normalizer_core.specs.Forming.{IsForming}
use Rattle.icu_normalizer_core.proofs.decomposed_lists.DecomposedLemmas.{AreScalar, order_before, put_starter}
use Rattle.icu_normalizer.proofs.cuts.ComposedCutLemmas.{total, total_recomposed, cut_recomposed}
use Rattle.icu_normalizer.proofs.noted.OwnLemmas.{AreOwn, decomposed_own, decomposed_scalar}

first_of : (ns : List ℕ) → 1 ≤ length ns → (d : ℕ) × (es : List ℕ) × (ns ≡ d ∷ es)
first_of [] h = absurd (omega (arith, h))
first_of (d ∷ es) h = (d, es, refl)

length_put : (class : ℕ → ℕ) (c : ℕ) (ds : List ℕ) → length (put_in_order class c ds) ≡ length ds + 1
unfolding put_in_order
length_put class c [] = refl
length_put class c (d ∷ ds) =
    cond_both (ltb 0 (class d) && ltb (class d) (class c)) (d ∷ put_in_order class c ds) (c ∷ d ∷ ds) (λ l. length l ≡ length (d ∷ ds) + 1)
    (λ _. omega (arith, length_put class c ds)) (λ _. omega arith)

length_order : (class : ℕ → ℕ) (cs : List ℕ) → length (marks_in_order class cs) ≡ length cs
unfolding marks_in_order
length_order class [] = refl
length_order class (c ∷ cs) = length_put class c (marks_in_order class cs) ∙ omega (arith, length_order class cs)

module _ (canonical : Canonical) (ok : IsForming canonical) where
  -- how many decomposed characters a character stands for
  pub weight : ℕ → ℕ
  weight c = max 1 (length (canonical.full c))

  pub weighs : (c : ℕ) → 0 < weight c
  unfolding weight
  weighs c = omega arith

  weight_full : (c : ℕ) → IsScalar c → weight c ≡ length (canonical.full c)
  unfolding weight
  weight_full c s = let h = ok.nonempty c s in omega (arith, h)

  adds : (a b z : ℕ) → canonical.pair a b ≡ Some z → weight z ≡ weight a + weight b
  adds a b z p =
      let s = ok.parts a b z p in
      let lengths : length (canonical.full z) ≡ length (canonical.full a) + length (canonical.full b) =
      ap length (ok.pairs a b z p) ∙ length-append (canonical.full a) (canonical.full b) in
      weight_full z s.2 ∙ lengths ∙ sym (omega (arith, weight_full a s.0, weight_full b s.1))

  total_full : (cs : List ℕ) → AreScalar cs → total weight cs ≡ length (flat_map canonical.full cs)
  total_full [] s = refl
  total_full (c ∷ cs) s =
      omega (arith, weight_full c s.0, total_full cs s.1, length-append (canonical.full c) (flat_map canonical.full cs))

  total_own : (cs : List ℕ) → AreScalar cs → AreOwn canonical cs → total weight cs ≡ length cs
  total_own [] s own = refl
  total_own (c ∷ cs) s own =
      let one : length (canonical.full c) ≡ 1 = ap length own.0 in
      omega (arith, weight_full c s.0, one, total_own cs s.1 own.1)

  -- a text weighs what its decomposed list does
  total_decomposed : (cs : List ℕ) → AreScalar cs → total weight (decomposed canonical cs) ≡ total weight cs
  unfolding decomposed
  total_decomposed cs s =
      total_own (decomposed canonical cs) (decomposed_scalar canonical ok cs s) (decomposed_own canonical ok cs s)
      ∙ length_order canonical.class (flat_map canonical.full cs) ∙ sym (total_full cs s)

  pub total_composed : (cs : List ℕ) → AreScalar cs → total weight (composed canonical cs) ≡ total weight cs
  unfolding composed
  total_composed cs s = total_recomposed canonical weight weighs adds (decomposed canonical cs) ∙ total_decomposed cs s

  -- the full list of a character below U+0300 begins with a starter
  pub full_begins : (c : ℕ) → c < 0x300 → (d : ℕ) × (es : List ℕ) × (canonical.full c ≡ d ∷ es) × (canonical.class d ≡ 0)
  full_begins c low =
      let first = first_of (canonical.full c) (ok.nonempty c (low_scalar c (omega arith))) in
      (first.0, first.1, first.2, ok.begins c first.0 first.1 low first.2)

  -- after a front that is its own composed list, and before a character below U+0300, a text is composed anew
  pub composed_behind : (front : List ℕ) (c : ℕ) (back rest : List ℕ) → AreScalar front → c < 0x300 → composed canonical (front ++ c ∷ back) ≡ front ++ rest → rest ≡ composed canonical (c ∷ back)
  unfolding composed decomposed marks_in_order
  composed_behind front c back rest s low e =
      let first = full_begins c low in
      let behind = first.1 ++ flat_map canonical.full back in
      let list : flat_map canonical.full (c ∷ back) ≡ first.0 ∷ behind = ap (λ l. l ++ flat_map canonical.full back) first.2 in
      let whole : decomposed canonical (front ++ c ∷ back) ≡ decomposed canonical front ++ first.0 ∷ marks_in_order canonical.class behind =
      ap (marks_in_order canonical.class) (flat_map-append canonical.full front (c ∷ back) ∙ ap (λ l. flat_map canonical.full front ++ l) list)
      ∙ order_before canonical.class first.0 (flat_map canonical.full front) behind first.3 in
      let alone : decomposed canonical (c ∷ back) ≡ first.0 ∷ marks_in_order canonical.class behind =
      ap (marks_in_order canonical.class) list ∙ put_starter canonical.class first.0 (marks_in_order canonical.class behind) first.3 in
      cut_recomposed canonical weight weighs adds (decomposed canonical front) first.0 (marks_in_order canonical.class behind) front rest first.3
      (sym (ap (recomposed canonical) whole) ∙ e) (sym (total_decomposed front s))
      ∙ sym (ap (recomposed canonical) alone)
