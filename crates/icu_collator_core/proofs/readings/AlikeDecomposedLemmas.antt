-- Data that say the same of characters of a kind give a text of these one decomposed list. The characters that a text
-- reaches are such a kind.
use Rattle.std.proofs.Common.{◌≡◌, ℕ, ltb, ◌&&◌, List, [], ◌∷◌, refl, ap, ◌∙◌}
use Rattle.std.proofs.lemmas.Bool.{cond_both}
use Rattle.std.proofs.lemmas.List.Elements.{recursion_from_All, All-from_recursion}
use Rattle.std.specs.List.{All, AllByRecursion, flat_map}
use Rattle.icu_normalizer_core.specs.Canonical.{Canonical, put_in_order, marks_in_order, decomposed}
use Rattle.icu_normalizer_core.proofs.decomposed_lists.DecomposedLemmas.{all_append}

-- canonical data that give each character of a kind one class, and one full list of such characters alone
pub record AreSameLists (P : ℕ → Type 0) (a b : Canonical) : Type 0 where
  pub class : (c : ℕ) → P c → a.class c ≡ b.class c
  pub full : (c : ℕ) → P c → a.full c ≡ b.full c
  pub closed : (c : ℕ) → P c → All P (b.full c)

-- ---- marks in order

put_of : (P : ℕ → Type 0) (class : ℕ → ℕ) (c : ℕ) (ds : List ℕ) → P c → AllByRecursion P ds → AllByRecursion P (put_in_order class c ds)
unfolding put_in_order
put_of P class c [] s h = (s, tt)
put_of P class c (d ∷ ds) s h =
    cond_both (ltb 0 (class d) && ltb (class d) (class c)) (d ∷ put_in_order class c ds) (c ∷ d ∷ ds) (AllByRecursion P) (λ _. (h.0, put_of P class c ds s h.1)) (λ _. (s, h))

order_of : (P : ℕ → Type 0) (class : ℕ → ℕ) (cs : List ℕ) → AllByRecursion P cs → AllByRecursion P (marks_in_order class cs)
unfolding marks_in_order
order_of P class [] h = tt
order_of P class (c ∷ cs) h = put_of P class c (marks_in_order class cs) h.0 (order_of P class cs h.1)

put_same : (P : ℕ → Type 0) (f g : ℕ → ℕ) (c : ℕ) (ds : List ℕ) → ((x : ℕ) → P x → f x ≡ g x) → P c → AllByRecursion P ds → put_in_order f c ds ≡ put_in_order g c ds
unfolding put_in_order
put_same P f g c [] same s h = refl
put_same P f g c (d ∷ ds) same s h = cc (same c s, same d h.0, put_same P f g c ds same s h.1)

order_same : (P : ℕ → Type 0) (f g : ℕ → ℕ) (cs : List ℕ) → ((x : ℕ) → P x → f x ≡ g x) → AllByRecursion P cs → marks_in_order f cs ≡ marks_in_order g cs
unfolding marks_in_order
order_same P f g [] same h = refl
order_same P f g (c ∷ cs) same h =
    ap (put_in_order f c) (order_same P f g cs same h.1) ∙ put_same P f g c (marks_in_order g cs) same h.0 (order_of P g cs h.1)

module _ (P : ℕ → Type 0) (a b : Canonical) (same : AreSameLists P a b) where
  full_of : (cs : List ℕ) → AllByRecursion P cs → AllByRecursion P (flat_map b.full cs)
  full_of [] h = tt
  full_of (c ∷ cs) h = all_append P (b.full c) (flat_map b.full cs) (recursion_from_All P (b.full c) (same.closed c h.0)) (full_of cs h.1)

  full_same : (cs : List ℕ) → AllByRecursion P cs → flat_map a.full cs ≡ flat_map b.full cs
  full_same [] h = refl
  full_same (c ∷ cs) h = cc (same.full c h.0, full_same cs h.1)

  pub decomposed_of : (text : List ℕ) → All P text → All P (decomposed b text)
  unfolding decomposed
  decomposed_of text h =
      All-from_recursion P (marks_in_order b.class (flat_map b.full text)) (order_of P b.class (flat_map b.full text) (full_of text (recursion_from_All P text h)))

  pub decomposed_same : (text : List ℕ) → All P text → decomposed a text ≡ decomposed b text
  unfolding decomposed
  decomposed_same text h =
      let each = recursion_from_All P text h
      in ap (marks_in_order a.class) (full_same text each)
      ∙ order_same P a.class b.class (flat_map b.full text) same.class (full_of text each)
