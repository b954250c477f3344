-- Canonical data that give characters the same classes test texts of characters alike.
use Rattle.std.proofs.Common.{◌≡◌, ℕ, Bool, true, cond, not, ◌==◌, ◌&&◌, ◌||◌, List, [], ◌∷◌, refl, ap, ◌∙◌}
use Rattle.std.specs.Prelude.{reverse}
use Rattle.std.specs.List.{list_all, list_any}
use Rattle.std.proofs.lemmas.Bool.{and_parts}
use lib.Utf8.{scalar, scalars}
use Rattle.icu_normalizer_core.specs.Canonical.{Canonical, is_starter}
use Rattle.icu_normalizer_core.specs.Sameness.{AreSameCanonical}
use Rattle.icu_collator_core.specs.ContextRules.{begins_with_mark, ends_in_mark, has_marks_last, holds_starter}
use Rattle.icu_collator_core.proofs.lookups.PrefixLemmas.{scalars_back}

all_same : (p q : ℕ → Bool) → ((c : ℕ) → scalar c ≡ true → p c ≡ q c) → (cs : List ℕ) → scalars cs ≡ true
    → list_all p cs ≡ list_all q cs
all_same p q same [] s = refl
all_same p q same (c ∷ cs) s =
    let both = and_parts (scalar c) (scalars cs) s in
    ap (λ (b : Bool). b && list_all p cs) (same c both.0) ∙ ap (λ (b : Bool). q c && b) (all_same p q same cs both.1)

any_same : (p q : ℕ → Bool) → ((c : ℕ) → scalar c ≡ true → p c ≡ q c) → (cs : List ℕ) → scalars cs ≡ true
    → list_any p cs ≡ list_any q cs
any_same p q same [] s = refl
any_same p q same (c ∷ cs) s =
    let both = and_parts (scalar c) (scalars cs) s in
    ap (λ (b : Bool). b || list_any p cs) (same c both.0) ∙ ap (λ (b : Bool). q c || b) (any_same p q same cs both.1)

module _ (a b : Canonical) (same : AreSameCanonical a b) where
  pub starter_same : (c : ℕ) → scalar c ≡ true → is_starter a c ≡ is_starter b c
  starter_same c s = ap (λ (n : ℕ). n == 0) (same.class c s)

  pub marks_last_same : (cs : List ℕ) → scalars cs ≡ true → has_marks_last a cs ≡ has_marks_last b cs
  unfolding has_marks_last
  marks_last_same [] s = refl
  marks_last_same (c ∷ cs) s =
      let both = and_parts (scalar c) (scalars cs) s in
      ap (λ (t : Bool). cond t (has_marks_last a cs) (list_all (λ m. not (is_starter a m)) cs)) (starter_same c both.0)
      ∙ ap (λ (t : Bool). cond (is_starter b c) t (list_all (λ m. not (is_starter a m)) cs)) (marks_last_same cs both.1)
      ∙ ap (λ (t : Bool). cond (is_starter b c) (has_marks_last b cs) t)
      (all_same (λ m. not (is_starter a m)) (λ m. not (is_starter b m)) (λ m t. ap not (starter_same m t)) cs both.1)

  pub begins_same : (cs : List ℕ) → scalars cs ≡ true → begins_with_mark a cs ≡ begins_with_mark b cs
  begins_same [] s = refl
  begins_same (c ∷ cs) s = ap not (starter_same c (and_parts (scalar c) (scalars cs) s).0)

  pub ends_same : (cs : List ℕ) → scalars cs ≡ true → ends_in_mark a cs ≡ ends_in_mark b cs
  ends_same cs s = begins_same (reverse cs) (scalars_back cs s)

  pub holds_same : (cs : List ℕ) → scalars cs ≡ true → holds_starter a cs ≡ holds_starter b cs
  holds_same cs s = any_same (is_starter a) (is_starter b) starter_same cs s
