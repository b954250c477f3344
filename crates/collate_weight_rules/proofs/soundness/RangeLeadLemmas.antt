-- No element has the lead of a range: asked of each element, or of each range.
use Rattle.std.proofs.Common.{◌≡◌, ℕ, ◌/◌, ◌^◌, Bool, true, false, not, ◌==◌, ◌&&◌, ◌||◌, List, [], ◌∷◌, refl, sym, ◌∙◌, ap}
use Rattle.std.specs.Ordering.{nat_cmp}
use Rattle.std.specs.BTreeSet.{BTreeSet, contains}
use Rattle.std.specs.List.{list_all, list_any}
use Rattle.std.proofs.Math.Bool.{or-true}
use Rattle.icu_collator_types.specs.declared.elements.Element.{Element}
use Rattle.icu_collator_core.specs.Weights.{Range}
use Rattle.icu_collator_core.specs.WeightRules.{is_of_other_lead}
use Rattle.collate_rules.specs.GivenWeights.{has_lead}

-- either a fact, or none of some
or_none : {A : Type 0} (b : Bool) (q : A → Bool) (xs : List A) → (b || not (list_any q xs)) ≡ list_all (λ x. b || not (q x)) xs
or_none b q [] = or-true b
or_none b q (x ∷ xs) = by b (q x) (list_any q xs) _ (or_none b q xs)
  where
    by : (b c d rest : Bool) → (b || not d) ≡ rest → (b || not (c || d)) ≡ ((b || not c) && rest)
    by true c d rest e = e
    by false true d rest e = refl
    by false false d rest e = e

all_true : {A : Type 0} (xs : List A) → list_all (λ x. true) xs ≡ true
all_true [] = refl
all_true (x ∷ xs) = all_true xs

all_alike : {A : Type 0} (p q : A → Bool) (xs : List A) → ((x : A) → p x ≡ q x) → list_all p xs ≡ list_all q xs
all_alike p q [] same = refl
all_alike p q (x ∷ xs) same = ap (λ (b : Bool). b && list_all p xs) (same x) ∙ ap (λ (b : Bool). q x && b) (all_alike p q xs same)

all_both : {A : Type 0} (p q : A → Bool) (xs : List A) → (list_all p xs && list_all q xs) ≡ list_all (λ x. p x && q x) xs
all_both p q [] = refl
all_both p q (x ∷ xs) = by (p x) (q x) (list_all p xs) (list_all q xs) _ (all_both p q xs)
  where
    by : (a b c d rest : Bool) → (c && d) ≡ rest → ((a && c) && (b && d)) ≡ ((a && b) && rest)
    by true true c d rest e = e
    by true false true d rest e = refl
    by true false false d rest e = refl
    by false b c d rest e = refl

-- all of some by all of others
turned : {A B : Type 0} (f : A → B → Bool) (xs : List A) (ys : List B) → list_all (λ x. list_all (f x) ys) xs ≡ list_all (λ y. list_all (λ x. f x y) xs) ys
turned f [] ys = sym (all_true ys)
turned f (x ∷ xs) ys = ap (λ (b : Bool). list_all (f x) ys && b) (turned f xs ys) ∙ all_both (f x) (λ y. list_all (λ z. f z y) xs) ys

pub other_leads : (taken : BTreeSet ℕ) (ranges : List Range) (es : List Element)
    → ((lead : ℕ) → contains nat_cmp taken lead ≡ list_any (has_lead lead) ranges)
    → list_all (λ e. (e.primary == 0) || not (contains nat_cmp taken (e.primary / 2 ^ 24))) es ≡ list_all (λ r. list_all (is_of_other_lead r) es) ranges
other_leads taken ranges es has =
    all_alike (λ (e : Element). (e.primary == 0) || not (contains nat_cmp taken (e.primary / 2 ^ 24))) (λ e. list_all (λ r. is_of_other_lead r e) ranges) es
    (λ e. ap (λ (b : Bool). (e.primary == 0) || not b) (has (e.primary / 2 ^ 24)) ∙ or_none (e.primary == 0) (has_lead (e.primary / 2 ^ 24)) ranges)
    ∙ turned (λ e r. is_of_other_lead r e) es ranges
