-- Canonically equivalent texts are equal at every strength, and at Identical no others are.
use Rattle.std.proofs.Common.{◌≡◌, ℕ, List, [], ◌∷◌, refl, sym, subst, ◌∙◌, arith}
use Rattle.std.specs.Prelude.{◌↔◌, All}
use Rattle.std.proofs.lemmas.Bool.Decides.{nat_tests}
use Rattle.std.proofs.lemmas.Cmp.{tied_itself}
use Rattle.std.specs.Char.{IsScalar}
use Rattle.std.specs.Ordering.{nat_cmp, ordering_then}
use Rattle.std.specs.declared.cmp.Ordering.{Ordering}
use Rattle.std.specs.declared.cmp.Ordering.TheVariants.{Less, Equal, Greater}
use Rattle.icu_collator_types.specs.declared.options.Strength.{Strength}
use Rattle.icu_collator_types.specs.declared.options.Strength.TheVariants.{Secondary, Tertiary, Quaternary, Identical}
use Rattle.icu_collator_types.specs.declared.options.ResolvedCollatorOptions.{ResolvedCollatorOptions}
use Rattle.icu_collator_types.specs.Options.{is_at_least, has_case_level}
use Rattle.icu_normalizer_core.specs.Canonical.{IsDecomposing, decomposed}
use Rattle.icu_collator_core.specs.Collation.{Collation}
use Rattle.icu_collator.specs.Levels.{Levels, levels_of, levels_of_text}
use Rattle.icu_collator.specs.Order.{levels_order, list_order, where_in_force, collation_order, secondary_rank, quaternary_rank, character_rank}
use Rattle.icu_normalizer.specs.Equivalence.{IsEquivalent}
use Rattle.icu_normalizer.proofs.equivalence.EquivalenceLemmas.{decomposed_one, equivalent_one}
use Rattle.icu_collator.proofs.orders.TotalOrderLemmas.{levels_total}

-- two answers in turn are Equal where both are
then_first : (o p : Ordering) → ordering_then o p ≡ Equal → o ≡ Equal
then_first Less p e = cc
then_first Equal p e = refl
then_first Greater p e = cc

then_second : (o p : Ordering) → ordering_then o p ≡ Equal → p ≡ Equal
then_second Less p e = cc
then_second Equal p e = e
then_second Greater p e = cc

-- characters of one rank are the same
one_rank : (c d : ℕ) → nat_cmp (character_rank c) (character_rank d) ≡ Equal → c ≡ d
one_rank c d e = grind (arith, nat_tests)

-- lists of characters that compare equal are the same
one_list : (xs ys : List ℕ) → list_order character_rank xs ys ≡ Equal → xs ≡ ys
one_list [] [] e = refl
one_list [] (y ∷ ys) e = cc
one_list (x ∷ xs) [] e = cc
one_list (x ∷ xs) (y ∷ ys) e =
    let first = nat_cmp (character_rank x) (character_rank y)
    in let rest = list_order character_rank xs ys
    in cc (one_rank x y (then_first first rest e), one_list xs ys (then_second first rest e))

in_force : (s : Strength) (o : Ordering) → s ≡ Identical → where_in_force (is_at_least s Identical) o ≡ Equal → o ≡ Equal
in_force s o e h = subst (λ (w : Strength). where_in_force (is_at_least w Identical) o ≡ Equal) e h

-- the last of six answers in turn
last_equal : (o p q r s t : Ordering) → ordering_then o (ordering_then p (ordering_then q (ordering_then r (ordering_then s t)))) ≡ Equal → t ≡ Equal
last_equal o p q r s t e =
    let fifth = ordering_then s t
    in let fourth = ordering_then r fifth
    in let third = ordering_then q fourth
    in then_second s t (then_second r fifth (then_second q fourth (then_second p third (then_second o (ordering_then p third) e))))

-- levels that are equal at Identical have the same characters
same_characters : (options : ResolvedCollatorOptions) (a b : Levels) → options.strength ≡ Identical → levels_order options a b ≡ Equal → a.characters ≡ b.characters
unfolding levels_order
same_characters options a b is e =
    let at : Strength → Ordering → Ordering = λ level o. where_in_force (is_at_least options.strength level) o
    in one_list a.characters b.characters (in_force options.strength (list_order character_rank a.characters b.characters) is
    (last_equal (list_order (λ (w : ℕ). w) a.primaries b.primaries)
    (at Secondary (list_order secondary_rank a.secondaries b.secondaries))
    (where_in_force (has_case_level options.case_level) (list_order (λ (w : ℕ). w) a.cases b.cases))
    (at Tertiary (list_order (λ (w : ℕ). w) a.tertiaries b.tertiaries))
    (at Quaternary (list_order quaternary_rank a.quaternaries b.quaternaries))
    (at Identical (list_order character_rank a.characters b.characters)) e))

characters_are : (collation : Collation) (options : ResolvedCollatorOptions) (text : List ℕ) → (levels_of_text collation options text).characters ≡ decomposed collation.canonical text
unfolding levels_of
characters_are collation options text = refl

-- texts with one decomposed list have the same levels
pub same_levels : (collation : Collation) (options : ResolvedCollatorOptions) (a b : List ℕ) → decomposed collation.canonical a ≡ decomposed collation.canonical b
    → levels_of_text collation options a ≡ levels_of_text collation options b
same_levels collation options a b e = cc

-- canonically equivalent texts are equal, whatever the options are
pub equivalent_equal : (collation : Collation) (options : ResolvedCollatorOptions) (a b : List ℕ)
    → IsDecomposing collation.canonical → All IsScalar a → All IsScalar b → IsEquivalent collation.canonical a b
    → collation_order collation options a b ≡ Equal
equivalent_equal collation options a b d sa sb h =
    subst (λ (w : Levels). levels_order options (levels_of_text collation options a) w ≡ Equal)
    (same_levels collation options a b (decomposed_one collation.canonical a b d sa sb h))
    (tied_itself (levels_total options) (levels_of_text collation options a))

-- at strength Identical equal texts are those that are canonically equivalent
pub equal_at_identical : (collation : Collation) (options : ResolvedCollatorOptions) (a b : List ℕ)
    → IsDecomposing collation.canonical → options.strength ≡ Identical → All IsScalar a → All IsScalar b
    → (collation_order collation options a b ≡ Equal) ↔ IsEquivalent collation.canonical a b
equal_at_identical collation options a b d is sa sb = (
  λ e. equivalent_one collation.canonical a b d sa sb
      (sym (characters_are collation options a) ∙ same_characters options _ _ is e ∙ characters_are collation options b),
  equivalent_equal collation options a b d sa sb,
)
