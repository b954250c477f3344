-- What the next characters of two texts decide is the order of the texts.
use Rattle.std.proofs.Common.{◌≡◌, ℕ, Option, Some, None, sym, subst, ◌∙◌}
use Rattle.std.specs.Prelude.{IfSome}
use Rattle.std.specs.declared.cmp.Ordering.{Ordering}
use Rattle.std.specs.declared.cmp.Ordering.TheVariants.{Less, Equal, Greater}
use Rattle.icu_collator_types.specs.declared.options.ResolvedCollatorOptions.{ResolvedCollatorOptions}
use Rattle.icu_collator_core.specs.Collation.{Collation}
use Rattle.icu_collator.specs.Boundaries.{CountsWhole, Decide, EndsVariable}
use Rattle.icu_collator.specs.Fronts.{PartAt}
use Rattle.icu_collator.specs.NextCharacters.{IsOrderOfNext}
use Rattle.icu_collator.specs.declared.common_front.deciding.NextCharacter.{NextCharacter}
use Rattle.icu_collator.specs.declared.common_front.deciding.NextCharacter.TheVariants.{End, Plain}
use Rattle.icu_collator.proofs.boundaries.DifferenceOrderLemmas.{both_end, first_characters_decide, left_ends, right_ends}

module _ (collation : Collation) (options : ResolvedCollatorOptions) where
  pub ends_equal : IsOrderOfNext collation options End End Equal
  ends_equal a b common first second d h g part left right =
      sym (both_end collation options d a b common h g (subst (λ (o : Option ℕ). PartAt a b common o None) left (subst (λ (o : Option ℕ). PartAt a b common first o) right part)))

  pub end_less : (bits : ℕ) → CountsWhole collation options bits → IsOrderOfNext collation options End (Plain bits) Less
  end_less bits counts a b common first second d h g part left right =
      sym (left_ends collation options d a b common h g right.0 bits
      (subst (λ (o : Option ℕ). PartAt a b common o (Some right.0)) left (subst (λ (o : Option ℕ). PartAt a b common first o) right.1 part)) right.2 counts)

  pub end_greater : (bits : ℕ) → CountsWhole collation options bits → IsOrderOfNext collation options (Plain bits) End Greater
  end_greater bits counts a b common first second d h g part left right =
      sym (right_ends collation options d a b common h g left.0 bits
      (subst (λ (o : Option ℕ). PartAt a b common o None) left.1 (subst (λ (o : Option ℕ). PartAt a b common first o) right part)) left.2 counts)

  pub plain_decide : (bits other : ℕ) (answer : Ordering) → Decide collation options bits other answer → IsOrderOfNext collation options (Plain bits) (Plain other) answer
  plain_decide bits other answer by a b common first second d h g part left right =
      by.answer_is
      ∙ sym (first_characters_decide collation options d a b common h g left.0 right.0 bits other
      (subst (λ (o : Option ℕ). PartAt a b common o (Some right.0)) left.1 (subst (λ (o : Option ℕ). PartAt a b common first o) right.1 part)) left.2 right.2
      by.left_counts by.right_counts (subst (λ (o : Ordering). o ≡ Equal → ⊥) by.answer_is by.decided))

-- what an answer says of all options in which variable elements end there
abbrev pub OrdersNext : Collation → ℕ → NextCharacter → NextCharacter → Option Ordering → Type 0
OrdersNext collation end left right answer =
    IfSome answer (λ o. (options : ResolvedCollatorOptions) → EndsVariable collation options end → IsOrderOfNext collation options left right o)

pub decided_next : (collation : Collation) (end bits other : ℕ) (right : NextCharacter) (answer : Option Ordering) → right ≡ Plain other
    → IfSome answer (λ o. (options : ResolvedCollatorOptions) → EndsVariable collation options end → Decide collation options bits other o)
    → OrdersNext collation end (Plain bits) right answer
decided_next collation end bits other right None e h = h
decided_next collation end bits other right (Some o) e h = λ options k.
    subst (λ (n : NextCharacter). IsOrderOfNext collation options (Plain bits) n o) (sym e) (plain_decide collation options bits other o (h options k))
