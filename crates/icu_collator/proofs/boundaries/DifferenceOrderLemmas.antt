-- How texts compare by where they first differ.
use Rattle.std.proofs.Common.{◌≡◌, ℕ, ◌≤◌, false, List, [], ◌∷◌, ◌++◌, length, drop, Option, Some, None, refl, sym, ap, subst, ◌∙◌, inl, inr, arith, append_assoc, append-nil, ⊎_elim}
use Rattle.std.specs.List.{AllByRecursion}
use Rattle.std.specs.Prelude.{◌≢◌, All}
use Rattle.std.specs.Char.{IsScalar}
use Rattle.std.specs.Ordering.{nat_cmp}
use Rattle.std.specs.declared.cmp.Ordering.TheVariants.{Less, Equal, Greater}
use Rattle.std.proofs.lemmas.List.{drop_at}
use Rattle.icu_normalizer_core.specs.Canonical.{IsDecomposing}
use Rattle.icu_collator_types.specs.declared.options.ResolvedCollatorOptions.{ResolvedCollatorOptions}
use Rattle.icu_collator_core.specs.Collation.{Collation}
use Rattle.icu_collator_core.specs.PlainWords.{IsUnprefixed}
use Rattle.icu_collator.specs.Boundaries.{CountsWhole, GoesOn, IsPassage, IsPlain, reordered_primary}
use Rattle.icu_collator.specs.Fronts.{IsPlaceToBegin, PartAt, ThreeStandAt}
use Rattle.icu_collator.specs.Order.{collation_order}
use Rattle.icu_collator.proofs.boundaries.CommonFrontLemmas.{equal_itself, front_skipped_at_primary, front_skipped_unshifted}
use Rattle.icu_collator.proofs.boundaries.SkippingLemmas.{IsFront}
use Rattle.icu_collator.proofs.boundaries.DecidingCharacterLemmas.{end_behind, end_first, plain_characters_decide}

-- a list that begins as another does, up to an index that both reach
shared : (us xs ys vs ws : List ℕ) → us ++ xs ≡ vs ++ ws → length vs ≤ length us → (q : List ℕ) × (us ++ ys ≡ vs ++ q)
shared us xs ys [] ws e l = (us ++ ys, refl)
shared [] xs ys (v ∷ vs) ws e l = absurd (omega arith)
shared (u ∷ us) xs ys (v ∷ vs) ws e l =
    let rest : us ++ xs ≡ vs ++ ws = ap (drop 1) e
    in let found = shared us xs ys vs ws rest (omega arith)
    in let first : u ≡ v = cc
    in (found.0, cc (first, found.1))

-- three passages, with what goes on between them
abbrev passages_front : (collation : Collation) (options : ResolvedCollatorOptions) (x : ℕ) (m : List ℕ) (y : ℕ) (n : List ℕ) (z : ℕ)
    → (first : IsPassage collation options x) → AllByRecursion (GoesOn collation.canonical collation.weights) m → IsPassage collation options y
    → AllByRecursion (GoesOn collation.canonical collation.weights) n → IsPassage collation options z
    → IsFront collation.canonical collation.weights x m y n z
passages_front collation options x m y n z first between second further third =
    let Go : List ℕ → Type 0 = AllByRecursion (IsUnprefixed collation.weights)
    in record {
      first = first.first;
      firsts = first.others;
      first_full = first.full;
      boundary = first.boundary;
      firsts_go_on = (subst Go first.full first.goes_on).1;
      between = between;
      second = second.first;
      seconds = second.others;
      second_full = second.full;
      second_starter = second.boundary.starter;
      second_goes_on = (subst Go second.full second.goes_on).0;
      seconds_go_on = (subst Go second.full second.goes_on).1;
      further = further;
      third = third.first;
      thirds = third.others;
      third_full = third.full;
      third_starter = third.boundary.starter;
      third_goes_on = (subst Go third.full third.goes_on).0;
    }

-- a front before three passages
passed_skipped : (collation : Collation) (options : ResolvedCollatorOptions) → IsDecomposing collation.canonical → collation.backward ≡ false
    → (before p q : List ℕ) (x : ℕ) (m : List ℕ) (y : ℕ) (n : List ℕ) (z : ℕ)
    → IsPassage collation options x → AllByRecursion (GoesOn collation.canonical collation.weights) m → IsPassage collation options y
    → AllByRecursion (GoesOn collation.canonical collation.weights) n → IsPassage collation options z
    → All IsScalar (before ++ x ∷ (m ++ y ∷ (n ++ z ∷ p))) → All IsScalar (before ++ x ∷ (m ++ y ∷ (n ++ z ∷ q)))
    → collation_order collation options (before ++ x ∷ (m ++ y ∷ (n ++ z ∷ p))) (before ++ x ∷ (m ++ y ∷ (n ++ z ∷ q)))
    ≡ collation_order collation options (x ∷ (m ++ y ∷ (n ++ z ∷ p))) (x ∷ (m ++ y ∷ (n ++ z ∷ q)))
passed_skipped collation options d forward before p q x m y n z first between second further third h g =
    let front = passages_front collation options x m y n z first between second further third
    in elim first.counts [
      | inl plain ↦ front_skipped_unshifted collation options x m y n z before p q d forward front h g plain first.apart
      | inr primary ↦ front_skipped_at_primary collation options x m y n z before p q d forward front h g primary.bits primary.plain primary.filled
    ]

-- three characters that pass, and what stands before, between and after them
three_parts : (before : List ℕ) (x : ℕ) (m : List ℕ) (y : ℕ) (n : List ℕ) (z : ℕ) (r : List ℕ)
    → (before ++ x ∷ (m ++ y ∷ (n ++ z ∷ []))) ++ r ≡ before ++ x ∷ (m ++ y ∷ (n ++ z ∷ r))
three_parts before x m y n z r =
    append_assoc before (x ∷ (m ++ y ∷ (n ++ z ∷ []))) r
    ∙ ap (λ (w : List ℕ). before ++ x ∷ w)
    (append_assoc m (y ∷ n ++ z ∷ []) r ∙ ap (λ (w : List ℕ). m ++ y ∷ w) (append_assoc n (z ∷ []) r))

module _ (collation : Collation) (options : ResolvedCollatorOptions) (decomposing : IsDecomposing collation.canonical) (a b : List ℕ) (common : ℕ) (h : All IsScalar a) (g : All IsScalar b) where
  -- texts as what they are
  order_is : (x y : List ℕ) → a ≡ x → b ≡ y → collation_order collation options a b ≡ collation_order collation options x y
  order_is x y e f = ap (λ (w : List ℕ). collation_order collation options w b) e ∙ ap (λ (w : List ℕ). collation_order collation options x w) f

  pub first_characters_decide : (x y bits other : ℕ) → PartAt a b common (Some x) (Some y) → IsPlain collation x bits → IsPlain collation y other
      → CountsWhole collation options bits → CountsWhole collation options other
      → nat_cmp (reordered_primary collation bits) (reordered_primary collation other) ≢ Equal
      → collation_order collation options a b ≡ nat_cmp (reordered_primary collation bits) (reordered_primary collation other)
  first_characters_decide x y bits other part first second counts also differ =
      let left : a ≡ part.front ++ x ∷ part.left_begins.0 = part.left_is ∙ ap (λ (w : List ℕ). part.front ++ w) part.left_begins.1
      in let right : b ≡ part.front ++ y ∷ part.right_begins.0 = part.right_is ∙ ap (λ (w : List ℕ). part.front ++ w) part.right_begins.1
      in order_is _ _ left right
      ∙ plain_characters_decide collation options part.front x y part.left_begins.0 part.right_begins.0 bits other decomposing
      (subst (λ (w : List ℕ). All IsScalar w) left h) (subst (λ (w : List ℕ). All IsScalar w) right g) first second counts also differ

  pub left_ends : (y other : ℕ) → PartAt a b common None (Some y) → IsPlain collation y other → CountsWhole collation options other
      → collation_order collation options a b ≡ Less
  left_ends y other part second also =
      let left : a ≡ part.front = part.left_is ∙ ap (λ (w : List ℕ). part.front ++ w) part.left_begins ∙ append-nil part.front
      in let right : b ≡ part.front ++ y ∷ part.right_begins.0 = part.right_is ∙ ap (λ (w : List ℕ). part.front ++ w) part.right_begins.1
      in order_is _ _ left right
      ∙ end_first collation options part.front y part.right_begins.0 other decomposing (subst (λ (w : List ℕ). All IsScalar w) right g) second also

  pub right_ends : (x bits : ℕ) → PartAt a b common (Some x) None → IsPlain collation x bits → CountsWhole collation options bits
      → collation_order collation options a b ≡ Greater
  right_ends x bits part first counts =
      let left : a ≡ part.front ++ x ∷ part.left_begins.0 = part.left_is ∙ ap (λ (w : List ℕ). part.front ++ w) part.left_begins.1
      in let right : b ≡ part.front = part.right_is ∙ ap (λ (w : List ℕ). part.front ++ w) part.right_begins ∙ append-nil part.front
      in order_is _ _ left right
      ∙ end_behind collation options part.front x part.left_begins.0 bits decomposing (subst (λ (w : List ℕ). All IsScalar w) left h) first counts

  pub both_end : PartAt a b common None None → collation_order collation options a b ≡ Equal
  both_end part =
      let left : a ≡ part.front ++ [] = part.left_is ∙ ap (λ (w : List ℕ). part.front ++ w) part.left_begins
      in let right : b ≡ part.front ++ [] = part.right_is ∙ ap (λ (w : List ℕ). part.front ++ w) part.right_begins
      in order_is _ _ left right ∙ equal_itself collation options (part.front ++ [])

  -- from three passages on, which both texts have
  three_skipped : (index : ℕ) (left right : Option ℕ) → collation.backward ≡ false → PartAt a b common left right
      → ThreeStandAt (IsPassage collation options) (GoesOn collation.canonical collation.weights) a common index
      → collation_order collation options a b ≡ collation_order collation options (drop index a) (drop index b)
  three_skipped index left right forward part three =
      let before = three.before
      in let x = three.first
      in let m = three.between
      in let y = three.second
      in let n = three.further
      in let z = three.third
      in let vs = before ++ x ∷ (m ++ y ∷ (n ++ z ∷ []))
      in let whole : part.front ++ part.left_rest ≡ vs ++ three.behind =
      sym part.left_is ∙ three.text_is ∙ sym (three_parts before x m y n z three.behind)
      in let within : length vs ≤ length part.front = omega (arith, three.within, part.count)
      in let found = shared part.front part.left_rest part.right_rest vs three.behind whole within
      in let right_is : b ≡ before ++ x ∷ (m ++ y ∷ (n ++ z ∷ found.0)) = part.right_is ∙ found.1 ∙ three_parts before x m y n z found.0
      in let one : drop index a ≡ x ∷ (m ++ y ∷ (n ++ z ∷ three.behind)) =
      ap (drop index) three.text_is ∙ drop_at before (x ∷ (m ++ y ∷ (n ++ z ∷ three.behind))) index three.place_is
      in let other : drop index b ≡ x ∷ (m ++ y ∷ (n ++ z ∷ found.0)) = ap (drop index) right_is ∙ drop_at before (x ∷ (m ++ y ∷ (n ++ z ∷ found.0))) index three.place_is
      in let ok = subst (λ (w : List ℕ). All IsScalar w) three.text_is h
      in let also = subst (λ (w : List ℕ). All IsScalar w) right_is g
      in let skipped =
      passed_skipped collation options decomposing forward before three.behind found.0 x m y n z three.first_passes three.between_goes_on three.second_passes
      three.further_goes_on three.third_passes ok also
      in order_is _ _ three.text_is right_is ∙ skipped
      ∙ sym (ap (λ (w : List ℕ). collation_order collation options w (drop index b)) one ∙ ap (λ (w : List ℕ). collation_order collation options (x ∷ (m ++ y ∷ (n ++ z ∷ three.behind))) w) other)

  pub front_skipped_to : (index : ℕ) (left right : Option ℕ) → collation.backward ≡ false → PartAt a b common left right
      → IsPlaceToBegin (IsPassage collation options) (GoesOn collation.canonical collation.weights) a common index
      → collation_order collation options a b ≡ collation_order collation options (drop index a) (drop index b)
  front_skipped_to index left right forward part stands =
      ⊎_elim
      (λ none. sym (ap (λ (k : ℕ). collation_order collation options (drop k a) (drop k b)) none))
      (λ three. three_skipped index left right forward part three)
      stands
