-- A common front may be skipped where nothing is shifted, or where what stands after it begins with a primary weight.
use Rattle.std.proofs.Common.{◌≡◌, ℕ, ◌==◌, false, List, [], ◌∷◌, ◌++◌, subst, sym, ◌∙◌}
use Rattle.std.specs.Prelude.{All}
use Rattle.std.specs.Char.{IsScalar}
use Rattle.std.specs.declared.cmp.Ordering.TheVariants.{Equal}
use Rattle.std.proofs.lemmas.Cmp.{tied_itself}
use Rattle.std.proofs.lemmas.List.Elements.{All-tail}
use Rattle.icu_normalizer_core.specs.Canonical.{IsDecomposing}
use Rattle.icu_collator_types.specs.declared.options.ResolvedCollatorOptions.{ResolvedCollatorOptions}
use Rattle.icu_collator_types.specs.Options.{is_numeric, is_shifted}
use Rattle.icu_collator_core.specs.Collation.{Collation}
use Rattle.icu_collator_core.specs.Pools.{element_of}
use Rattle.icu_collator_core.specs.Boundaries.{IsApart}
use Rattle.icu_collator.specs.CommonBoundaries.{CountApart}
use Rattle.icu_collator.specs.Boundaries.{IsOwnBoundary, IsPlain}
use Rattle.icu_collator.specs.Levels.{elements_of_text}
use Rattle.icu_collator.specs.Order.{collation_order}
use Rattle.icu_collator.proofs.boundaries.BehindBoundaryLemmas.{boundary_unprefixed}
use Rattle.icu_collator.proofs.boundaries.DecidingCharacterLemmas.{plain_apart, text_begins}
use Rattle.icu_collator.proofs.boundaries.LevelFrontLemmas.{primary_apart, unshifted_apart}
use Rattle.icu_collator.proofs.boundaries.SkippingLemmas.{IsFront, front_skipped}
use Rattle.icu_collator.proofs.orders.TotalOrderLemmas.{collation_order_total}

-- a text is equal to itself
pub equal_itself : (collation : Collation) (options : ResolvedCollatorOptions) (a : List ℕ) → collation_order collation options a a ≡ Equal
equal_itself collation options a = tied_itself (collation_order_total collation options) a

pub rest_scalars : (xs ys : List ℕ) → All IsScalar (xs ++ ys) → All IsScalar ys
rest_scalars [] ys h = h
rest_scalars (x ∷ xs) ys h = rest_scalars xs ys (All-tail IsScalar x (xs ++ ys) h)

module _ (collation : Collation) (options : ResolvedCollatorOptions) (a : ℕ) (m : List ℕ) (b : ℕ) (n : List ℕ) (c : ℕ) (x p q : List ℕ) (decomposing : IsDecomposing collation.canonical) (forward : collation.backward ≡ false) (front : IsFront collation.canonical collation.weights a m b n c) (h : All IsScalar (x ++ a ∷ (m ++ b ∷ (n ++ c ∷ p)))) (g : All IsScalar (x ++ a ∷ (m ++ b ∷ (n ++ c ∷ q)))) where
  pub front_skipped_unshifted : is_shifted options.alternate_handling ≡ false → IsApart collation.weights (is_numeric options.numeric) front.first
      → collation_order collation options (x ++ a ∷ (m ++ b ∷ (n ++ c ∷ p))) (x ++ a ∷ (m ++ b ∷ (n ++ c ∷ q)))
      ≡ collation_order collation options (a ∷ (m ++ b ∷ (n ++ c ∷ p))) (a ∷ (m ++ b ∷ (n ++ c ∷ q)))
  front_skipped_unshifted plain apart =
      front_skipped collation options decomposing a m b n c front apart forward x p q
      (unshifted_apart collation options plain (elements_of_text collation options (a ∷ (m ++ b ∷ (n ++ c ∷ p)))))
      (unshifted_apart collation options plain (elements_of_text collation options (a ∷ (m ++ b ∷ (n ++ c ∷ q))))) h g

  module _ (bits : ℕ) (plain : IsPlain collation a bits) (filled : ((element_of bits).primary == 0) ≡ false) where
    same_first : plain.first ≡ front.first
    same_first = let same : plain.first ∷ plain.others ≡ front.first ∷ front.firsts = sym plain.full ∙ front.first_full in cc

    first_apart : IsApart collation.weights (is_numeric options.numeric) front.first
    first_apart = subst (IsApart collation.weights (is_numeric options.numeric)) same_first (plain_apart collation options decomposing a bits plain)

    counts_apart : (y : List ℕ) → All IsScalar (x ++ a ∷ y) → CountApart collation options (elements_of_text collation options (a ∷ y))
    counts_apart y s =
        subst (CountApart collation options) (sym (text_begins collation options decomposing a bits plain y (rest_scalars x (a ∷ y) s)))
        (primary_apart collation options (element_of bits) _ filled)

    pub front_skipped_at_primary :
        collation_order collation options (x ++ a ∷ (m ++ b ∷ (n ++ c ∷ p))) (x ++ a ∷ (m ++ b ∷ (n ++ c ∷ q)))
        ≡ collation_order collation options (a ∷ (m ++ b ∷ (n ++ c ∷ p))) (a ∷ (m ++ b ∷ (n ++ c ∷ q)))
    front_skipped_at_primary =
        front_skipped collation options decomposing a m b n c front first_apart forward x p q
        (counts_apart (m ++ b ∷ (n ++ c ∷ p)) h) (counts_apart (m ++ b ∷ (n ++ c ∷ q)) g) h g

-- three boundaries, one after another, that decomposing leaves as they are
module _ (collation : Collation) (options : ResolvedCollatorOptions) (a b c : ℕ) (x p q : List ℕ) (decomposing : IsDecomposing collation.canonical) (forward : collation.backward ≡ false) (first : IsOwnBoundary collation.canonical collation.weights a) (second : IsOwnBoundary collation.canonical collation.weights b) (third : IsOwnBoundary collation.canonical collation.weights c) (h : All IsScalar (x ++ a ∷ b ∷ c ∷ p)) (g : All IsScalar (x ++ a ∷ b ∷ c ∷ q)) where
  abbrev boundaries : IsFront collation.canonical collation.weights a [] b [] c
  boundaries =
      record {
        first = a;
        firsts = [];
        first_full = first.own;
        boundary = first.boundary;
        firsts_go_on = tt;
        between = tt;
        second = b;
        seconds = [];
        second_full = second.own;
        second_starter = second.boundary.starter;
        second_goes_on = boundary_unprefixed collation.canonical collation.weights b second.boundary;
        seconds_go_on = tt;
        further = tt;
        third = c;
        thirds = [];
        third_full = third.own;
        third_starter = third.boundary.starter;
        third_goes_on = boundary_unprefixed collation.canonical collation.weights c third.boundary;
      }

  pub skipped_unshifted : is_shifted options.alternate_handling ≡ false → IsApart collation.weights (is_numeric options.numeric) a
      → collation_order collation options (x ++ a ∷ b ∷ c ∷ p) (x ++ a ∷ b ∷ c ∷ q) ≡ collation_order collation options (a ∷ b ∷ c ∷ p) (a ∷ b ∷ c ∷ q)
  skipped_unshifted plain apart = front_skipped_unshifted collation options a [] b [] c x p q decomposing forward boundaries h g plain apart

  pub skipped_at_primary : (bits : ℕ) → IsPlain collation a bits → ((element_of bits).primary == 0) ≡ false
      → collation_order collation options (x ++ a ∷ b ∷ c ∷ p) (x ++ a ∷ b ∷ c ∷ q) ≡ collation_order collation options (a ∷ b ∷ c ∷ p) (a ∷ b ∷ c ∷ q)
  skipped_at_primary bits plain filled = front_skipped_at_primary collation options a [] b [] c x p q decomposing forward boundaries h g bits plain filled
