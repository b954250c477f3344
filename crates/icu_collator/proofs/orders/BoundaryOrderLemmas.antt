-- How texts compare by the elements that stand after a front that they have in common.
use Rattle.std.proofs.Common.{◌≡◌, ℕ, false, List, [], ◌++◌, refl, sym, ◌∙◌}
use Rattle.icu_normalizer_core.specs.Canonical.{decomposed, marks_in_order}
use Rattle.icu_collator_types.specs.declared.elements.Element.{Element}
use Rattle.icu_collator_types.specs.declared.options.ResolvedCollatorOptions.{ResolvedCollatorOptions}
use Rattle.icu_collator_types.specs.declared.options.Strength.TheVariants.{Identical}
use Rattle.icu_collator_types.specs.Options.{is_at_least}
use Rattle.icu_collator_core.specs.Collation.{Collation}
use Rattle.icu_collator_core.specs.ElementLists.{unpacked}
use Rattle.icu_collator_core.specs.Elements.{elements_within, placed_behind}
use Rattle.icu_collator.specs.CommonBoundaries.{AreElementsBehind, CountApart, elements_order}
use Rattle.icu_collator.specs.Levels.{elements_of_text, levels_of}
use Rattle.icu_collator.specs.Order.{collation_order, levels_order}
use Rattle.icu_collator.proofs.boundaries.LevelFrontLemmas.{levels_behind}

module _ (collation : Collation) (options : ResolvedCollatorOptions) (inexact : is_at_least options.strength Identical ≡ false) where
  -- below Identical the characters don't count
  pub below_identical : (es fs : List Element) (us vs : List ℕ)
      → levels_order options (levels_of collation options es us) (levels_of collation options fs vs) ≡ elements_order collation options es fs
  unfolding levels_order levels_of
  below_identical es fs us vs = rw inexact refl

  -- texts with these elements
  elements_decide : (a b : List ℕ) (es fs : List Element) → elements_of_text collation options a ≡ es → elements_of_text collation options b ≡ fs
      → elements_order collation options es fs ≡ collation_order collation options a b
  elements_decide a b es fs e f =
      sym (rw (e, f) (below_identical es fs (decomposed collation.canonical a) (decomposed collation.canonical b)))

  -- texts with these after nothing
  nothing_before : (text : List ℕ) (items : List ℕ) → AreElementsBehind collation options [] text items → elements_of_text collation options text ≡ unpacked items
  unfolding decomposed marks_in_order elements_within placed_behind
  nothing_before text items e = e

  pub whole_order : (front a b lefts rights : List ℕ) → front ≡ [] → AreElementsBehind collation options front a lefts → AreElementsBehind collation options front b rights
      → elements_order collation options (unpacked lefts) (unpacked rights) ≡ collation_order collation options a b
  whole_order front a b lefts rights none left right =
      elements_decide a b (unpacked lefts) (unpacked rights)
      (nothing_before a lefts (rw none at left)) (nothing_before b rights (rw none at right))

  -- texts with these after a front, where they count apart from it
  pub order_behind : (front a b lefts rights : List ℕ) → collation.backward ≡ false
      → CountApart collation options (unpacked lefts) → CountApart collation options (unpacked rights)
      → AreElementsBehind collation options front a lefts → AreElementsBehind collation options front b rights
      → elements_order collation options (unpacked lefts) (unpacked rights) ≡ collation_order collation options a b
  order_behind front a b lefts rights forward one other left right =
      let es = elements_of_text collation options front in
      sym (levels_behind collation options forward es (unpacked lefts) (unpacked rights) [] [] [] one other)
      ∙ elements_decide a b (es ++ unpacked lefts) (es ++ unpacked rights) left right
