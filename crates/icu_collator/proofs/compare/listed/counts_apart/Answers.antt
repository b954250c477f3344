use Rattle.std.proofs.Common.{◌≡◌, ◌∙◌, ◌==◌, ℕ, Bool, true, false, not, List, [], ◌∷◌, None, Some, ap, append-nil, refl, sym}
use Rattle.std.specs.Option.{option_copied}
use Rattle.std.specs.List.{slice_get}
use Rattle.std.proofs.lemmas.Bool.{false≢true}
use Rattle.icu_collator_types.specs.declared.options.ResolvedCollatorOptions.{ResolvedCollatorOptions}
use Rattle.icu_collator_core.specs.Collation.{Collation}
use Rattle.icu_collator_core.specs.ElementLists.{unpacked}
use Rattle.icu_collator_core.specs.Pools.{element_of}
use Rattle.icu_collator.specs.CommonBoundaries.{CountApart}
use Rattle.icu_collator.specs.Shifted.{counted, counted_behind}
use Rattle.icu_collator.proofs.boundaries.LevelFrontLemmas.{primary_apart, unshifted_apart}
use Rattle.icu_collator.proofs.compare.listed.counts_apart.Goals as goal

no_more : (b : Bool) → not b ≡ true → b ≡ false
no_more true e = absurd (false≢true e)
no_more false e = refl

module _ (collation : Collation) (options : ResolvedCollatorOptions) where
  first_apart : (xs : List ℕ) (x p : ℕ) → slice_get xs 0 ≡ Some x → p ≡ (element_of x).primary → (p == 0) ≡ false → CountApart collation options (unpacked xs)
  first_apart [] x p is e some = absurd (cc is)
  first_apart (y ∷ ys) x p is e some =
      let same : y ≡ x = cc is in
      primary_apart collation options (element_of y) (unpacked ys) (ap (λ (z : ℕ). (element_of z).primary == 0) same ∙ ap (λ (n : ℕ). n == 0) (sym e) ∙ some)

  none_apart : (xs : List ℕ) → slice_get xs 0 ≡ None → CountApart collation options (unpacked xs)
  unfolding counted_behind
  none_apart [] is = λ es. ap (counted collation options) (append-nil es) ∙ sym (append-nil (counted collation options es))
  none_apart (y ∷ ys) is = absurd (cc is)

pub returns-then-is_unshifted : goal.returns-then-is_unshifted
returns-then-is_unshifted c = λ _ collation. unshifted_apart collation c.args.options.now (c.is_unshifted.ensures c.if-is_unshifted.true) (unpacked c.args.elements.now)

pub returns-in-Some : goal.returns-in-Some
returns-in-Some c = λ test collation.
    first_apart collation c.args.options.now c.args.elements.now c.in-Some.first.now c.primary.result
    (sym c.first.ensures.value ∙ ap option_copied c.in-Some.is) c.primary.ensures (no_more (c.primary.result == 0) test)

pub returns-in-None : goal.returns-in-None
returns-in-None c = λ _ collation.
    none_apart collation c.args.options.now c.args.elements.now (sym c.first.ensures.value ∙ ap option_copied c.in-None.is)
