-- Texts in two parts that are composed alone.
use Rattle.std.proofs.Common.{◌≡◌, ℕ, List, [], ◌∷◌, ◌++◌, sym, ap, ◌∙◌, append-nil}
use Rattle.icu_normalizer_core.specs.Canonical.{Canonical, composed}
use Rattle.icu_normalizer_core.specs.Boundaries.{HasBoundaryBefore}
use Rattle.icu_normalizer.specs.Composing.{IsComposedApart}
use Rattle.icu_normalizer.proofs.composed.ComposingLemmas.{composed_nothing}
use Rattle.icu_normalizer.proofs.passed.SkipLemmas.{composed_parts}

module _ (canonical : Canonical) where
  -- nothing follows
  pub apart_nothing : (b : List ℕ) → b ≡ [] → IsComposedApart canonical b
  apart_nothing b none xs =
      ap (λ l. composed canonical (xs ++ l)) none ∙ ap (composed canonical) (append-nil xs) ∙ sym (append-nil (composed canonical xs))
      ∙ ap (λ l. composed canonical xs ++ l) (sym (composed_nothing canonical) ∙ ap (composed canonical) (sym none))

  -- a character that has a boundary before it is first
  pub apart_first : (b : List ℕ) (c : ℕ) (left : List ℕ) → b ≡ c ∷ left → HasBoundaryBefore canonical c → IsComposedApart canonical b
  apart_first b c left next boundary xs =
      ap (λ l. composed canonical (xs ++ l)) next ∙ composed_parts canonical xs c left boundary ∙ ap (λ l. composed canonical xs ++ composed canonical l) (sym next)
