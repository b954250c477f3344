-- The last boundary that two texts have in common, while both are read from their beginnings.
use Rattle.std.proofs.Common.{◌≡◌, ℕ, ◌+◌, ◌≤◌, List, [], Option, Some, inl, inr, refl, subst, arith}
use Rattle.std.specs.Prelude.{◌≢◌}
use Rattle.icu_normalizer_core.specs.Iter.{Spells}
use Rattle.icu_normalizer_core.proofs.decomposed_lists.IterLemmas.{Spells-next}
use Rattle.icu_collator_core.specs.Acceptance.{CollationSource}
use Rattle.icu_collator_core.specs.FlatNotes.{BeginsApart}
use Rattle.icu_collator.specs.CommonBoundaries.{BeginAt}
use Rattle.icu_collator.proofs.boundaries.FirstDifferenceLemmas.{AgreeSoFar, agree_more}

module _ {I J : Type 0} (left_steps : I → Option ℕ → I → Type 0) (right_steps : J → Option ℕ → J → Type 0) (a b : List ℕ) where
  -- texts that agree so far, at their beginnings where nothing was read
  pub record AgreeFrom (common : ℕ) (left : I) (right : J) : Type 0 where
    pub agreed : AgreeSoFar left_steps right_steps a b common left right
    pub begun : common ≡ 0 → agreed.front ≡ []

  pub agree_begun : (left : I) (right : J) → Spells left_steps left a → Spells right_steps right b → AgreeFrom 0 left right
  agree_begun left right h g =
      record {
        agreed = record {
          front = [];
          left_rest = a;
          right_rest = b;
          left_is = refl;
          right_is = refl;
          left_spells = h;
          right_spells = g;
          count = omega arith;
        };
        begun = λ _. refl;
      }

  pub agree_on : (common next : ℕ) (left left' : I) (right right' : J) (c d : ℕ) → AgreeFrom common left right
      → left_steps left (Some c) left' → right_steps right (Some d) right' → c ≡ d → next ≤ common + 1 → next ≢ 0 → AgreeFrom next left' right'
  agree_on common next left left' right right' c d so s t e n some =
      record { agreed = agree_more left_steps right_steps a b common next left left' right right' c d so.agreed s t e n; begun = λ none. absurd (some none) }

  module _ (source : CollationSource) where
    pub begin_first : (left : I) (right : J) → Spells left_steps left a → Spells right_steps right b → BeginAt source left_steps right_steps a b 0 left right
    begin_first left right h g =
        record {
          front = [];
          left_rest = a;
          right_rest = b;
          left_is = refl;
          right_is = refl;
          left_spells = h;
          right_spells = g;
          left_apart = λ numeric. inl refl;
          right_apart = λ numeric. inl refl;
          whole = λ _. refl;
        }

    -- where both go on with a character whose full list begins with a boundary
    pub begin_there : (common : ℕ) (left left' : I) (right right' : J) (c d : ℕ) → AgreeFrom common left right
        → left_steps left (Some c) left' → right_steps right (Some d) right' → c ≡ d → ((numeric : Option ℕ) → BeginsApart source numeric c)
        → BeginAt source left_steps right_steps a b common left right
    begin_there common left left' right right' c d so s t e apart =
        let here = so.agreed in
        let one = Spells-next left_steps left left' c here.left_rest s here.left_spells in
        let other = Spells-next right_steps right right' d here.right_rest t here.right_spells in
        record {
          front = here.front;
          left_rest = here.left_rest;
          right_rest = here.right_rest;
          left_is = here.left_is;
          right_is = here.right_is;
          left_spells = here.left_spells;
          right_spells = here.right_spells;
          left_apart = λ numeric. inr (record { first = c; rest = one.0; text_is = one.1; apart = apart numeric });
          right_apart = λ numeric. inr (record { first = d; rest = other.0; text_is = other.1; apart = subst (λ (x : ℕ). BeginsApart source numeric x) e (apart numeric) });
          whole = so.begun;
        }
