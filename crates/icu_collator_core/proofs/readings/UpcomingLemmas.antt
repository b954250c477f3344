-- The steps of characters that were put before an iterator's.
use Rattle.std.proofs.Common.{◌≡◌, ℕ, ◌<◌, List, [], ◌∷◌, ◌++◌, length, reverse, refl, sym, ◌∙◌, ap, subst, arith, Option, Some, None, MatchOption}
use Rattle.std.specs.Iterator.{Count}
use Rattle.icu_normalizer_core.specs.Iter.{IsFirstOf, SourceSpells, Spells}
use Rattle.icu_collator_core.specs.declared.elements.upcoming.Upcoming.{Upcoming}
use Rattle.icu_collator_core.specs.Upcoming.{ComesTo, HasUnread, PullsFirst, UpcomingSteps}

pub not_filled : (xs : List ℕ) → (0 < length xs → ⊥) → xs ≡ []
not_filled [] none = refl
not_filled (x ∷ xs) none = absurd (none (omega arith))

module _ {I : Type 0} (steps : I → Option ℕ → I → Type 0) where
  -- where nothing was put before, the iterator gives the next
  pub pulled : (s popped t : Upcoming I) (r : Option ℕ) → s.first.items ≡ [] → popped.first.items ≡ []
      → ((rest : List ℕ) → SourceSpells steps s.done s.chars rest → SourceSpells steps popped.done popped.chars rest)
      → PullsFirst steps popped r t → (cs : List ℕ) → ComesTo steps s cs → MatchOption r ((cs ≡ []) × ComesTo steps t []) (IsFirstOf (ComesTo steps) cs t)
  pulled s popped t r empty left same pulls cs h =
      by_result r (pulls [] h.rest (record { before_is = ap (λ (l : List ℕ). reverse l) left; source = same h.rest h.source }))
    where
      is : cs ≡ h.rest
      is = h.text ∙ ap (λ (l : List ℕ). reverse l ++ h.rest) empty

      by_result : (o : Option ℕ) → MatchOption o ((h.rest ≡ []) × HasUnread steps t [] []) (IsFirstOf (λ u ds. HasUnread steps u [] ds) h.rest t)
          → MatchOption o ((cs ≡ []) × ComesTo steps t []) (IsFirstOf (ComesTo steps) cs t)
      by_result None got = (
        is ∙ got.0,
        record { rest = []; source = got.1.source; text = sym (ap (λ (l : List ℕ). l ++ []) got.1.before_is) },
      )
      by_result (Some c) got = (
        got.0,
        is ∙ got.1,
        record { rest = got.0; source = got.2.source; text = sym (ap (λ (l : List ℕ). l ++ got.0) got.2.before_is) },
      )

  -- what is still to come is what it gives
  pub upcoming_spells : (can : I → Type 0) (left : I → Count) (s : Upcoming I) (out : List ℕ) → ComesTo steps s out → Spells (UpcomingSteps can steps left) s out
  upcoming_spells can left s [] h = λ x t step. let first = step.at [] h in let none : [] ≡ x ∷ first.0 = first.1 in cc
  upcoming_spells can left s (c ∷ cs) h = (
    λ t step. let end = step.at (c ∷ cs) h in let none : c ∷ cs ≡ [] = end.0 in cc,
    λ x t step.
        let first = step.at (c ∷ cs) h in
        let parts : c ∷ cs ≡ x ∷ first.0 = first.1 in
        let head : x ≡ c = cc in
        let tail : first.0 ≡ cs = cc in
        (head, upcoming_spells can left t cs (subst (ComesTo steps t) tail first.2)),
  )

  -- what was put before, and the iterator's
  pub unread_comes : (s : Upcoming I) (before rest : List ℕ) → HasUnread steps s before rest → ComesTo steps s (before ++ rest)
  unread_comes s before rest h = record { rest = rest; source = h.source; text = ap (λ (l : List ℕ). l ++ rest) (sym h.before_is) }
