-- Lists that are read alike whatever stands before them, since at each index they tell which prefix counts.
use Rattle.std.proofs.Common.{◌≡◌, ℕ, ◌+◌, ◌<◌, ◌≤◌, leb, ltb, Bool, true, ◌&&◌, cond, List, [], ◌∷◌, ◌++◌, length, take, get_or, reverse, None, inl, inr, refl, sym, ◌∙◌, ap, subst, arith, append_assoc, length-append}
use Rattle.std.proofs.lemmas.Bool.{cases_lt, le-leb, lt-leb}
use Rattle.std.proofs.lemmas.List.{length-take, reverse-append}
use Rattle.std.proofs.Math.Seq.{get_or-append_seam, take-append_seam}
use lib.Utf8.{scalars}
use Rattle.icu_collator_core.specs.AlikeLists.{AreAlike, IsToldAlone, IsToldAt}
use Rattle.icu_collator_core.specs.Elements.{behind_prefix, longest_prefix, placed_behind, prefix_match}
use Rattle.icu_collator_core.specs.Weights.{Weights}
use Rattle.icu_collator_core.proofs.lookups.PlacedLemmas.{take_behind}
use Rattle.icu_collator_core.proofs.readings.SplitAtBoundaryLemmas.{greatest_same}

module _ (weights : Weights) where
  -- three characters at most count before another
  near_count : (n : ℕ) (before : List ℕ) → n ≤ longest_prefix → leb n (length before) ≡ leb n (length (take longest_prefix before))
  near_count n before few =
      let count = length-take longest_prefix before in
      elim (cases_lt (length before) n) [
        | inl past ↦ lt-leb n (length before) past ∙ sym (lt-leb n (length (take longest_prefix before)) (omega (arith, count, past)))
        | inr within ↦ le-leb n (length before) within ∙ sym (le-leb n (length (take longest_prefix before)) (omega (arith, count, within, few)))
      ]

  prefix_near : (c : ℕ) (before : List ℕ) → prefix_match weights (record { character = c; before = before }) ≡ prefix_match weights (record { character = c; before = take longest_prefix before })
  prefix_near c before =
      greatest_same (behind_prefix weights (record { character = c; before = before })) (behind_prefix weights (record { character = c; before = take longest_prefix before })) longest_prefix
      (λ n few.
      ap (λ (b : Bool). cond (ltb 0 n && b) (weights.recorded (reverse (take n before)) (c ∷ [])) None) (near_count n before few)
      ∙ ap (λ (l : List ℕ). cond (ltb 0 n && leb n (length (take longest_prefix before))) (weights.recorded (reverse l) (c ∷ [])) None)
      (sym (take_behind n longest_prefix [] before few)))

  abbrev AreTold : List ℕ → Type 0
  AreTold list = (k : ℕ) → k < length list → IsToldAt weights list k (get_or list k 0)

  told_from : (front rest before : List ℕ) → scalars before ≡ true → AreTold (front ++ rest)
      → AreAlike weights (placed_behind (take longest_prefix (reverse front ++ before)) rest) (placed_behind (take longest_prefix (reverse front)) rest)
  unfolding placed_behind
  told_from front [] before b told = tt
  told_from front (c ∷ cs) before b told =
      let whole = front ++ c ∷ cs in
      let here : prefix_match weights (record { character = get_or whole (length front) 0; before = take longest_prefix (reverse (take (length front) whole) ++ before) })
      ≡ prefix_match weights (record { character = get_or whole (length front) 0; before = take longest_prefix (reverse (take (length front) whole)) }) =
      told (length front) (omega (arith, length-append front (c ∷ cs))) before b in
      let Same : ℕ → List ℕ → Type 0 = λ d l. prefix_match weights (record { character = d; before = take longest_prefix (reverse l ++ before) })
      ≡ prefix_match weights (record { character = d; before = take longest_prefix (reverse l) }) in
      let turned : reverse (front ++ c ∷ []) ≡ c ∷ reverse front = reverse-append front (c ∷ []) in
      let near : (xs : List ℕ) → take longest_prefix (c ∷ take longest_prefix xs) ≡ take longest_prefix (c ∷ xs) =
      λ xs. take_behind longest_prefix longest_prefix (c ∷ []) xs (omega arith) in
      let rest = told_from (front ++ c ∷ []) cs before b (subst AreTold (sym (append_assoc front (c ∷ []) cs)) told) in (
        refl,
        subst (λ (l : List ℕ). Same c l) (take-append_seam front (c ∷ cs)) (subst (λ (d : ℕ). Same d (take (length front) whole)) (get_or-append_seam front c cs 0) here),
        subst (λ (l : List ℕ). AreAlike weights (placed_behind l cs) (placed_behind (take longest_prefix (c ∷ take longest_prefix (reverse front))) cs))
            (ap (λ (l : List ℕ). take longest_prefix (l ++ before)) turned ∙ sym (near (reverse front ++ before)))
            (subst (λ (l : List ℕ). AreAlike weights (placed_behind (take longest_prefix (reverse (front ++ c ∷ []) ++ before)) cs) (placed_behind l cs))
            (ap (take longest_prefix) turned ∙ sym (near (reverse front))) rest),
      )

  pub told_alone : (list : List ℕ) → AreTold list → IsToldAlone weights list
  unfolding placed_behind
  told_alone [] told before b = tt
  told_alone (c ∷ cs) told before b =
      (refl, prefix_near c before ∙ told 0 (omega arith) before b, told_from (c ∷ []) cs before b told)
