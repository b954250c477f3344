-- Lists that begin with three characters with which no prefix is recorded are read alike after any characters, for a prefix
-- has at most three.
use Rattle.std.proofs.Common.{◌≡◌, ℕ, ◌<◌, ◌≤◌, ◌&&◌, true, ltb, leb, List, [], ◌∷◌, ◌++◌, length, take, reverse, refl, sym, subst, ◌∙◌, arith, Option, None}
use Rattle.std.specs.List.{AllByRecursion}
use Rattle.std.proofs.lemmas.Bool.{and_from, and_parts, cond_both, leb-true, ltb-true}
use Rattle.std.proofs.lemmas.List.{length-reverse, length-take-le}
use lib.Utf8.{scalar, scalars}
use Rattle.icu_normalizer_core.specs.Canonical.{Canonical}
use Rattle.icu_collator_types.specs.declared.elements.Element.{Element}
use Rattle.icu_collator_core.specs.AlikeLists.{AreAlike}
use Rattle.icu_collator_core.specs.Elements.{at_greatest, behind_prefix, longest_prefix, placed_behind, prefix_match}
use Rattle.icu_collator_core.specs.PlainWords.{IsUnprefixed}
use Rattle.icu_collator_core.specs.Weights.{Weights}
use Rattle.icu_collator_core.proofs.lookups.MatchLemmas.{scalars_front}
use Rattle.icu_collator_core.proofs.lookups.PrefixLemmas.{scalars_back}
use Rattle.icu_collator_core.proofs.readings.SamenessLemmas.{at_greatest_same}
use Rattle.icu_collator_core.proofs.readings.ReadStepLemmas.{alike_self}
use Rattle.icu_collator_core.specs.Boundaries.{IsBoundary}

module _ (canonical : Canonical) (weights : Weights) where
  recorded_none : (d : ℕ) (xs : List ℕ) → IsBoundary canonical weights d → 0 < length xs → scalars xs ≡ true
      → weights.recorded xs (d ∷ []) ≡ None
  recorded_none d [] b l s = absurd (omega arith)
  recorded_none d (p ∷ ps) b l s = b.prefixes p ps s

  behind_none : (d : ℕ) (before : List ℕ) (n : ℕ) → IsBoundary canonical weights d → scalars before ≡ true
      → behind_prefix weights (record { character = d; before = before }) n ≡ None
  behind_none d before n b s =
      let IsNone : Option (List Element) → Type 0 = λ o. o ≡ None
      in cond_both (ltb 0 n && leb n (length before)) (weights.recorded (reverse (take n before)) (d ∷ [])) None IsNone
      (λ is. let parts = and_parts (ltb 0 n) (leb n (length before)) is
      in let some = ltb-true 0 n parts.0
      in let count = length-reverse (take n before) ∙ length-take-le n before (leb-true n (length before) parts.1)
      in recorded_none d (reverse (take n before)) b (omega (arith, some, count)) (scalars_back (take n before) (scalars_front n before s)))
      (λ _. refl)

  -- no prefix is recorded with a boundary
  prefix_none : (d : ℕ) (before : List ℕ) → IsBoundary canonical weights d → scalars before ≡ true
      → prefix_match weights (record { character = d; before = before }) ≡ None
  unfolding at_greatest
  prefix_none d before b s =
      at_greatest_same (behind_prefix weights (record { character = d; before = before })) (λ _. None) longest_prefix (λ n. behind_none d before n b s)

  pub boundary_unprefixed : (d : ℕ) → IsBoundary canonical weights d → IsUnprefixed weights d
  boundary_unprefixed d b p is ok =
      subst (λ (c : ℕ). prefix_match weights (record { character = c; before = p.before }) ≡ None) (sym is) (prefix_none d p.before b ok)

module _ (weights : Weights) where
  prefixes_same : (d : ℕ) (xs ys : List ℕ) → IsUnprefixed weights d → scalars xs ≡ true → scalars ys ≡ true
      → prefix_match weights (record { character = d; before = xs }) ≡ prefix_match weights (record { character = d; before = ys })
  prefixes_same d xs ys b s t = b (record { character = d; before = xs }) refl s ∙ sym (b (record { character = d; before = ys }) refl t)

  further : (d : ℕ) (xs : List ℕ) → scalar d ≡ true → scalars xs ≡ true → scalars (take 3 (d ∷ xs)) ≡ true
  further d xs h s = scalars_front 3 (d ∷ xs) (and_from (scalar d) (scalars xs) h s)

  three_alike : (xs ys : List ℕ) (a b c : ℕ) (cs : List ℕ)
      → IsUnprefixed weights a → IsUnprefixed weights b → IsUnprefixed weights c
      → scalar a ≡ true → scalar b ≡ true → scalars xs ≡ true → scalars ys ≡ true
      → AreAlike weights (placed_behind xs (a ∷ b ∷ c ∷ cs)) (placed_behind ys (a ∷ b ∷ c ∷ cs))
  unfolding placed_behind
  three_alike xs ys a b c cs first second third h g s t =
      let xs_a = take 3 (a ∷ xs)
      in let ys_a = take 3 (a ∷ ys)
      in let one = further a xs h s
      in let other = further a ys h t
      in (
        refl {a = a},
        prefixes_same a xs ys first s t,
        (
          refl {a = b},
          prefixes_same b xs_a ys_a second one other,
          (
            refl {a = c},
            prefixes_same c (take 3 (b ∷ xs_a)) (take 3 (b ∷ ys_a)) third (further b xs_a g one) (further b ys_a g other),
            alike_self weights (placed_behind (c ∷ b ∷ a ∷ []) cs),
          ),
        ),
      )

  -- a list that begins with three such, or more
  pub front_alike : (front xs ys cs : List ℕ) → AllByRecursion (IsUnprefixed weights) front → 3 ≤ length front
      → scalars front ≡ true → scalars xs ≡ true → scalars ys ≡ true
      → AreAlike weights (placed_behind xs (front ++ cs)) (placed_behind ys (front ++ cs))
  front_alike [] xs ys cs all l ok s t = absurd (omega arith)
  front_alike (a ∷ []) xs ys cs all l ok s t = absurd (omega arith)
  front_alike (a ∷ b ∷ []) xs ys cs all l ok s t = absurd (omega arith)
  front_alike (a ∷ b ∷ c ∷ front) xs ys cs all l ok s t =
      let behind = and_parts (scalar a) (scalars (b ∷ c ∷ front)) ok
      in let further = and_parts (scalar b) (scalars (c ∷ front)) behind.1
      in three_alike xs ys a b c (front ++ cs) all.0 all.1.0 all.1.1.0 behind.0 further.0 s t
