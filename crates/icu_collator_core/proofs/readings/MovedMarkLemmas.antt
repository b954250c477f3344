-- What marks change by a change of place: no recorded prefix reaches to them.
use Rattle.std.proofs.Common.{◌≡◌, ℕ, zero, suc, ◌<◌, ◌==◌, Bool, true, false, not, ◌&&◌, ◌||◌, leb, ltb, List, [], ◌∷◌, length, take, drop, reverse, refl, sym, ap, subst, ◌∙◌, ◌⊎◌, inl, inr, arith, Option, Some, None}
use Rattle.std.specs.List.{list_all}
use Rattle.std.specs.Option.{is_some}
use Rattle.std.proofs.lemmas.Bool.{and_from, and_parts, and_right, cond_both, eq-eqb, eqb-true, false≢true, leb-true, or_cases, true≢false}
use Rattle.std.proofs.lemmas.List.{length-reverse, length-take-le, reverse-append}
use Rattle.std.proofs.lemmas.List.Folds.{list_all-append}
use Rattle.icu_collator_types.specs.declared.elements.Element.{Element}
use Rattle.icu_collator_core.specs.Weights.{Weights}
use Rattle.icu_collator_core.specs.Elements.{Placed, at_greatest, behind_prefix, characters_of, longest_prefix, placed, placed_behind, prefix_match}
use Rattle.icu_collator_core.specs.MovedMarks.{KnowNoMarksBefore, moves_marks}
use Rattle.icu_collator_core.specs.AlikeLists.{AreAlike}
use Rattle.icu_collator_core.proofs.readings.AlikeLemmas.{behind_alike}
use Rattle.icu_collator_core.proofs.readings.SamenessLemmas.{at_greatest_same}

-- ---- Lists of starters

and_turned : (a b : Bool) → (a && (b && true)) ≡ (b && a)
and_turned true true = refl
and_turned true false = refl
and_turned false true = refl
and_turned false false = refl

-- all of a list turned round pass a test just where all of it do
pub list_all-reverse : {A : Type 0} (test : A → Bool) (xs : List A) → list_all test (reverse xs) ≡ list_all test xs
list_all-reverse test [] = refl
list_all-reverse test (x ∷ xs) =
    ap (list_all test) (reverse-append (x ∷ []) xs)
    ∙ list_all-append test (reverse xs) (x ∷ [])
    ∙ ap (λ (b : Bool). b && (test x && true)) (list_all-reverse test xs)
    ∙ and_turned (list_all test xs) (test x)

-- ---- Lists in which marks changed places

module _ (class : ℕ → ℕ) where
  abbrev pub are_starters : List ℕ → Bool
  are_starters cs = list_all (λ c. class c == 0) cs

  take_moved : (n : ℕ) (old new : List ℕ) → moves_marks class old new ≡ true → moves_marks class (take n old) (take n new) ≡ true
  unfolding moves_marks
  take_moved zero old new h = refl
  take_moved (suc n) [] [] h = refl
  take_moved (suc n) [] (d ∷ ds) h = absurd (false≢true h)
  take_moved (suc n) (c ∷ cs) [] h = absurd (false≢true h)
  take_moved (suc n) (c ∷ cs) (d ∷ ds) h =
      let both = and_parts ((c == d) || (not (class c == 0) && not (class d == 0))) (moves_marks class cs ds) h
      in and_from _ _ both.0 (take_moved n cs ds both.1)

  pub length_moved : (old new : List ℕ) → moves_marks class old new ≡ true → length old ≡ length new
  unfolding moves_marks
  length_moved [] [] h = refl
  length_moved [] (d ∷ ds) h = absurd (false≢true h)
  length_moved (c ∷ cs) [] h = absurd (false≢true h)
  length_moved (c ∷ cs) (d ∷ ds) h =
      let both = and_parts ((c == d) || (not (class c == 0) && not (class d == 0))) (moves_marks class cs ds) h
      in ap suc (length_moved cs ds both.1)

  pub moved_itself : (cs : List ℕ) → moves_marks class cs cs ≡ true
  unfolding moves_marks
  moved_itself [] = refl
  moved_itself (c ∷ cs) = and_from _ _ (ap (λ (b : Bool). b || (not (class c == 0) && not (class c == 0))) (eq-eqb c c refl)) (moved_itself cs)

  pub not_true : (b : Bool) → not b ≡ true → b ≡ false
  not_true true h = absurd (false≢true h)
  not_true false h = refl

  -- they are the same, or there is a mark in both
  same_or_marked : (old new : List ℕ) → moves_marks class old new ≡ true
      → (old ≡ new) ⊎ ((are_starters old ≡ false) × (are_starters new ≡ false))
  unfolding moves_marks
  same_or_marked [] [] h = inl refl
  same_or_marked [] (d ∷ ds) h = absurd (false≢true h)
  same_or_marked (c ∷ cs) [] h = absurd (false≢true h)
  same_or_marked (c ∷ cs) (d ∷ ds) h =
      let both = and_parts ((c == d) || (not (class c == 0) && not (class d == 0))) (moves_marks class cs ds) h
      in elim (or_cases (c == d) (not (class c == 0) && not (class d == 0)) both.0) [
        | inl same ↦ elim (same_or_marked cs ds both.1) [
          | inl rest ↦ inl (cc (eqb-true c d same, rest))
          | inr held ↦ inr (and_right (class c == 0) (are_starters cs) held.0, and_right (class d == 0) (are_starters ds) held.1)
        ]
        | inr marks ↦
            let each = and_parts (not (class c == 0)) (not (class d == 0)) marks
            in inr (ap (λ (b : Bool). b && are_starters cs) (not_true (class c == 0) each.0), ap (λ (b : Bool). b && are_starters ds) (not_true (class d == 0) each.1))
      ]

  module _ (weights : Weights) (known : KnowNoMarksBefore class weights) where
    -- ---- Prefixes

    -- nothing is recorded after a mark
    none_behind_mark : (c : ℕ) (prefix : List ℕ) → are_starters prefix ≡ false → weights.recorded prefix (c ∷ []) ≡ None
    none_behind_mark c [] h = absurd (true≢false h)
    none_behind_mark c (b ∷ bs) h = at (weights.recorded (b ∷ bs) (c ∷ [])) refl
      where
        at : (o : Option (List Element)) → weights.recorded (b ∷ bs) (c ∷ []) ≡ o → o ≡ None
        at None is = refl
        at (Some es) is = absurd (true≢false (sym (known.at b bs c (ap is_some is)).1 ∙ h))

    -- and a mark is recorded after nothing
    none_of_mark : (c : ℕ) (prefix : List ℕ) → (class c == 0) ≡ false → 0 < length prefix → weights.recorded prefix (c ∷ []) ≡ None
    none_of_mark c [] h some = absurd (omega (arith, some))
    none_of_mark c (b ∷ bs) h some = at (weights.recorded (b ∷ bs) (c ∷ [])) refl
      where
        at : (o : Option (List Element)) → weights.recorded (b ∷ bs) (c ∷ []) ≡ o → o ≡ None
        at None is = refl
        at (Some es) is = absurd (true≢false (sym (eq-eqb (class c) 0 (known.at b bs c (ap is_some is)).0) ∙ h))

    none_found : {A : Type 0} (found : ℕ → Option A) (n : ℕ) → ((k : ℕ) → found k ≡ None) → at_greatest found n ≡ None
    unfolding at_greatest
    none_found found zero h = h zero
    none_found {A} found (suc n) h =
        ap (λ (o : Option A). elim o as (λ _. Option A) [ Some x ↦ Some x | None ↦ at_greatest found n ]) (h (suc n)) ∙ none_found found n h

    taken_some : (n : ℕ) (cs : List ℕ) → (ltb 0 n && leb n (length cs)) ≡ true → 0 < length (reverse (take n cs))
    taken_some zero cs h = absurd (false≢true h)
    taken_some (suc n) cs h =
        let within = leb-true (suc n) (length cs) (and_parts (ltb 0 (suc n)) (leb (suc n) (length cs)) h).1
        in let count = length-take-le (suc n) cs within
        in let same = length-reverse (take (suc n) cs)
        in omega (arith, count, same)

    pub mark_has_no_prefix : (p : Placed) → (class p.character == 0) ≡ false → prefix_match weights p ≡ None
    mark_has_no_prefix p h =
        none_found (behind_prefix weights p) longest_prefix
        (λ n. cond_both (ltb 0 n && leb n (length p.before)) (weights.recorded (reverse (take n p.before)) (p.character ∷ [])) None (λ (o : Option (List Element)). o ≡ None)
        (λ within. none_of_mark p.character (reverse (take n p.before)) h (taken_some n p.before within)) (λ _. refl))

    -- ---- Lists that are alike

    behind_moved : (c n : ℕ) (xs ys : List ℕ) → moves_marks class xs ys ≡ true
        → behind_prefix weights (record { character = c; before = xs }) n ≡ behind_prefix weights (record { character = c; before = ys }) n
    behind_moved c n xs ys h =
        behind_alike weights c n xs ys (elim (same_or_marked (take n xs) (take n ys) (take_moved n xs ys h)) [
          | inl same ↦ inl (same, ap (leb n) (length_moved xs ys h))
          | inr held ↦ inr (
            none_behind_mark c (reverse (take n xs)) (list_all-reverse (λ d. class d == 0) (take n xs) ∙ held.0),
            none_behind_mark c (reverse (take n ys)) (list_all-reverse (λ d. class d == 0) (take n ys) ∙ held.1),
          )
        ])

    more_moved : (c d : ℕ) (xs ys : List ℕ) → ((c == d) || (not (class c == 0) && not (class d == 0))) ≡ true → moves_marks class xs ys ≡ true
        → moves_marks class (take longest_prefix (c ∷ xs)) (take longest_prefix (d ∷ ys)) ≡ true
    unfolding moves_marks
    more_moved c d xs ys first rest = take_moved longest_prefix (c ∷ xs) (d ∷ ys) (and_from _ _ first rest)

    -- the same characters after lists in which marks changed places
    pub placed_moved : (xs ys cs : List ℕ) → moves_marks class xs ys ≡ true → AreAlike weights (placed_behind xs cs) (placed_behind ys cs)
    unfolding placed_behind
    placed_moved xs ys [] h = tt
    placed_moved xs ys (c ∷ cs) h = (
      refl {a = c},
      at_greatest_same (behind_prefix weights (record { character = c; before = xs })) (behind_prefix weights (record { character = c; before = ys })) longest_prefix
          (λ n. behind_moved c n xs ys h),
      placed_moved (take longest_prefix (c ∷ xs)) (take longest_prefix (c ∷ ys)) cs
          (more_moved c c xs ys (ap (λ (b : Bool). b || (not (class c == 0) && not (class c == 0))) (eq-eqb c c refl)) h),
    )

    dropped_moved : (k : ℕ) (xs ys old new : List ℕ) → moves_marks class xs ys ≡ true → moves_marks class old new ≡ true
        → drop k old ≡ drop k new → AreAlike weights (drop k (placed_behind xs old)) (drop k (placed_behind ys new))
    unfolding moves_marks placed_behind
    dropped_moved zero xs ys old new b h e =
        subst (λ cs. AreAlike weights (placed_behind xs old) (placed_behind ys cs)) e (placed_moved xs ys old b)
    dropped_moved (suc k) xs ys [] [] b h e = tt
    dropped_moved (suc k) xs ys [] (d ∷ ds) b h e = absurd (false≢true h)
    dropped_moved (suc k) xs ys (c ∷ cs) [] b h e = absurd (false≢true h)
    dropped_moved (suc k) xs ys (c ∷ cs) (d ∷ ds) b h e =
        let both = and_parts ((c == d) || (not (class c == 0) && not (class d == 0))) (moves_marks class cs ds) h
        in dropped_moved k (take longest_prefix (c ∷ xs)) (take longest_prefix (d ∷ ys)) cs ds (more_moved c d xs ys both.0 b) both.1 e

    -- what stands from an index on is read alike where marks before it changed places
    pub moved_alike : (k : ℕ) (old new : List ℕ) → moves_marks class old new ≡ true → drop k old ≡ drop k new
        → AreAlike weights (drop k (placed old)) (drop k (placed new))
    unfolding moves_marks
    moved_alike k old new h e = dropped_moved k [] [] old new refl h e

    -- marks are read alike wherever they stand
    pub marks_alike : (ps qs : List Placed) → list_all (λ p. not (class p.character == 0)) ps ≡ true → characters_of ps ≡ characters_of qs
        → AreAlike weights ps qs
    marks_alike [] [] h e = tt
    marks_alike [] (q ∷ qs) h e = cc
    marks_alike (p ∷ ps) [] h e = cc
    marks_alike (p ∷ ps) (q ∷ qs) h e =
        let both = and_parts (not (class p.character == 0)) (list_all (λ r. not (class r.character == 0)) ps) h
        in let same : p.character ≡ q.character = cc
        in let mark = not_true (class p.character == 0) both.0
        in (
          same,
          mark_has_no_prefix p mark ∙ sym (mark_has_no_prefix q (ap (λ (c : ℕ). class c == 0) (sym same) ∙ mark)),
          marks_alike ps qs both.1 (cc),
        )
