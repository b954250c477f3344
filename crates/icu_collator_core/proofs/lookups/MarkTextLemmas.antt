-- A text that begins with a mark is what marks join, one after another, from the mark alone.
use Rattle.std.proofs.Common.{◌≡◌, ℕ, zero, suc, ◌+◌, ◌-◌, ◌<◌, ◌≤◌, Bool, true, List, [], ◌∷◌, ◌++◌, length, take, drop, Option, Some, None, refl, sym, ◌∙◌, ap, subst, arith, append_assoc, append-nil, inl, inr}
use Rattle.std.specs.Prelude.{◌&&◌, ltb, not}
use Rattle.std.specs.List.{list_all}
use Rattle.std.specs.Option.{is_some, unwrap_or}
use Rattle.std.proofs.lemmas.Bool.{and_from, and_parts, cases_eq, ltb-true}
use Rattle.std.proofs.lemmas.List.{length-take-le}
use Rattle.std.proofs.lemmas.Option.{cond_some}
use Rattle.icu_normalizer_core.specs.Canonical.{Canonical, is_starter}
use Rattle.icu_collator_core.specs.Elements.{Placed, at_greatest, characters_of, joining, match_length, recorded_length, text_match}
use Rattle.icu_collator_core.specs.Weights.{Weights}
use Rattle.icu_collator_core.proofs.lookups.OpenTextLemmas.{joining_joins}
use Rattle.icu_collator_core.proofs.lookups.PlacedLemmas.{take_less}
use Rattle.icu_collator_core.proofs.meaning.AcceptedMarkLemmas.{KnowMark}
use Rattle.icu_collator_core.proofs.readings.MovedMarkLemmas.{not_true}

-- what is found at the greatest number is found at some number
greatest_step : {A : Type 0} (f : ℕ → Option A) (n : ℕ) (x : A) (o : Option A) → f (suc n) ≡ o
    → (at_greatest f n ≡ Some x → (k : ℕ) × (k ≤ n) × (f k ≡ Some x)) → elim o as (λ _. Option A) [ Some y ↦ Some y | None ↦ at_greatest f n ] ≡ Some x
    → (k : ℕ) × (k ≤ suc n) × (f k ≡ Some x)
greatest_step f n x (Some y) is below e = (suc n, omega arith, is ∙ e)
greatest_step f n x None is below e = let found = below e in let within = found.1 in (found.0, omega (arith, within), found.2)

greatest_at : {A : Type 0} (f : ℕ → Option A) (n : ℕ) (x : A) → at_greatest f n ≡ Some x → (k : ℕ) × (k ≤ n) × (f k ≡ Some x)
unfolding at_greatest
greatest_at f zero x h = (0, omega arith, h)
greatest_at f (suc n) x h = greatest_step f n x (f (suc n)) refl (greatest_at f n x) h

module _ (canonical : Canonical) (weights : Weights) where
  abbrev are_marks : List ℕ → Bool
  are_marks cs = list_all (λ m. not (is_starter canonical m)) cs

  -- marks that are recorded one after another join one after another
  grows : (text : List ℕ) (n : ℕ) (rs : List Placed) → n ≤ length rs → are_marks (take n (characters_of rs)) ≡ true
      → ((k : ℕ) → 0 < k → k ≤ n → is_some (weights.recorded [] (text ++ take k (characters_of rs))) ≡ true)
      → joining canonical weights text [] rs ≡ joining canonical weights (text ++ take n (characters_of rs)) [] (drop n rs)
  grows text zero rs within marks h = ap (λ t. joining canonical weights t [] rs) (sym (append-nil text))
  grows text (suc n) [] within marks h = absurd (omega (arith, within))
  grows text (suc n) (q ∷ rs) within marks h =
      let cs = characters_of rs in
      let parts = and_parts (not (is_starter canonical q.character)) (are_marks (take n cs)) marks in
      let longer = text ++ q.character ∷ [] in
      let whole : (k : ℕ) → longer ++ take k cs ≡ text ++ q.character ∷ take k cs = λ k. append_assoc text (q.character ∷ []) (take k cs) in
      joining_joins canonical weights text [] q rs (not_true canonical.class (is_starter canonical q.character) parts.0)
      (and_from true (is_some (weights.recorded [] longer)) refl (h 1 (omega arith) (omega arith)))
      ∙ grows longer n rs (omega (arith, within)) parts.1
      (λ k above under. ap (λ t. is_some (weights.recorded [] t)) (whole k) ∙ h (suc k) (omega arith) (omega (arith, under)))
      ∙ ap (λ t. joining canonical weights t [] (drop n rs)) (whole n)

  module _ (c : ℕ) (known : KnowMark canonical weights c) where
    abbrev is_text : List ℕ → Bool
    is_text cs = is_some (weights.recorded [] (c ∷ cs))

    -- each beginning of a recorded text is recorded
    each_shorter : (n : ℕ) (cs : List ℕ) → n ≤ length cs → is_text (take n cs) ≡ true → (k : ℕ) → 0 < k → k ≤ n → is_text (take k cs) ≡ true
    each_shorter zero cs within h k above under = absurd (omega (arith, above, under))
    each_shorter (suc n) cs within h k above under = elim (cases_eq k (suc n)) [
      | inl e ↦ ap (λ i. is_text (take i cs)) e ∙ h
      | inr other ↦
          let below : k ≤ n = omega (arith, other, under) in
          let count : length (take (suc n) cs) ≡ suc n = length-take-le (suc n) cs within in
          let fewer : length (take (suc n) cs) - 1 ≡ n = omega (arith, count) in
          let same : take (length (take (suc n) cs) - 1) (take (suc n) cs) ≡ take n cs =
          ap (λ i. take i (take (suc n) cs)) fewer ∙ take_less n (suc n) cs (omega arith) in
          let shorter : is_text (take n cs) ≡ true =
          ap is_text (sym same) ∙ known.shorter (take (suc n) cs) (omega (arith, count, below, above)) h in
          each_shorter n cs (omega (arith, within)) shorter k above below
    ]

    -- from the mark alone all of a recorded text's marks join
    from_mark : (n : ℕ) (rs : List Placed) → n ≤ length (characters_of rs) → length (characters_of rs) ≡ length rs → is_text (take n (characters_of rs)) ≡ true
        → joining canonical weights (c ∷ take n (characters_of rs)) [] (drop n rs) ≡ joining canonical weights (c ∷ []) [] rs
    from_mark n rs within count h =
        sym (grows (c ∷ []) n rs (omega (arith, within, count)) (known.marks (take n (characters_of rs)) h)
        (each_shorter n (characters_of rs) within h))

    length_characters : (rs : List Placed) → length (characters_of rs) ≡ length rs
    length_characters [] = refl
    length_characters (r ∷ rs) = ap (λ n. suc n) (length_characters rs)

    abbrev reads : List Placed → ℕ → Placed → Type 0
    reads rs n p =
        joining canonical weights (take n (c ∷ characters_of rs)) [] (drop n (p ∷ rs)) ≡ joining canonical weights (c ∷ []) [] rs

    at_length : (p : Placed) (rs : List Placed) (o : Option ℕ)
        → at_greatest (recorded_length weights (c ∷ characters_of rs)) (length (c ∷ characters_of rs)) ≡ o → reads rs (unwrap_or o 1) p
    at_length p rs None e = refl
    at_length p rs (Some zero) e =
        let found = greatest_at (recorded_length weights (c ∷ characters_of rs)) (length (c ∷ characters_of rs)) 0 e in
        let told = cond_some (ltb 0 found.0 && is_some (weights.recorded [] (take found.0 (c ∷ characters_of rs)))) found.0 0 found.2 in
        let above = ltb-true 0 found.0 (and_parts (ltb 0 found.0) _ told.0).0 in
        let none = told.1 in
        absurd (omega (arith, above, none))
    at_length p rs (Some (suc n)) e =
        let cs = characters_of rs in
        let found = greatest_at (recorded_length weights (c ∷ cs)) (length (c ∷ cs)) (suc n) e in
        let told = cond_some (ltb 0 found.0 && is_some (weights.recorded [] (take found.0 (c ∷ cs)))) found.0 (suc n) found.2 in
        let recorded : is_some (weights.recorded [] (take (suc n) (c ∷ cs))) ≡ true =
        ap (λ k. is_some (weights.recorded [] (take k (c ∷ cs)))) (sym told.1) ∙ (and_parts (ltb 0 found.0) (is_some (weights.recorded [] (take found.0 (c ∷ cs)))) told.0).1 in
        let under = found.1 in
        let same = told.1 in
        let within : n ≤ length cs = omega (arith, under, same) in
        from_mark n rs within (length_characters rs) recorded

    -- the match of a mark is what marks join from the mark alone
    pub mark_match : (p : Placed) (rs : List Placed) → p.character ≡ c → text_match canonical weights (p ∷ rs) ≡ joining canonical weights (c ∷ []) [] rs
    unfolding text_match
    mark_match p rs is =
        let Match : ℕ → Type 0 = λ d. joining canonical weights (take (match_length weights (d ∷ characters_of rs)) (d ∷ characters_of rs)) []
        (drop (match_length weights (d ∷ characters_of rs)) (p ∷ rs)) ≡ joining canonical weights (c ∷ []) [] rs in
        subst Match (sym is) (at_length p rs (at_greatest (recorded_length weights (c ∷ characters_of rs)) (length (c ∷ characters_of rs))) refl)
