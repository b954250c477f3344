-- The reading of a number is that of the digits at the beginning of a list of characters.
use Rattle.std.proofs.Common.{◌≡◌, ℕ, ◌+◌, ◌<◌, ◌≤◌, true, cond, List, [], ◌∷◌, ◌++◌, length, take, drop, refl, sym, ◌∙◌, ap, arith, append-nil, append_assoc, get_or, Option, Some, None}
use Rattle.std.specs.Prelude.{filter_map, leb, slice_index}
use Rattle.std.specs.List.{list_all, prefix_len}
use Rattle.std.specs.Option.{is_some}
use Rattle.std.proofs.lemmas.Bool.{and_from, false≢true, le-leb}
use Rattle.std.proofs.lemmas.List.{at_drop_more, drop-drop, drop_all, length-drop}
use Rattle.std.proofs.lemmas.List.Sums.{prefix_len-le-length}
use Rattle.icu_normalizer_core.specs.Canonical.{Canonical}
use Rattle.icu_collator_core.specs.DigitRuns.{leading_digits}
use Rattle.icu_collator_core.specs.ElementLists.{AddsElements}
use Rattle.icu_collator_core.specs.Elements.{characters_of, digit_count, number_reading, placed}
use Rattle.icu_collator_core.specs.NumberBytes.{AreDigitValues}
use Rattle.icu_collator_core.specs.Numbers.{number_elements}
use Rattle.icu_collator_core.specs.ReadSteps.{IsReadAs}
use Rattle.icu_collator_core.specs.Weights.{Weights}
use Rattle.icu_collator_core.proofs.lookups.FoundTextLemmas.{characters_left}
use Rattle.icu_collator_core.proofs.readings.AlikeLemmas.{count_of, taken_of}
use Rattle.icu_collator_core.proofs.readings.ReadStepLemmas.{alike_self}

-- a digit that stands before others; where there is none, nothing
abbrev digit_before : Option ℕ → List ℕ → List ℕ
digit_before o ds = elim o [ Some d ↦ d ∷ ds | None ↦ [] ]

one_more : (digit : ℕ → Option ℕ) (c : ℕ) (cs : List ℕ) (o : Option ℕ) → o ≡ digit c → leading_digits digit (c ∷ cs) ≡ digit_before o (leading_digits digit cs)
unfolding leading_digits
one_more digit c cs o h = ap (λ (p : Option ℕ). digit_before p (leading_digits digit cs)) (sym h)

no_digits : (digit : ℕ → Option ℕ) → leading_digits digit [] ≡ []
unfolding leading_digits
no_digits digit = refl

-- ---- How many, and which

count_leads : (digit : ℕ → Option ℕ) (cs : List ℕ) → prefix_len (λ c. is_some (digit c)) cs ≡ length (leading_digits digit cs)
unfolding leading_digits
count_leads digit [] = refl
count_leads digit (c ∷ cs) = by_digit (digit c) (count_leads digit cs)
  where
    by_digit : (o : Option ℕ) → prefix_len (λ c. is_some (digit c)) cs ≡ length (leading_digits digit cs)
        → cond (is_some o) (1 + prefix_len (λ c. is_some (digit c)) cs) 0 ≡ length (digit_before o (leading_digits digit cs))
    by_digit (Some d) h = omega (arith, h)
    by_digit None h = refl

taken_leads : (digit : ℕ → Option ℕ) (cs : List ℕ) → filter_map digit (take (length (leading_digits digit cs)) cs) ≡ leading_digits digit cs
unfolding leading_digits
taken_leads digit [] = refl
taken_leads digit (c ∷ cs) = by_digit (digit c) refl (taken_leads digit cs)
  where
    by_digit : (o : Option ℕ) → digit c ≡ o → filter_map digit (take (length (leading_digits digit cs)) cs) ≡ leading_digits digit cs
        → filter_map digit (take (length (digit_before o (leading_digits digit cs))) (c ∷ cs)) ≡ digit_before o (leading_digits digit cs)
    by_digit (Some d) e h = rw e (ap (λ (ds : List ℕ). d ∷ ds) h)
    by_digit None e h = refl

-- they are digits
pub leading_values : (digit : ℕ → Option ℕ) (cs : List ℕ) → ((c d : ℕ) → digit c ≡ Some d → d ≤ 9) → AreDigitValues (leading_digits digit cs)
unfolding leading_digits
leading_values digit [] low = refl
leading_values digit (c ∷ cs) low = by_digit (digit c) refl (leading_values digit cs low)
  where
    by_digit : (o : Option ℕ) → digit c ≡ o → AreDigitValues (leading_digits digit cs) → AreDigitValues (digit_before o (leading_digits digit cs))
    by_digit (Some d) e h = and_from (leb d 9) (list_all (λ d. leb d 9) (leading_digits digit cs)) (le-leb d 9 (low c d e)) h
    by_digit None e h = refl

-- ---- At an index of a list

module _ (digit : ℕ → Option ℕ) (list : List ℕ) (index : ℕ) where
  -- there is one where a digit stands
  pub some_lead : index < length list → is_some (digit (slice_index list index)) ≡ true → 0 < length (leading_digits digit (drop index list))
  some_lead inside h = by_digit (digit (slice_index list index)) refl h
    where
      by_digit : (o : Option ℕ) → o ≡ digit (slice_index list index) → is_some o ≡ true → 0 < length (leading_digits digit (drop index list))
      by_digit (Some d) e some =
          let count = ap length (at_drop_more (leading_digits digit) list index 0 inside ∙ one_more digit (slice_index list index) (drop (index + 1) list) (Some d) e)
          in omega (arith, count)
      by_digit None e some = absurd (false≢true some)

  -- they stand in the list
  pub leads_within : index ≤ length list → index + length (leading_digits digit (drop index list)) ≤ length list
  leads_within inside =
      let count = count_leads digit (drop index list)
      in let most = prefix_len-le-length (λ c. is_some (digit c)) (drop index list)
      in let left = length-drop index list
      in omega (arith, count, most, left)

-- the values so far with those of the digits that follow, one step on and at the end
module _ (digit : ℕ → Option ℕ) (list : List ℕ) (index : ℕ) (values all : List ℕ) where
  pub digit_read : (c d : ℕ) (more : List ℕ) → index < length list → c ≡ get_or list index c → Some d ≡ digit c → more ≡ values ++ d ∷ []
      → values ++ leading_digits digit (drop index list) ≡ all → more ++ leading_digits digit (drop (index + 1) list) ≡ all
  digit_read c d more inside is h pushed known =
      let rest = leading_digits digit (drop (index + 1) list)
      in let first : leading_digits digit (drop index list) ≡ d ∷ rest =
      at_drop_more (leading_digits digit) list index c inside
      ∙ ap (λ x. leading_digits digit (x ∷ drop (index + 1) list)) (sym is)
      ∙ one_more digit c (drop (index + 1) list) (Some d) h
      in ap (λ ds. ds ++ rest) pushed ∙ append_assoc values (d ∷ []) rest ∙ ap (λ ds. values ++ ds) (sym first) ∙ known

  pub no_digit_read : (c : ℕ) → index < length list → c ≡ get_or list index c → None ≡ digit c
      → values ++ leading_digits digit (drop index list) ≡ all → values ≡ all
  no_digit_read c inside is h known =
      let first : leading_digits digit (drop index list) ≡ [] =
      at_drop_more (leading_digits digit) list index c inside
      ∙ ap (λ x. leading_digits digit (x ∷ drop (index + 1) list)) (sym is)
      ∙ one_more digit c (drop (index + 1) list) None h
      in sym (append-nil values) ∙ ap (λ ds. values ++ ds) (sym first) ∙ known

  pub all_read : length list ≤ index → values ++ leading_digits digit (drop index list) ≡ all → values ≡ all
  all_read past known =
      sym (append-nil values) ∙ ap (λ ds. values ++ ds) (sym (ap (leading_digits digit) (drop_all index list past) ∙ no_digits digit)) ∙ known

-- ---- The reading

-- a number is read once the elements of its digits were added
pub number_read : (canonical : Canonical) (weights : Weights) (list : List ℕ) (index : ℕ) (ready after : List ℕ)
    → AddsElements ready (number_elements weights.numeric_lead (leading_digits weights.digit (drop index list))) after
    → IsReadAs canonical weights (number_reading weights (drop index (placed list))) ready list (index + length (leading_digits weights.digit (drop index list))) after
unfolding number_reading
number_read canonical weights list index ready after added =
    let ps = drop index (placed list)
    in let n = length (leading_digits weights.digit (drop index list))
    in let same : characters_of ps ≡ drop index list = characters_left index list
    in let count : digit_count weights ps ≡ n =
    count_of weights ps ∙ ap (prefix_len (λ c. is_some (weights.digit c))) same ∙ count_leads weights.digit (drop index list)
    in let values : filter_map (λ p. weights.digit p.character) (take n ps) ≡ leading_digits weights.digit (drop index list) =
    taken_of weights n ps ∙ ap (λ (w : List ℕ). filter_map weights.digit (take n w)) same ∙ taken_leads weights.digit (drop index list)
    in let left : drop n ps ≡ drop (index + n) (placed list) = drop-drop n index (placed list) ∙ ap (λ k. drop k (placed list)) (omega arith)
    in rw (count, values, left) (record { elements = added; left = λ _. alike_self weights (drop (index + n) (placed list)) })
