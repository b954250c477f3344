-- The elements of a number stand at the places of a number: its first part where letters stand, the others in it.
use Rattle.std.proofs.Common.{◌≡◌, ℕ, zero, suc, ◌<◌, ◌≤◌, ◌+◌, ◌*◌, ◌-◌, ◌/◌, ◌%◌, ◌^◌, Bool, true, false, cond, ltb, leb, List, [], ◌∷◌, ◌++◌, length, take, drop, length-take, refl, sym, ◌∙◌, ap, subst, arith, inr, ◌⊎◌}
use Rattle.std.proofs.lemmas.Bool.{ltb-true}
use Rattle.std.proofs.lemmas.Bool.Decides.{nat_tests}
use Rattle.std.specs.Prelude.{◌==◌}
use Rattle.std.specs.List.{AllByRecursion}
use Rattle.icu_collator_types.specs.declared.elements.Element.{Element}
use Rattle.icu_collator_core.specs.Weights.{Weights}
use Rattle.icu_collator_core.specs.Defaults.{primary_of, primary_element}
use Rattle.icu_collator_core.specs.Numbers.{significant, value_of, pairs_of, without_last_zeros, pair_bytes, elements_of_bytes, long_number, number_part, number_parts, number_elements}
use Rattle.icu_collator_core.specs.WeightRules.{AreSoundWeights, IsRecorded}
use Rattle.icu_collator.proofs.keys.WeightBytesLemmas.{rest_one, rest_two, rest_three, fill_first, stripped, stripped_behind}
use Rattle.icu_collator.proofs.places.PrimaryPlaceLemmas.{Place, outside, inside, place_behind, NumberBytes, two, three, four, short, long, first, second, third, IsNumber, IsOriginal, equal_tested}

-- bytes of pairs of digits: the last is even, the others are odd
ArePairBytes : List ℕ → Type 0
ArePairBytes [] = ⊥
ArePairBytes (x ∷ []) = (x % 2 ≡ 0) × (2 ≤ x) × (x < 256)
ArePairBytes (x ∷ y ∷ ys) = (x % 2 ≡ 1) × (2 ≤ x) × (x < 256) × ArePairBytes (y ∷ ys)

pairs_shown : (p : ℕ) (ps : List ℕ) → AllByRecursion (λ q. q ≤ 99) (p ∷ ps) → ArePairBytes (pair_bytes (p ∷ ps))
unfolding pair_bytes ArePairBytes
pairs_shown p [] all = (omega arith, omega arith, omega (arith, all.0))
pairs_shown p (q ∷ []) all = (omega arith, omega arith, omega (arith, all.0), pairs_shown q [] all.1)
pairs_shown p (q ∷ r ∷ ps) all = (omega arith, omega arith, omega (arith, all.0), pairs_shown q (r ∷ ps) all.1)

-- the place after a part whose first byte after the lead is a, and whose last is c
behind_bytes : ℕ → ℕ → Place → Place
behind_bytes a c outside = cond (leb 132 a) (cond (c % 2 == 1) inside outside) outside
behind_bytes a c inside = cond (c % 2 == 1) inside outside

both_outside : (b : Bool) → cond b outside outside ≡ outside
both_outside true = refl
both_outside false = refl

module _ (weights : Weights) (sound : AreSoundWeights weights) (numeric_on : Bool) where
  -- an element at its place: of a record, or with common weights after a primary
  abbrev pub IsElement : Place → Element → Type 0
  IsElement place e = ((place ≡ outside) × IsRecorded weights e) ⊎ ((p : ℕ) × IsOriginal weights sound numeric_on place p × (e ≡ primary_element p))

  -- the place after an element
  abbrev pub element_behind : Place → Element → Place
  element_behind place e = place_behind (e.primary / 2 ^ 24 == weights.numeric_lead) (e.primary) place

  -- elements from one place on reach another
  abbrev pub Reaches : Place → List Element → Place → Type 0
  Reaches place [] end = place ≡ end
  Reaches place (e ∷ es) end = IsElement place e × Reaches (element_behind place e) es end

  pub reaches_both : (place middle end : Place) (ds es : List Element) → Reaches place ds middle → Reaches middle es end → Reaches place (ds ++ es) end
  reaches_both place middle end [] es h k = subst (λ (p : Place). Reaches p es end) (sym h) k
  reaches_both place middle end (d ∷ ds) es h k = (h.0, reaches_both (element_behind place d) middle end ds es h.1 k)

  is_part : (place : Place) (p : ℕ) → IsNumber weights sound numeric_on place p → IsElement place (primary_element p)
  is_part outside p number = inr (p, inr number, refl)
  is_part inside p number = inr (p, number, refl)

module _ (weights : Weights) (sound : AreSoundWeights weights) (numeric_on : Bool) (on : numeric_on ≡ true) (lead_small : weights.numeric_lead < 256) where
  abbrev lead : ℕ
  lead = weights.numeric_lead

  -- the element of a number's part stands at this place, and leaves that
  Stands : Place → ℕ → Place → Type 0
  Stands place p behind = IsNumber weights sound numeric_on place p × (place_behind true p place ≡ behind)

  first_byte : (a b c : ℕ) → a < 256 → b < 256 → c < 256 → primary_of lead a b c / 2 ^ 16 % 256 ≡ a
  first_byte a b c ha hb hc = omega (arith, ha, hb, hc)

  second_byte : (a b c : ℕ) → a < 256 → b < 256 → c < 256 → primary_of lead a b c / 2 ^ 8 % 256 ≡ b
  second_byte a b c ha hb hc = omega (arith, ha, hb, hc)

  third_byte : (a b c : ℕ) → a < 256 → b < 256 → c < 256 → primary_of lead a b c % 256 ≡ c
  third_byte a b c ha hb hc = omega (arith, ha, hb, hc)

  part_is : (place : Place) (a b c : ℕ) (bytes : List ℕ) → a < 256 → b < 256 → c < 256 → without_last_zeros (a ∷ b ∷ c ∷ []) ≡ bytes → NumberBytes place bytes → IsNumber weights sound numeric_on place (primary_of lead a b c)
  part_is place a b c bytes ha hb hc e is =
      (omega (arith, ha, hb, hc), rw (first_byte a b c ha hb hc, second_byte a b c ha hb hc, third_byte a b c ha hb hc, e) is, omega (arith, ha, hb, hc, lead_small), on)

  same_parity : (a b c : ℕ) → primary_of lead a b c % 2 ≡ c % 2
  same_parity a b c = omega arith

  behind_is : (place : Place) (a b c : ℕ) → a < 256 → b < 256 → c < 256 → place_behind true (primary_of lead a b c) place ≡ behind_bytes a c place
  unfolding behind_bytes
  behind_is outside a b c ha hb hc = rw (first_byte a b c ha hb hc, same_parity a b c) refl
  behind_is inside a b c ha hb hc = rw (same_parity a b c) refl

  -- a part of a number at its place
  step :
      (place behind : Place) (a b c : ℕ) (bytes : List ℕ) → a < 256 → b < 256 → c < 256 → without_last_zeros (a ∷ b ∷ c ∷ []) ≡ bytes → NumberBytes place bytes → behind_bytes a c place ≡ behind
      → (es : List Element) (end : Place) → Reaches weights sound numeric_on behind es end → Reaches weights sound numeric_on place (primary_element (primary_of lead a b c) ∷ es) end
  step place behind a b c bytes ha hb hc e is goes es end later =
      let number = part_is place a b c bytes ha hb hc e is in
      let numeric : (primary_of lead a b c / 2 ^ 24 == lead) ≡ true = equal_tested _ _ (number.0) in
      let moves : element_behind weights sound numeric_on place (primary_element (primary_of lead a b c)) ≡ behind =
      ap (λ is. place_behind is (primary_of lead a b c) place) numeric ∙ behind_is place a b c ha hb hc ∙ goes in
      (is_part weights sound numeric_on place (primary_of lead a b c) number, subst (λ (s : Place). Reaches weights sound numeric_on s es end) (sym moves) later)

  goes_out : (a c : ℕ) (place : Place) → c % 2 ≡ 0 → behind_bytes a c place ≡ outside
  unfolding behind_bytes
  goes_out a c outside h = let even : (c % 2 == 1) ≡ false = grind (arith, nat_tests) in rw even (both_outside (leb 132 a))
  goes_out a c inside h = let even : (c % 2 == 1) ≡ false = grind (arith, nat_tests) in rw even refl

  goes_in : (a c : ℕ) (place : Place) → 132 ≤ a → c % 2 ≡ 1 → behind_bytes a c place ≡ inside
  unfolding behind_bytes
  goes_in a c outside h k = let odd : (c % 2 == 1) ≡ true = grind (arith, nat_tests) in let high : leb 132 a ≡ true = grind (arith, nat_tests) in rw (odd, high) refl
  goes_in a c inside h k = let odd : (c % 2 == 1) ≡ true = grind (arith, nat_tests) in rw odd refl

  goes_on : (a c : ℕ) → c % 2 ≡ 1 → behind_bytes a c inside ≡ inside
  unfolding behind_bytes
  goes_on a c k = let odd : (c % 2 == 1) ≡ true = grind (arith, nat_tests) in rw odd refl

  inside_reaches : (bytes : List ℕ) → ArePairBytes bytes → Reaches weights sound numeric_on inside (elements_of_bytes lead bytes) outside
  unfolding ArePairBytes elements_of_bytes
  inside_reaches [] h = elim h [ ]
  inside_reaches (a ∷ []) h = step inside outside a 0 0 (a ∷ []) (h.2) (omega arith) (omega arith) (rest_one a (omega (arith, h.1))) (first (h.0) (h.1)) (goes_out a 0 inside (omega arith)) [] outside refl
  inside_reaches (a ∷ b ∷ []) h =
      step inside outside a b 0 (a ∷ b ∷ []) (h.2) (h.3.2) (omega arith) (rest_two a b (omega (arith, h.3.1))) (second (h.0) (h.3.0) (h.1) (h.3.1)) (goes_out a 0 inside (omega arith)) [] outside refl
  inside_reaches (a ∷ b ∷ c ∷ []) h =
      step inside outside a b c (a ∷ b ∷ c ∷ []) (h.2) (h.3.2) (h.3.3.2) (rest_three a b c (omega (arith, h.3.3.1))) (third (h.0) (h.3.0) (h.1) (h.3.1) (h.3.3.1)) (goes_out a c inside (h.3.3.0)) [] outside refl
  inside_reaches (a ∷ b ∷ c ∷ d ∷ bytes) h =
      step inside inside a b c (a ∷ b ∷ c ∷ []) (h.2) (h.3.2) (h.3.3.2) (rest_three a b c (omega (arith, h.3.3.1))) (third (h.0) (h.3.0) (h.1) (h.3.1) (h.3.3.1)) (goes_on a c (h.3.3.0)) _ outside (inside_reaches (d ∷ bytes) (h.3.3.3))

  long_reaches : (a : ℕ) (bytes : List ℕ) → 132 ≤ a → a < 256 → ArePairBytes bytes → Reaches weights sound numeric_on outside (elements_of_bytes lead (a ∷ bytes)) outside
  unfolding ArePairBytes elements_of_bytes
  long_reaches a [] low high h = elim h [ ]
  long_reaches a (b ∷ []) low high h = step outside outside a b 0 (a ∷ b ∷ []) high (h.2) (omega arith) (rest_two a b (omega (arith, h.1))) (short low (h.0) (h.1)) (goes_out a 0 outside (omega arith)) [] outside refl
  long_reaches a (b ∷ c ∷ []) low high h =
      step outside outside a b c (a ∷ b ∷ c ∷ []) high (h.2) (h.3.2) (rest_three a b c (omega (arith, h.3.1))) (long low (h.0) (h.1) (h.3.1)) (goes_out a c outside (h.3.0)) [] outside refl
  long_reaches a (b ∷ c ∷ d ∷ bytes) low high h =
      step outside inside a b c (a ∷ b ∷ c ∷ []) high (h.2) (h.3.2) (rest_three a b c (omega (arith, h.3.1))) (long low (h.0) (h.1) (h.3.1)) (goes_in a c outside low (h.3.0)) _ outside (inside_reaches (d ∷ bytes) (h.3.3))

  -- ---- digits

  abbrev pub AreDigits : List ℕ → Type 0
  AreDigits ds = AllByRecursion (λ d. d ≤ 9) ds

  abbrev ArePairs : List ℕ → Type 0
  ArePairs ps = AllByRecursion (λ p. p ≤ 99) ps

  -- digits of which the first isn't 0, unless it stands alone
  BeginsHigh : List ℕ → Type 0
  BeginsHigh [] = Unit {0}
  BeginsHigh (d ∷ []) = Unit {0}
  BeginsHigh (d ∷ e ∷ ds) = 0 < d

  pairs_below : (ds : List ℕ) → AreDigits ds → ArePairs (pairs_of ds)
  unfolding pairs_of
  pairs_below [] all = tt
  pairs_below (d ∷ []) all = (omega (arith, all.0), tt)
  pairs_below (d ∷ e ∷ ds) all = (omega (arith, all.0, all.1.0), pairs_below ds all.1.1)

  stripped_below : (p : ℕ) (ps : List ℕ) → p ≤ 99 → ArePairs ps → ArePairs (stripped_behind p ps)
  unfolding stripped_behind
  stripped_below p [] h all = both_below (p == 0)
    where
      both_below : (b : Bool) → ArePairs (cond b [] (p ∷ []))
      both_below true = tt
      both_below false = (h, tt)
  stripped_below p (q ∷ ps) h all = (h, all)

  kept_below : (ps : List ℕ) → ArePairs ps → ArePairs (without_last_zeros ps)
  unfolding without_last_zeros
  kept_below [] all = tt
  kept_below (p ∷ ps) all = rw (stripped p ps) (stripped_below p (without_last_zeros ps) all.0 (kept_below ps all.1))

  kept_shown : (p : ℕ) (ps : List ℕ) → 0 < p → ArePairs (p ∷ ps) → ArePairBytes (pair_bytes (without_last_zeros (p ∷ ps)))
  kept_shown p ps h all =
      let kept = fill_first p ps h in
      let below : ArePairs (without_last_zeros (p ∷ ps)) = kept_below (p ∷ ps) all in
      rw (kept.1) (pairs_shown p (kept.0) (subst ArePairs (kept.1) below))

  -- pairs of digits of which the first isn't 0, an odd number of them after a 0
  pairs_begin : (is_even : Bool) (d e : ℕ) (ds : List ℕ) → 0 < d → AreDigits (d ∷ e ∷ ds) → ArePairBytes (pair_bytes (without_last_zeros (pairs_of (cond is_even (d ∷ e ∷ ds) (0 ∷ d ∷ e ∷ ds)))))
  unfolding pairs_of
  pairs_begin true d e ds h all = kept_shown (d * 10 + e) (pairs_of ds) (omega (arith, h)) (pairs_below (d ∷ e ∷ ds) all)
  pairs_begin false d e ds h all = kept_shown (0 * 10 + d) (pairs_of (e ∷ ds)) (omega (arith, h)) (omega (arith, all.0), pairs_below (e ∷ ds) all.1)

  long_part : (ds : List ℕ) → AreDigits ds → BeginsHigh ds → 7 ≤ length ds → length ds ≤ 254 → Reaches weights sound numeric_on outside (long_number lead ds) outside
  unfolding long_number BeginsHigh
  long_part [] all high low most = let never : ⊥ = omega (arith, low) in absurd never
  long_part (d ∷ []) all high low most = let never : ⊥ = omega (arith, low) in absurd never
  long_part (d ∷ e ∷ ds) all high low most =
      long_reaches (128 + (length (d ∷ e ∷ ds) + 1) / 2) _ (omega (arith, low)) (omega (arith, most)) (pairs_begin (length (d ∷ e ∷ ds) % 2 == 0) d e ds high all)

  enough_digits : (ds : List ℕ) → AreDigits ds → 1000000 ≤ value_of ds → 7 ≤ length ds
  enough_digits [] all h = let never : ⊥ = omega (arith, h) in absurd never
  enough_digits (a ∷ []) all h = let never : ⊥ = omega (arith, h, all.0) in absurd never
  enough_digits (a ∷ b ∷ []) all h = let never : ⊥ = omega (arith, h, all.0, all.1.0) in absurd never
  enough_digits (a ∷ b ∷ c ∷ []) all h = let never : ⊥ = omega (arith, h, all.0, all.1.0, all.1.1.0) in absurd never
  enough_digits (a ∷ b ∷ c ∷ d ∷ []) all h = let never : ⊥ = omega (arith, h, all.0, all.1.0, all.1.1.0, all.1.1.1.0) in absurd never
  enough_digits (a ∷ b ∷ c ∷ d ∷ e ∷ []) all h = let never : ⊥ = omega (arith, h, all.0, all.1.0, all.1.1.0, all.1.1.1.0, all.1.1.1.1.0) in absurd never
  enough_digits (a ∷ b ∷ c ∷ d ∷ e ∷ f ∷ []) all h = let never : ⊥ = omega (arith, h, all.0, all.1.0, all.1.1.0, all.1.1.1.0, all.1.1.1.1.0, all.1.1.1.1.1.0) in absurd never
  enough_digits (a ∷ b ∷ c ∷ d ∷ e ∷ f ∷ g ∷ ds) all h = omega arith

  one_part : (a b c : ℕ) (bytes : List ℕ) → a < 256 → b < 256 → c < 256 → without_last_zeros (a ∷ b ∷ c ∷ []) ≡ bytes → NumberBytes outside bytes → behind_bytes a c outside ≡ outside → Reaches weights sound numeric_on outside (primary_element (primary_of lead a b c) ∷ []) outside
  one_part a b c bytes ha hb hc e is goes = step outside outside a b c bytes ha hb hc e is goes [] outside refl

  stays_out : (a c : ℕ) → a < 132 → behind_bytes a c outside ≡ outside
  unfolding behind_bytes
  stays_out a c h = let low : leb 132 a ≡ false = grind (arith, nat_tests) in rw low refl

  by_cases : (b : Bool) (x y : List Element) → (b ≡ true → Reaches weights sound numeric_on outside x outside) → (b ≡ false → Reaches weights sound numeric_on outside y outside) → Reaches weights sound numeric_on outside (cond b x y) outside
  by_cases true x y t f = t refl
  by_cases false x y t f = f refl

  part_reaches : (ds : List ℕ) → AreDigits ds → BeginsHigh ds → length ds ≤ 254 → Reaches weights sound numeric_on outside (number_part lead ds) outside
  unfolding number_part
  part_reaches ds all high most =
      by_cases (ltb 7 (length ds)) _ _ (λ h. long_part ds all high (grind (arith, nat_tests)) most)
      (λ h. by_cases (ltb (value_of ds) 74) _ _ (λ k. two_bytes (value_of ds) (ltb-true _ _ k))
      (λ k. by_cases (ltb (value_of ds - 74) 10160) _ _ (λ l. three_bytes (value_of ds - 74) (ltb-true _ _ l))
      (λ l. by_cases (ltb (value_of ds - 10234) 1032256) _ _ (λ m. four_bytes (value_of ds - 10234) (ltb-true _ _ m))
      (λ m. long_part ds all high (enough_digits ds all (not_below _ m)) most))))
    where
      two_bytes : (v : ℕ) → v < 74 → Reaches weights sound numeric_on outside (primary_element (primary_of lead (2 + v) 0 0) ∷ []) outside
      two_bytes v h = one_part (2 + v) 0 0 ((2 + v) ∷ []) (omega (arith, h)) (omega arith) (omega arith) (rest_one (2 + v) (omega arith)) (two (omega arith) (omega (arith, h))) (stays_out (2 + v) 0 (omega (arith, h)))

      three_bytes : (w : ℕ) → w < 10160 → Reaches weights sound numeric_on outside (primary_element (primary_of lead (76 + w / 254) (2 + w % 254) 0) ∷ []) outside
      three_bytes w h =
          one_part (76 + w / 254) (2 + w % 254) 0 ((76 + w / 254) ∷ (2 + w % 254) ∷ []) (omega (arith, h)) (omega arith) (omega arith) (rest_two _ _ (omega arith)) (three (omega arith) (omega (arith, h)) (omega arith)) (stays_out (76 + w / 254) 0 (omega (arith, h)))

      four_bytes : (x : ℕ) → x < 1032256 → Reaches weights sound numeric_on outside (primary_element (primary_of lead (116 + x / 64516) (2 + x / 254 % 254) (2 + x % 254)) ∷ []) outside
      four_bytes x h =
          one_part (116 + x / 64516) (2 + x / 254 % 254) (2 + x % 254) ((116 + x / 64516) ∷ (2 + x / 254 % 254) ∷ (2 + x % 254) ∷ []) (omega (arith, h)) (omega arith) (omega arith) (rest_three _ _ _ (omega arith))
          (four (omega arith) (omega (arith, h)) (omega arith) (omega arith)) (stays_out (116 + x / 64516) (2 + x % 254) (omega (arith, h)))

      not_below : (v : ℕ) → ltb (v - 10234) 1032256 ≡ false → 1000000 ≤ v
      not_below v h = grind (arith, nat_tests)

  significant_digits : (ds : List ℕ) → AreDigits ds → AreDigits (significant ds)
  unfolding significant
  significant_digits [] all = tt
  significant_digits (d ∷ []) all = all
  significant_digits (d ∷ e ∷ ds) all = chosen (d == 0) (significant_digits (e ∷ ds) all.1)
    where
      chosen : (b : Bool) → AreDigits (significant (e ∷ ds)) → AreDigits (cond b (significant (e ∷ ds)) (d ∷ e ∷ ds))
      chosen true later = later
      chosen false later = all

  significant_high : (ds : List ℕ) → BeginsHigh (significant ds)
  unfolding significant BeginsHigh
  significant_high [] = tt
  significant_high (d ∷ []) = tt
  significant_high (d ∷ e ∷ ds) = chosen (d == 0) (λ h. grind (arith, nat_tests)) (significant_high (e ∷ ds))
    where
      chosen : (b : Bool) → (b ≡ false → 0 < d) → BeginsHigh (significant (e ∷ ds)) → BeginsHigh (cond b (significant (e ∷ ds)) (d ∷ e ∷ ds))
      chosen true h later = later
      chosen false h later = h refl

  taken_digits : (n : ℕ) (ds : List ℕ) → AreDigits ds → AreDigits (take n ds)
  taken_digits zero ds all = tt
  taken_digits (suc n) [] all = tt
  taken_digits (suc n) (d ∷ ds) all = (all.0, taken_digits n ds all.1)

  left_digits : (n : ℕ) (ds : List ℕ) → AreDigits ds → AreDigits (drop n ds)
  left_digits zero ds all = all
  left_digits (suc n) [] all = tt
  left_digits (suc n) (d ∷ ds) all = left_digits n ds all.1

  taken_high : (ds : List ℕ) → BeginsHigh ds → BeginsHigh (take 254 ds)
  unfolding BeginsHigh
  taken_high [] h = tt
  taken_high (d ∷ []) h = tt
  taken_high (d ∷ e ∷ ds) h = h

  parts_reach : (parts : ℕ) (ds : List ℕ) → AreDigits ds → Reaches weights sound numeric_on outside (number_parts parts lead ds) outside
  unfolding number_parts
  parts_reach zero ds all = refl
  parts_reach (suc parts) [] all = refl
  parts_reach (suc parts) (d ∷ ds) all =
      let digits = significant (d ∷ ds) in
      let are = significant_digits (d ∷ ds) all in
      reaches_both weights sound numeric_on outside outside outside _ _
      (part_reaches (take 254 digits) (taken_digits 254 digits are) (taken_high digits (significant_high (d ∷ ds))) (omega (arith, length-take 254 digits)))
      (parts_reach parts (drop 254 digits) (left_digits 254 digits are))

  -- the elements of a number stand one after another at its places
  pub number_reaches : (ds : List ℕ) → AreDigits ds → Reaches weights sound numeric_on outside (number_elements lead ds) outside
  number_reaches ds all = parts_reach (length ds) ds all
