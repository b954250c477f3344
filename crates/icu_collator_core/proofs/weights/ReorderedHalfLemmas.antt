-- What reordering by the tables makes of the upper halves of primaries.
use Rattle.std.proofs.Common.{◌≡◌, ℕ, ◌<◌, ◌≤◌, ◌+◌, ◌*◌, ◌/◌, ◌%◌, ◌^◌, ◌⊎◌, inl, inr, Bool, true, false, cond, Some, None, refl, sym, ◌∙◌, ap, arith}
use Rattle.std.proofs.lemmas.Bool.{cases_Bool, cases_lt, cond_both, and_parts, and_from, or_cases, or_parts, or_left, or_right, or_from, leb-true, leb-false, le-leb, lt-leb, eqb-true, eq-eqb, true≢false}
use Rattle.std.specs.Prelude.{◌==◌, ◌||◌, leb, ltb, find, slice_get}
use Rattle.icu_collator_core.specs.declared.tables.reordering.CollationReordering.{CollationReordering}
use Rattle.icu_collator_core.specs.declared.tables.special_primaries.CollationSpecialPrimaries.{CollationSpecialPrimaries}
use Rattle.icu_collator_core.specs.TableSettings.{goes_past, is_compressible_in, led_by, moved_in_parts, reordered_by, without_byte}
use Rattle.icu_collator_core.specs.WeightRules.{is_letter_lead}
use Rattle.icu_collator_core.specs.WeightFaults.{KeepsApart, KeepsOthers, KeepsCompressible}
use Rattle.icu_collator_core.specs.ReorderingTests.{AreAllApart, AreAlikeCompressible, AreSteadyHalves, has_one_lead, keeps_other, new_lead}

-- ---- The rest of a primary stays

led_rest : (lead p : ℕ) → led_by lead p % 2 ^ 24 ≡ p % 2 ^ 24
led_rest lead p = omega arith

pub led_lead : (lead p : ℕ) → led_by lead p / 2 ^ 24 ≡ lead
led_lead lead p = omega arith

pub rest_stays : (reordering : CollationReordering) (p : ℕ) → reordered_by reordering p % 2 ^ 24 ≡ p % 2 ^ 24
unfolding reordered_by
rest_stays reordering p =
    elim (slice_get reordering.reorder_table (p / 2 ^ 24)) as (λ o. elim o [ Some byte ↦ cond (byte == 0) (without_byte reordering p) (led_by byte p) | None ↦ p ] % 2 ^ 24 ≡ p % 2 ^ 24) [
      | Some byte ↦ cond_both (byte == 0) _ _ (λ x. x % 2 ^ 24 ≡ p % 2 ^ 24) (λ e. without) (λ e. led_rest byte p)
      | None ↦ refl
    ]
  where
    parts : moved_in_parts reordering.reorder_ranges p % 2 ^ 24 ≡ p % 2 ^ 24
    parts =
        elim (find (goes_past p) reordering.reorder_ranges) as (λ o. elim o [ Some range ↦ led_by ((p / 2 ^ 24 + range % 256) % 256) p | None ↦ p ] % 2 ^ 24 ≡ p % 2 ^ 24) [
          | Some range ↦ led_rest ((p / 2 ^ 24 + range % 256) % 256) p
          | None ↦ refl
        ]

    without : without_byte reordering p % 2 ^ 24 ≡ p % 2 ^ 24
    without = cond_both (leb p 1 || leb reordering.min_high_no_reorder p) _ _ (λ x. x % 2 ^ 24 ≡ p % 2 ^ 24) (λ e. refl) (λ e. parts)

-- ---- The lead that an upper half gets, where it is known whether the primary is outside what is cut

is_outside : CollationReordering → ℕ → Bool
is_outside reordering p = leb p 1 || leb reordering.min_high_no_reorder p

lead_in_parts : CollationReordering → ℕ → ℕ → ℕ
lead_in_parts reordering lead half =
    elim (find (λ range. ltb (half * 2 ^ 16 + 0xffff) range) reordering.reorder_ranges) [ Some range ↦ (lead + range % 256) % 256 | None ↦ lead ]

lead_by : CollationReordering → ℕ → ℕ → Bool → ℕ
lead_by reordering lead half outside =
    elim (slice_get reordering.reorder_table lead) [
      | Some byte ↦ cond (byte == 0) (cond outside lead (lead_in_parts reordering lead half)) byte
      | None ↦ lead
    ]

reordered_lead_by : (reordering : CollationReordering) (p : ℕ)
    → reordered_by reordering p / 2 ^ 24 ≡ lead_by reordering (p / 2 ^ 24) (p / 2 ^ 16) (is_outside reordering p)
unfolding reordered_by lead_by lead_in_parts is_outside
reordered_lead_by reordering p =
    elim (slice_get reordering.reorder_table (p / 2 ^ 24)) as (λ o. elim o [ Some byte ↦ cond (byte == 0) (without_byte reordering p) (led_by byte p) | None ↦ p ] / 2 ^ 24
    ≡ elim o [ Some byte ↦ cond (byte == 0) (cond (leb p 1 || leb reordering.min_high_no_reorder p) (p / 2 ^ 24) moved) byte | None ↦ p / 2 ^ 24 ]) [
      | Some byte ↦ along (byte == 0) _ _ _ _ without (led_lead byte p)
      | None ↦ refl
    ]
  where
    moved : ℕ
    moved = elim (find (λ range. ltb (p / 2 ^ 16 * 2 ^ 16 + 0xffff) range) reordering.reorder_ranges) [ Some range ↦ (p / 2 ^ 24 + range % 256) % 256 | None ↦ p / 2 ^ 24 ]

    along : (b : Bool) (x y v w : ℕ) → x / 2 ^ 24 ≡ v → y / 2 ^ 24 ≡ w → cond b x y / 2 ^ 24 ≡ cond b v w
    along true x y v w hx hy = hx
    along false x y v w hx hy = hy

    parts : moved_in_parts reordering.reorder_ranges p / 2 ^ 24 ≡ moved
    parts =
        elim (find (goes_past p) reordering.reorder_ranges) as (λ o. elim o [ Some range ↦ led_by ((p / 2 ^ 24 + range % 256) % 256) p | None ↦ p ] / 2 ^ 24
        ≡ elim o [ Some range ↦ (p / 2 ^ 24 + range % 256) % 256 | None ↦ p / 2 ^ 24 ]) [
          | Some range ↦ led_lead ((p / 2 ^ 24 + range % 256) % 256) p
          | None ↦ refl
        ]

    without : without_byte reordering p / 2 ^ 24 ≡ cond (leb p 1 || leb reordering.min_high_no_reorder p) (p / 2 ^ 24) moved
    without = along (leb p 1 || leb reordering.min_high_no_reorder p) _ _ _ _ refl parts

-- ---- Three primaries stand for all with an upper half

same_outside : (reordering : CollationReordering) (p : ℕ)
    → (is_outside reordering p ≡ is_outside reordering (p / 2 ^ 16 * 2 ^ 16 + 0))
    ⊎ ((is_outside reordering p ≡ is_outside reordering (p / 2 ^ 16 * 2 ^ 16 + 2))
    ⊎ (is_outside reordering p ≡ is_outside reordering (p / 2 ^ 16 * 2 ^ 16 + 0xffff)))
unfolding is_outside
same_outside reordering p = by_test (cases_Bool (leb p 1 || leb low p))
  where
    low : ℕ
    low = reordering.min_high_no_reorder

    first : ℕ
    first = p / 2 ^ 16 * 2 ^ 16

    Same : ℕ → Type 0
    Same q = (leb p 1 || leb low p) ≡ (leb q 1 || leb low q)

    inside : (q : ℕ) → (leb p 1 || leb low p) ≡ false → 1 < q → q ≤ p → Same q
    inside q none above below =
        let under : p < low = leb-false low p (or_parts (leb p 1) (leb low p) none).1
        in none ∙ sym (or_from (leb q 1) (leb low q) (lt-leb q 1 above) (lt-leb low q (omega (arith, below, under))))

    by_rest : (leb p 1 || leb low p) ≡ false → (p % 2 ^ 16 < 2) ⊎ (2 ≤ p % 2 ^ 16)
        → Same (first + 0) ⊎ (Same (first + 2) ⊎ Same (first + 0xffff))
    by_rest none (inl lt) =
        let above : 1 < p = leb-false p 1 (or_parts (leb p 1) (leb low p) none).0
        in inl (inside (p / 2 ^ 16 * 2 ^ 16 + 0) none (omega (arith, above, lt)) (omega arith))
    by_rest none (inr le) = inr (inl (inside (p / 2 ^ 16 * 2 ^ 16 + 2) none (omega arith) (omega (arith, le))))

    outside : (leb p 1 || leb low p) ≡ true → (leb p 1 ≡ true) ⊎ (leb low p ≡ true)
        → Same (first + 0) ⊎ (Same (first + 2) ⊎ Same (first + 0xffff))
    outside some (inl h) =
        let le = leb-true p 1 h
        in inl (some ∙ sym (or_left (leb (p / 2 ^ 16 * 2 ^ 16 + 0) 1) (leb low (p / 2 ^ 16 * 2 ^ 16 + 0)) (le-leb (p / 2 ^ 16 * 2 ^ 16 + 0) 1 (omega (arith, le)))))
    outside some (inr h) =
        let le = leb-true low p h
        in inr (inr (some ∙ sym (or_right (leb (p / 2 ^ 16 * 2 ^ 16 + 0xffff) 1) (leb low (p / 2 ^ 16 * 2 ^ 16 + 0xffff)) (le-leb low (p / 2 ^ 16 * 2 ^ 16 + 0xffff) (omega (arith, le))))))

    by_test : ((leb p 1 || leb low p) ≡ true) ⊎ ((leb p 1 || leb low p) ≡ false)
        → Same (first + 0) ⊎ (Same (first + 2) ⊎ Same (first + 0xffff))
    by_test (inl some) = outside some (or_cases (leb p 1) (leb low p) some)
    by_test (inr none) = by_rest none (cases_lt (p % 2 ^ 16) 2)

-- a primary gets the lead of another with its upper half, where both are outside what is cut or neither is
lead_of_other : (reordering : CollationReordering) (p rest : ℕ) → rest < 2 ^ 16
    → is_outside reordering p ≡ is_outside reordering (p / 2 ^ 16 * 2 ^ 16 + rest)
    → reordered_by reordering p / 2 ^ 24 ≡ new_lead reordering (p / 2 ^ 16) rest
lead_of_other reordering p rest lt same =
    let lead : p / 2 ^ 24 ≡ (p / 2 ^ 16 * 2 ^ 16 + rest) / 2 ^ 24 = omega (arith, lt)
    in let half : p / 2 ^ 16 ≡ (p / 2 ^ 16 * 2 ^ 16 + rest) / 2 ^ 16 = omega (arith, lt)
    in reordered_lead_by reordering p
    ∙ ap (λ x. lead_by reordering x (p / 2 ^ 16) (is_outside reordering p)) lead
    ∙ ap (λ x. lead_by reordering ((p / 2 ^ 16 * 2 ^ 16 + rest) / 2 ^ 24) x (is_outside reordering p)) half
    ∙ ap (λ x. lead_by reordering ((p / 2 ^ 16 * 2 ^ 16 + rest) / 2 ^ 24) ((p / 2 ^ 16 * 2 ^ 16 + rest) / 2 ^ 16) x) same
    ∙ sym (reordered_lead_by reordering (p / 2 ^ 16 * 2 ^ 16 + rest))

-- where all primaries with its upper half get one lead, a primary gets that
lead_of_half : (reordering : CollationReordering) (p : ℕ) → has_one_lead reordering (p / 2 ^ 16) ≡ true
    → reordered_by reordering p / 2 ^ 24 ≡ new_lead reordering (p / 2 ^ 16) 0
lead_of_half reordering p one = by_index (same_outside reordering p)
  where
    parts : (new_lead reordering (p / 2 ^ 16) 2 ≡ new_lead reordering (p / 2 ^ 16) 0) × (new_lead reordering (p / 2 ^ 16) 0xffff ≡ new_lead reordering (p / 2 ^ 16) 0)
    parts = let both = and_parts _ _ one in (eqb-true _ _ both.0, eqb-true _ _ both.1)

    by_index : (is_outside reordering p ≡ is_outside reordering (p / 2 ^ 16 * 2 ^ 16 + 0))
        ⊎ ((is_outside reordering p ≡ is_outside reordering (p / 2 ^ 16 * 2 ^ 16 + 2))
        ⊎ (is_outside reordering p ≡ is_outside reordering (p / 2 ^ 16 * 2 ^ 16 + 0xffff)))
        → reordered_by reordering p / 2 ^ 24 ≡ new_lead reordering (p / 2 ^ 16) 0
    by_index (inl e) = lead_of_other reordering p 0 (omega arith) e
    by_index (inr (inl e)) = lead_of_other reordering p 2 (omega arith) e ∙ parts.0
    by_index (inr (inr e)) = lead_of_other reordering p 0xffff (omega arith) e ∙ parts.1

-- ---- The tests decide

-- upper halves by leads
half_by_lead : (reordering : CollationReordering) (p : ℕ)
    → reordered_by reordering p / 2 ^ 16 ≡ reordered_by reordering p / 2 ^ 24 * 2 ^ 8 + p / 2 ^ 16 % 2 ^ 8
half_by_lead reordering p = at (reordered_by reordering p) (rest_stays reordering p)
  where
    at : (x : ℕ) → x % 2 ^ 24 ≡ p % 2 ^ 24 → x / 2 ^ 16 ≡ x / 2 ^ 24 * 2 ^ 8 + p / 2 ^ 16 % 2 ^ 8
    at x e = omega (arith, e)

bit_same : (a b : Bool) → ◌≡◌ {A = ℕ} (cond a 1 0) (cond b 1 0) → a ≡ b
bit_same true true e = refl
bit_same true false e = absurd (omega (arith, e))
bit_same false true e = absurd (omega (arith, e))
bit_same false false e = refl

one_lead : (reordering : CollationReordering) → AreSteadyHalves reordering → (p : ℕ) → p < 2 ^ 32
    → reordered_by reordering p / 2 ^ 24 ≡ new_lead reordering (p / 2 ^ 16) 0
one_lead reordering steady p lt = lead_of_half reordering p (and_parts _ _ (steady (p / 2 ^ 16) (omega (arith, lt)))).0

pub tests_keep_apart : (reordering : CollationReordering) → AreSteadyHalves reordering → AreAllApart reordering → KeepsApart reordering
tests_keep_apart reordering steady apart p q ltp ltq = (there, back)
  where
    first : reordered_by reordering p / 2 ^ 24 ≡ new_lead reordering (p / 2 ^ 16) 0
    first = one_lead reordering steady p ltp

    second : reordered_by reordering q / 2 ^ 24 ≡ new_lead reordering (q / 2 ^ 16) 0
    second = one_lead reordering steady q ltq

    bytes : (x y a b : ℕ) → x / 2 ^ 16 ≡ x / 2 ^ 24 * 2 ^ 8 + a % 2 ^ 8 → y / 2 ^ 16 ≡ y / 2 ^ 24 * 2 ^ 8 + b % 2 ^ 8
        → x / 2 ^ 16 ≡ y / 2 ^ 16 → (x / 2 ^ 24 ≡ y / 2 ^ 24) × (a % 2 ^ 8 ≡ b % 2 ^ 8)
    bytes x y a b hx hy same = (omega (arith, hx, hy, same), omega (arith, hx, hy, same))

    there : reordered_by reordering p / 2 ^ 16 ≡ reordered_by reordering q / 2 ^ 16 → p / 2 ^ 16 ≡ q / 2 ^ 16
    there same =
        let both = bytes _ _ (p / 2 ^ 16) (q / 2 ^ 16) (half_by_lead reordering p) (half_by_lead reordering q) same
        in let s = p / 2 ^ 16 % 2 ^ 8
        in let hp : p / 2 ^ 24 * 2 ^ 8 + s ≡ p / 2 ^ 16 = omega arith
        in let hq : q / 2 ^ 24 * 2 ^ 8 + s ≡ q / 2 ^ 16 = omega (arith, both.1)
        in let leads : p / 2 ^ 24 ≡ q / 2 ^ 24 =
        apart s (omega arith) (p / 2 ^ 24) (q / 2 ^ 24) (omega (arith, ltp)) (omega (arith, ltq))
        (ap (λ x. new_lead reordering x 0) hp ∙ sym first ∙ both.0 ∙ second ∙ sym (ap (λ x. new_lead reordering x 0) hq))
        in omega (arith, hp, hq, leads)

    back : p / 2 ^ 16 ≡ q / 2 ^ 16 → reordered_by reordering p / 2 ^ 16 ≡ reordered_by reordering q / 2 ^ 16
    back same =
        half_by_lead reordering p
        ∙ ap (λ x. x * 2 ^ 8 + p / 2 ^ 16 % 2 ^ 8) (first ∙ ap (λ x. new_lead reordering x 0) same ∙ sym second)
        ∙ ap (λ x. reordered_by reordering q / 2 ^ 24 * 2 ^ 8 + x % 2 ^ 8) same
        ∙ sym (half_by_lead reordering q)

pub tests_keep_others : (reordering : CollationReordering) → AreSteadyHalves reordering → KeepsOthers reordering
tests_keep_others reordering steady p lt other =
    let half : p / 2 ^ 16 < 2 ^ 16 = omega (arith, lt)
    in let keeps : keeps_other reordering (p / 2 ^ 16) ≡ true = (and_parts (has_one_lead reordering (p / 2 ^ 16)) _ (steady (p / 2 ^ 16) half)).1
    in let lead : p / 2 ^ 16 / 2 ^ 8 ≡ p / 2 ^ 24 = omega arith
    in let own = by_lead (or_cases _ _ keeps) lead
    in whole (reordered_by reordering p) (one_lead reordering steady p lt ∙ own ∙ lead) (rest_stays reordering p)
  where
    by_lead : (is_letter_lead (p / 2 ^ 16 / 2 ^ 8) ≡ true) ⊎ ((new_lead reordering (p / 2 ^ 16) 0 == p / 2 ^ 16 / 2 ^ 8) ≡ true)
        → p / 2 ^ 16 / 2 ^ 8 ≡ p / 2 ^ 24 → new_lead reordering (p / 2 ^ 16) 0 ≡ p / 2 ^ 16 / 2 ^ 8
    by_lead (inl h) lead = absurd (true≢false (sym h ∙ ap (λ x. is_letter_lead x) lead ∙ other))
    by_lead (inr h) lead = eqb-true _ _ h

    whole : (x : ℕ) → x / 2 ^ 24 ≡ p / 2 ^ 24 → x % 2 ^ 24 ≡ p % 2 ^ 24 → x ≡ p
    whole x upper lower = omega (arith, upper, lower)

pub tests_keep_compressible : (special : CollationSpecialPrimaries) (reordering : CollationReordering)
    → AreSteadyHalves reordering → AreAlikeCompressible special reordering → KeepsCompressible special reordering
tests_keep_compressible special reordering steady alike p q ltp ltq same =
    let lead_p : p / 2 ^ 16 / 2 ^ 8 ≡ p / 2 ^ 24 = omega arith
    in let lead_q : q / 2 ^ 16 / 2 ^ 8 ≡ q / 2 ^ 24 = omega arith
    in let bits = alike (p / 2 ^ 16) (q / 2 ^ 16) (omega (arith, ltp)) (omega (arith, ltq))
    (sym (one_lead reordering steady p ltp) ∙ same ∙ one_lead reordering steady q ltq)
    in sym (ap (is_compressible_in special.last_primaries) lead_p) ∙ bit_same _ _ bits ∙ ap (is_compressible_in special.last_primaries) lead_q

pub steady_halves : (reordering : CollationReordering) → KeepsApart reordering → KeepsOthers reordering → AreSteadyHalves reordering
steady_halves reordering apart others half lt = and_from _ _ (and_from _ _ (one 2 (omega arith)) (one 0xffff (omega arith))) (keeps (cases_Bool (is_letter_lead (half / 2 ^ 8))))
  where
    lead_same : (x y : ℕ) → x / 2 ^ 16 ≡ y / 2 ^ 16 → x / 2 ^ 24 ≡ y / 2 ^ 24
    lead_same x y e = omega (arith, e)

    one : (rest : ℕ) → rest < 2 ^ 16 → (new_lead reordering half rest == new_lead reordering half 0) ≡ true
    one rest under =
        eq-eqb _ _ (lead_same _ _
        ((apart (half * 2 ^ 16 + rest) (half * 2 ^ 16 + 0) (omega (arith, lt, under)) (omega (arith, lt))).1 (omega (arith, under))))

    keeps : (is_letter_lead (half / 2 ^ 8) ≡ true) ⊎ (is_letter_lead (half / 2 ^ 8) ≡ false) → keeps_other reordering half ≡ true
    keeps (inl h) = or_left _ _ h
    keeps (inr h) =
        let lead : (half * 2 ^ 16 + 0) / 2 ^ 24 ≡ half / 2 ^ 8 = omega arith
        in or_right _ _ (eq-eqb _ _ (ap (λ x. x / 2 ^ 24) (others (half * 2 ^ 16 + 0) (omega (arith, lt)) (ap (λ x. is_letter_lead x) lead ∙ h)) ∙ lead))

pub halves_apart : (reordering : CollationReordering) → KeepsApart reordering → AreAllApart reordering
halves_apart reordering apart second under i j lti ltj same =
    let p = (i * 2 ^ 8 + second) * 2 ^ 16 + 0
    in let q = (j * 2 ^ 8 + second) * 2 ^ 16 + 0
    in let halves = (apart p q (omega (arith, lti, under)) (omega (arith, ltj, under))).0
    (half_by_lead reordering p ∙ ap (λ x. x * 2 ^ 8 + p / 2 ^ 16 % 2 ^ 8) same ∙ ap (λ x. reordered_by reordering q / 2 ^ 24 * 2 ^ 8 + x) (seconds under) ∙ sym (half_by_lead reordering q))
    in omega (arith, halves)
  where
    seconds : second < 2 ^ 8 → ((i * 2 ^ 8 + second) * 2 ^ 16 + 0) / 2 ^ 16 % 2 ^ 8 ≡ ((j * 2 ^ 8 + second) * 2 ^ 16 + 0) / 2 ^ 16 % 2 ^ 8
    seconds lt = omega (arith, lt)

pub halves_alike : (special : CollationSpecialPrimaries) (reordering : CollationReordering) → KeepsCompressible special reordering → AreAlikeCompressible special reordering
halves_alike special reordering keeps i j lti ltj same =
    let lead_i : (i * 2 ^ 16 + 0) / 2 ^ 24 ≡ i / 2 ^ 8 = omega arith
    in let lead_j : (j * 2 ^ 16 + 0) / 2 ^ 24 ≡ j / 2 ^ 8 = omega arith
    in let alike = keeps (i * 2 ^ 16 + 0) (j * 2 ^ 16 + 0) (omega (arith, lti)) (omega (arith, ltj)) same
    in ap (λ b. cond b 1 0) (sym (ap (is_compressible_in special.last_primaries) lead_i) ∙ alike ∙ ap (is_compressible_in special.last_primaries) lead_j)
