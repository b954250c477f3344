-- A reordering of whole leads exchanges leads of letters.
use Rattle.std.proofs.Common.{◌≡◌, ℕ, ◌<◌, ◌≤◌, ◌+◌, ◌*◌, ◌/◌, ◌%◌, ◌^◌, ◌⊎◌, inl, inr, true, false, cond, List, Option, Some, None, refl, sym, ◌∙◌, ap, arith, ⊎_elim}
use Rattle.std.specs.Prelude.{◌==◌, ◌||◌, leb, find, slice_get}
use Rattle.std.specs.List.{All}
use Rattle.std.proofs.lemmas.Bool.{cases_Bool, cases_lt, cond_both}
use Rattle.std.proofs.lemmas.List.Elements.{All-contains}
use Rattle.std.proofs.lemmas.Option.{get_or_from_slice_get, slice_get_past, slice_get_within}
use Rattle.icu_collator_core.specs.declared.tables.reordering.CollationReordering.{CollationReordering}
use Rattle.icu_collator_core.specs.declared.tables.special_primaries.CollationSpecialPrimaries.{CollationSpecialPrimaries}
use Rattle.icu_collator_core.specs.TableSettings.{goes_past, led_by, moved_in_parts, reordered_by, without_byte}
use Rattle.icu_collator_core.specs.WeightFaults.{IsSoundReordering}
use Rattle.icu_collator_core.specs.WeightRules.{is_letter_lead}
use Rattle.icu_collator_core.proofs.weights.ReorderedHalfLemmas.{led_lead, rest_stays}
use Rattle.icu_collator_core.specs.WholeLeads.{lead_in_place}
use Rattle.icu_collator.specs.LeadMoves.{IsOfWholeLeads}

-- what a table has at an index
byte_at : (bytes : List ℕ) (k byte : ℕ) → All (λ byte. byte < 2 ^ 8) bytes → slice_get bytes k ≡ Some byte → byte < 2 ^ 8
byte_at bytes k byte all h =
    All-contains (λ byte. byte < 2 ^ 8) bytes byte all (k, slice_get_within bytes k byte h, get_or_from_slice_get bytes k byte byte h)

whole_of : (x y : ℕ) → x / 2 ^ 24 ≡ y / 2 ^ 24 → x % 2 ^ 24 ≡ y % 2 ^ 24 → x ≡ y
whole_of x y upper lower = omega (arith, upper, lower)

module _ (special : CollationSpecialPrimaries) (reordering : CollationReordering) where
  -- a primary whose lead is no byte stays
  past_stays : IsSoundReordering special reordering → (p : ℕ) → 2 ^ 8 ≤ p / 2 ^ 24 → reordered_by reordering p ≡ p
  unfolding reordered_by
  past_stays sound p past =
      ap (λ (o : Option ℕ). elim o as (λ _. ℕ) [ Some byte ↦ cond (byte == 0) (without_byte reordering p) (led_by byte p) | None ↦ p ])
      (slice_get_past reordering.reorder_table (p / 2 ^ 24) (let count = sound.count in omega (arith, past, count)))

  byte_stays : All (λ byte. byte < 2 ^ 8) reordering.reorder_table → (p : ℕ) → p / 2 ^ 24 < 2 ^ 8 → reordered_by reordering p / 2 ^ 24 < 2 ^ 8
  unfolding reordered_by
  byte_stays bytes p small = at (slice_get reordering.reorder_table (p / 2 ^ 24)) refl
    where
      parts : moved_in_parts reordering.reorder_ranges p / 2 ^ 24 < 2 ^ 8
      parts =
          elim (find (goes_past p) reordering.reorder_ranges) as (λ o. elim o [ Some range ↦ led_by ((p / 2 ^ 24 + range % 256) % 256) p | None ↦ p ] / 2 ^ 24 < 2 ^ 8) [
            | Some range ↦ let lead = led_lead ((p / 2 ^ 24 + range % 256) % 256) p in omega (arith, lead)
            | None ↦ small
          ]

      without : without_byte reordering p / 2 ^ 24 < 2 ^ 8
      without = cond_both (leb p 1 || leb reordering.min_high_no_reorder p) _ _ (λ x. x / 2 ^ 24 < 2 ^ 8) (λ e. small) (λ e. parts)

      at : (o : Option ℕ) → slice_get reordering.reorder_table (p / 2 ^ 24) ≡ o
          → elim o as (λ _. ℕ) [ Some byte ↦ cond (byte == 0) (without_byte reordering p) (led_by byte p) | None ↦ p ] / 2 ^ 24 < 2 ^ 8
      at None is = small
      at (Some byte) is =
          let under = byte_at reordering.reorder_table (p / 2 ^ 24) byte bytes is
          in cond_both (byte == 0) _ _ (λ x. x / 2 ^ 24 < 2 ^ 8) (λ e. without) (λ e. let lead = led_lead byte p in omega (arith, lead, under))

  module _ (sound : IsSoundReordering special reordering) (moves : IsOfWholeLeads reordering) where
    -- the primary that stands in the place of a lead's own
    led : (lead : ℕ) → reordered_by reordering (lead * 2 ^ 24) ≡ lead_in_place reordering lead * 2 ^ 24
    led lead =
        whole_of (reordered_by reordering (lead * 2 ^ 24)) _ (omega arith)
        (rest_stays reordering (lead * 2 ^ 24) ∙ (let e : lead * 2 ^ 24 % 2 ^ 24 ≡ lead_in_place reordering lead * 2 ^ 24 % 2 ^ 24 = omega arith in e))

    past : (lead : ℕ) → 2 ^ 8 ≤ lead → lead_in_place reordering lead ≡ lead
    past lead h =
        ap (λ (x : ℕ). x / 2 ^ 24) (past_stays sound (lead * 2 ^ 24) (omega (arith, h))) ∙ (let e : lead * 2 ^ 24 / 2 ^ 24 ≡ lead = omega arith in e)

    is_byte : (lead : ℕ) → lead < 2 ^ 8 → lead_in_place reordering lead < 2 ^ 8
    is_byte lead h = byte_stays moves.bytes (lead * 2 ^ 24) (omega (arith, h))

    pub rest_kept : (p : ℕ) → reordered_by reordering p ≡ lead_in_place reordering (p / 2 ^ 24) * 2 ^ 24 + p % 2 ^ 24
    rest_kept p = ⊎_elim (λ small. inside (omega (arith, small))) (λ large. outside large) (cases_lt (p / 2 ^ 24) (2 ^ 8))
      where
        inside : p < 2 ^ 32 → reordered_by reordering p ≡ lead_in_place reordering (p / 2 ^ 24) * 2 ^ 24 + p % 2 ^ 24
        inside small =
            let lead = moves.whole p small
            in let rest = rest_stays reordering p
            in at (reordered_by reordering p) (lead_in_place reordering (p / 2 ^ 24)) lead rest
          where
            at : (x y : ℕ) → x / 2 ^ 24 ≡ y → x % 2 ^ 24 ≡ p % 2 ^ 24 → x ≡ y * 2 ^ 24 + p % 2 ^ 24
            at x y upper lower = omega (arith, upper, lower)

        outside : 2 ^ 8 ≤ p / 2 ^ 24 → reordered_by reordering p ≡ lead_in_place reordering (p / 2 ^ 24) * 2 ^ 24 + p % 2 ^ 24
        outside large =
            past_stays sound p large ∙ (let e : p ≡ p / 2 ^ 24 * 2 ^ 24 + p % 2 ^ 24 = omega arith in e)
            ∙ ap (λ (lead : ℕ). lead * 2 ^ 24 + p % 2 ^ 24) (sym (past (p / 2 ^ 24) large))

    pub other_kept : (lead : ℕ) → is_letter_lead lead ≡ false → lead_in_place reordering lead ≡ lead
    other_kept lead h = ⊎_elim inside (past lead) (cases_lt lead (2 ^ 8))
      where
        alone : lead * 2 ^ 24 / 2 ^ 24 ≡ lead
        alone = omega arith

        inside : lead < 2 ^ 8 → lead_in_place reordering lead ≡ lead
        inside small =
            ap (λ (x : ℕ). x / 2 ^ 24) (sound.others (lead * 2 ^ 24) (omega (arith, small)) (ap (λ (x : ℕ). is_letter_lead x) alone ∙ h)) ∙ alone

    pub apart : (a b : ℕ) → lead_in_place reordering a ≡ lead_in_place reordering b → a ≡ b
    apart a b same = by_size (cases_lt a (2 ^ 8)) (cases_lt b (2 ^ 8))
      where
        halves : a < 2 ^ 8 → b < 2 ^ 8 → a ≡ b
        halves small_a small_b =
            let upper = (sound.apart (a * 2 ^ 24) (b * 2 ^ 24) (omega (arith, small_a)) (omega (arith, small_b))).0
            (ap (λ (x : ℕ). x / 2 ^ 16) (led a ∙ ap (λ (x : ℕ). x * 2 ^ 24) same ∙ sym (led b)))
            in omega (arith, upper)

        by_size : (a < 2 ^ 8) ⊎ (2 ^ 8 ≤ a) → (b < 2 ^ 8) ⊎ (2 ^ 8 ≤ b) → a ≡ b
        by_size (inl small_a) (inl small_b) = halves small_a small_b
        by_size (inl small_a) (inr large_b) =
            let byte = is_byte a small_a in let stays = past b large_b in absurd (omega (arith, byte, stays, same, large_b))
        by_size (inr large_a) (inl small_b) =
            let byte = is_byte b small_b in let stays = past a large_a in absurd (omega (arith, byte, stays, same, large_a))
        by_size (inr large_a) (inr large_b) = sym (past a large_a) ∙ same ∙ past b large_b

    pub letter_kept : (lead : ℕ) → is_letter_lead lead ≡ true → is_letter_lead (lead_in_place reordering lead) ≡ true
    letter_kept lead h = ⊎_elim (λ yes. yes) no (cases_Bool (is_letter_lead (lead_in_place reordering lead)))
      where
        no : is_letter_lead (lead_in_place reordering lead) ≡ false → is_letter_lead (lead_in_place reordering lead) ≡ true
        no other = ap is_letter_lead (apart (lead_in_place reordering lead) lead (other_kept (lead_in_place reordering lead) other)) ∙ h
