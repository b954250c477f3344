-- The table of the leads that take the place of others.
use Rattle.std.proofs.Common.{◌≡◌, ℕ, ◌+◌, ◌*◌, ◌/◌, ◌%◌, ◌^◌, ◌<◌, ◌≤◌, ⊎_elim, Bool, true, false, cond, ◌||◌, eqb, leb, List, [], length, get_or, Option, Some, None, refl, sym, ap, ◌∙◌, subst, arith}
use Rattle.std.specs.Prelude.{All, slice_get}
use Rattle.std.proofs.lemmas.Bool.{cases_lt, eqb-true}
use Rattle.std.proofs.lemmas.List.{get_or_default}
use Rattle.std.proofs.lemmas.Bool.Decides.{nat_tests}
use Rattle.std.proofs.lemmas.Option.{slice_get-get_or, slice_get_past}
use Rattle.icu_collator_core.specs.declared.tables.reordering.CollationReordering.{CollationReordering}
use Rattle.icu_collator_core.specs.Collation.{with_lead}
use Rattle.icu_collator_core.specs.TableSettings.{led_by, moved_in_parts, reordered_by, without_byte}
use Rattle.icu_collator_core.specs.WeightRules.{is_letter_lead}
use Rattle.collate_lines.specs.Record.{Record}
use Rattle.collate_rules.specs.KeptSettings.{AreSoundlySet, ExchangesLeads}
use Rattle.collate_rules.specs.Meaning.{is_compressible_in, place_among}
use Rattle.collate_rules.specs.SettingLines.{reorder_of}
use Rattle.collate_compile.specs.Compiled.{IsReorderingOf}

with_own_lead : (p : ℕ) → p / 2 ^ 24 * 2 ^ 24 + p % 2 ^ 24 ≡ p
with_own_lead p = omega arith

-- where each lead stands in its place, so does each primary
pub none_moved : (p : ℕ) → p ≡ with_lead (place_among []) p
none_moved p = sym (with_own_lead p)

letter_above : (lead : ℕ) → is_letter_lead lead ≡ true → 0 < lead
letter_above lead h = grind (arith, nat_tests)

not_letter : (lead : ℕ) → 256 ≤ lead → is_letter_lead lead ≡ false
not_letter lead h = grind (arith, nat_tests)

-- no other lead goes to 00
zero_stays : (is_compressible : ℕ → Bool) (place : ℕ → ℕ) → ExchangesLeads is_compressible place → (lead : ℕ)
    → place lead ≡ 0 → lead ≡ 0
zero_stays is_compressible place exchanges lead e = by (is_letter_lead lead) refl
  where
    by : (b : Bool) → is_letter_lead lead ≡ b → lead ≡ 0
    by true h = absurd (omega (arith, e, letter_above (place lead) (exchanges.inside lead h)))
    by false h = sym (exchanges.outside lead h) ∙ e

module _ (is_compressible : ℕ → Bool) (place : ℕ → ℕ) (exchanges : ExchangesLeads is_compressible place)
    (reordering : CollationReordering)
    (count : length reordering.reorder_table ≡ 256)
    (places : (lead : ℕ) → lead < 256 → get_or reordering.reorder_table lead 0 ≡ place lead)
    (low : reordering.min_high_no_reorder ≡ 0) where
  stays : (p : ℕ) → without_byte reordering p ≡ p
  stays p = ap (λ (n : ℕ). cond (leb p 1 || leb n p) p (moved_in_parts reordering.reorder_ranges p)) low
      ∙ by (leb p 1) (leb 0 p) (grind (arith, nat_tests))
    where
      by : (b t : Bool) → t ≡ true → cond (b || t) p (moved_in_parts reordering.reorder_ranges p) ≡ p
      by true t e = refl
      by false t e = ap (λ (u : Bool). cond u p (moved_in_parts reordering.reorder_ranges p)) e

  moved : (p byte : ℕ) → byte ≡ place (p / 2 ^ 24)
      → cond (eqb byte 0) (without_byte reordering p) (led_by byte p) ≡ with_lead place p
  moved p byte e = by (eqb byte 0) refl
    where
      by : (b : Bool) → eqb byte 0 ≡ b → cond b (without_byte reordering p) (led_by byte p) ≡ with_lead place p
      by true h =
          let none = zero_stays is_compressible place exchanges (p / 2 ^ 24) (sym e ∙ eqb-true byte 0 h) in
          stays p ∙ sym (ap (λ (n : ℕ). n * 2 ^ 24 + p % 2 ^ 24) (sym e ∙ eqb-true byte 0 h ∙ sym none)
          ∙ with_own_lead p)
      by false h = ap (λ (n : ℕ). n * 2 ^ 24 + p % 2 ^ 24) e

  pub all_moved : (p : ℕ) → reordered_by reordering p ≡ with_lead place p
  unfolding reordered_by
  all_moved p = ⊎_elim within past (cases_lt (p / 2 ^ 24) 256)
    where
      of : Option ℕ → ℕ
      of o = elim o [ Some byte ↦ cond (eqb byte 0) (without_byte reordering p) (led_by byte p) | None ↦ p ]

      within : p / 2 ^ 24 < 256 → of (slice_get reordering.reorder_table (p / 2 ^ 24)) ≡ with_lead place p
      within h =
          ap of (slice_get-get_or reordering.reorder_table (p / 2 ^ 24) 0 (omega (arith, count)))
          ∙ moved p (get_or reordering.reorder_table (p / 2 ^ 24) 0) (places (p / 2 ^ 24) h)

      past : 256 ≤ p / 2 ^ 24 → of (slice_get reordering.reorder_table (p / 2 ^ 24)) ≡ with_lead place p
      past h =
          ap of (slice_get_past reordering.reorder_table (p / 2 ^ 24) (omega (arith, count)))
          ∙ sym (ap (λ (n : ℕ). n * 2 ^ 24 + p % 2 ^ 24) (exchanges.outside (p / 2 ^ 24) (not_letter (p / 2 ^ 24) h))
          ∙ with_own_lead p)

letter_below : (lead : ℕ) → is_letter_lead lead ≡ true → lead < 2 ^ 8
letter_below lead h = grind (arith, nat_tests)

-- each place is a byte
place_small : (is_compressible : ℕ → Bool) (place : ℕ → ℕ) → ExchangesLeads is_compressible place → (lead : ℕ)
    → lead < 2 ^ 8 → place lead < 2 ^ 8
place_small is_compressible place exchanges lead h = by (is_letter_lead lead) refl
  where
    by : (b : Bool) → is_letter_lead lead ≡ b → place lead < 2 ^ 8
    by true e = letter_below (place lead) (exchanges.inside lead e)
    by false e = omega (arith, exchanges.outside lead e)

-- a table of these places is the reordering that lines set
pub reordering_is : (lines : List Record) (reordering : CollationReordering) (bytes : List ℕ) → AreSoundlySet lines
    → reordering.reorder_table ≡ bytes → length bytes ≡ 256
    → ((lead : ℕ) → lead < 256 → get_or bytes lead 0 ≡ place_among (reorder_of lines) lead)
    → reordering.min_high_no_reorder ≡ 0 → IsReorderingOf lines (Some reordering)
reordering_is lines reordering bytes sound table count places low =
    let some : length reordering.reorder_table ≡ 256 = ap length table ∙ count in
    record {
      moved = all_moved (is_compressible_in lines) (place_among (reorder_of lines)) sound.leads reordering some
          (λ lead h. ap (λ (bs : List ℕ). get_or bs lead 0) table ∙ places lead h) low;
      count = some;
      bytes = subst (λ (bs : List ℕ). All (λ byte. byte < 2 ^ 8) bs) (sym table) (λ k d h. small k d h);
    }
  where
    small : (k d : ℕ) → k < length bytes → get_or bytes k d < 2 ^ 8
    small k d h =
        let within : k < 2 ^ 8 = omega (arith, count) in
        let same : get_or bytes k d ≡ get_or bytes k 0 = get_or_default bytes k d 0 h in
        omega (
          arith,
          same,
          places k within,
          place_small (is_compressible_in lines) (place_among (reorder_of lines))
              sound.leads k within,
        )
