-- The written tables keep the rules, so the laws of keys speak of them.
use Rattle.std.proofs.Common.{◌≡◌, ℕ, Bool, true, false, List, refl, sym, ◌∙◌, ap, subst, arith, Option, Some, None}
use Rattle.std.proofs.lemmas.Bool.{cond_both}
use Rattle.std.proofs.lemmas.Bool.Decides.{nat_tests}
use Rattle.std.proofs.lemmas.List.Elements.{All-contains}
use Rattle.std.proofs.lemmas.List.Sums.{AllPass-from_list_all}
use Rattle.std.specs.Prelude.{◌==◌, ◌||◌}
use Rattle.std.specs.List.{Contains, list_all}
use Rattle.icu_collator_types.specs.declared.elements.Element.{Element}
use Rattle.icu_normalizer_core.specs.BuiltIn.{is_within}
use Rattle.icu_collator_core.specs.Defaults.{range_primary}
use Rattle.icu_collator_core.specs.Numbers.{without_last_zeros}
use Rattle.icu_collator_core.specs.Collation.{reordered_lead}
use Rattle.icu_collator_core.proofs.weights.ReorderingLemmas.{given_lead, given_rest}
use Rattle.icu_collator_core.specs.WeightRules.{AreSoundWeights, IsRecorded, has_widths, is_sound_element, is_sound_range, is_of_other_lead, are_apart_elements, is_letter_lead, is_proper_beginning}
use Rattle.examples_icu_collator.specs.Letters.{digits_collation, digits_table, ideographs, ideographs_collation}
use Rattle.examples_icu_collator.proofs.ExampleFoundLemmas.{elements_of, found_elements}
use Rattle.icu_collator.specs.NumbersInTexts.{AreNumbersTogether}
use Rattle.icu_collator.specs.Settings.{AreSoundSettings}
use Rattle.icu_collator.specs.SoundCollation.{IsSoundCollation}
use Rattle.examples_icu_collator.proofs.LetterDigitsLemmas.{digit_values}

-- the elements of all records: of ten digits, eight letters, three accents, a capital, a space and a full stop
abbrev all_elements : List Element
all_elements = elements_of digits_table.records

ours : (e : Element) → IsRecorded digits_collation.weights e → Contains all_elements e
ours e (before, text, es, h, k) = found_elements digits_table.records before text es e h k

-- what each of those passes, each recorded element passes
every : (p : Element → Bool) → list_all p all_elements ≡ true → (e : Element) → IsRecorded digits_collation.weights e → p e ≡ true
every p h e is =
    All-contains (λ x. p x ≡ true) all_elements e (AllPass-from_list_all p all_elements h) (ours e is)

apart : (d e : Element) → IsRecorded digits_collation.weights d → IsRecorded digits_collation.weights e → are_apart_elements d e ≡ true
unfolding is_proper_beginning without_last_zeros
apart d e is also =
    every (λ x. are_apart_elements x e) (every (λ y. list_all (λ x. are_apart_elements x y) all_elements) refl e also) d is

pub digits_weights_sound : AreSoundWeights digits_collation.weights
unfolding without_last_zeros
digits_weights_sound =
    record {
      widths = every has_widths refl;
      elements = every (is_sound_element digits_collation.weights) refl;
      apart = apart;
      ranged = λ c p h. cc;
      beside = λ c p e h is. cc;
      digits = digit_values;
    }

-- the primary of an ideograph is that of its range
pub ideograph_primary : (P : ℕ → Type 0) (c p : ℕ) → ideographs_collation.weights.ranged_primary c ≡ Some p
    → P (range_primary ideographs_collation.weights.is_compressible ideographs c) → P p
ideograph_primary P c p h k =
    let q = range_primary ideographs_collation.weights.is_compressible ideographs c
    in cond_both (is_within ideographs.first ideographs.last c) (Some q) None
    (λ (o : Option ℕ). elim o as (λ _. Option ℕ) [ Some y ↦ Some y | None ↦ None ] ≡ Some p → P p)
    (λ _ is. let same : q ≡ p = cc in subst P same k) (λ _ is. cc) h

-- the range keeps the rule, and no element has its lead
pub ideographs_sound : is_sound_range ideographs_collation.weights ideographs ≡ true
unfolding without_last_zeros
ideographs_sound = refl

pub other_leads : (e : Element) → IsRecorded digits_collation.weights e → is_of_other_lead ideographs e ≡ true
other_leads = every (is_of_other_lead ideographs) refl

implicit_alone : (lead : ℕ) → ((lead == 0xfe) || false) ≡ true → (is_letter_lead lead || (lead == 0xfe)) ≡ true
implicit_alone lead h = grind (arith, nat_tests)

-- no lead is reordered
abbrev same_lead : ℕ → ℕ
same_lead lead = lead

lead_stays : (lead : ℕ) → reordered_lead digits_collation lead ≡ lead
lead_stays = given_lead digits_collation same_lead (λ p. refl)

pub digits_settings_sound : AreSoundSettings digits_collation
digits_settings_sound =
    record {
      numeric_lead = refl;
      groups = refl;
      compressible = implicit_alone;
      rest = given_rest digits_collation same_lead (λ p. refl);
      outside = λ lead h. lead_stays lead;
      inside = λ lead h. ap is_letter_lead (lead_stays lead) ∙ h;
      one_to_one = λ a b h. sym (lead_stays a) ∙ h ∙ lead_stays b;
    }

pub digits_sound : IsSoundCollation digits_collation
digits_sound = record { weights = digits_weights_sound; settings = digits_settings_sound }

pub numbers_together : AreNumbersTogether digits_collation
numbers_together p h = digits_settings_sound.rest p
