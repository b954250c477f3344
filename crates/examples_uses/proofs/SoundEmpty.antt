-- A file with no line keeps the rules, so the laws of keys speak of something.
use Rattle.std.proofs.Common.{◌≡◌, ℕ, Bool, true, false, List, [], Option, None, Some, refl, sym, ◌∙◌, ap}
use Rattle.std.specs.Prelude.{◌==◌, ◌||◌}
use Rattle.icu_collator_types.specs.declared.elements.Element.{Element}
use Rattle.icu_collator_core.specs.Collation.{reordered_lead}
use Rattle.icu_collator_core.proofs.weights.ReorderingLemmas.{given_lead, given_rest}
use Rattle.icu_collator_core.specs.WeightRules.{AreSoundWeights, IsRecorded, is_letter_lead}
use Rattle.icu_collator.specs.Settings.{AreSoundSettings}
use Rattle.examples_uses.specs.Files.{meant}

nothing_recorded : (e : Element) → IsRecorded (meant []).weights e → ⊥
nothing_recorded e is = let never : ◌≡◌ {A = Option (List Element)} None (Some (is.2)) = is.3 in cc

pub empty_weights_are_sound : AreSoundWeights (meant []).weights
empty_weights_are_sound =
    record {
      widths = λ e is. absurd (nothing_recorded e is);
      elements = λ e is. absurd (nothing_recorded e is);
      apart = λ d e is also. absurd (nothing_recorded d is);
      ranged = λ c p h. cc;
      beside = λ c p e h is. absurd (nothing_recorded e is);
      digits = λ c d h. cc;
    }

or_self : (a b : Bool) → (b || false) ≡ true → (a || b) ≡ true
or_self true b h = refl
or_self false true h = refl
or_self false false h = h

-- no lead is reordered
abbrev same_lead : ℕ → ℕ
same_lead lead = lead

lead_stays : (lead : ℕ) → reordered_lead (meant []) lead ≡ lead
lead_stays = given_lead (meant []) same_lead (λ p. refl)

pub empty_settings_are_sound : AreSoundSettings (meant [])
empty_settings_are_sound =
    record {
      numeric_lead = refl;
      groups = refl;
      compressible = λ lead h. or_self (is_letter_lead lead) (lead == 0xfe) h;
      rest = given_rest (meant []) same_lead (λ p. refl);
      outside = λ lead h. lead_stays lead;
      inside = λ lead h. ap is_letter_lead (lead_stays lead) ∙ h;
      one_to_one = λ a b h. sym (lead_stays a) ∙ h ∙ lead_stays b;
    }
