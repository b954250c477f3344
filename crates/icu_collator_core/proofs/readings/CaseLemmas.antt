-- The reading at a character, by the case that holds of it.
use Rattle.std.proofs.Common.{◌≡◌, ℕ, ◌==◌, Bool, true, false, ◌&&◌, List, [], ◌∷◌, ◌∙◌, ap, Option, Some, None}
use Rattle.std.specs.Option.{is_some}
use Rattle.icu_normalizer_core.specs.Canonical.{Canonical}
use Rattle.icu_collator_core.specs.Weights.{Weights}
use Rattle.icu_collator_core.specs.Defaults.{special_primary, primary_element}
use Rattle.icu_collator_core.specs.Elements.{Placed, Reading, is_before_accent, number_reading, prefix_match, reading, text_reading}
use Rattle.icu_collator_core.specs.ReadSteps.{reading_in_context}
use Rattle.icu_collator_core.proofs.readings.AlikeLemmas.{chosen, reading_is}

module _ (canonical : Canonical) (weights : Weights) (numeric : Bool) (p : Placed) (ps : List Placed) where
  abbrev is_number : Bool
  is_number = numeric && is_some (weights.digit p.character)

  abbrev is_dropped : Bool
  is_dropped = weights.dot_above && (p.character == 0x307) && is_before_accent ps

  abbrev by_cases : Option ℕ → Bool → Bool → Reading
  by_cases special number dropped =
      chosen special (λ s. record { elements = primary_element s ∷ []; left = ps }) number (number_reading weights (p ∷ ps))
      dropped (record { elements = []; left = ps }) (prefix_match weights p) (λ es. record { elements = es; left = ps })
      (text_reading canonical weights p.character (p ∷ ps))

  pub reading_special : (s : ℕ) → special_primary p.character ≡ Some s
      → reading canonical weights numeric p ps ≡ record { elements = primary_element s ∷ []; left = ps }
  reading_special s e = reading_is canonical weights numeric p ps ∙ ap (λ o. by_cases o is_number is_dropped) e

  pub reading_number : special_primary p.character ≡ None → is_number ≡ true → reading canonical weights numeric p ps ≡ number_reading weights (p ∷ ps)
  reading_number e n =
      reading_is canonical weights numeric p ps ∙ ap (λ o. by_cases o is_number is_dropped) e ∙ ap (λ b. by_cases None b is_dropped) n

  pub reading_dropped : special_primary p.character ≡ None → is_number ≡ false → is_dropped ≡ true
      → reading canonical weights numeric p ps ≡ record { elements = []; left = ps }
  reading_dropped e n d =
      reading_is canonical weights numeric p ps ∙ ap (λ o. by_cases o is_number is_dropped) e ∙ ap (λ b. by_cases None b is_dropped) n
      ∙ ap (λ b. by_cases None false b) d

  pub reading_otherwise : special_primary p.character ≡ None → is_number ≡ false → is_dropped ≡ false
      → reading canonical weights numeric p ps ≡ reading_in_context canonical weights p ps
  reading_otherwise e n d =
      reading_is canonical weights numeric p ps ∙ ap (λ o. by_cases o is_number is_dropped) e ∙ ap (λ b. by_cases None b is_dropped) n
      ∙ ap (λ b. by_cases None false b) d
