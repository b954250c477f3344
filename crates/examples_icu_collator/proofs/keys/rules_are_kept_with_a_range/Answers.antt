use Rattle.std.proofs.Common.{◌≡◌, true}
use Rattle.icu_collator_core.specs.WeightRules.{is_sound_ranged, is_beside_ranged}
use Rattle.examples_icu_collator.specs.Letters.{ideographs, ideographs_collation}
use Rattle.examples_icu_collator.proofs.KeyExamples.{digits_weights_sound, ideograph_primary, ideographs_sound, other_leads}
use Rattle.examples_icu_collator.proofs.keys.rules_are_kept_with_a_range.Goals as goal

pub returns : goal.returns
returns c =
    let weights = ideographs_collation.weights
    in record {
      widths = digits_weights_sound.widths;
      elements = digits_weights_sound.elements;
      apart = digits_weights_sound.apart;
      ranged = λ x p h.
          ideograph_primary (λ q. is_sound_ranged weights q ≡ true) x p h (c.ranges_have_sound_primaries.ensures.sound weights ideographs x ideographs_sound);
      beside = λ x p e h is.
          ideograph_primary (λ q. is_beside_ranged q e ≡ true) x p h (c.ranges_have_sound_primaries.ensures.beside weights ideographs x e ideographs_sound (other_leads e is));
      digits = digits_weights_sound.digits;
    }
