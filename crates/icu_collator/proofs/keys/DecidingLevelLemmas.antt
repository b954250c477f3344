-- The first level that differs decides of two keys, whatever the lead of numbers is, but for the primaries.
use Rattle.std.proofs.Common.{◌≡◌, ◌≢◌, true, refl, ◌∙◌}
use Rattle.std.specs.Ordering.{ordering_then}
use Rattle.std.specs.declared.cmp.Ordering.{Ordering}
use Rattle.std.specs.declared.cmp.Ordering.TheVariants.{Less, Equal, Greater}
use Rattle.icu_collator_types.specs.declared.options.ResolvedCollatorOptions.{ResolvedCollatorOptions}
use Rattle.icu_collator_core.specs.Collation.{Collation}
use Rattle.icu_collator.specs.KeyBytes.{key_bytes}
use Rattle.icu_collator.specs.LevelOrders.{primaries_order, secondaries_order, cases_order, tertiaries_order, quaternaries_order, characters_order, keys_order}
use Rattle.icu_collator.specs.Levels.{Levels}
use Rattle.icu_collator.specs.Order.{levels_order}
use Rattle.icu_collator.specs.Settings.{has_plain_leads}
use Rattle.icu_collator.specs.SoundCollation.{AreSoundLevels, IsSoundCollation}
use Rattle.icu_collator.proofs.keys.KeyBytesLemmas.{equal_primaries_order, same_numbers, then_first, then_equal_first}
use Rattle.icu_collator.proofs.places.SoundLevelLemmas.{stands_apart}
use Rattle.icu_collator.proofs.places.SoundWeightLemmas.{IsSecondaryWeight, IsTertiaryWeight, secondaries_are, tertiaries_are}
use Rattle.icu_collator.proofs.places.CountedPlaceLemmas.{next, IsOutside}
use Rattle.icu_collator.proofs.keys.TextKeyLemmas.{level_keys_order, stands_in_place}
use Rattle.icu_collator.proofs.places.PrimaryPlaceLemmas.{outside, IsPrimaryAt}

-- an answer that isn't Equal decides
decides : (o p : Ordering) → o ≢ Equal → ordering_then o p ≡ o
decides Less p h = refl
decides Equal p h = absurd (h refl)
decides Greater p h = refl

-- one that is Equal leaves it to those after it
skips : (o p q : Ordering) → o ≡ Equal → p ≡ q → ordering_then o p ≡ q
skips o p q h e = then_equal_first o p h ∙ e

module _ (options : ResolvedCollatorOptions) (a b : Levels) where
  primaries_first : primaries_order a b ≢ Equal → levels_order options a b ≡ primaries_order a b
  unfolding levels_order
  primaries_first differs = decides _ _ differs

  primaries_are_equal : levels_order options a b ≡ Equal → primaries_order a b ≡ Equal
  unfolding levels_order
  primaries_are_equal h = then_first (primaries_order a b) _ h

  secondaries_first : primaries_order a b ≡ Equal → secondaries_order options a b ≢ Equal → levels_order options a b ≡ secondaries_order options a b
  unfolding levels_order
  secondaries_first p differs = skips (primaries_order a b) _ _ p (decides _ _ differs)

  cases_first : primaries_order a b ≡ Equal → secondaries_order options a b ≡ Equal → cases_order options a b ≢ Equal → levels_order options a b ≡ cases_order options a b
  unfolding levels_order
  cases_first p s differs = skips (primaries_order a b) _ _ p (skips (secondaries_order options a b) _ _ s (decides _ _ differs))

  tertiaries_first :
      primaries_order a b ≡ Equal → secondaries_order options a b ≡ Equal → cases_order options a b ≡ Equal → tertiaries_order options a b ≢ Equal
      → levels_order options a b ≡ tertiaries_order options a b
  unfolding levels_order
  tertiaries_first p s c differs =
      skips (primaries_order a b) _ _ p (skips (secondaries_order options a b) _ _ s (skips (cases_order options a b) _ _ c (decides _ _ differs)))

  quaternaries_first :
      primaries_order a b ≡ Equal → secondaries_order options a b ≡ Equal → cases_order options a b ≡ Equal → tertiaries_order options a b ≡ Equal → quaternaries_order options a b ≢ Equal
      → levels_order options a b ≡ quaternaries_order options a b
  unfolding levels_order
  quaternaries_first p s c t differs =
      skips (primaries_order a b) _ _ p (skips (secondaries_order options a b) _ _ s (skips (cases_order options a b) _ _ c (skips (tertiaries_order options a b) _ _ t (decides _ _ differs))))

  characters_last :
      primaries_order a b ≡ Equal → secondaries_order options a b ≡ Equal → cases_order options a b ≡ Equal → tertiaries_order options a b ≡ Equal → quaternaries_order options a b ≡ Equal
      → levels_order options a b ≡ characters_order options a b
  unfolding levels_order
  characters_last p s c t q =
      skips (primaries_order a b) _ _ p (skips (secondaries_order options a b) _ _ s (skips (cases_order options a b) _ _ c (skips (tertiaries_order options a b) _ _ t (then_equal_first (quaternaries_order options a b) _ q))))

module _ (collation : Collation) (options : ResolvedCollatorOptions) (a b : Levels)
    (sound : IsSoundCollation collation) (one : AreSoundLevels collation options a) (other : AreSoundLevels collation options b)
  where
    after_primaries : primaries_order a b ≡ Equal → keys_order collation options a b ≡ levels_order options a b
    after_primaries p =
        let weights = sound.weights
        in let settings = sound.settings
        in equal_primaries_order options (IsPrimaryAt collation weights settings options) (next collation weights settings options) (IsOutside collation weights settings options) outside (stands_apart collation weights settings options)
        (IsSecondaryWeight collation.weights weights) (secondaries_are collation.weights weights) (IsTertiaryWeight collation.weights weights) (tertiaries_are collation.weights weights)
        a b (stands_in_place collation options a sound one) (stands_in_place collation options b sound other)
        collation p

    -- with plain leads primaries that differ decide
    pub primaries_decide : has_plain_leads collation options ≡ true → primaries_order a b ≢ Equal → keys_order collation options a b ≡ primaries_order a b
    primaries_decide plain differs =
        level_keys_order collation options a b sound one other plain ∙ primaries_first options a b differs

    -- after equal primaries secondaries that differ decide
    pub secondaries_decide : primaries_order a b ≡ Equal → secondaries_order options a b ≢ Equal → keys_order collation options a b ≡ secondaries_order options a b
    secondaries_decide p differs = after_primaries p ∙ secondaries_first options a b p differs

    pub cases_decide : primaries_order a b ≡ Equal → secondaries_order options a b ≡ Equal → cases_order options a b ≢ Equal → keys_order collation options a b ≡ cases_order options a b
    cases_decide p s differs = after_primaries p ∙ cases_first options a b p s differs

    pub tertiaries_decide :
        primaries_order a b ≡ Equal → secondaries_order options a b ≡ Equal → cases_order options a b ≡ Equal → tertiaries_order options a b ≢ Equal
        → keys_order collation options a b ≡ tertiaries_order options a b
    tertiaries_decide p s c differs = after_primaries p ∙ tertiaries_first options a b p s c differs

    pub quaternaries_decide :
        primaries_order a b ≡ Equal → secondaries_order options a b ≡ Equal → cases_order options a b ≡ Equal → tertiaries_order options a b ≡ Equal → quaternaries_order options a b ≢ Equal
        → keys_order collation options a b ≡ quaternaries_order options a b
    quaternaries_decide p s c t differs = after_primaries p ∙ quaternaries_first options a b p s c t differs

    pub characters_decide :
        primaries_order a b ≡ Equal → secondaries_order options a b ≡ Equal → cases_order options a b ≡ Equal → tertiaries_order options a b ≡ Equal → quaternaries_order options a b ≡ Equal
        → characters_order options a b ≢ Equal → keys_order collation options a b ≡ characters_order options a b
    characters_decide p s c t q differs = after_primaries p ∙ characters_last options a b p s c t q

    -- levels without a difference have one key
    pub equal_levels_have_equal_keys : levels_order options a b ≡ Equal → key_bytes collation options a ≡ key_bytes collation options b
    equal_levels_have_equal_keys same =
        same_numbers (key_bytes collation options a) (key_bytes collation options b) (after_primaries (primaries_are_equal options a b same) ∙ same)
