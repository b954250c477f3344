-- Keys of texts order as the texts do, whatever collation data say that keep the rules.
use Rattle.std.proofs.Common.{◌≡◌, ℕ, true, List, ◌↔◌, sym, ◌∙◌, subst}
use Rattle.std.proofs.lemmas.Cmp.{nat_list_cmp_total, tied_itself}
use Rattle.std.proofs.lemmas.List.Elements.{recursion_from_All}
use Rattle.std.specs.Char.{IsScalar}
use Rattle.std.specs.Cmp.Lexicographic.{slice_cmp}
use Rattle.std.specs.List.{All}
use Rattle.std.specs.Ordering.{nat_cmp}
use Rattle.std.specs.declared.cmp.Ordering.TheVariants.{Equal}
use Rattle.icu_normalizer_core.specs.Canonical.{IsDecomposing, decomposed}
use Rattle.icu_collator_types.specs.declared.options.ResolvedCollatorOptions.{ResolvedCollatorOptions}
use Rattle.icu_collator_types.specs.declared.options.Strength.TheVariants.{Identical}
use Rattle.icu_collator_types.specs.Options.{is_numeric}
use Rattle.icu_collator_core.specs.Collation.{Collation}
use Rattle.icu_normalizer_core.proofs.decomposed_lists.DecomposedLemmas.{decomposed_all_scalars}
use Rattle.icu_collator_core.proofs.readings.SoundElementsLemmas.{text_elements_sound}
use Rattle.icu_normalizer.specs.Equivalence.{IsEquivalent}
use Rattle.icu_collator.specs.KeyBytes.{key_of_text}
use Rattle.icu_collator.specs.LevelOrders.{keys_order}
use Rattle.icu_collator.specs.Levels.{Levels, levels_of_text, elements_of_text}
use Rattle.icu_collator.specs.Order.{levels_order, collation_order}
use Rattle.icu_collator.specs.Settings.{has_plain_leads}
use Rattle.icu_collator.specs.SoundCollation.{AreSoundLevels, IsSoundCollation, read}
use Rattle.icu_collator.proofs.equivalence.IdenticalLemmas.{equal_at_identical}
use Rattle.icu_collator.proofs.keys.KeyBytesLemmas.{level_keys_order as keys_order_in_place, same_numbers}
use Rattle.icu_collator.proofs.places.PrimaryPlaceLemmas.{outside, IsPrimaryAt, primaries_are}
use Rattle.icu_collator.proofs.places.SequencePlaceLemmas.{sequence_stands}
use Rattle.icu_collator.proofs.places.SoundWeightLemmas.{IsSecondaryWeight, IsTertiaryWeight, secondaries_are, tertiaries_are}
use Rattle.icu_collator.proofs.places.CountedPlaceLemmas.{next, IsOutside}
use Rattle.icu_collator.proofs.places.SoundLevelLemmas.{AreSound, stands_apart, levels_sound}

-- sound levels stand where they may
pub stands_in_place : (collation : Collation) (options : ResolvedCollatorOptions) (a : Levels) (sound : IsSoundCollation collation)
    → AreSoundLevels collation options a → AreSound collation sound.weights sound.settings options a
stands_in_place collation options a sound (read elements list sequence scalars) =
    levels_sound collation sound.weights sound.settings options elements list
    (sequence_stands collation sound.weights sound.settings (is_numeric options.numeric) elements sequence)
    (recursion_from_All IsScalar list scalars)

-- the keys of sound levels order as the levels do
pub level_keys_order : (collation : Collation) (options : ResolvedCollatorOptions) (a b : Levels)
    → IsSoundCollation collation → AreSoundLevels collation options a → AreSoundLevels collation options b → has_plain_leads collation options ≡ true
    → keys_order collation options a b ≡ levels_order options a b
level_keys_order collation options a b both ha hb plain =
    let sound = both.weights
    in let settings = both.settings
    in keys_order_in_place options (IsPrimaryAt collation sound settings options) (next collation sound settings options) (IsOutside collation sound settings options) outside (stands_apart collation sound settings options)
    (IsSecondaryWeight collation.weights sound) (secondaries_are collation.weights sound) (IsTertiaryWeight collation.weights sound) (tertiaries_are collation.weights sound)
    a b (stands_in_place collation options a both ha) (stands_in_place collation options b both hb)
    collation (primaries_are collation sound settings options plain)

-- the levels of a text are sound
pub text_levels_sound : (collation : Collation) (options : ResolvedCollatorOptions) (text : List ℕ)
    → IsDecomposing collation.canonical → IsSoundCollation collation → All IsScalar text
    → AreSoundLevels collation options (levels_of_text collation options text)
text_levels_sound collation options text d sound scalars =
    read (elements_of_text collation options text) (decomposed collation.canonical text)
    (text_elements_sound collation.canonical collation.weights (is_numeric options.numeric) text d sound.weights scalars)
    (decomposed_all_scalars collation.canonical text d scalars)

-- the keys of two texts order as the texts do
pub text_keys_order : (collation : Collation) (options : ResolvedCollatorOptions) (a b : List ℕ)
    → IsDecomposing collation.canonical → IsSoundCollation collation → has_plain_leads collation options ≡ true
    → All IsScalar a → All IsScalar b
    → slice_cmp nat_cmp (key_of_text collation options a) (key_of_text collation options b) ≡ collation_order collation options a b
text_keys_order collation options a b d sound plain sa sb =
    level_keys_order collation options (levels_of_text collation options a) (levels_of_text collation options b) sound
    (text_levels_sound collation options a d sound sa) (text_levels_sound collation options b d sound sb) plain

-- two texts have one key where they compare equal
pub equal_text_keys : (collation : Collation) (options : ResolvedCollatorOptions) (a b : List ℕ)
    → IsDecomposing collation.canonical → IsSoundCollation collation → has_plain_leads collation options ≡ true
    → All IsScalar a → All IsScalar b
    → (key_of_text collation options a ≡ key_of_text collation options b) ↔ (collation_order collation options a b ≡ Equal)
equal_text_keys collation options a b d sound plain sa sb =
    let order = text_keys_order collation options a b d sound plain sa sb
    in (
      λ e. sym order ∙ subst (λ (k : List ℕ). slice_cmp nat_cmp (key_of_text collation options a) k ≡ Equal) e (tied_itself nat_list_cmp_total (key_of_text collation options a)),
      λ e. same_numbers (key_of_text collation options a) (key_of_text collation options b) (order ∙ e),
    )

-- at strength Identical two texts have one key where they are canonically equivalent
pub identical_text_keys : (collation : Collation) (options : ResolvedCollatorOptions) (a b : List ℕ)
    → IsDecomposing collation.canonical → IsSoundCollation collation → has_plain_leads collation options ≡ true
    → options.strength ≡ Identical → All IsScalar a → All IsScalar b
    → (key_of_text collation options a ≡ key_of_text collation options b) ↔ IsEquivalent collation.canonical a b
identical_text_keys collation options a b d sound plain is sa sb =
    let keys = equal_text_keys collation options a b d sound plain sa sb
    in let texts = equal_at_identical collation options a b d is sa sb
    in (λ e. texts.0 (keys.0 e), λ h. keys.1 (texts.1 h))
