-- Words that record nothing pass every test, whatever the character.
use Rattle.std.proofs.Common.{◌≡◌, ℕ, true, false, Option, Some, None, refl, sym, subst, ⊎_elim, inl, inr}
use Rattle.std.specs.Prelude.{◌==◌}
use Rattle.std.specs.Bool.{IsTrue}
use Rattle.std.proofs.lemmas.Bool.{eqb-true, false≢true, or_cases}
use Rattle.icu_normalizer_core.specs.Canonical.{Canonical}
use Rattle.icu_collator_core.specs.declared.check.layers.Layer.{Layer}
use Rattle.icu_collator_core.specs.declared.check.layers.Layer.TheVariants.{Root, Tailoring}
use Rattle.icu_collator_core.specs.declared.tables.special_primaries.CollationSpecialPrimaries.{CollationSpecialPrimaries}
use Rattle.icu_collator_core.specs.ContextRules.{KeepsContextRules}
use Rattle.icu_collator_core.specs.Defaults.{special_primary}
use Rattle.icu_collator_core.specs.Pools.{Pools, elements_of_word, lone_word, unprefixed_word}
use Rattle.icu_collator_core.specs.TableMeaning.{fallback}
use Rattle.icu_collator_core.specs.UnrecordedWords.{implicit, records_nothing}
use Rattle.icu_collator_core.specs.WeightFaults.{is_sound_word}
use Rattle.icu_collator_core.specs.WordForms.{IsWord, is_fallback, keeps_special}
use Rattle.icu_collator_core.specs.WordIndices.{IsInside}
use Rattle.icu_collator_core.specs.WordWeights.{HasSoundWords}

-- what holds of both words holds of every word that records nothing
of_fallback : (P : ℕ → Type 0) (layer : Layer) (word : ℕ) → (layer ≡ Tailoring → P fallback) → is_fallback layer word ≡ true → P word
of_fallback P Root word holds h = absurd (false≢true h)
of_fallback P Tailoring word holds h = subst P (sym (eqb-true word fallback h)) (holds refl)

of_unrecorded : (P : ℕ → Type 0) (layer : Layer) (word : ℕ) → P implicit → (layer ≡ Tailoring → P fallback)
    → IsTrue (records_nothing layer word) → P word
of_unrecorded P layer word at_implicit at_fallback h =
    ⊎_elim
    (λ (same : (word == implicit) ≡ true). subst P (sym (eqb-true word implicit same)) at_implicit)
    (of_fallback P layer word at_fallback)
    (or_cases (word == implicit) (is_fallback layer word) h)

-- nothing is asked of a word without the tag
untagged : {P : Type 0} → IsTrue false → P
untagged tag = absurd (false≢true tag)

-- ---- Forms

kept : (found : Option ℕ) → elim found [ Some p ↦ true | None ↦ true ] ≡ true
kept None = refl
kept (Some p) = refl

pub unrecorded_is_word : (layer : Layer) (pools : Pools) (c word : ℕ) → IsTrue (records_nothing layer word)
    → IsTrue (keeps_special c word) × IsWord layer pools word
unrecorded_is_word layer pools c word =
    of_unrecorded (λ word. IsTrue (keeps_special c word) × IsWord layer pools word) layer word
    (kept (special_primary c), inr (inl (inl refl)))
    (λ tailoring. (kept (special_primary c), subst (λ layer. IsWord layer pools fallback) (sym tailoring) (inl refl)))

-- ---- Indices

pub unrecorded_is_inside : (layer : Layer) (pools : Pools) (word : ℕ) → IsTrue (records_nothing layer word) → IsInside pools word
unrecorded_is_inside layer pools word =
    of_unrecorded (IsInside pools) layer word ((refl, untagged), untagged) (λ _. ((refl, untagged), untagged))

-- ---- Contexts

pub unrecorded_keeps_rules : (canonical : Canonical) (digit : ℕ → Option ℕ) (layer : Layer) (pools : Pools) (c word : ℕ)
    → IsTrue (records_nothing layer word) → KeepsContextRules canonical digit (record { word = word; pools = pools }) c
unfolding unprefixed_word
unrecorded_keeps_rules canonical digit layer pools c word =
    of_unrecorded (λ word. KeepsContextRules canonical digit (record { word = word; pools = pools }) c) layer word
    (record { digits = untagged; prefixed = untagged; prefixes = untagged; suffixes = untagged; flags = untagged })
    (λ _. record { digits = untagged; prefixed = untagged; prefixes = untagged; suffixes = untagged; flags = untagged })

-- ---- Weights

pub unrecorded_is_sound : (special : CollationSpecialPrimaries) (layer : Layer) (pools : Pools) (c word : ℕ)
    → IsTrue (records_nothing layer word) → HasSoundWords special pools c word
unfolding unprefixed_word lone_word is_sound_word elements_of_word
unrecorded_is_sound special layer pools c word =
    of_unrecorded (HasSoundWords special pools c) layer word (refl, untagged, untagged) (λ _. (refl, untagged, untagged))
