-- The words of characters that neither what is built in nor what is given names.
use Rattle.std.proofs.Common.{◌≡◌, ◌≢◌, ℕ, inl, inr, ⊎_elim, false, ◌==◌, List, [], ◌∷◌, ◌++◌, map, Option, Some, None, refl, sym, ap, subst, ◌∙◌, arith}
use Rattle.std.specs.List.{All}
use Rattle.std.specs.Option.{unwrap_or}
use Rattle.std.specs.Char.{IsScalar}
use Rattle.std.proofs.lemmas.Bool.{cases_Bool, cond-true, cond-false, false≢true, ne_eqb}
use Rattle.std.proofs.lemmas.Bool.Decides.{nat_tests}
use Rattle.std.proofs.lemmas.Option.{none-some}
use Rattle.icu_normalizer_core.specs.declared.builder.given.GivenClass.{GivenClass}
use Rattle.icu_normalizer_core.specs.declared.builder.given.GivenCompatibility.{GivenCompatibility}
use Rattle.icu_normalizer_core.specs.declared.builder.given.GivenMapping.{GivenMapping}
use Rattle.icu_normalizer_core.specs.declared.builder.mappings.Mappings.{Mappings}
use Rattle.icu_normalizer_core.specs.BuiltIn.{built_in_class, built_in_compatibility_step, built_in_step, is_syllable}
use Rattle.icu_normalizer_core.specs.Canonical.{Canonical, IsFree, Leaves}
use Rattle.icu_normalizer_core.specs.CanonicalMaps.{AreMeaning, given_class, given_step, mapping_given}
use Rattle.icu_normalizer_core.specs.CanonicalMeaning.{meaning}
use Rattle.icu_normalizer_core.specs.CharacterWords.{built_in_named, unnamed_word}
use Rattle.icu_normalizer_core.specs.CompatibilityMaps.{AllMaps, KeepEachRule, first_given}
use Rattle.icu_normalizer_core.specs.GivenCompatibilities.{IsOfCharacters}
use Rattle.icu_normalizer_core.specs.Settled.{IsAmong}
use Rattle.icu_normalizer_core.specs.SettledMappings.{AreOnStarters, AreOthersUnnamed, IsFullWord, IsSound, named_with, steps_in}
use Rattle.icu_normalizer_core.proofs.built.BuiltInFacts.{built_in_cases, syllable_left}
use Rattle.icu_normalizer_core.proofs.settling.LeftLemmas.{left_alone}
use Rattle.icu_normalizer_core.proofs.accepted.TableMeanings.{zero_form}
use Rattle.icu_normalizer_core.proofs.building.AllStepLemmas.{all_second, cases_step, given_is, step_given}
use Rattle.icu_normalizer_core.proofs.building.CharacterWordLemmas.{class_zero, full_of_one, full_zero, syllable_word}
use Rattle.icu_normalizer_core.proofs.building.CoveredLemmas.{no_class, not_behind, not_front, not_singled_out, unclassed, unmapped}
use Rattle.icu_normalizer_core.proofs.building.FullWordLemmas.{both_on}
use Rattle.icu_normalizer_core.proofs.building.ListWordLemmas.{inside_apart}

uncompatible : (c : ℕ) → c ≢ 0xff9e → c ≢ 0xff9f → built_in_compatibility_step c ≡ None
unfolding built_in_compatibility_step
uncompatible c a b = grind (arith, nat_tests)

ungiven : (given : List GivenCompatibility) (c : ℕ) → (IsAmong (map (λ g. g.character) given) c → ⊥) → first_given given c ≡ None
ungiven [] c none = refl
ungiven (g ∷ gs) c none =
    cond-false (g.character == c) (Some g) (first_given gs c) (ne_eqb g.character c (λ e. none (inl e))) ∙ ungiven gs c (λ later. none (inr later))

module _ (classes : List GivenClass) (mappings : List GivenMapping) (over : Mappings) (sound : IsSound over)
    (means : AreMeaning (record { classes = classes; mappings = mappings }) (meaning over.tables.now)) where
  abbrev base : Canonical
  base = meaning over.tables.now

  abbrev steps : ℕ → List ℕ
  steps = steps_in over

  module _ (c : ℕ) (s : IsScalar c) (none : IsAmong (named_with classes mappings over.given.now) c → ⊥) where
    abbrev fixed : List ℕ
    fixed = 0xff9e ∷ 0xff9f ∷ built_in_named

    abbrev classed : List ℕ
    classed = fixed ++ map (λ g. g.character) classes

    abbrev given_mapped : List ℕ
    given_mapped = classed ++ map (λ g. g.character) mappings

    front : IsAmong given_mapped c → ⊥
    front = not_front given_mapped (map (λ g. g.character) over.given.now) c none

    middle : IsAmong classed c → ⊥
    middle = not_front classed (map (λ g. g.character) mappings) c front

    built_in : IsAmong fixed c → ⊥
    built_in = not_front fixed (map (λ g. g.character) classes) c middle

    named_in : IsAmong built_in_named c → ⊥
    named_in h = built_in (inr (inr h))

    class_none : base.class c ≡ 0
    class_none =
        let no_given : given_class classes c ≡ 0 =
        ap (λ (o : Option GivenClass). elim o [ Some g ↦ g.class | None ↦ 0 ]) (unclassed classes c (not_behind fixed (map (λ g. g.character) classes) c middle)) in
        means.class c s ∙ ap (unwrap_or (built_in_class c)) no_given ∙ no_class c named_in

    step_none : IsFree c → steps c ≡ []
    step_none free =
        let no_given : given_step mappings c ≡ [] =
        ap (λ (o : Option GivenMapping). elim o [ Some g ↦ mapping_given g | None ↦ [] ]) (unmapped mappings c (not_behind classed (map (λ g. g.character) mappings) c front)) in
        let canonical : base.step c ≡ [] = means.step c s ∙ ap (λ (o : Option (List ℕ)). unwrap_or o (given_step mappings c)) free ∙ no_given in
        let other = uncompatible c (λ e. built_in (inl (sym e))) (λ e. built_in (inr (inl (sym e)))) in
        all_second base.step over.given.now c canonical ∙ step_given over.given.now c free other
        ∙ given_is over.given.now c None (ungiven over.given.now c (not_behind given_mapped (map (λ g. g.character) over.given.now) c none))

    unsyllable_none : is_syllable c ≡ false → steps c ≡ []
    unsyllable_none f =
        ⊎_elim
        (λ free. step_none free)
        (λ w. both_on over sound c w.0 w.1
        ∙ ⊎_elim
        (λ syllable. absurd (false≢true (sym f ∙ syllable.0)))
        (λ rest. ⊎_elim (λ nothing. nothing) (λ one. absurd (none-some w.0 (sym (not_singled_out c named_in) ∙ one))) rest)
        (built_in_cases c w.0 w.1))
        (cases_step (built_in_step c))

    right : (scalars24 : List ℕ) → IsFullWord steps (base.class c) scalars24 c (unnamed_word c)
    right s24 =
        ⊎_elim
        (λ t.
        let word = syllable_word (base.class c) [] s24 c t class_none in
        subst (IsFullWord steps (base.class c) s24 c) (sym (cond-true (is_syllable c) 1 0 t))
        (record {
          fits = word.fits;
          form = word.form;
          inside = word.inside;
          class = word.class;
          full = subst (Leaves steps (c ∷ [])) (sym (full_of_one s24 c)) (syllable_left steps (both_on over sound) c t);
        }))
        (λ f.
        subst (IsFullWord steps (base.class c) s24 c) (sym (cond-false (is_syllable c) 1 0 f))
        (record {
          fits = omega arith;
          form = zero_form c;
          inside = inside_apart [] s24 0 refl;
          class = class_zero c ∙ sym class_none;
          full = subst (Leaves steps (c ∷ [])) (sym (full_zero s24 c)) (left_alone steps c (unsyllable_none f));
        }))
        (cases_Bool (is_syllable c))

  pub others_right : AreOthersUnnamed steps base.class (named_with classes mappings over.given.now)
  others_right s24 c s none = right c s none s24

-- and so outside a list that has these characters
pub others_among : (step : ℕ → List ℕ) (class : ℕ → ℕ) (named list : List ℕ) → ((c : ℕ) → IsAmong named c → IsAmong list c) → AreOthersUnnamed step class named
    → AreOthersUnnamed step class list
others_among step class named list among others s24 c s none = others s24 c s (λ h. none (among c h))

-- within the rules each mapping stands on a starter of the tables
pub kept_on_starters : (maps : AllMaps) (canonical : Canonical) → AreMeaning maps.canonical canonical → All IsOfCharacters maps.compatibilities → KeepEachRule maps
    → AreOnStarters canonical.class maps.compatibilities
kept_on_starters maps canonical means of_given rules k d h free = means.class _ (of_given k d h).character ∙ rules.1.starters k d h free
