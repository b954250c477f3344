-- The characters below U+0300: when one of them is what it may not be.
use Rattle.std.proofs.Common.{◌≡◌, ◌≢◌, ℕ, ◌<◌, ◌≤◌, List, [], ◌∷◌, length, take, map, refl, ap, ◌∙◌, arith, ◌⊎◌, inl, inr, ⊎_elim, Bool, true, false, not, Option, None, ◌↔◌}
use Rattle.std.specs.Bool.{IsTrue}
use Rattle.std.specs.List.{All}
use Rattle.std.proofs.lemmas.Bool.{false≢true, cases_eq}
use Rattle.std.proofs.lemmas.Bool.Decides.{nat_tests}
use Rattle.std.proofs.Math.Path.{fun_ext}
use Rattle.icu_normalizer_core.specs.BuiltIn.{built_in_class, built_in_compatibility_step}
use Rattle.icu_normalizer_core.specs.Canonical.{Canonical, composed, marks_in_order, put_in_order, recomposed}
use Rattle.icu_normalizer_core.proofs.built.BuiltInFacts.{low_free}
use Rattle.icu_normalizer_core.proofs.composed.CompositionLemmas.{composed_one, composing_end, mark_alone, recomposed_starter}
use Rattle.collate_rules.specs.declared.canonical_part.CanonicalPart.{CanonicalPart}
use Rattle.collate_lines.specs.Record.{Record}
use Rattle.collate_rules.specs.Meaning.{first_found, class_in, mapping_in, compatibility_in, class_of, step_of, compatibility_of, canonical_of, pair_of, expanded}
use Rattle.collate_rules.specs.Rules.{HasBadLow, IsBadlyLow}
use Rattle.collate_rules.specs.CanonicalParts.{in_full, SaysSame, subject_of}
use Rattle.collate_rules.proofs.mappings.CanonicalPartLemmas.{class_of-same, step_of-same, compatibility_of-same, pair_of-same, none_of_all, unsaid_class, unsaid_compatibility, unsaid_mapping}
use Rattle.collate_rules.proofs.lists.RuleFullListLemmas.{expanded_unmapped}

-- canonical data by classes, mappings and pairs
abbrev data_by : (ℕ → ℕ) → (ℕ → List ℕ) → (ℕ → ℕ → Option ℕ) → Canonical
data_by class step pair = record { class = class; step = step; full = λ c. expanded step 0x110000 c; pair = pair }

-- lines that say the same mean the same
canonical-same : (lines others : List Record) → SaysSame lines others → canonical_of lines ≡ canonical_of others
canonical-same lines others same =
    ap (λ class. data_by class (step_of lines) (pair_of lines)) (fun_ext (λ c. class_of-same lines others c same))
    ∙ ap (λ step. data_by (class_of others) step (pair_of lines)) (fun_ext (λ c. step_of-same lines others c same))
    ∙ ap (λ pair. data_by (class_of others) (step_of others) pair) (fun_ext (λ a. fun_ext (λ b. pair_of-same lines others a b same)))

pub HasBadLow-same : (lines others : List Record) → SaysSame lines others → HasBadLow lines → HasBadLow others
HasBadLow-same lines others same bad =
    let c = bad.0 in (
      c,
      (
        bad.1.0,
        ⊎_elim
            (λ mark. inl (λ e. mark (class_of-same lines others c same ∙ e)))
            (λ w. ⊎_elim
            (λ other. inr (inl (λ e. other (ap (λ (canonical : Canonical). composed canonical (c ∷ [])) (canonical-same lines others same) ∙ e))))
            (λ v. ⊎_elim
            (λ mapped. inr (inr (inl (mapped.0, λ e. mapped.1 (step_of-same lines others c same ∙ e)))))
            (λ mapped. inr (inr (inr (mapped.0, λ e. mapped.1 (compatibility_of-same lines others c same ∙ e)))))
            v)
            w)
            bad.1.1,
      ),
    )

-- nothing below U+0300 is built in
low_class : (c : ℕ) → c < 0x300 → built_in_class c ≡ None
unfolding built_in_class
low_class c h = grind (arith, nat_tests)

low_compatibility : (c : ℕ) → c < 0x300 → built_in_compatibility_step c ≡ None
unfolding built_in_compatibility_step
low_compatibility c h = grind (arith, nat_tests)

-- a character that isn't mapped is its own composed list
composed_unmapped : (canonical : Canonical) (c : ℕ) → canonical.full c ≡ c ∷ [] → composed canonical (c ∷ []) ≡ c ∷ []
unfolding marks_in_order put_in_order
composed_unmapped canonical c e =
    composed_one canonical c
    ∙ ap (λ (cs : List ℕ). recomposed canonical (marks_in_order canonical.class cs)) e
    ∙ ⊎_elim (λ zero. recomposed_starter canonical c [] zero ∙ composing_end canonical c) (λ mark. mark_alone canonical c mark) (cases_eq (canonical.class c) 0)

-- where no line says anything of a character below U+0300, it is as it should be
untouched : (records : List Record) (c : ℕ) → first_found (class_in c) records ≡ None → first_found (mapping_in c) records ≡ None
    → first_found (compatibility_in c) records ≡ None → IsBadlyLow records c → ⊥
untouched records c no_class no_mapping no_compatibility (low, bad) =
    let class : class_of records c ≡ 0 = rw (low_class c low, no_class) refl in
    let step : step_of records c ≡ [] = rw (low_free c low, low_compatibility c low, no_mapping) refl in
    let other : compatibility_of records c ≡ [] = rw (low_free c low, low_compatibility c low, no_compatibility) refl in
    ⊎_elim (λ mark. mark class)
    (λ w. ⊎_elim (λ moved. moved (composed_unmapped (canonical_of records) c (expanded_unmapped (step_of records) 0x110000 c step)))
    (λ v. ⊎_elim (λ mapped. mapped.1 step) (λ mapped. mapped.1 other) v)
    w)
    bad

pub HasBadLow-none : HasBadLow [] → ⊥
HasBadLow-none bad = untouched [] bad.0 refl refl refl bad.1

-- where no part is on a character that is what it may not be, there is none
pub low_none : (parts : List CanonicalPart) (i : ℕ) → length parts ≤ i
    → All (λ part. IsBadlyLow (map in_full parts) (subject_of part) → ⊥) (take i parts) → HasBadLow (map in_full parts) → ⊥
low_none parts i past before bad =
    let apart = none_of_all (λ c. IsBadlyLow (map in_full parts) c) parts i past before bad.0 bad.1 in
    untouched (map in_full parts) bad.0 (unsaid_class parts bad.0 apart) (unsaid_mapping parts bad.0 apart) (unsaid_compatibility parts bad.0 apart) bad.1

-- among parts, a character below U+0300 that is a starter and has no mapping that it may not have is bad exactly if it isn't
-- its own composed list
pub low_own : (parts : List CanonicalPart) (c : ℕ) (b : Bool) → c < 0x300 → class_of (map in_full parts) c ≡ 0
    → ((((c < 0xc0) × (step_of (map in_full parts) c ≢ [])) ⊎ ((c < 0xa0) × (compatibility_of (map in_full parts) c ≢ []))) → ⊥)
    → (IsTrue b ↔ (composed (canonical_of (map in_full parts)) (c ∷ []) ≡ c ∷ [])) → IsTrue (not b) ↔ IsBadlyLow (map in_full parts) c
low_own parts c true low class unmapped own = (
  λ h. absurd (false≢true h),
  λ bad. absurd (⊎_elim (λ mark. mark class) (λ w. ⊎_elim (λ moved. moved (own.0 refl)) (λ v. unmapped v) w) bad.1),
)
low_own parts c false low class unmapped own = (
  λ h. (low, inr (inl (λ e. false≢true (own.1 e)))),
  λ bad. refl,
)
