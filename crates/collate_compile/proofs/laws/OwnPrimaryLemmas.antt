-- What a character is by itself is none of what lines record: its lead is none of letters.
use Rattle.std.proofs.Common.{◌≡◌, ℕ, ◌/◌, ◌^◌, ◌≤◌, ◌⊎◌, inl, inr, Bool, true, false, cond, ◌==◌, leb, List, [], ◌∷◌, Option, Some, None, refl, sym, ap, subst, ◌∙◌, arith, ⊎_elim}
use Rattle.std.specs.Option.{unwrap_or}
use Rattle.std.proofs.lemmas.Bool.{and_parts, cond_both, eqb-true, false_from_ne_true, false≢true, leb-true, or_cases}
use Rattle.icu_normalizer_core.specs.BuiltIn.{is_jamo}
use Rattle.icu_collator_types.specs.declared.elements.Element.{Element}
use Rattle.icu_collator_core.specs.Defaults.{implicit_primary, jamo_primary, special_primary}
use Rattle.icu_collator_core.specs.TableMeaning.{is_primary_alone, own_primary}
use Rattle.icu_collator_core.specs.WeightRules.{is_letter_lead, is_sound_element, is_sound_primary}
use Rattle.icu_collator_core.specs.Weights.{Weights}

-- a lead byte of no letters, and not that of no primary
abbrev pub IsOtherLead : ℕ → Type 0
IsOtherLead lead = (is_letter_lead lead ≡ false) × (2 ≤ lead)

pub jamo_bounds : (c : ℕ) → is_jamo c ≡ true → (0x1100 ≤ c) × (c ≤ 0x11ff)
jamo_bounds c jamo =
    let both = and_parts (leb 0x1100 c) (leb c 0x11ff) jamo in (leb-true 0x1100 c both.0, leb-true c 0x11ff both.1)

pub jamo_lead : (c : ℕ) → is_jamo c ≡ true → jamo_primary c / 2 ^ 24 ≡ 0xfd
unfolding jamo_primary
jamo_lead c jamo = let bounds = jamo_bounds c jamo in omega (arith, bounds.0, bounds.1)

implicit_lead : (c : ℕ) → implicit_primary c / 2 ^ 24 ≡ 0xfe
unfolding implicit_primary
implicit_lead c = omega arith

special_lead : (c p : ℕ) → special_primary c ≡ Some p → IsOtherLead (p / 2 ^ 24)
unfolding special_primary
special_lead c p h = at (c == 0xfffe) (c == 0xfffd) (c == 0xffff) h
  where
    of : (q : ℕ) → IsOtherLead (q / 2 ^ 24) → Some q ≡ Some p → IsOtherLead (p / 2 ^ 24)
    of q is e = let same : q ≡ p = cc in subst (λ (n : ℕ). IsOtherLead (n / 2 ^ 24)) same is

    at : (a b d : Bool) → cond a (Some 0x02000000) (cond b (Some 0xfffd0000) (cond d (Some 0xffff0000) None)) ≡ Some p
        → IsOtherLead (p / 2 ^ 24)
    at true b d e = of 0x02000000 (refl, omega arith) e
    at false true d e = of 0xfffd0000 (refl, omega arith) e
    at false false true e = of 0xffff0000 (refl, omega arith) e
    at false false false e = absurd (cc)

pub own_lead : (c : ℕ) → IsOtherLead (own_primary c / 2 ^ 24)
own_lead c = at (special_primary c) refl
  where
    unspecial : IsOtherLead (cond (is_jamo c) (jamo_primary c) (implicit_primary c) / 2 ^ 24)
    unspecial =
        cond_both (is_jamo c) (jamo_primary c) (implicit_primary c) (λ p. IsOtherLead (p / 2 ^ 24))
        (λ jamo. subst IsOtherLead (sym (jamo_lead c jamo)) (refl, omega arith))
        (λ other. subst IsOtherLead (sym (implicit_lead c)) (refl, omega arith))

    at : (o : Option ℕ) → special_primary c ≡ o
        → IsOtherLead (unwrap_or o (cond (is_jamo c) (jamo_primary c) (implicit_primary c)) / 2 ^ 24)
    at None is = unspecial
    at (Some p) is = special_lead c p is

-- a sound element's primary, if it has one, has a lead of letters
pub sound_lead : (weights : Weights) (e : Element) → is_sound_element weights e ≡ true
    → (e.primary ≡ 0) ⊎ (is_letter_lead (e.primary / 2 ^ 24) ≡ true)
sound_lead weights e sound =
    let third = and_parts _ _ sound in
    let second = and_parts _ _ third.0 in
    let first = and_parts _ _ second.0 in
    ⊎_elim (λ none. inl (eqb-true e.primary 0 none)) (λ primary. inr (letter primary))
    (or_cases (e.primary == 0) (is_sound_primary weights e.primary) first.1)
  where
    letter : is_sound_primary weights e.primary ≡ true → is_letter_lead (e.primary / 2 ^ 24) ≡ true
    letter h = (and_parts _ _ (and_parts _ _ (and_parts _ _ (and_parts _ _ h).0).0).0).0

-- it isn't a primary of another lead
pub sound_differs : (weights : Weights) (e : Element) (p : ℕ) → is_sound_element weights e ≡ true
    → IsOtherLead (p / 2 ^ 24) → e.primary ≡ p → ⊥
sound_differs weights e p sound other same =
    ⊎_elim
    (λ (none : e.primary ≡ 0). let far = other.1 in omega (arith, none, same, far))
    (λ letter. false≢true (sym other.0 ∙ ap (λ (n : ℕ). is_letter_lead (n / 2 ^ 24)) (sym same) ∙ letter))
    (sound_lead weights e sound)

-- sound elements aren't what a character is by itself
pub not_own : (weights : Weights) (c : ℕ) (es : List Element)
    → ((e : Element) → es ≡ e ∷ [] → is_sound_element weights e ≡ true)
    → is_primary_alone (own_primary c) es ≡ false
not_own weights c [] sound = refl
not_own weights c (e ∷ []) sound =
    false_from_ne_true _
    (λ own. sound_differs weights e (own_primary c) (sound e refl) (own_lead c)
    (eqb-true e.primary (own_primary c)
    (and_parts _ _ (and_parts _ _ (and_parts _ _ (and_parts _ _ own).0).0).0).0))
not_own weights c (e ∷ f ∷ es) sound = refl
