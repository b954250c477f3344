-- The rules on weights, records and settings that lines break together, of the same lines in another order.
use Rattle.std.proofs.Common.{◌≡◌, ℕ, ◌+◌, ◌-◌, ◌<◌, Bool, true, false, cond, not, ◌&&◌, ◌||◌, ◌==◌, ltb, List, [], ◌∷◌, ◌++◌, length, take, drop, Contains, Option, refl, sym, ap, ◌∙◌, subst, arith, take_all}
use Rattle.std.specs.List.{AllByRecursion, IsDistinct, list_all, list_any}
use Rattle.std.specs.List.Sorted.{IsPermutation}
use Rattle.std.specs.Option.{is_some, unwrap_or}
use Rattle.std.proofs.Math.Bool.{or_comm}
use Rattle.std.proofs.Math.Path.{fun_ext}
use Rattle.std.proofs.lemmas.Bool.{and_from, and_parts, false_from_ne_true, false≢true, not_from_true, true_from_ne_false}
use Rattle.std.proofs.lemmas.List.{take-append-drop}
use Rattle.std.proofs.lemmas.List.Sorted.{Contains-permutation, IsPermutation-sym, list_any-IsPermutation}
use Rattle.std.proofs.lemmas.Map.Keys.{IsDistinct-IsPermutation}
use Rattle.icu_normalizer_core.specs.Canonical.{Canonical}
use Rattle.icu_collator_types.specs.declared.elements.Element.{Element}
use Rattle.icu_collator_core.specs.ContextRules.{is_prefix_character, is_recorded_in, may_be_digit, may_have_prefix}
use Rattle.icu_collator_core.specs.PlainLeads.{leads_alone}
use Rattle.icu_collator_core.specs.Weights.{Range, Weights}
use Rattle.icu_collator_core.specs.WeightRules.{are_disjoint, is_of_other_lead, is_sound_range}
use Rattle.collate_lines.specs.declared.rule.Rule.TheVariants.{C5, V2, V5, V6, V7, V8, V10, V11, V14, V15}
use Rattle.collate_lines.specs.Record.{Record, weights, digit, Layer}
use Rattle.collate_rules.specs.GivenWeights.{BreakApart, BreakPrimaries, BreakRanges, are_all_disjoint, are_sound_ranges, elements_of, given_elements, given_ranges, has_sound_primary, leads_to, numeric_to, ranges_of}
use Rattle.collate_rules.specs.Meaning.{canonical_of, class_of, dot_above_in, is_compressible_in, set_to, weights_of}
use Rattle.collate_rules.specs.Offenders.{NoneOffends}
use Rattle.collate_rules.specs.Indices.{Stays}
use Rattle.collate_rules.specs.RecordRules.{begins_with, breaks_decomposed, breaks_digits, breaks_dot_above, breaks_marks_last, breaks_prefixes, digit_of, dotted_marks, has_late_starter, has_mapping, has_starter_behind, is_alone, is_bad_digit, is_bad_dotted, is_badly_prefixed, is_common_secondary, is_disordered, is_further, is_mark, is_other_mark, is_undecomposed, may_follow_prefix}
use Rattle.collate_rules.proofs.given.GivenListLemmas.{apart_from, apart_tells, list_all_from, list_all_tells}
use Rattle.collate_weight_rules.proofs.soundness.StayLemmas.{apart_stays, primaries_stay, ranges_stay_broken}
use Rattle.collate_rules.proofs.offenders.BreachLemmas.{none_together}
use Rattle.collate_record_rules.proofs.records.RecordGrowthLemmas.{decomposed_stays, digits_stay, dot_above_stays, marks_last_stay, prefixes_stay}
use Rattle.collate_records.proofs.comparing.LineOrderLemmas.{equal_settings, numeric_alike}
use Rattle.collate_records.proofs.reordering.MovedListLemmas.{flat_map_moved}
use Rattle.collate_records.proofs.reordering.SameSayingLemmas.{canonical_same, classes_same, digits_same, mapped_same, recorded_same, replaced_same}

-- ---- Ranges that share no character

abbrev share : Range → Range → Bool
share r s = not (are_disjoint r s)

share_flips : (r s : Range) → share r s ≡ share s r
share_flips r s = ap not (or_comm (ltb r.last s.first) (ltb s.last r.first))

shares_none : (r : Range) (rs : List Range) → list_all (are_disjoint r) rs ≡ true → AllByRecursion (λ s. share r s ≡ false) rs
shares_none r [] h = tt
shares_none r (s ∷ rs) h =
    let both = and_parts (are_disjoint r s) (list_all (are_disjoint r) rs) h in (not_from_true (are_disjoint r s) both.0, shares_none r rs both.1)

all_of_none : (r : Range) (rs : List Range) → AllByRecursion (λ s. share r s ≡ false) rs → list_all (are_disjoint r) rs ≡ true
all_of_none r [] h = refl
all_of_none r (s ∷ rs) h =
    and_from (are_disjoint r s) (list_all (are_disjoint r) rs)
    (true_from_ne_false (are_disjoint r s) (λ f. false≢true (sym h.0 ∙ ap not f))) (all_of_none r rs h.1)

distinct_of_disjoint : (rs : List Range) → are_all_disjoint rs ≡ true → IsDistinct share rs
unfolding IsDistinct
distinct_of_disjoint [] h = tt
distinct_of_disjoint (r ∷ rs) h =
    let both = and_parts (list_all (are_disjoint r) rs) (are_all_disjoint rs) h in (shares_none r rs both.0, distinct_of_disjoint rs both.1)

disjoint_of_distinct : (rs : List Range) → IsDistinct share rs → are_all_disjoint rs ≡ true
unfolding IsDistinct
disjoint_of_distinct [] h = refl
disjoint_of_distinct (r ∷ rs) h = and_from (list_all (are_disjoint r) rs) (are_all_disjoint rs) (all_of_none r rs h.0) (disjoint_of_distinct rs h.1)

-- whether a line records a mark otherwise than alone with a common secondary
abbrev is_otherwise : List Record → ℕ → Record → Bool
is_otherwise records c line = is_further records c line || is_other_mark records c line

-- ---- Breaches that last

module _ (a b : List Record) (moved : IsPermutation a b) where
  -- A breach that further lines don't heal, and that all lines would make in the one order as in the other: lines that don't make it
  -- in the one don't in the other.
  pub together : (P Q : List Record → Type 0) → ((lines more : List Record) → P lines → P (lines ++ more)) → (P b → Q a) → (Q [] → ⊥)
      → ((i : ℕ) → i < length a → Q (take (i + 1) a) → ⊥) → (i : ℕ) → i < length b → P (take (i + 1) b) → ⊥
  together P Q stays same none keeps i lt h =
      none_together Q none a keeps (same (subst P (take-append-drop (i + 1) b) (stays (take (i + 1) b) (drop (i + 1) b) h)))

  -- the same of a breach that stays from index to index
  staying : (P Q : List Record → Type 0) → Stays (λ i. P (take (i + 1) b)) → (P b → Q a) → (Q [] → ⊥)
      → ((i : ℕ) → i < length a → Q (take (i + 1) a) → ⊥) → (i : ℕ) → i < length b → P (take (i + 1) b) → ⊥
  staying P Q stays same none keeps i lt h =
      none_together Q none a keeps
      (same (subst P (take_all (length b - 1 + 1) b (omega (arith, lt))) (stays i (length b - 1) (omega (arith, lt)) h)))

  any_moved : (p q : Record → Bool) → p ≡ q → list_any q b ≡ true → list_any p a ≡ true
  any_moved p q same h = list_any-IsPermutation p a b moved ∙ ap (λ (test : Record → Bool). list_any test b) same ∙ h

  module _ (once : NoneOffends V14 a) (pairs : NoneOffends C5 a) where
    undecomposed_same : is_undecomposed a ≡ is_undecomposed b
    undecomposed_same = fun_ext by
      where
        unlike : (list : List ℕ) → (list_any (has_mapping a) list || is_disordered (class_of a) list) ≡ (list_any (has_mapping b) list || is_disordered (class_of b) list)
        unlike list =
            ap (λ (is_mapped : ℕ → Bool). list_any is_mapped list || is_disordered (class_of a) list) (mapped_same a b moved once)
            ∙ ap (λ (class : ℕ → ℕ). list_any (has_mapping b) list || is_disordered class list) (classes_same a b moved once)

        by : (r : Record) → is_undecomposed a r ≡ is_undecomposed b r
        by (weights layer prefix text es) =
            ap (λ (t : Bool). t || (list_any (has_mapping a) text || is_disordered (class_of a) text)) (unlike prefix)
            ∙ ap (λ (t : Bool). (list_any (has_mapping b) prefix || is_disordered (class_of b) prefix) || t) (unlike text)
        by _ = refl

    pub decomposed_moved : NoneOffends V7 a → NoneOffends V7 b
    decomposed_moved =
        together (λ lines. breaks_decomposed lines ≡ true) (λ lines. breaks_decomposed lines ≡ true) decomposed_stays
        (any_moved (is_undecomposed a) (is_undecomposed b) undecomposed_same) false≢true

    marks_same : is_mark a ≡ is_mark b
    marks_same = fun_ext (λ c. ap (λ (class : ℕ → ℕ). not (class c == 0)) (classes_same a b moved once))

    late_same : has_late_starter a a ≡ has_late_starter b b
    late_same = fun_ext by
      where
        by : (r : Record) → has_late_starter a a r ≡ has_late_starter b b r
        by (weights layer prefix text es) = ap (λ (is : ℕ → Bool). has_starter_behind is (λ c. not (is c)) text) marks_same
        by _ = refl

    pub marks_last_moved : NoneOffends V8 a → NoneOffends V8 b
    marks_last_moved =
        together (λ lines. breaks_marks_last b lines ≡ true) (λ lines. breaks_marks_last a lines ≡ true) (marks_last_stay b)
        (any_moved (has_late_starter a a) (has_late_starter b b) late_same) false≢true

    follow_same : may_follow_prefix a a ≡ may_follow_prefix b b
    follow_same = fun_ext by
      where
        by : (text : List ℕ) → may_follow_prefix a a text ≡ may_follow_prefix b b text
        by (c ∷ []) =
            ap (λ (canonical : Canonical). may_have_prefix canonical (digit_of a) (is_recorded_in (weights_of a)) c) (canonical_same a b moved once pairs)
            ∙ ap (λ (digits : ℕ → Option ℕ). may_have_prefix (canonical_of b) digits (is_recorded_in (weights_of a)) c) (digits_same a b moved once)
            ∙ ap (λ (is_recorded : List ℕ → List ℕ → Bool). may_have_prefix (canonical_of b) (digit_of b) is_recorded c) (recorded_same a b moved once)
        by _ = refl

    prefix_same : is_prefix_character (canonical_of a) (digit_of a) ≡ is_prefix_character (canonical_of b) (digit_of b)
    prefix_same =
        ap (λ (canonical : Canonical). is_prefix_character canonical (digit_of a)) (canonical_same a b moved once pairs)
        ∙ ap (λ (digits : ℕ → Option ℕ). is_prefix_character (canonical_of b) digits) (digits_same a b moved once)

    prefixed_same : is_badly_prefixed a a ≡ is_badly_prefixed b b
    prefixed_same = fun_ext by
      where
        by : (r : Record) → is_badly_prefixed a a r ≡ is_badly_prefixed b b r
        by (weights layer (p ∷ ps) text es) =
            ap (λ (is : ℕ → Bool). not (list_all is (p ∷ ps) && may_follow_prefix a a text)) prefix_same
            ∙ ap (λ (may : List ℕ → Bool). not (list_all (is_prefix_character (canonical_of b) (digit_of b)) (p ∷ ps) && may text)) follow_same
        by _ = refl

    pub prefixes_moved : NoneOffends V10 a → NoneOffends V10 b
    prefixes_moved =
        together (λ lines. breaks_prefixes b lines ≡ true) (λ lines. breaks_prefixes a lines ≡ true) (prefixes_stay b)
        (any_moved (is_badly_prefixed a a) (is_badly_prefixed b b) prefixed_same) false≢true

    further_same : is_further a ≡ is_further b
    further_same = fun_ext (λ c. fun_ext (by c))
      where
        by : (c : ℕ) (r : Record) → is_further a c r ≡ is_further b c r
        by c (weights layer prefix text es) =
            ap (λ (is : Layer → List ℕ → List ℕ → Bool). begins_with c text && not (is_alone prefix text) && not (is layer prefix text)) (replaced_same a b moved once)
        by c _ = refl

    any_further : (c : ℕ) → list_any (is_further a c) a ≡ list_any (is_further b c) b
    any_further c =
        list_any-IsPermutation (is_further a c) a b moved ∙ ap (λ (further : ℕ → Record → Bool). list_any (further c) b) further_same

    digit_same : is_bad_digit a a ≡ is_bad_digit b b
    digit_same = fun_ext by
      where
        by : (r : Record) → is_bad_digit a a r ≡ is_bad_digit b b r
        by (digit c v) =
            ap (λ (canonical : Canonical). not (may_be_digit canonical (is_recorded_in (weights_of a)) c) || list_any (is_further a c) a) (canonical_same a b moved once pairs)
            ∙ ap (λ (is_recorded : List ℕ → List ℕ → Bool). not (may_be_digit (canonical_of b) is_recorded c) || list_any (is_further a c) a) (recorded_same a b moved once)
            ∙ ap (λ (t : Bool). not (may_be_digit (canonical_of b) (is_recorded_in (weights_of b)) c) || t) (any_further c)
        by _ = refl

    pub digits_moved : NoneOffends V11 a → NoneOffends V11 b
    digits_moved =
        together (λ lines. breaks_digits b lines ≡ true) (λ lines. breaks_digits a lines ≡ true) (digits_stay b)
        (any_moved (is_bad_digit a a) (is_bad_digit b b) digit_same) false≢true

    otherwise_same : (c : ℕ) → is_otherwise a c ≡ is_otherwise b c
    otherwise_same c = fun_ext by
      where
        by : (r : Record) → is_otherwise a c r ≡ is_otherwise b c r
        by (weights layer prefix text es) =
            ap (λ (is : Layer → List ℕ → List ℕ → Bool).
            (begins_with c text && not (is_alone prefix text) && not (is layer prefix text))
            || (is_alone prefix text && begins_with c text && not (is layer prefix text) && not (is_common_secondary es)))
            (replaced_same a b moved once)
        by _ = refl

    dotted_same : is_bad_dotted a a ≡ is_bad_dotted b b
    dotted_same = fun_ext by
      where
        by : (c : ℕ) → is_bad_dotted a a c ≡ is_bad_dotted b b c
        by c =
            ap (λ (is_recorded : List ℕ → List ℕ → Bool). not (is_recorded [] (c ∷ [])) || list_any (is_otherwise a c) a) (recorded_same a b moved once)
            ∙ ap (λ (t : Bool). not (is_recorded_in (weights_of b) [] (c ∷ [])) || t)
            (list_any-IsPermutation (is_otherwise a c) a b moved
            ∙ ap (λ (test : Record → Bool). list_any test b) (otherwise_same c))

    dot_above_same : breaks_dot_above b b ≡ true → breaks_dot_above a a ≡ true
    dot_above_same h =
        ap (λ (t : Bool). t && list_any (is_bad_dotted a a) dotted_marks) (equal_settings a b moved once).values.dot_above
        ∙ ap (λ (is : ℕ → Bool). set_to dot_above_in false b && list_any is dotted_marks) dotted_same ∙ h

    pub dot_above_moved : NoneOffends V15 a → NoneOffends V15 b
    dot_above_moved =
        together (λ lines. breaks_dot_above b lines ≡ true) (λ lines. breaks_dot_above a lines ≡ true) (dot_above_stays b) dot_above_same false≢true

    -- ---- Weights

    leads_same : leads_to a a ≡ leads_to b b
    leads_same =
        ap (λ (is_compressible : ℕ → Bool). leads_alone is_compressible (numeric_to a a)) (fun_ext (equal_settings a b moved once).compressible)
        ∙ ap (λ (o : Option ℕ). leads_alone (is_compressible_in b) (cond ((unwrap_or o 0x10 == 0x10) || is_some o) (unwrap_or o 0x10) 0)) (numeric_alike a b moved once)

    elements_moved : IsPermutation (given_elements a) (given_elements b)
    elements_moved = flat_map_moved elements_of a b moved

    ranges_moved : IsPermutation (given_ranges a) (given_ranges b)
    ranges_moved = flat_map_moved ranges_of a b moved

    element_of_a : (e : Element) → Contains (given_elements b) e → Contains (given_elements a) e
    element_of_a e h = Contains-permutation (given_elements b) (given_elements a) e (IsPermutation-sym (given_elements a) (given_elements b) elements_moved) h

    range_of_a : (r : Range) → Contains (given_ranges b) r → Contains (given_ranges a) r
    range_of_a r h = Contains-permutation (given_ranges b) (given_ranges a) r (IsPermutation-sym (given_ranges a) (given_ranges b) ranges_moved) h

    -- what doesn't pass in the one order doesn't in the other
    refused : (p q : Bool) → (q ≡ true → p ≡ true) → p ≡ false → q ≡ false
    refused p q passes h = false_from_ne_true q (λ t. false≢true (sym h ∙ passes t))

    all_moved : (p q : Element → Bool) → q ≡ p → list_all q (given_elements a) ≡ true → list_all p (given_elements b) ≡ true
    all_moved p q same h =
        list_all_from p (given_elements b) (λ e k. subst (λ (test : Element → Bool). test e ≡ true) same (list_all_tells q (given_elements a) h e (element_of_a e k)))

    pub primaries_moved : NoneOffends V2 a → NoneOffends V2 b
    primaries_moved =
        staying (BreakPrimaries b) (BreakPrimaries a) (primaries_stay b)
        (refused _ _ (all_moved (has_sound_primary (leads_to b b)) (has_sound_primary (leads_to a a)) (ap has_sound_primary leads_same)))
        (λ h. false≢true (sym h))

    pub apart_moved : NoneOffends V5 a → NoneOffends V5 b
    apart_moved =
        staying BreakApart BreakApart (apart_stays b)
        (refused _ _ (λ t. apart_from (given_elements b) (λ d e h k. apart_tells (given_elements a) t d e (element_of_a d h) (element_of_a e k))))
        (λ h. false≢true (sym h))

    sound_ranges : are_sound_ranges (leads_to a a) (given_ranges a) (given_elements a) ≡ true → are_sound_ranges (leads_to b b) (given_ranges b) (given_elements b) ≡ true
    sound_ranges t =
        let sound : List Range → Weights → Bool = λ rs leads. list_all (is_sound_range leads) rs in
        let beside : List Range → List Element → Bool = λ rs es. list_all (λ r. list_all (is_of_other_lead r) es) rs in
        let two = and_parts (sound (given_ranges a) (leads_to a a) && are_all_disjoint (given_ranges a)) (beside (given_ranges a) (given_elements a)) t in
        let first = and_parts (sound (given_ranges a) (leads_to a a)) (are_all_disjoint (given_ranges a)) two.0 in
        and_from (sound (given_ranges b) (leads_to b b) && are_all_disjoint (given_ranges b)) (beside (given_ranges b) (given_elements b))
        (and_from (sound (given_ranges b) (leads_to b b)) (are_all_disjoint (given_ranges b))
        (list_all_from (is_sound_range (leads_to b b)) (given_ranges b)
        (λ r h. subst (λ (leads : Weights). is_sound_range leads r ≡ true) leads_same (list_all_tells (is_sound_range (leads_to a a)) (given_ranges a) first.0 r (range_of_a r h))))
        (disjoint_of_distinct (given_ranges b)
        (IsDistinct-IsPermutation share share_flips (given_ranges a) (given_ranges b) ranges_moved (distinct_of_disjoint (given_ranges a) first.1))))
        (list_all_from (λ r. list_all (is_of_other_lead r) (given_elements b)) (given_ranges b)
        (λ r h. all_moved (is_of_other_lead r) (is_of_other_lead r) refl (list_all_tells (λ s. list_all (is_of_other_lead s) (given_elements a)) (given_ranges a) two.1 r (range_of_a r h))))

    pub ranges_rule_moved : NoneOffends V6 a → NoneOffends V6 b
    ranges_rule_moved =
        staying (BreakRanges b) (BreakRanges a) (ranges_stay_broken b) (refused _ _ sound_ranges) (λ h. false≢true (sym h))
