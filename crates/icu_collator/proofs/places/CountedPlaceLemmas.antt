-- Elements that count, at their places: numbers are shifted whole or not at all.
use Rattle.std.proofs.Common.{◌≡◌, ◌≢◌, ℕ, zero, suc, ◌<◌, ◌≤◌, ◌+◌, ◌*◌, ◌/◌, ◌%◌, ◌^◌, Bool, true, false, cond, List, [], ◌∷◌, length, refl, sym, ◌∙◌, ap, subst, arith, inl, inr, ◌⊎◌}
use Rattle.std.proofs.lemmas.Bool.{cases_eq, cases_lt, cond_both, and_parts, ltb-true, lt-ltb, eqb-true, eqb-false, eq-eqb, ne_eqb}
use Rattle.std.proofs.lemmas.Bool.Decides.{nat_tests}
use mathlib.Core.Bool.{true≢false}
use Rattle.std.specs.Prelude.{◌==◌, ◌&&◌, ◌||◌, not, leb, ltb, get_or}
use Rattle.std.specs.List.{list_all}
use Rattle.icu_normalizer_core.specs.BuiltIn.{is_within}
use Rattle.icu_collator_types.specs.declared.elements.Element.{Element}
use Rattle.icu_collator_types.specs.declared.options.ResolvedCollatorOptions.{ResolvedCollatorOptions}
use Rattle.icu_collator_types.specs.Options.{is_numeric, is_shifted, group_index}
use Rattle.icu_collator_core.specs.Collation.{Collation, reordered_lead}
use Rattle.icu_collator_core.specs.Defaults.{primary_element}
use Rattle.icu_collator_core.specs.WeightRules.{AreSoundWeights, IsRecorded}
use Rattle.icu_collator_core.specs.SettingRules.{is_sound_group, never_falls}
use Rattle.icu_collator.specs.Settings.{AreSoundSettings}
use Rattle.icu_collator.specs.Shifted.{Counted, whole, variable, is_variable, counted_behind}
use Rattle.icu_collator.proofs.places.PrimaryPlaceLemmas.{Place, outside, inside, place_behind, IsLetter, recorded, fixed, IsOriginal, IsPrimaryAt, recorded_lead, within_bounds, reordered_lead_is, reordered_second}
use Rattle.icu_collator.proofs.places.NumberPlaceLemmas.{IsElement, element_behind, Reaches}
use Rattle.icu_collator.proofs.places.SoundWeightLemmas.{IsSecondaryWeight, IsTertiaryWeight, sound_kind, case_small, quaternary_small}

-- where a number's elements are variable all of them count at the quaternary level, and else at the others
abbrev pub shifted_side : Bool → Place → Place
shifted_side is_var place = cond is_var place outside

abbrev pub whole_side : Bool → Place → Place
whole_side is_var place = cond is_var outside place

pub same_side : (v : Bool) → shifted_side v outside ≡ outside
same_side true = refl
same_side false = refl

pub same_whole : (v : Bool) → whole_side v outside ≡ outside
same_whole true = refl
same_whole false = refl

-- a test of all is a test of each that is there
each_group : (p : ℕ → Bool) (gs : List ℕ) (n : ℕ) → list_all p gs ≡ true → (p (get_or gs n 0) ≡ true) ⊎ (get_or gs n 0 ≡ 0)
each_group p [] n h = inr refl
each_group p (g ∷ gs) zero h = inl (and_parts (p g) (list_all p gs) h).0
each_group p (g ∷ gs) (suc n) h = each_group p gs n (and_parts (p g) (list_all p gs) h).1

past_within : (a b g : ℕ) → not (is_within a b g) ≡ true → a ≤ g → b < g
past_within a b g h low = grind (arith, nat_tests)

both_below : (p q n : ℕ) → p < n → q < n → ltb p n ≡ ltb q n
both_below p q n h g = grind (arith, nat_tests)

both_above : (p q n : ℕ) → n ≤ p → n ≤ q → ltb p n ≡ ltb q n
both_above p q n h g = grind (arith, nat_tests)

-- primaries of one lead lie on one side of a group's end
group_side : (lead group p : ℕ) → (is_sound_group lead group ≡ true) ⊎ (group ≡ 0) → p / 2 ^ 24 ≡ lead → ltb p (group * 2 ^ 16) ≡ ltb (lead * 2 ^ 24) (group * 2 ^ 16)
group_side lead group p (inr none) e = both_above p (lead * 2 ^ 24) (group * 2 ^ 16) (omega (arith, none)) (omega (arith, none))
group_side lead group p (inl sound) e =
    let apart : not (is_within (lead * 256 + 1) (lead * 256 + 255) group) ≡ true = (and_parts (leb 0x300 group) (not (is_within (lead * 256 + 1) (lead * 256 + 255) group)) sound).1
    in elim (cases_lt (lead * 2 ^ 24) (group * 2 ^ 16)) [
      | inl below ↦
          let far = past_within (lead * 256 + 1) (lead * 256 + 255) group apart (omega (arith, below))
          in both_below p (lead * 2 ^ 24) (group * 2 ^ 16) (omega (arith, far, e)) below
      | inr above ↦ both_above p (lead * 2 ^ 24) (group * 2 ^ 16) (omega (arith, above, e)) above
    ]

kinds : (p s t c u : Bool) → p ≡ false → ((not p && not s && not t) || (p && not s && not t) || (p && s && c && u)) ≡ true → s ≡ false
kinds true s t c u h k = absurd (true≢false h)
kinds false false t c u h k = refl
kinds false true t c u h k = absurd (true≢false (sym k))

module _ (collation : Collation) (sound : AreSoundWeights collation.weights) (settings : AreSoundSettings collation) (options : ResolvedCollatorOptions) where
  abbrev numeric_lead : ℕ
  numeric_lead = collation.weights.numeric_lead

  abbrev pub numeric_on : Bool
  numeric_on = is_numeric options.numeric

  abbrev pub IsAt : Place → ℕ → Type 0
  IsAt = IsPrimaryAt collation sound settings options

  -- the place after a primary with its lead reordered
  abbrev pub next : Place → ℕ → Place
  next place q = place_behind (q / 2 ^ 24 == reordered_lead collation numeric_lead) q place

  abbrev pub IsOutside : Place → Type 0
  IsOutside place = place ≡ outside

  abbrev behind : Place → Element → Place
  behind place e = element_behind collation.weights sound numeric_on place e

  lead_high : 3 ≤ numeric_lead
  lead_high = (within_bounds 3 0xfc numeric_lead settings.numeric_lead).0

  groups_sound : list_all (is_sound_group numeric_lead) collation.groups ≡ true
  groups_sound =
      let all = and_parts ((length collation.groups == 4) && list_all (is_sound_group numeric_lead) collation.groups) (never_falls collation.groups) settings.groups
      in (and_parts (length collation.groups == 4) (list_all (is_sound_group numeric_lead) collation.groups) all.0).1

  -- whether numbers are variable
  abbrev pub numbers_vary : Bool
  numbers_vary = is_shifted options.alternate_handling && ltb (numeric_lead * 2 ^ 24) (get_or collation.groups (group_index options.max_variable) 0 * 2 ^ 16)

  three_tests : (s a b c : Bool) → a ≡ true → b ≡ c → (s && a && b) ≡ (s && c)
  three_tests true true b c h e = e
  three_tests true false b c h e = cc
  three_tests false a b c h e = refl

  number_varies : (e : Element) → e.primary / 2 ^ 24 ≡ numeric_lead → is_variable collation options e ≡ numbers_vary
  number_varies e h =
      let high = lead_high
      in three_tests (is_shifted options.alternate_handling) _ _ _ (lt-ltb 0x02000000 e.primary (omega (arith, high, h)))
      (group_side numeric_lead (get_or collation.groups (group_index options.max_variable) 0) e.primary (each_group (is_sound_group numeric_lead) collation.groups (group_index options.max_variable) groups_sound) h)

  -- an element stands alone, or is of a number
  data Step (place : Place) (e : Element) : Type 0 where
    alone : place ≡ outside → behind place e ≡ outside → Step place e
    part : e.primary / 2 ^ 24 ≡ numeric_lead → Step place e

  not_numeric : (place : Place) (p : ℕ) → p / 2 ^ 24 ≢ numeric_lead → place_behind (p / 2 ^ 24 == numeric_lead) p place ≡ outside
  not_numeric place p h = rw (ne_eqb (p / 2 ^ 24) numeric_lead h) refl

  recorded_step : (e : Element) → IsRecorded collation.weights e → e.primary / 2 ^ 24 ≢ numeric_lead
  recorded_step e is h =
      elim (cases_eq e.primary 0) [
        | inl none ↦ let high = lead_high in absurd (omega (arith, none, h, high))
        | inr some ↦ (recorded_lead collation.weights sound numeric_on e is some).1 h
      ]

  letter_step : (p : ℕ) → IsLetter collation.weights p → p / 2 ^ 24 ≢ numeric_lead
  letter_step p (recorded e is some) h = (recorded_lead collation.weights sound numeric_on e is some).1 h
  letter_step p (fixed q lead wide low small numeric room) h = numeric h

  original_step : (place : Place) (p : ℕ) → IsOriginal collation.weights sound numeric_on place p → Step place (primary_element p)
  original_step outside p (inl letter) = alone refl (not_numeric outside p (letter_step p letter))
  original_step outside p (inr number) = part number.0
  original_step inside p number = part number.0

  step : (place : Place) (e : Element) → IsElement collation.weights sound numeric_on place e → Step place e
  step place e (inl (out, is)) = alone out (not_numeric place e.primary (recorded_step e is))
  step place e (inr (p, is, same)) = subst (λ d. Step place d) (sym same) (original_step place p is)

  -- what the levels below the primary one take of an element
  pub record IsWeighed (e : Element) : Type 0 where
    pub with_secondary : e.primary ≢ 0 → e.secondary ≢ 0
    pub secondary : e.secondary ≢ 0 → IsSecondaryWeight collation.weights sound e.secondary
    pub tertiary : e.tertiary ≢ 0 → IsTertiaryWeight collation.weights sound e.tertiary
    pub case : e.case ≤ 2
    pub quaternary : e.quaternary ≤ 3

  kind_secondary : (e : Element) → IsRecorded collation.weights e → e.primary ≢ 0 → e.secondary ≢ 0
  kind_secondary e is some none =
      let no_primary : (e.primary == 0) ≡ false = ne_eqb e.primary 0 some
      in let has : (e.secondary == 0) ≡ false = kinds (e.primary == 0) (e.secondary == 0) (e.tertiary == 0) (e.case == 2) (leb 0x06 (e.tertiary / 256)) no_primary (sound_kind collation.weights sound e is)
      in eqb-false e.secondary 0 has none

  weighed : (place : Place) (e : Element) → IsElement collation.weights sound numeric_on place e → IsWeighed e
  weighed place e (inl (out, is)) =
      record {
        with_secondary = kind_secondary e is;
        secondary = λ some. inr (e, is, some, refl);
        tertiary = λ some. inr (e, is, some, refl);
        case = case_small collation.weights sound e is;
        quaternary = quaternary_small collation.weights sound e is;
      }
  weighed place e (inr (p, is, same)) =
      let common : IsWeighed (primary_element p) =
      record { with_secondary = λ some none. omega (arith, none); secondary = λ some. inl refl; tertiary = λ some. inl refl; case = omega arith; quaternary = omega arith }
      in subst IsWeighed (sym same) common

  original_at : (place : Place) (e : Element) → IsElement collation.weights sound numeric_on place e → e.primary ≢ 0 → IsOriginal collation.weights sound numeric_on place e.primary
  original_at outside e (inl (out, is)) some = inl (recorded e is some)
  original_at inside e (inl (out, is)) some = absurd (never out)
    where
      never : inside ≡ outside → ⊥
      never h = cc
  original_at place e (inr (p, is, same)) some = subst (λ (d : Element). IsOriginal collation.weights sound numeric_on place d.primary) (sym same) is

  primary_stands : (place : Place) (e : Element) → IsElement collation.weights sound numeric_on place e → e.primary ≢ 0 → IsAt place (collation.reordered e.primary)
  primary_stands place e is some = (e.primary, original_at place e is some, refl)

  -- reordering moves no place
  same_lead : (p : ℕ) → (collation.reordered p / 2 ^ 24 == reordered_lead collation numeric_lead) ≡ (p / 2 ^ 24 == numeric_lead)
  same_lead p =
      let at : collation.reordered p / 2 ^ 24 ≡ reordered_lead collation (p / 2 ^ 24) = reordered_lead_is collation sound settings options p
      in elim (cases_eq (p / 2 ^ 24) numeric_lead) [
        | inl e ↦ eq-eqb _ _ (at ∙ ap (reordered_lead collation) e) ∙ sym (eq-eqb _ _ e)
        | inr ne ↦ ne_eqb _ _ (λ h. ne (settings.one_to_one _ _ (sym at ∙ h))) ∙ sym (ne_eqb _ _ ne)
      ]

  parity_stays : (a b : ℕ) → (a * 2 ^ 24 + b % 2 ^ 24) % 2 ≡ b % 2
  parity_stays a b = omega arith

  same_parity : (p : ℕ) → collation.reordered p % 2 ≡ p % 2
  same_parity p = ap (λ (x : ℕ). x % 2) (settings.rest p) ∙ parity_stays (reordered_lead collation (p / 2 ^ 24)) p

  same_behind : (is : Bool) (p : ℕ) (place : Place) → place_behind is (collation.reordered p) place ≡ place_behind is p place
  same_behind is p outside = rw (same_parity p, reordered_second collation sound settings options p) refl
  same_behind is p inside = rw (same_parity p) refl

  next_is : (place : Place) (e : Element) → next place (collation.reordered e.primary) ≡ behind place e
  next_is place e = ap (λ is. place_behind is (collation.reordered e.primary) place) (same_lead e.primary) ∙ same_behind (e.primary / 2 ^ 24 == numeric_lead) e.primary place

  -- ---- elements that count, at their places: of shifted primaries, and of the others
  abbrev pub whole_behind : Place → Element → Place
  whole_behind place e = cond (e.primary == 0) place (next place (collation.reordered e.primary))

  abbrev pub Flow : Place → Place → List Counted → Type 0
  Flow s w [] = Unit {0}
  Flow s w (variable p ∷ cs) = (is_shifted options.alternate_handling ≡ true) × IsAt s (collation.reordered p) × Flow (next s (collation.reordered p)) w cs
  Flow s w (whole e ∷ cs) = (s ≡ outside) × IsWeighed e × (e.primary ≢ 0 → IsAt w (collation.reordered e.primary)) × Flow s (whole_behind w e) cs

  varied : (v : Bool) (place : Place) (e : Element) (cs : List Counted) → IsElement collation.weights sound numeric_on place e → is_shifted options.alternate_handling ≡ true → e.primary ≢ 0
      → (e.primary / 2 ^ 24 ≡ numeric_lead → v ≡ true)
      → Flow (shifted_side v (behind place e)) (whole_side v (behind place e)) cs → Flow (shifted_side v place) (whole_side v place) (variable e.primary ∷ cs)
  varied v place e cs is on some vary h = by_step (step place e is)
    where
      by_step : Step place e → Flow (shifted_side v place) (whole_side v place) (variable e.primary ∷ cs)
      by_step (alone out gone) =
          let here : shifted_side v place ≡ outside = rw out (same_side v)
          in let there : whole_side v place ≡ outside = rw out (same_whole v)
          in let after : next outside (collation.reordered e.primary) ≡ shifted_side v (behind place e) = subst (λ p. next p (collation.reordered e.primary) ≡ behind p e) out (next_is place e) ∙ subst (λ p. behind p e ≡ outside) out gone ∙ sym (same_side v) ∙ ap (shifted_side v) (sym gone)
          in let after_whole : outside ≡ whole_side v (behind place e) = sym (same_whole v) ∙ ap (whole_side v) (sym gone)
          in rw (here, there) (on, subst (λ p. IsAt p (collation.reordered e.primary)) out (primary_stands place e is some), subst (λ s. Flow s outside cs) (sym after) (subst (λ w. Flow (shifted_side v (behind place e)) w cs) (sym after_whole) h))
      by_step (part lead) = by_answer v (vary lead) h
        where
          by_answer : (v : Bool) → v ≡ true → Flow (shifted_side v (behind place e)) (whole_side v (behind place e)) cs → Flow (shifted_side v place) (whole_side v place) (variable e.primary ∷ cs)
          by_answer true t g = (on, primary_stands place e is some, subst (λ s. Flow s outside cs) (sym (next_is place e)) g)
          by_answer false t g = absurd (true≢false (sym t))

  whole_stands : (v : Bool) (place : Place) (e : Element) (cs : List Counted) → IsElement collation.weights sound numeric_on place e
      → (e.primary / 2 ^ 24 ≡ numeric_lead → v ≡ false)
      → Flow (shifted_side v (behind place e)) (whole_side v (behind place e)) cs → Flow (shifted_side v place) (whole_side v place) (whole e ∷ cs)
  whole_stands v place e cs is vary h = by_step (step place e is)
    where
      none_behind : (p : Place) → p ≡ outside → e.primary ≡ 0 → p ≡ behind place e → whole_behind p e ≡ behind place e
      none_behind p out none same = rw (eq-eqb e.primary 0 none) same

      some_behind : (p : Place) → p ≡ place → e.primary ≢ 0 → whole_behind p e ≡ behind place e
      some_behind p same some = rw (ne_eqb e.primary 0 some) (ap (λ q. next q (collation.reordered e.primary)) same ∙ next_is place e)

      moved : (p : Place) → p ≡ place → (e.primary ≡ 0 → (place ≡ outside) × (behind place e ≡ outside)) → whole_behind p e ≡ behind place e
      moved p same zero_primary =
          elim (cases_eq e.primary 0) [
            | inl none ↦ let both = zero_primary none in none_behind p (same ∙ both.0) none (same ∙ both.0 ∙ sym both.1)
            | inr some ↦ some_behind p same some
          ]

      by_step : Step place e → Flow (shifted_side v place) (whole_side v place) (whole e ∷ cs)
      by_step (alone out gone) =
          let here : shifted_side v place ≡ outside = ap (shifted_side v) out ∙ same_side v
          in let there : whole_side v place ≡ place = ap (whole_side v) out ∙ same_whole v ∙ sym out
          in let after : whole_side v (behind place e) ≡ whole_behind (whole_side v place) e = ap (whole_side v) gone ∙ same_whole v ∙ sym gone ∙ sym (moved (whole_side v place) there (λ none. (out, gone)))
          in let side : shifted_side v (behind place e) ≡ shifted_side v place = ap (shifted_side v) (gone ∙ sym out)
          in (here, weighed place e is, λ some. subst (λ p. IsAt p (collation.reordered e.primary)) (sym there) (primary_stands place e is some), subst (λ s. Flow s (whole_behind (whole_side v place) e) cs) side (subst (λ w. Flow (shifted_side v (behind place e)) w cs) after h))
      by_step (part lead) = by_answer v (vary lead) h
        where
          high : 0 < e.primary
          high = let low = lead_high in omega (arith, low, lead)

          by_answer : (v : Bool) → v ≡ false → Flow (shifted_side v (behind place e)) (whole_side v (behind place e)) cs → Flow (shifted_side v place) (whole_side v place) (whole e ∷ cs)
          by_answer true t g = absurd (true≢false t)
          by_answer false t g = (refl, weighed place e is, primary_stands place e is, subst (λ w. Flow outside w cs) (sym (moved place refl (λ none. absurd (omega (arith, none, high))))) g)

  ignored : (v : Bool) (place : Place) (e : Element) (cs : List Counted) → IsElement collation.weights sound numeric_on place e → e.primary ≡ 0
      → Flow (shifted_side v (behind place e)) (whole_side v (behind place e)) cs → Flow (shifted_side v place) (whole_side v place) cs
  ignored v place e cs is none h = by_step (step place e is)
    where
      by_step : Step place e → Flow (shifted_side v place) (whole_side v place) cs
      by_step (alone out gone) = subst (λ p. Flow (shifted_side v p) (whole_side v p) cs) (gone ∙ sym out) h
      by_step (part lead) = let low = lead_high in absurd (omega (arith, low, lead, none))

  -- what makes an element variable
  variable_is : (e : Element) → is_variable collation options e ≡ true → (is_shifted options.alternate_handling ≡ true) × (e.primary ≢ 0)
  variable_is e h =
      let first = and_parts (is_shifted options.alternate_handling && ltb 0x02000000 e.primary) (ltb e.primary (get_or collation.groups (group_index options.max_variable) 0 * 2 ^ 16)) h
      in let both = and_parts (is_shifted options.alternate_handling) (ltb 0x02000000 e.primary) first.0
      in let above = ltb-true 0x02000000 e.primary both.1
      in (both.0, λ none. omega (arith, above, none))

  pub counted_flow : (place : Place) (is_behind : Bool) (es : List Element) → Reaches collation.weights sound numeric_on place es outside
      → Flow (shifted_side numbers_vary place) (whole_side numbers_vary place) (counted_behind collation options is_behind es)
  unfolding counted_behind
  counted_flow place is_behind [] h = tt
  counted_flow place is_behind (e ∷ es) h =
      let v = numbers_vary
      in cond_both (is_variable collation options e) (variable e.primary ∷ counted_behind collation options true es) _ (Flow (shifted_side v place) (whole_side v place))
      (λ is. let both = variable_is e is in varied v place e (counted_behind collation options true es) h.0 both.0 both.1 (λ lead. sym (number_varies e lead) ∙ is) (counted_flow (behind place e) true es h.1))
      (λ not. cond_both (is_behind && (e.primary == 0)) (counted_behind collation options true es) (whole e ∷ counted_behind collation options false es) (Flow (shifted_side v place) (whole_side v place))
      (λ is. ignored v place e (counted_behind collation options true es) h.0 (eqb-true e.primary 0 (and_parts is_behind (e.primary == 0) is).1) (counted_flow (behind place e) true es h.1))
      (λ _. whole_stands v place e (counted_behind collation options false es) h.0 (λ lead. sym (number_varies e lead) ∙ not) (counted_flow (behind place e) false es h.1)))
