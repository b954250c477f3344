-- The tests of one character fail just where the tables contradict what is built in of it.
use Rattle.std.proofs.Common.{◌≡◌, ◌≢◌, ℕ, zero, suc, ◌<◌, ◌≤◌, inl, inr, ⊎_elim, Bool, true, false, not, ◌==◌, ◌&&◌, ◌||◌, leb, List, [], ◌∷◌, length, take, Option, Some, None, nat_eq, refl, sym, ap, subst, ◌∙◌, arith}
use Rattle.std.specs.List.{list_any, Contains}
use Rattle.std.specs.Cmp.Lexicographic.{pointwise, same_text, other_text}
use Rattle.std.proofs.lemmas.List.{take_all, length-take}
use Rattle.std.proofs.lemmas.Bool.{and_cases, and_left, and_right, cases_Bool, cond-true, cond-false, ne_eqb, eqb-false, false≢true, or_from, or_left, or_parts, or_right}
use Rattle.std.proofs.lemmas.Bool.Decides.{nat_tests}
use Rattle.std.proofs.lemmas.Option.{same_Some}
use Rattle.icu_normalizer_core.specs.BuiltIn.{is_syllable, is_jamo, singled_out, built_in_step, built_in_class}
use Rattle.icu_normalizer_core.specs.BuiltInTests.{is_nothing, is_letter, is_class, is_listed_step, is_full_list, is_starter_if_low, is_unmapped_if_low, names_no_letter, agrees}
use Rattle.icu_normalizer_core.specs.CanonicalFaults.{ContradictsClass, ContradictsStep, ContradictsFull, IsLowMark, IsLowMapped, MapsToLetter, OffendsBuiltIn}
use Rattle.icu_normalizer_core.specs.CanonicalLists.{CanonicalLists, canonical_of, listed_step}
use Rattle.icu_normalizer_core.specs.CanonicalWords.{is_inside, built_in_full, syllable_letters}
use Rattle.icu_normalizer_core.proofs.built.BuiltInFacts.{all_singled_out, letters_short, low_free}
use Rattle.icu_normalizer_core.proofs.accepted.TableMeanings.{step_free}

-- ---- Lists

nothing_told : (xs : List ℕ) → is_nothing xs ≡ true → xs ≡ []
nothing_told [] e = refl
nothing_told (x ∷ xs) e = absurd (false≢true e)

something_told : (xs : List ℕ) → is_nothing xs ≡ false → xs ≢ []
something_told [] e = absurd (false≢true (sym e))
something_told (x ∷ xs) e = λ none. cc

something_fails : (xs : List ℕ) → xs ≢ [] → is_nothing xs ≡ false
something_fails [] ne = absurd (ne refl)
something_fails (x ∷ xs) ne = refl

other_fails : (xs ys : List ℕ) → xs ≢ ys → pointwise nat_eq xs ys ≡ false
other_fails xs ys ne = ⊎_elim (λ t. absurd (ne (same_text xs ys (sym t)))) (λ f. f) (cases_Bool (pointwise nat_eq xs ys))

-- a list that begins like a short one is that one
pub short_start : (n : ℕ) (xs ys : List ℕ) → length ys < n → take n xs ≡ ys → xs ≡ ys
short_start n xs ys short e =
    let size : length (take n xs) ≡ length ys = ap length e in
    let cut = length-take n xs in
    sym (take_all n xs (omega arith)) ∙ e

-- ---- Letters among a list

any_from : (p : ℕ → Bool) (xs : List ℕ) (d : ℕ) → Contains xs d → p d ≡ true → list_any p xs ≡ true
any_from p [] d (k, lt, e) t = absurd (omega arith)
any_from p (x ∷ xs) d (zero, lt, e) t = or_left (p x) (list_any p xs) (ap p e ∙ t)
any_from p (x ∷ xs) d (suc k, lt, e) t = or_right (p x) (list_any p xs) (any_from p xs d (k, (omega arith), e) t)

any_found : (p : ℕ → Bool) (xs : List ℕ) → list_any p xs ≡ true → (d : ℕ) × Contains xs d × (p d ≡ true)
any_found p [] e = absurd (false≢true e)
any_found p (x ∷ xs) e =
    ⊎_elim
    (λ t. (x, (0, (omega arith), refl), t))
    (λ f.
    let rest : list_any p xs ≡ true = sym (ap (λ (t : Bool). t || list_any p xs) f) ∙ e in
    let w = any_found p xs rest in
    (w.0, (suc w.1.0, (let h = w.1.1 in omega arith), w.1.2), w.2))
    (cases_Bool (p x))

-- ---- Built-in lists are short

pub full_short : (c : ℕ) (list : List ℕ) → built_in_full c ≡ Some list → length list ≤ 3
unfolding built_in_full
full_short c list e =
    ⊎_elim
    (λ t. subst (λ (xs : List ℕ). length xs ≤ 3) (same_Some _ list (sym (cond-true (is_syllable c) _ _ t) ∙ e)) (letters_short c))
    (λ f. let rest = sym (cond-false (is_syllable c) (Some (syllable_letters c)) _ f) ∙ e in
    ⊎_elim
    (λ t. subst (λ (xs : List ℕ). length xs ≤ 3) (same_Some (c ∷ []) list (sym (cond-true _ _ (singled_out c) t) ∙ rest)) (omega arith))
    (λ g.
    all_singled_out (λ d ds. length ds ≤ 3) (omega arith) (omega arith) (omega arith) (omega arith) (omega arith) (omega arith) (omega arith)
    c list (sym (cond-false _ (Some (c ∷ [])) (singled_out c) g) ∙ rest))
    (cases_Bool (is_jamo c || (c == 0xfffd))))
    (cases_Bool (is_syllable c))

-- ---- Each cause and its test

module _ (lists : CanonicalLists) (c : ℕ) where
  abbrev class : ℕ
  class = (canonical_of lists).class c

  abbrev listed : List ℕ
  listed = listed_step lists.steps c

  abbrev full : List ℕ
  full = (canonical_of lists).full c

  abbrev inside : Bool
  inside = is_inside lists.scalars16 lists.scalars24 (lists.word c)

  class_fails : ContradictsClass lists c → is_class (built_in_class c) class ≡ false
  class_fails w = ap (λ (o : Option ℕ). is_class o class) w.1 ∙ ne_eqb class w.0 w.2

  class_told : (o : Option ℕ) → built_in_class c ≡ o → is_class o class ≡ false → ContradictsClass lists c
  class_told None e f = absurd (false≢true (sym f))
  class_told (Some k) e f = (k, e, eqb-false class k f)

  step_fails : ContradictsStep lists c → is_listed_step (built_in_step c) listed ≡ false
  step_fails w =
      ap (λ (o : Option (List ℕ)). is_listed_step o listed) w.1
      ∙ or_from (is_nothing listed) (pointwise nat_eq listed w.0) (something_fails listed w.2) (other_fails listed w.0 w.3)

  step_told : (o : Option (List ℕ)) → built_in_step c ≡ o → is_listed_step o listed ≡ false → ContradictsStep lists c
  step_told None e f = absurd (false≢true (sym f))
  step_told (Some ds) e f =
      let both = or_parts (is_nothing listed) (pointwise nat_eq listed ds) f in
      (ds, e, something_told listed both.0, other_text listed ds (sym both.1))

  full_fails : ContradictsFull lists c → is_full_list (built_in_full c) inside (take 9 full) ≡ false
  full_fails (list, e, outside) =
      let short = full_short c list e in
      ap (λ (o : Option (List ℕ)). is_full_list o inside (take 9 full)) e
      ∙ ⊎_elim
      (λ out. and_left inside (pointwise nat_eq (take 9 full) list) out)
      (λ other. and_right inside (pointwise nat_eq (take 9 full) list) (other_fails (take 9 full) list (λ s. other (short_start 9 full list (omega arith) s))))
      outside

  full_told : (o : Option (List ℕ)) → built_in_full c ≡ o → is_full_list o inside (take 9 full) ≡ false → ContradictsFull lists c
  full_told None e f = absurd (false≢true (sym f))
  full_told (Some list) e f =
      let short = full_short c list e in (
        list,
        e,
        ⊎_elim
            (λ out. inl out)
            (λ other. inr (λ same. other_text (take 9 full) list (sym other) (ap (take 9) same ∙ take_all 9 list (omega arith))))
            (and_cases inside (pointwise nat_eq (take 9 full) list) f),
      )

  low_fails : IsLowMark lists c → is_starter_if_low c class ≡ false
  low_fails w = let low = w.0 in let ne = w.1 in grind (arith, nat_tests)

  low_told : is_starter_if_low c class ≡ false → IsLowMark lists c
  low_told f =
      let both = or_parts (leb 0x300 c) (class == 0) f in
      (grind (arith, nat_tests, both), eqb-false class 0 both.1)

  unmapped_fails : IsLowMapped lists c → is_unmapped_if_low c listed ≡ false
  unmapped_fails w =
      let low = w.0 in
      let first : leb 0xc0 c ≡ false = grind (arith, nat_tests) in
      or_from (leb 0xc0 c) (is_nothing listed) first (something_fails listed (λ none. w.1 (step_free lists c (low_free c (omega arith)) ∙ none)))

  unmapped_told : is_unmapped_if_low c listed ≡ false → IsLowMapped lists c
  unmapped_told f =
      let both = or_parts (leb 0xc0 c) (is_nothing listed) f in
      let low : c < 0xc0 = grind (arith, nat_tests, both) in
      (low, λ none. something_told listed both.1 (sym (step_free lists c (low_free c (omega arith))) ∙ none))

  letter_fails : MapsToLetter lists c → names_no_letter (built_in_step c) listed ≡ false
  letter_fails w =
      let inside : Contains listed w.1.0 = subst (λ (xs : List ℕ). Contains xs w.1.0) (step_free lists c w.0) w.1.1 in
      ap (λ (o : Option (List ℕ)). names_no_letter o listed) w.0 ∙ ap not (any_from is_letter listed w.1.0 inside w.1.2)

  letter_told : (o : Option (List ℕ)) → built_in_step c ≡ o → names_no_letter o listed ≡ false → MapsToLetter lists c
  letter_told (Some ds) e f = absurd (false≢true (sym f))
  letter_told None e f =
      let any : list_any is_letter listed ≡ true = ⊎_elim (λ t. t) (λ g. absurd (false≢true (sym f ∙ ap not g))) (cases_Bool (list_any is_letter listed)) in
      let w = any_found is_letter listed any in
      (e, (w.0, subst (λ (xs : List ℕ). Contains xs w.0) (sym (step_free lists c e)) w.1, w.2))

  -- ---- All of them

  abbrev class_test : Bool
  class_test = is_class (built_in_class c) class

  abbrev starter_test : Bool
  starter_test = is_starter_if_low c class

  abbrev unmapped_test : Bool
  unmapped_test = is_unmapped_if_low c listed

  abbrev step_test : Bool
  step_test = is_listed_step (built_in_step c) listed

  abbrev letter_test : Bool
  letter_test = names_no_letter (built_in_step c) listed

  abbrev full_test : Bool
  full_test = is_full_list (built_in_full c) inside (take 9 full)

  -- the later tests, from one on
  abbrev from_full : Bool
  from_full = letter_test && full_test

  abbrev from_step : Bool
  from_step = step_test && from_full

  abbrev from_unmapped : Bool
  from_unmapped = unmapped_test && from_step

  abbrev from_starter : Bool
  from_starter = starter_test && from_unmapped

  pub offends_fails : OffendsBuiltIn lists c → agrees lists c ≡ false
  unfolding agrees
  offends_fails w = and_from_parts w
    where
      later : from_starter ≡ false → (class_test && from_starter) ≡ false
      later e = and_right class_test from_starter e

      past_starter : from_unmapped ≡ false → (class_test && from_starter) ≡ false
      past_starter e = later (and_right starter_test from_unmapped e)

      past_unmapped : from_step ≡ false → (class_test && from_starter) ≡ false
      past_unmapped e = past_starter (and_right unmapped_test from_step e)

      past_step : from_full ≡ false → (class_test && from_starter) ≡ false
      past_step e = past_unmapped (and_right step_test from_full e)

      and_from_parts : OffendsBuiltIn lists c → (class_test && from_starter) ≡ false
      and_from_parts (inl w) = and_left class_test from_starter (class_fails w)
      and_from_parts (inr (inl w)) = past_unmapped (and_left step_test from_full (step_fails w))
      and_from_parts (inr (inr (inl w))) = past_step (and_right letter_test full_test (full_fails w))
      and_from_parts (inr (inr (inr (inl w)))) = later (and_left starter_test from_unmapped (low_fails w))
      and_from_parts (inr (inr (inr (inr (inl w))))) = past_starter (and_left unmapped_test from_step (unmapped_fails w))
      and_from_parts (inr (inr (inr (inr (inr w))))) = past_step (and_left letter_test full_test (letter_fails w))

  pub fails_offends : agrees lists c ≡ false → OffendsBuiltIn lists c
  unfolding agrees
  fails_offends f =
      ⊎_elim (λ g. inl (class_told (built_in_class c) refl g))
      (λ rest. ⊎_elim (λ g. inr (inr (inr (inl (low_told g)))))
      (λ rest. ⊎_elim (λ g. inr (inr (inr (inr (inl (unmapped_told g))))))
      (λ rest. ⊎_elim (λ g. inr (inl (step_told (built_in_step c) refl g)))
      (λ rest. ⊎_elim (λ g. inr (inr (inr (inr (inr (letter_told (built_in_step c) refl g))))))
      (λ g. inr (inr (inl (full_told (built_in_full c) refl g))))
      (and_cases letter_test full_test rest)) (and_cases step_test from_full rest)) (and_cases unmapped_test from_step rest))
      (and_cases starter_test from_unmapped rest)) (and_cases class_test from_starter f)
