-- The primaries of texts keep the rules that the levels of a key need: of letters and of numbers, each at its place.
use Rattle.std.proofs.Common.{◌≡◌, ◌≢◌, ℕ, ◌<◌, ◌≤◌, ◌+◌, ◌*◌, ◌/◌, ◌%◌, ◌^◌, Bool, true, false, cond, List, [], ◌∷◌, length, Some, refl, sym, ◌∙◌, ap, arith, inl, inr, ◌⊎◌, ⊎_elim}
use Rattle.std.proofs.lemmas.Bool.{cases_Bool, cases_eq, and_parts, eqb-true, eqb-false, eq-eqb, ne_eqb, ltb-true}
use Rattle.std.proofs.lemmas.Bool.Decides.{nat_tests}
use mathlib.Core.Bool.{true≢false}
use Rattle.std.specs.Prelude.{◌==◌, ◌&&◌, ◌||◌, not, leb}
use Rattle.icu_normalizer_core.specs.BuiltIn.{is_within}
use Rattle.icu_collator_types.specs.declared.elements.Element.{Element}
use Rattle.icu_collator_types.specs.declared.options.ResolvedCollatorOptions.{ResolvedCollatorOptions}
use Rattle.icu_collator_core.specs.Weights.{Weights}
use Rattle.icu_collator_core.specs.Collation.{Collation, reordered_lead}
use Rattle.icu_collator_core.specs.WeightRules.{AreSoundWeights, IsRecorded, primary_bytes, primary_rest, is_proper_beginning, is_letter_lead, is_sound_primary, has_three_bytes}
use Rattle.icu_collator.specs.KeyBytes.{was_compressible}
use Rattle.icu_collator.specs.Settings.{AreSoundSettings, has_plain_leads}
use Rattle.icu_collator_types.specs.Options.{is_numeric}
use Rattle.icu_collator.proofs.keys.CommonAloneLemmas.{and_true}
use Rattle.icu_collator.proofs.keys.CompressedLemmas.{had_lead}
use Rattle.icu_collator.proofs.keys.PrimaryLevelLemmas.{ArePrimaries, none_starts}
use Rattle.icu_collator.proofs.keys.WeightBytesLemmas.{apart_begins, begins_tests, rest_two}

and_false : (b : Bool) → (b && false) ≡ false
and_false true = refl
and_false false = refl

-- lists that are as long don't begin each other
pub tested_equal : (a b : ℕ) → (a == b) ≡ true → a ≡ b
tested_equal a b h = grind (arith, nat_tests)

pub equal_tested : (a b : ℕ) → a ≡ b → (a == b) ≡ true
equal_tested a b h = grind (arith, nat_tests)

same_length_apart : (xs ys : List ℕ) → length xs ≡ length ys → is_proper_beginning xs ys ≡ false
unfolding is_proper_beginning
same_length_apart [] [] h = refl
same_length_apart [] (y ∷ ys) h = let never : ⊥ = omega (arith, h) in absurd never
same_length_apart (x ∷ xs) [] h = refl
same_length_apart (x ∷ xs) (y ∷ ys) h = rw (same_length_apart xs ys (omega (arith, h))) (and_false (x == y))

-- lists that begin with other bytes neither
other_first_apart : (x y : ℕ) (xs ys : List ℕ) → x ≢ y → is_proper_beginning (x ∷ xs) (y ∷ ys) ≡ false
unfolding is_proper_beginning
other_first_apart x y xs ys h = let other : (x == y) ≡ false = grind (arith, nat_tests) in rw other refl

pub within_bounds : (a b n : ℕ) → is_within a b n ≡ true → (a ≤ n) × (n ≤ b)
within_bounds a b n h = (grind (arith, nat_tests), grind (arith, nat_tests))

pub not_true : (b : Bool) → not b ≡ true → b ≡ false
not_true true h = sym h
not_true false h = refl

pub or_second : (a b : Bool) → a ≡ false → (a || b) ≡ true → b ≡ true
or_second true b h k = absurd (true≢false h)
or_second false b h k = k

-- what the rules say of a primary
pub record IsSoundPrimary (weights : Weights) (p : ℕ) : Type 0 where
  pub letter : is_letter_lead (p / 2 ^ 24) ≡ true
  pub differs : p / 2 ^ 24 ≢ weights.numeric_lead
  pub room : weights.is_compressible (p / 2 ^ 24) ≡ true → (4 ≤ p / 2 ^ 16 % 256) × (p / 2 ^ 16 % 256 ≤ 0xfe)

pub sound_primary : (weights : Weights) (p : ℕ) → is_sound_primary weights p ≡ true → IsSoundPrimary weights p
sound_primary weights p h =
    let all = and_true _ _ h
    in let first = and_true _ _ all.0
    in let second = and_true _ _ first.0
    in let third = and_true _ _ second.0
    in record {
      letter = third.0;
      differs = eqb-false (p / 2 ^ 24) weights.numeric_lead (not_true _ third.1);
      room = λ is. within_bounds _ _ _ (or_second (not (weights.is_compressible (p / 2 ^ 24))) _ (ap not is) all.1);
    }

-- the places of numbers: at the beginning of one, where letters stand too, or in one
pub data Place : Type 0 where
  outside : Place
  inside : Place

-- how long primaries with a lead are that no record has
abbrev pub fixed_length : ℕ → ℕ
fixed_length lead = cond (lead == 0x02) 1 (cond (lead == 0xff) 2 (cond (lead == 0xfe) 4 3))

-- under the leads of letters three
pub letters_three : (lead : ℕ) → is_letter_lead lead ≡ true → fixed_length lead ≡ 3
letters_three lead h =
    let bounds = within_bounds 3 0xfc lead h
    in rw (ne_eqb lead 0x02 (λ e. omega (arith, bounds.0, e)), ne_eqb lead 0xff (λ e. omega (arith, bounds.1, e)), ne_eqb lead 0xfe (λ e. omega (arith, bounds.1, e))) refl

pub three_bytes_long : (p : ℕ) → has_three_bytes p ≡ true → length (primary_bytes p) ≡ 3
three_bytes_long p h =
    let both = and_parts (p % 256 == 0) _ h
    in let third = eqb-false (p / 2 ^ 8 % 256) 0 (not_true _ both.1)
    in rw (eqb-true (p % 256) 0 both.0, rest_two (p / 2 ^ 16 % 256) (p / 2 ^ 8 % 256) (omega (arith, third))) refl

module _ (weights : Weights) where
  -- a lead of the special, jamo and implicit primaries, or of a range
  abbrev pub IsFixedLead : ℕ → Type 0
  IsFixedLead lead = (is_letter_lead lead ≡ false) ⊎ ((c : ℕ) × (p : ℕ) × (weights.ranged_primary c ≡ Some p) × (p / 2 ^ 24 ≡ lead))

  -- the primaries of letters: of records, or with the length of their lead
  pub data IsLetter : ℕ → Type 0 where
    recorded : (e : Element) → IsRecorded weights e → e.primary ≢ 0 → IsLetter (e.primary)
    fixed :
        (p : ℕ) → IsFixedLead (p / 2 ^ 24) → length (primary_bytes p) ≡ fixed_length (p / 2 ^ 24) → 2 ≤ p / 2 ^ 24 → p < 2 ^ 32
        → p / 2 ^ 24 ≢ weights.numeric_lead
        → (weights.is_compressible (p / 2 ^ 24) ≡ true → (4 ≤ p / 2 ^ 16 % 256) × (p / 2 ^ 16 % 256 ≤ 0xfe))
        → IsLetter p

-- the bytes of a number's primary after the lead: how many they are shows in each of them
pub data NumberBytes : Place → List ℕ → Type 0 where
  two : {a : ℕ} → 2 ≤ a → a ≤ 75 → NumberBytes outside (a ∷ [])
  three : {a b : ℕ} → 76 ≤ a → a ≤ 115 → 2 ≤ b → NumberBytes outside (a ∷ b ∷ [])
  four : {a b c : ℕ} → 116 ≤ a → a ≤ 131 → 2 ≤ b → 2 ≤ c → NumberBytes outside (a ∷ b ∷ c ∷ [])
  short : {a b : ℕ} → 132 ≤ a → b % 2 ≡ 0 → 2 ≤ b → NumberBytes outside (a ∷ b ∷ [])
  long : {a b c : ℕ} → 132 ≤ a → b % 2 ≡ 1 → 2 ≤ b → 2 ≤ c → NumberBytes outside (a ∷ b ∷ c ∷ [])
  first : {a : ℕ} → a % 2 ≡ 0 → 2 ≤ a → NumberBytes inside (a ∷ [])
  second : {a b : ℕ} → a % 2 ≡ 1 → b % 2 ≡ 0 → 2 ≤ a → 2 ≤ b → NumberBytes inside (a ∷ b ∷ [])
  third : {a b c : ℕ} → a % 2 ≡ 1 → b % 2 ≡ 1 → 2 ≤ a → 2 ≤ b → 2 ≤ c → NumberBytes inside (a ∷ b ∷ c ∷ [])

second_apart : (x y v w : ℕ) (xs ys : List ℕ) → v ≢ w → is_proper_beginning (x ∷ v ∷ xs) (y ∷ w ∷ ys) ≡ false
unfolding is_proper_beginning
second_apart x y v w xs ys h = rw (other_first_apart v w xs ys h) (and_false (x == y))

numbers_apart : {place : Place} {xs ys : List ℕ} → NumberBytes place xs → NumberBytes place ys → is_proper_beginning xs ys ≡ false
numbers_apart (two i0 i1) (two j0 j1) = same_length_apart _ _ refl
numbers_apart (two i0 i1) (three j0 j1 j2) = other_first_apart _ _ _ _ (λ e. omega (arith, e, i0, i1, j0, j1, j2))
numbers_apart (two i0 i1) (four j0 j1 j2 j3) = other_first_apart _ _ _ _ (λ e. omega (arith, e, i0, i1, j0, j1, j2, j3))
numbers_apart (two i0 i1) (short j0 j1 j2) = other_first_apart _ _ _ _ (λ e. omega (arith, e, i0, i1, j0, j1, j2))
numbers_apart (two i0 i1) (long j0 j1 j2 j3) = other_first_apart _ _ _ _ (λ e. omega (arith, e, i0, i1, j0, j1, j2, j3))
numbers_apart (three i0 i1 i2) (two j0 j1) = other_first_apart _ _ _ _ (λ e. omega (arith, e, i0, i1, i2, j0, j1))
numbers_apart (three i0 i1 i2) (three j0 j1 j2) = same_length_apart _ _ refl
numbers_apart (three i0 i1 i2) (four j0 j1 j2 j3) = other_first_apart _ _ _ _ (λ e. omega (arith, e, i0, i1, i2, j0, j1, j2, j3))
numbers_apart (three i0 i1 i2) (short j0 j1 j2) = same_length_apart _ _ refl
numbers_apart (three i0 i1 i2) (long j0 j1 j2 j3) = other_first_apart _ _ _ _ (λ e. omega (arith, e, i0, i1, i2, j0, j1, j2, j3))
numbers_apart (four i0 i1 i2 i3) (two j0 j1) = other_first_apart _ _ _ _ (λ e. omega (arith, e, i0, i1, i2, i3, j0, j1))
numbers_apart (four i0 i1 i2 i3) (three j0 j1 j2) = other_first_apart _ _ _ _ (λ e. omega (arith, e, i0, i1, i2, i3, j0, j1, j2))
numbers_apart (four i0 i1 i2 i3) (four j0 j1 j2 j3) = same_length_apart _ _ refl
numbers_apart (four i0 i1 i2 i3) (short j0 j1 j2) = other_first_apart _ _ _ _ (λ e. omega (arith, e, i0, i1, i2, i3, j0, j1, j2))
numbers_apart (four i0 i1 i2 i3) (long j0 j1 j2 j3) = same_length_apart _ _ refl
numbers_apart (short i0 i1 i2) (two j0 j1) = other_first_apart _ _ _ _ (λ e. omega (arith, e, i0, i1, i2, j0, j1))
numbers_apart (short i0 i1 i2) (three j0 j1 j2) = same_length_apart _ _ refl
numbers_apart (short i0 i1 i2) (four j0 j1 j2 j3) = other_first_apart _ _ _ _ (λ e. omega (arith, e, i0, i1, i2, j0, j1, j2, j3))
numbers_apart (short i0 i1 i2) (short j0 j1 j2) = same_length_apart _ _ refl
numbers_apart (short i0 i1 i2) (long j0 j1 j2 j3) = second_apart _ _ _ _ _ _ (λ e. omega (arith, e, i0, i1, i2, j0, j1, j2, j3))
numbers_apart (long i0 i1 i2 i3) (two j0 j1) = other_first_apart _ _ _ _ (λ e. omega (arith, e, i0, i1, i2, i3, j0, j1))
numbers_apart (long i0 i1 i2 i3) (three j0 j1 j2) = other_first_apart _ _ _ _ (λ e. omega (arith, e, i0, i1, i2, i3, j0, j1, j2))
numbers_apart (long i0 i1 i2 i3) (four j0 j1 j2 j3) = same_length_apart _ _ refl
numbers_apart (long i0 i1 i2 i3) (short j0 j1 j2) = second_apart _ _ _ _ _ _ (λ e. omega (arith, e, i0, i1, i2, i3, j0, j1, j2))
numbers_apart (long i0 i1 i2 i3) (long j0 j1 j2 j3) = same_length_apart _ _ refl
numbers_apart (first i0 i1) (first j0 j1) = same_length_apart _ _ refl
numbers_apart (first i0 i1) (second j0 j1 j2 j3) = other_first_apart _ _ _ _ (λ e. omega (arith, e, i0, i1, j0, j1, j2, j3))
numbers_apart (first i0 i1) (third j0 j1 j2 j3 j4) = other_first_apart _ _ _ _ (λ e. omega (arith, e, i0, i1, j0, j1, j2, j3, j4))
numbers_apart (second i0 i1 i2 i3) (first j0 j1) = other_first_apart _ _ _ _ (λ e. omega (arith, e, i0, i1, i2, i3, j0, j1))
numbers_apart (second i0 i1 i2 i3) (second j0 j1 j2 j3) = same_length_apart _ _ refl
numbers_apart (second i0 i1 i2 i3) (third j0 j1 j2 j3 j4) = second_apart _ _ _ _ _ _ (λ e. omega (arith, e, i0, i1, i2, i3, j0, j1, j2, j3, j4))
numbers_apart (third i0 i1 i2 i3 i4) (first j0 j1) = other_first_apart _ _ _ _ (λ e. omega (arith, e, i0, i1, i2, i3, i4, j0, j1))
numbers_apart (third i0 i1 i2 i3 i4) (second j0 j1 j2 j3) = second_apart _ _ _ _ _ _ (λ e. omega (arith, e, i0, i1, i2, i3, i4, j0, j1, j2, j3))
numbers_apart (third i0 i1 i2 i3 i4) (third j0 j1 j2 j3 j4) = same_length_apart _ _ refl

not_zero : (n : ℕ) → n ≢ 0 → (n == 0) ≡ false
not_zero n h = grind (arith, nat_tests)

module _ (weights : Weights) (sound : AreSoundWeights weights) (numeric_on : Bool) where
  -- what the rules say of a recorded primary
  recorded_primary : (e : Element) → IsRecorded weights e → e.primary ≢ 0 → is_sound_primary weights (e.primary) ≡ true
  recorded_primary e is some =
      let all = and_true _ _ (sound.elements e is) in
      let first = and_true _ _ (all.0) in
      let second = and_true _ _ (first.0) in
      or_second (e.primary == 0) _ (not_zero (e.primary) some) (second.1)

  pub recorded_lead : (e : Element) → IsRecorded weights e → e.primary ≢ 0 → (is_letter_lead (e.primary / 2 ^ 24) ≡ true) × (e.primary / 2 ^ 24 ≢ weights.numeric_lead)
  recorded_lead e is some =
      let parts = sound_primary weights e.primary (recorded_primary e is some) in (parts.letter, parts.differs)

  recorded_second : (e : Element) → IsRecorded weights e → e.primary ≢ 0 → weights.is_compressible (e.primary / 2 ^ 24) ≡ true → (4 ≤ e.primary / 2 ^ 16 % 256) × (e.primary / 2 ^ 16 % 256 ≤ 0xfe)
  recorded_second e is some = (sound_primary weights e.primary (recorded_primary e is some)).room

  abbrev pub IsNumber : Place → ℕ → Type 0
  IsNumber place p = (p / 2 ^ 24 ≡ weights.numeric_lead) × NumberBytes place (primary_rest p) × (p < 2 ^ 32) × (numeric_on ≡ true)

  -- a primary at its place, before leads are reordered
  abbrev pub IsOriginal : Place → ℕ → Type 0
  IsOriginal outside p = IsLetter weights p ⊎ IsNumber outside p
  IsOriginal inside p = IsNumber inside p

  -- an element's primary under such a lead is as long as the others there
  recorded_as_long : (e : Element) → IsRecorded weights e → e.primary ≢ 0 → (lead : ℕ) → IsFixedLead weights lead → e.primary / 2 ^ 24 ≡ lead
      → length (primary_bytes e.primary) ≡ fixed_length lead
  recorded_as_long e is some lead (inl none) h = absurd (true≢false (sym (recorded_lead e is some).0 ∙ ap is_letter_lead h ∙ none))
  recorded_as_long e is some lead (inr (c, p, ranged, at)) h =
      let long : has_three_bytes e.primary ≡ true = or_second (not (e.primary / 2 ^ 24 == p / 2 ^ 24)) _ (ap not (eq-eqb _ _ (h ∙ sym at))) (sound.beside c p e ranged is) in
      let letter : is_letter_lead lead ≡ true = sym (ap is_letter_lead h) ∙ (recorded_lead e is some).0 in
      three_bytes_long e.primary long ∙ sym (letters_three lead letter)

  recorded_fixed_apart : (e : Element) (q : ℕ) → IsRecorded weights e → e.primary ≢ 0 → IsFixedLead weights (q / 2 ^ 24) → length (primary_bytes q) ≡ fixed_length (q / 2 ^ 24)
      → (is_proper_beginning (primary_bytes e.primary) (primary_bytes q) ≡ false) × (is_proper_beginning (primary_bytes q) (primary_bytes e.primary) ≡ false)
  recorded_fixed_apart e q is some lead wide =
      elim (cases_eq (e.primary / 2 ^ 24) (q / 2 ^ 24)) [
        | inl h ↦
            let same = recorded_as_long e is some (q / 2 ^ 24) lead h ∙ sym wide
            in (same_length_apart _ _ same, same_length_apart _ _ (sym same))
        | inr ne ↦ (other_first_apart _ _ _ _ ne, other_first_apart _ _ _ _ (λ h. ne (sym h)))
      ]

  letters_apart : (p q : ℕ) → IsLetter weights p → IsLetter weights q → is_proper_beginning (primary_bytes p) (primary_bytes q) ≡ false
  letters_apart p q (recorded d is some) (recorded e also any) =
      let all = and_true _ _ (sound.apart d e is also) in
      let first = and_true _ _ (all.0) in
      (apart_begins primary_bytes (d.primary) (e.primary) (omega (arith, some)) (omega (arith, any)) (first.0)).0
  letters_apart p q (recorded d is some) (fixed q' lead wide low small numeric room) = (recorded_fixed_apart d q' is some lead wide).0
  letters_apart p q (fixed p' lead wide low small numeric room) (recorded e is some) = (recorded_fixed_apart e p' is some lead wide).1
  letters_apart p q (fixed p' lead wide low small numeric room) (fixed q' lead' wide' low' small' numeric' room') =
      ⊎_elim
      (λ h. let e : p' / 2 ^ 24 ≡ q' / 2 ^ 24 = tested_equal _ _ h in same_length_apart _ _ (wide ∙ ap fixed_length e ∙ sym wide'))
      (λ h. other_first_apart _ _ _ _ (λ e. true≢false (sym (equal_tested _ _ e) ∙ h)))
      (cases_Bool (p' / 2 ^ 24 == q' / 2 ^ 24))

  pub letter_not_number : (p q : ℕ) (place : Place) → IsLetter weights p → IsNumber place q → p / 2 ^ 24 ≢ q / 2 ^ 24
  letter_not_number p q place (recorded e is some) number h = (recorded_lead e is some).1 (h ∙ number.0)
  letter_not_number p q place (fixed p' lead wide low small numeric room) number h = numeric (h ∙ number.0)

  numbers_begin_apart : (p q : ℕ) (place : Place) → IsNumber place p → IsNumber place q → is_proper_beginning (primary_bytes p) (primary_bytes q) ≡ false
  unfolding is_proper_beginning
  numbers_begin_apart p q place one other = rw (numbers_apart (one.1) (other.1)) (and_false (p / 2 ^ 24 == q / 2 ^ 24))

  originals_apart : (place : Place) (p q : ℕ) → IsOriginal place p → IsOriginal place q → is_proper_beginning (primary_bytes p) (primary_bytes q) ≡ false
  originals_apart outside p q (inl one) (inl other) = letters_apart p q one other
  originals_apart outside p q (inl one) (inr other) = other_first_apart _ _ _ _ (letter_not_number p q outside one other)
  originals_apart outside p q (inr one) (inl other) = other_first_apart _ _ _ _ (λ h. letter_not_number q p outside other one (sym h))
  originals_apart outside p q (inr one) (inr other) = numbers_begin_apart p q outside one other
  originals_apart inside p q one other = numbers_begin_apart p q inside one other

-- ---- with leads reordered

-- the place after a primary with these bytes after the lead: in a number where its last byte says that it goes on
abbrev pub place_behind : Bool → ℕ → Place → Place
place_behind is_number p place =
    let goes_on : Place = cond (p % 2 == 1) inside outside
    in let begun : Place = cond (leb 132 (p / 2 ^ 16 % 256)) goes_on outside
    in let in_number : Place = elim place [ outside ↦ begun | inside ↦ goes_on ]
    in cond is_number in_number outside

compressible_letters : (a b c : Bool) → (a ≡ true → (b || c) ≡ true) → b ≡ false → c ≡ false → a ≡ false
compressible_letters true b c h no_b no_c = let none : (b || c) ≡ false = rw (no_b, no_c) refl in sym (h refl) ∙ none
compressible_letters false b c h no_b no_c = refl

module _ (collation : Collation) (sound : AreSoundWeights collation.weights) (settings : AreSoundSettings collation) (options : ResolvedCollatorOptions) where
  abbrev pub numeric_on : Bool
  numeric_on = is_numeric options.numeric

  -- a primary of a text at its place, with its lead reordered
  abbrev pub IsPrimaryAt : Place → ℕ → Type 0
  IsPrimaryAt place p = (q : ℕ) × IsOriginal collation.weights sound numeric_on place q × (p ≡ collation.reordered q)

  letter_lead : (lead : ℕ) → is_letter_lead lead ≡ true → (3 ≤ lead) × (lead ≤ 0xfc)
  letter_lead lead h = within_bounds 3 0xfc lead h

  recorded_small : (e : Element) → IsRecorded collation.weights e → e.primary < 2 ^ 32
  recorded_small e is =
      let all = and_true _ _ (sound.widths e is) in
      let first = and_true _ _ (all.0) in
      let second = and_true _ _ (first.0) in
      let third = and_true _ _ (second.0) in
      ltb-true (e.primary) (2 ^ 32) (third.0)

  original_small : (place : Place) (q : ℕ) → IsOriginal collation.weights sound numeric_on place q → q < 2 ^ 32
  original_small outside q (inl (recorded e is some)) = recorded_small e is
  original_small outside q (inl (fixed q' lead wide low small numeric room)) = small
  original_small outside q (inr number) = number.2
  original_small inside q number = number.2

  number_lead : (q : ℕ) → q / 2 ^ 24 ≡ collation.weights.numeric_lead → 2 ≤ q / 2 ^ 24
  number_lead q e = let bounds = letter_lead collation.weights.numeric_lead settings.numeric_lead in omega (arith, e, bounds.0)

  pub original_lead : (place : Place) (q : ℕ) → IsOriginal collation.weights sound numeric_on place q → 2 ≤ q / 2 ^ 24
  original_lead outside q (inl (recorded e is some)) =
      let bounds = letter_lead (e.primary / 2 ^ 24) (recorded_lead collation.weights sound numeric_on e is some).0 in omega (arith, bounds.0)
  original_lead outside q (inl (fixed q' lead wide low small numeric room)) = low
  original_lead outside q (inr number) = number_lead q (number.0)
  original_lead inside q number = number_lead q (number.0)

  reordered_small : (lead : ℕ) → 2 ≤ lead → lead < 256 → (2 ≤ reordered_lead collation lead) × (reordered_lead collation lead < 256)
  reordered_small lead low high =
      ⊎_elim
      (λ h. let bounds = letter_lead (reordered_lead collation lead) (settings.inside lead h) in (omega (arith, bounds.0), omega (arith, bounds.1)))
      (λ h. let e : reordered_lead collation lead ≡ lead = settings.outside lead h in (omega (arith, e, low), omega (arith, e, high)))
      (cases_Bool (is_letter_lead lead))

  new_lead : (a b : ℕ) → (a * 2 ^ 24 + b % 2 ^ 24) / 2 ^ 24 ≡ a
  new_lead a b = omega arith

  -- the bytes of a reordered primary: another lead, and the same after it
  pub reordered_lead_is : (p : ℕ) → collation.reordered p / 2 ^ 24 ≡ reordered_lead collation (p / 2 ^ 24)
  reordered_lead_is p = ap (λ (x : ℕ). x / 2 ^ 24) (settings.rest p) ∙ new_lead (reordered_lead collation (p / 2 ^ 24)) p

  same_low : (a b : ℕ) → (a * 2 ^ 24 + b % 2 ^ 24) / 2 ^ 16 % 256 ≡ b / 2 ^ 16 % 256
  same_low a b = omega arith

  same_middle : (a b : ℕ) → (a * 2 ^ 24 + b % 2 ^ 24) / 2 ^ 8 % 256 ≡ b / 2 ^ 8 % 256
  same_middle a b = omega arith

  same_last : (a b : ℕ) → (a * 2 ^ 24 + b % 2 ^ 24) % 256 ≡ b % 256
  same_last a b = omega arith

  rest_stays : (a b : ℕ) → primary_rest (a * 2 ^ 24 + b % 2 ^ 24) ≡ primary_rest b
  rest_stays a b = rw (same_low a b, same_middle a b, same_last a b) refl

  pub reordered_rest : (p : ℕ) → primary_rest (collation.reordered p) ≡ primary_rest p
  reordered_rest p = ap primary_rest (settings.rest p) ∙ rest_stays (reordered_lead collation (p / 2 ^ 24)) p

  pub reordered_second : (p : ℕ) → collation.reordered p / 2 ^ 16 % 256 ≡ p / 2 ^ 16 % 256
  reordered_second p = ap (λ (x : ℕ). x / 2 ^ 16 % 256) (settings.rest p) ∙ same_low (reordered_lead collation (p / 2 ^ 24)) p

  reordered_apart : (p q : ℕ) → is_proper_beginning (primary_bytes p) (primary_bytes q) ≡ false → is_proper_beginning (primary_bytes (collation.reordered p)) (primary_bytes (collation.reordered q)) ≡ false
  unfolding is_proper_beginning
  reordered_apart p q apart =
      ⊎_elim
      (λ h.
      let rests : is_proper_beginning (primary_rest p) (primary_rest q) ≡ false = begins_tests (p / 2 ^ 24) (q / 2 ^ 24) _ (tested_equal _ _ h) apart in
      let moved : is_proper_beginning (primary_rest (collation.reordered p)) (primary_rest (collation.reordered q)) ≡ false = rw (reordered_rest p, reordered_rest q) rests in
      rw moved (and_false (collation.reordered p / 2 ^ 24 == collation.reordered q / 2 ^ 24)))
      (λ h. other_first_apart (collation.reordered p / 2 ^ 24) (collation.reordered q / 2 ^ 24) (primary_rest (collation.reordered p)) (primary_rest (collation.reordered q))
      (λ e. true≢false (sym (equal_tested (p / 2 ^ 24) (q / 2 ^ 24) (settings.one_to_one _ _ (sym (reordered_lead_is p) ∙ e ∙ reordered_lead_is q))) ∙ h)))
      (cases_Bool (p / 2 ^ 24 == q / 2 ^ 24))

  plain_lead : has_plain_leads collation options ≡ true → numeric_on ≡ true → collation.weights.is_compressible collation.weights.numeric_lead ≡ false
  plain_lead plain on = not_true _ (or_second (not (is_numeric options.numeric)) _ (ap not on) plain)

  number_second : has_plain_leads collation options ≡ true → (q : ℕ) → q / 2 ^ 24 ≡ collation.weights.numeric_lead → numeric_on ≡ true → collation.weights.is_compressible (q / 2 ^ 24) ≡ true → ⊥
  number_second plain q e on h = true≢false (sym h ∙ ap collation.weights.is_compressible e ∙ plain_lead plain on)

  original_second :
      has_plain_leads collation options ≡ true → (place : Place) (q : ℕ) → IsOriginal collation.weights sound numeric_on place q → collation.weights.is_compressible (q / 2 ^ 24) ≡ true
      → (4 ≤ q / 2 ^ 16 % 256) × (q / 2 ^ 16 % 256 ≤ 0xfe)
  original_second plain outside q (inl (recorded e is some)) h = recorded_second collation.weights sound numeric_on e is some h
  original_second plain outside q (inl (fixed q' lead wide low small numeric room)) h = room h
  original_second plain outside q (inr number) h = absurd (number_second plain q (number.0) (number.3) h)
  original_second plain inside q number h = absurd (number_second plain q (number.0) (number.3) h)

  lead_bounds : (place : Place) (q : ℕ) → IsOriginal collation.weights sound numeric_on place q → (2 ≤ reordered_lead collation (q / 2 ^ 24)) × (reordered_lead collation (q / 2 ^ 24) < 256)
  lead_bounds place q is = let small = original_small place q is in reordered_small (q / 2 ^ 24) (original_lead place q is) (omega (arith, small))

  -- whatever the lead of numbers is, no primary begins another
  pub primaries_apart : ArePrimaries IsPrimaryAt none_starts
  primaries_apart =
      record {
        lead = λ s p is. let bounds = lead_bounds s (is.0) (is.1) in omega (arith, is.2, bounds.0, reordered_lead_is (is.0));
        small = λ s p is. let bounds = lead_bounds s (is.0) (is.1) in omega (arith, is.2, bounds.1, reordered_lead_is (is.0));
        apart = λ s p q is other. rw (is.2, other.2) (reordered_apart (is.0) (other.0) (originals_apart collation.weights sound numeric_on s (is.0) (other.0) (is.1) (other.1)));
        second = λ s t p q one other h e. absurd (true≢false (sym h));
      }

  -- a compressible lead that is moved where a primary is moved is its own
  own_lead : (p q : ℕ) → was_compressible collation p ≡ true → collation.reordered q / 2 ^ 24 ≡ p / 2 ^ 24
      → collation.weights.is_compressible (q / 2 ^ 24) ≡ true
  own_lead p q h e =
      let had = had_lead collation p h
      in let own : (had.lead * 2 ^ 24 + p % 2 ^ 24) / 2 ^ 24 ≡ had.lead = new_lead had.lead p
      in let moved = sym (reordered_lead_is (had.lead * 2 ^ 24 + p % 2 ^ 24)) ∙ ap (λ (x : ℕ). x / 2 ^ 24) had.moved
      in let one : q / 2 ^ 24 ≡ had.lead = settings.one_to_one _ _ (sym (reordered_lead_is q) ∙ e ∙ sym moved) ∙ own
      in ap collation.weights.is_compressible one ∙ had.compressible

  pub primaries_are : has_plain_leads collation options ≡ true → ArePrimaries IsPrimaryAt (was_compressible collation)
  primaries_are plain =
      record {
        lead = primaries_apart.lead;
        small = primaries_apart.small;
        apart = primaries_apart.apart;
        second = λ s t p q one is h e.
            let own : ℕ = is.0 in
            let same : q / 2 ^ 16 % 256 ≡ own / 2 ^ 16 % 256 = ap (λ (x : ℕ). x / 2 ^ 16 % 256) (is.2) ∙ reordered_second own in
            let room = original_second plain t own (is.1) (own_lead p own h (sym (ap (λ (x : ℕ). x / 2 ^ 24) (is.2)) ∙ e)) in
            (omega (arith, same, room.0), omega (arith, same, room.1));
      }
