-- The first character of UTF-16 units, which one or two of them spell.
use Rattle.std.proofs.Common.{◌≡◌, ℕ, ◌-◌, ◌^◌, ◌<◌, ◌≤◌, ◌&&◌, false, List, [], ◌∷◌, drop, length, slice_index, take, inl, inr, refl, sym, ap, ◌∙◌, arith, length-drop}
use Rattle.std.specs.Prelude.{nat_le, nat_lt}
use Rattle.std.specs.Char.Utf16.{is_high_surrogate, is_low_surrogate, surrogate_pair_char}
use Rattle.std.proofs.lemmas.Bool.{cases_Bool}
use Rattle.std.proofs.lemmas.Bool.Decides.{nat_tests}
use Rattle.std.proofs.lemmas.List.{take_all}
use Rattle.icu_normalizer_core.specs.Decoding.{utf16_chars}
use Rattle.icu_normalizer_core.proofs.decoded.Utf16Lemmas.{is_pair, lone_char, lone_step, one_unit, pair_step, utf16_chars-nil}

-- a unit that is no surrogate is a character by itself
itself : (u : ℕ) → (nat_le 0xD800 u && nat_lt u 0xE000) ≡ false → lone_char u ≡ u
itself u none = rw none refl

not_high : (u : ℕ) → (nat_le 0xD800 u && nat_lt u 0xE000) ≡ false → is_high_surrogate u ≡ false
not_high u none = grind (arith, nat_tests)

pub one_spells : (u : ℕ) (rest : List ℕ) → (nat_le 0xD800 u && nat_lt u 0xE000) ≡ false → utf16_chars (u ∷ rest) ≡ u ∷ utf16_chars rest
one_spells u [] none = one_unit u ∙ ap (λ x. x ∷ []) (itself u none) ∙ ap (λ t. u ∷ t) (sym utf16_chars-nil)
one_spells u (v ∷ rest) none =
    lone_step u v rest (ap (λ b. b && is_low_surrogate v) (not_high u none)) ∙ ap (λ x. x ∷ utf16_chars (v ∷ rest)) (itself u none)

lone_small : (u : ℕ) → u < 0x10000 → lone_char u < 0x10000
lone_small u small =
    elim (cases_Bool (nat_le 0xD800 u && nat_lt u 0xE000)) [
      | inl e ↦ rw e (omega arith)
      | inr e ↦ rw e small
    ]

first_is : (x c : ℕ) (xs cs : List ℕ) → x ∷ xs ≡ c ∷ cs → x ≡ c
first_is x c xs cs e = cc

all_behind : (k : ℕ) (units : List ℕ) → take (length units - k) (drop k units) ≡ drop k units
all_behind k units = take_all (length units - k) (drop k units) (omega (arith, length-drop k units))

behind_one : (units more : List ℕ) (c : ℕ) → utf16_chars units ≡ c ∷ more → c < 0x10000 → utf16_chars units ≡ c ∷ utf16_chars (drop 1 units)
behind_one [] more c e small = absurd (cc (sym utf16_chars-nil ∙ e))
behind_one (u ∷ []) more c e small =
    one_unit u ∙ ap (λ x. x ∷ []) (first_is (lone_char u) c [] more (sym (one_unit u) ∙ e)) ∙ ap (λ t. c ∷ t) (sym utf16_chars-nil)
behind_one (u ∷ v ∷ us) more c e small =
    elim (cases_Bool (is_pair u v)) [
      | inl joined ↦
          let same = first_is (surrogate_pair_char u v) c (utf16_chars us) more (sym (pair_step u v us joined) ∙ e) in
          absurd (omega (arith, same, small))
      | inr apart ↦
          lone_step u v us apart
          ∙ ap (λ x. x ∷ utf16_chars (v ∷ us)) (first_is (lone_char u) c (utf16_chars (v ∷ us)) more (sym (lone_step u v us apart) ∙ e))
    ]

behind_two : (units more : List ℕ) (c : ℕ) → ((i : ℕ) → slice_index units i < 2 ^ 16) → utf16_chars units ≡ c ∷ more → 0x10000 ≤ c
    → utf16_chars units ≡ c ∷ utf16_chars (drop 2 units)
behind_two [] more c units_small e large = absurd (cc (sym utf16_chars-nil ∙ e))
behind_two (u ∷ []) more c units_small e large =
    let same = first_is (lone_char u) c [] more (sym (one_unit u) ∙ e) in
    absurd (omega (arith, same, large, lone_small u (units_small 0)))
behind_two (u ∷ v ∷ us) more c units_small e large =
    elim (cases_Bool (is_pair u v)) [
      | inl joined ↦
          pair_step u v us joined
          ∙ ap (λ x. x ∷ utf16_chars us) (first_is (surrogate_pair_char u v) c (utf16_chars us) more (sym (pair_step u v us joined) ∙ e))
      | inr apart ↦
          let same = first_is (lone_char u) c (utf16_chars (v ∷ us)) more (sym (lone_step u v us apart) ∙ e) in
          absurd (omega (arith, same, large, lone_small u (units_small 0)))
    ]

-- there are so many units
pub two_long : (units more : List ℕ) (c : ℕ) → ((i : ℕ) → slice_index units i < 2 ^ 16) → utf16_chars units ≡ c ∷ more → 0x10000 ≤ c → 2 ≤ length units
two_long [] more c units_small e large = absurd (cc (sym utf16_chars-nil ∙ e))
two_long (u ∷ []) more c units_small e large =
    let same = first_is (lone_char u) c [] more (sym (one_unit u) ∙ e) in
    absurd (omega (arith, same, large, lone_small u (units_small 0)))
two_long (u ∷ v ∷ us) more c units_small e large = omega arith

-- a character below U+10000 is spelled by one unit, another by two
pub one_behind : (units more : List ℕ) (c : ℕ) → utf16_chars units ≡ c ∷ more → c < 0x10000
    → utf16_chars units ≡ c ∷ utf16_chars (take (length units - 1) (drop 1 units))
one_behind units more c e small = behind_one units more c e small ∙ ap (λ (l : List ℕ). c ∷ utf16_chars l) (sym (all_behind 1 units))

pub two_behind : (units more : List ℕ) (c : ℕ) → ((i : ℕ) → slice_index units i < 2 ^ 16) → utf16_chars units ≡ c ∷ more → 0x10000 ≤ c
    → utf16_chars units ≡ c ∷ utf16_chars (take (length units - 2) (drop 2 units))
two_behind units more c units_small e large = behind_two units more c units_small e large ∙ ap (λ (l : List ℕ). c ∷ utf16_chars l) (sym (all_behind 2 units))
