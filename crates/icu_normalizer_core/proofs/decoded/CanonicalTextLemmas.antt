-- What is written from characters reads as those characters.
use Rattle.std.proofs.Common.{◌≡◌, ℕ, ◌+◌, ◌-◌, ◌/◌, ◌%◌, ◌<◌, ◌≤◌, true, false, ◌&&◌, List, [], ◌∷◌, ◌++◌, refl, sym, ap, ◌∙◌, arith, ⊎_elim}
use Rattle.std.proofs.lemmas.Bool.{cases_lt}
use Rattle.std.proofs.lemmas.Bool.Decides.{nat_tests}
use Rattle.std.proofs.lemmas.List.Elements.{All-head, All-tail}
use Rattle.std.specs.List.{All, flat_map}
use Rattle.std.specs.Char.{IsScalar}
use Rattle.std.specs.Char.Escape.{encode_utf16}
use Rattle.std.specs.Char.Utf16.{is_high_surrogate, is_low_surrogate, surrogate_pair_char}
use Rattle.std.specs.Str.{encode_utf8_all}
use lib.Utf8.{scalars, scalar_cases}
use Rattle.bstr.proofs.lemmas.EncodeLemmas.{lossy_chars-encode}
use Rattle.icu_normalizer_core.specs.Decoding.{utf8_chars, utf16_chars}
use Rattle.icu_normalizer_core.proofs.decoded.Utf16Lemmas.{is_pair, lone_char, utf16_chars-nil, one_unit, pair_step, lone_step}

scalars_from_All : (cs : List ℕ) → All IsScalar cs → scalars cs ≡ true
scalars_from_All [] all = refl
scalars_from_All (c ∷ cs) all = ap (λ b. b && scalars cs) (All-head IsScalar c cs all) ∙ scalars_from_All cs (All-tail IsScalar c cs all)

pub utf8_text : (cs : List ℕ) → All IsScalar cs → utf8_chars (encode_utf8_all cs) ≡ cs
utf8_text cs all = lossy_chars-encode cs (scalars_from_All cs all)

-- ---- UTF-16

lone_unit : (u : ℕ) (us : List ℕ) → is_high_surrogate u ≡ false → utf16_chars (u ∷ us) ≡ lone_char u ∷ utf16_chars us
lone_unit u [] low = one_unit u ∙ ap (λ t. lone_char u ∷ t) (sym utf16_chars-nil)
lone_unit u (v ∷ us) low = lone_step u v us (ap (λ b. b && is_low_surrogate v) low)

not_high : (c : ℕ) → IsScalar c → is_high_surrogate c ≡ false
not_high c scalar = grind (arith, nat_tests)

itself : (c : ℕ) → IsScalar c → lone_char c ≡ c
itself c scalar = grind (arith, nat_tests)

pair_of : (over u v : ℕ) → over < 0x10_0000 → u ≡ 0xD800 + over / 0x400 → v ≡ 0xDC00 + over % 0x400 → is_pair u v ≡ true
pair_of over u v low first second =
    let high : over / 0x400 < 0x400 = omega arith in
    let rest : over % 0x400 < 0x400 = omega arith in
    grind (arith, nat_tests)

pair_char_of : (over : ℕ) → over < 0x10_0000 → surrogate_pair_char (0xD800 + over / 0x400) (0xDC00 + over % 0x400) ≡ 0x1_0000 + over
pair_char_of over low = omega arith

one_long : (c : ℕ) → c < 0x1_0000 → encode_utf16 c ≡ c ∷ []
one_long c small = grind (arith, nat_tests)

two_long : (c : ℕ) → 0x1_0000 ≤ c → encode_utf16 c ≡ (0xD800 + (c - 0x1_0000) / 0x400) ∷ (0xDC00 + (c - 0x1_0000) % 0x400) ∷ []
two_long c large = grind (arith, nat_tests)

pub utf16_text : (cs : List ℕ) → All IsScalar cs → utf16_chars (flat_map encode_utf16 cs) ≡ cs
utf16_text [] all = utf16_chars-nil
utf16_text (c ∷ cs) all =
    let rest = flat_map encode_utf16 cs in
    let scalar : IsScalar c = All-head IsScalar c cs all in
    let later = utf16_text cs (All-tail IsScalar c cs all) in
    ⊎_elim
    (λ (one : c < 0x1_0000). ap (λ t. utf16_chars (t ++ rest)) (one_long c one) ∙ lone_unit c rest (not_high c scalar)
    ∙ ap (λ x. x ∷ utf16_chars rest) (itself c scalar) ∙ ap (λ t. c ∷ t) later)
    (λ (two : 0x1_0000 ≤ c).
    let over = c - 0x1_0000 in
    let bounded : over < 0x10_0000 = ⊎_elim (λ h. absurd (omega (arith, h))) (λ h. omega (arith, h.1)) (scalar_cases c scalar) in
    let u = 0xD800 + over / 0x400 in
    let v = 0xDC00 + over % 0x400 in
    let whole : 0x1_0000 + over ≡ c = omega arith in
    ap (λ t. utf16_chars (t ++ rest)) (two_long c two) ∙ pair_step u v rest (pair_of over u v bounded refl refl)
    ∙ ap (λ x. x ∷ utf16_chars rest) (pair_char_of over bounded ∙ whole) ∙ ap (λ t. c ∷ t) later)
    (cases_lt c 0x1_0000)
