-- Characters that three bytes of UTF-8 spell.
use Rattle.std.proofs.Common.{◌≡◌, ℕ, ◌+◌, ◌-◌, ◌*◌, ◌/◌, ◌%◌, ◌<◌, ◌≤◌, true, List, [], ◌∷◌, ◌++◌, le-ltb, lt-ltb, refl, sym, ap, ap₂, drop, ◌∙◌, arith, append-nil}
use Rattle.std.proofs.lemmas.Bool.{and_from, cond-false, cond-true}
use Rattle.std.specs.Char.{IsScalar, encode_utf8}
use lib.Utf8.{scalar}
use Rattle.bstr.proofs.lemmas.LossyLemmas.{lossy_chars-front}
use Rattle.icu_normalizer_core.specs.Decoding.{utf8_chars}

three_bytes : (lead next last c : ℕ) → 0xE0 ≤ lead → 0x80 ≤ next → next < 0xC0 → 0x80 ≤ last → last < 0xC0
    → c ≡ ((lead - 0xE0) * 0x40 + (next - 0x80)) * 0x40 + (last - 0x80) → 0x800 ≤ c → c < 0x1_0000 → encode_utf8 c ≡ lead ∷ next ∷ last ∷ []
unfolding encode_utf8
three_bytes lead next last c a b d f g e low high =
    let front = (lead - 0xE0) * 0x40 + (next - 0x80) in
    let over : c / 64 ≡ front = omega (arith, e) in
    let first : 224 + c / 4096 ≡ lead = omega (arith, e) in
    let second : 128 + c / 64 % 64 ≡ next = omega (arith, over) in
    let third : 128 + c % 64 ≡ last = omega (arith, e) in
    cond-false _ _ _ (le-ltb c 128 (omega arith)) ∙ cond-false _ _ _ (le-ltb c 2048 low) ∙ cond-true _ _ _ (lt-ltb c 65536 high)
    ∙ ap₂ (λ x y. x ∷ y) first (ap₂ (λ x y. x ∷ y ∷ []) second third)

-- bytes that begin with three that spell a character begin with it
pub three_spell : (lead next last c : ℕ) (after : List ℕ) → 0xE0 ≤ lead → lead < 0xF0 → 0x80 ≤ next → next < 0xC0 → 0x80 ≤ last → last < 0xC0
    → c ≡ ((lead - 0xE0) * 0x40 + (next - 0x80)) * 0x40 + (last - 0x80) → 0x800 ≤ c → IsScalar c
    → utf8_chars (lead ∷ next ∷ last ∷ after) ≡ c ∷ utf8_chars after
three_spell lead next last c after a b d f g h e low known =
    let high : c < 0x1_0000 = omega (arith, e) in
    ap (λ l. utf8_chars (l ++ after)) (sym (append-nil (encode_utf8 c) ∙ three_bytes lead next last c a d f g h e low high))
    ∙ lossy_chars-front (c ∷ []) after (and_from (scalar c) true known refl)

-- bytes whose first three, one after another, spell a character: this one, and those of the bytes after
pub three_begin : (bytes rest behind after : List ℕ) (lead next last c : ℕ) → bytes ≡ lead ∷ rest → rest ≡ next ∷ behind → behind ≡ last ∷ after
    → 0xE0 ≤ lead → lead < 0xF0 → 0x80 ≤ next → next < 0xC0 → 0x80 ≤ last → last < 0xC0
    → c ≡ ((lead - 0xE0) * 0x40 + (next - 0x80)) * 0x40 + (last - 0x80) → 0x800 ≤ c → IsScalar c → utf8_chars bytes ≡ c ∷ utf8_chars (drop 3 bytes)
three_begin bytes rest behind after lead next last c first_is second_is third_is a b d f g h e low known =
    let whole : bytes ≡ lead ∷ next ∷ last ∷ after = first_is ∙ ap (λ l. lead ∷ l) (second_is ∙ ap (λ l. next ∷ l) third_is) in
    ap utf8_chars whole ∙ three_spell lead next last c after a b d f g h e low known ∙ ap (λ l. c ∷ utf8_chars l) (sym (ap (drop 3) whole))
