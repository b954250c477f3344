-- Texts that are read from the front.
use Rattle.std.proofs.Common.{◌≡◌, ℕ, ◌+◌, ◌-◌, ◌*◌, ◌/◌, ◌%◌, ◌<◌, ◌≤◌, ◌^◌, true, false, List, [], ◌∷◌, ◌++◌, Option, None, Some, ◌↔◌, length, length-append, length-drop, take, drop, take_all, take-append-drop, get_or, slice_index, le-ltb, lt-ltb, chars, encode_utf8_all, IsUtf8, refl, sym, ap, ap₂, subst, ◌∙◌, arith, append-nil, ⊎_elim}
use Rattle.std.proofs.Math.Seq.{take-append_seam, drop-append_seam}
use Rattle.std.proofs.lemmas.Bool.{cases_Bool, cases_lt, and_from, cond-false, cond-true}
use Rattle.std.proofs.lemmas.Bool.Decides.{nat_tests}
use Rattle.std.proofs.lemmas.List.Elements.{recursion_from_All, All-from_recursion}
use Rattle.std.proofs.lemmas.Str.{IsCharBoundary-at_seam, chars-encodes, chars-nil, chars_from_encodes, chars_past_char, encode_ascii, encodes-append, encodes-chars, scalars-chars}
use Rattle.std.specs.Char.{IsScalar, encode_utf8}
use Rattle.std.specs.Char.Escape.{encode_utf16}
use Rattle.std.specs.Char.Utf16.{surrogate_pair_char}
use Rattle.std.specs.Option.{MatchOption}
use Rattle.std.specs.Str.{IsCharBoundary}
use lib.Utf8.{scalar, scalars, scalar_cases, low_scalar}
use Rattle.bstr.specs.Utf8.{Decoded, decoded, or_replacement, lossy_chars}
use Rattle.bstr.proofs.lemmas.EncodeLemmas.{decoded-encode, lossy_chars-encode}
use Rattle.bstr.proofs.lemmas.LossyLemmas.{lossy_chars-front}
use Rattle.bstr.proofs.lemmas.PieceLemmas.{size-some, lossy_chars-step}
use Rattle.bstr.proofs.lemmas.SoundLemmas.{SpellsChar-decoded}
use Rattle.icu_normalizer_core.specs.Decoding.{utf8_chars, utf16_chars}
use Rattle.icu_normalizer_core.proofs.decoded.DecodedLemmas.{utf8_scalars, unit_scalars}
use Rattle.icu_normalizer_core.proofs.decoded.CanonicalTextLemmas.{utf16_text as written_units}
use Rattle.icu_normalizer_core.proofs.decoded.Utf16Lemmas.{is_pair, lone_char, utf16_chars-nil, one_unit, pair_step, lone_step}
use Rattle.icu_normalizer.specs.FormCuts.{IsOwnForm, ReachesBelow}
use Rattle.icu_normalizer.specs.TextCuts.{IsOwnText, ReachesTo}
use Rattle.icu_normalizer.specs.Texts.{str_text, utf8_text, utf16_text, encode_utf16_all, AreCharacters, BeginsWith, BeginsDamaged, IsAtEnd, IsUndamaged}
use Rattle.icu_normalizer.proofs.cuts.CutLemmas.{ArePlain, are_plain, are_scalar, plain_bytes}

-- ---- ASCII at the start

plain_scalars : (cs : List ℕ) → ArePlain cs → scalars cs ≡ true
plain_scalars [] plain = refl
plain_scalars (c ∷ cs) plain = and_from (scalar c) (scalars cs) (low_scalar c (let first = plain.0 in omega arith)) (plain_scalars cs plain.1)

-- what `&text[n..]` is
part : (n : ℕ) (xs : List ℕ) → take (length xs - n) (drop n xs) ≡ drop n xs
part n xs = take_all _ _ (omega (arith, length-drop n xs))

module _ (units : List ℕ) (n : ℕ) (plain : (k : ℕ) → k < n → get_or units k 0 < 0x80) where
  pub utf8_behind_plain : utf8_chars units ≡ take n units ++ utf8_chars (take (length units - n) (drop n units))
  utf8_behind_plain =
      let front = are_plain units n plain in
      ap utf8_chars (sym (take-append-drop n units)) ∙ ap (λ l. utf8_chars (l ++ drop n units)) (sym (plain_bytes (take n units) front))
      ∙ lossy_chars-front (take n units) (drop n units) (plain_scalars (take n units) front)
      ∙ ap (λ l. take n units ++ utf8_chars l) (sym (part n units))

  pub str_behind_plain : (rest : List ℕ) → IsUtf8 units → IsUtf8 rest → rest ≡ drop n units → chars units ≡ take n units ++ chars rest
  str_behind_plain rest u v e =
      let front = are_plain units n plain in
      sym (chars_from_encodes (take n units ++ chars rest) units u
      (encodes-append (take n units) (chars rest) ∙ ap₂ (λ x y. x ++ y) (plain_bytes (take n units) front) (encodes-chars rest v ∙ e) ∙ take-append-drop n units))

-- ---- UTF-16: a unit that is in no pair

lone_read : (u : ℕ) (rest : List ℕ) → ((low : ℕ) (more : List ℕ) → rest ≡ low ∷ more → is_pair u low ≡ false) → utf16_chars (u ∷ rest) ≡ lone_char u ∷ utf16_chars rest
lone_read u [] alone = one_unit u ∙ ap (λ l. lone_char u ∷ l) (sym utf16_chars-nil)
lone_read u (v ∷ us) alone = lone_step u v us (alone v us refl)

not_high : (c low : ℕ) → IsScalar c → is_pair c low ≡ false
not_high c low scalar = grind (arith, nat_tests)

itself : (c : ℕ) → IsScalar c → lone_char c ≡ c
itself c scalar = grind (arith, nat_tests)

scalar_read : (c : ℕ) (rest : List ℕ) → IsScalar c → utf16_chars (c ∷ rest) ≡ c ∷ utf16_chars rest
scalar_read c rest scalar = lone_read c rest (λ low more e. not_high c low scalar) ∙ ap (λ x. x ∷ utf16_chars rest) (itself c scalar)

plain_units : (cs rest : List ℕ) → ArePlain cs → utf16_chars (cs ++ rest) ≡ cs ++ utf16_chars rest
plain_units [] rest plain = refl
plain_units (c ∷ cs) rest plain =
    scalar_read c (cs ++ rest) (low_scalar c (let first = plain.0 in omega arith)) ∙ ap (λ l. c ∷ l) (plain_units cs rest plain.1)

pub utf16_behind_plain : (units : List ℕ) (n : ℕ) → ((k : ℕ) → k < n → get_or units k 0 < 0x80) → utf16_chars units ≡ take n units ++ utf16_chars (take (length units - n) (drop n units))
utf16_behind_plain units n plain =
    ap utf16_chars (sym (take-append-drop n units)) ∙ plain_units (take n units) (drop n units) (are_plain units n plain)
    ∙ ap (λ l. take n units ++ utf16_chars l) (sym (part n units))

-- ---- what a text reads as is characters

pub str_characters : (bytes : List ℕ) → IsUtf8 bytes → AreCharacters (chars bytes)
str_characters bytes u = are_scalar (chars bytes) (scalars-chars bytes u)

pub utf8_characters : (bytes : List ℕ) → AreCharacters (utf8_chars bytes)
utf8_characters bytes = recursion_from_All IsScalar (utf8_chars bytes) (utf8_scalars bytes)

pub utf16_characters : (units : List ℕ) → ((i : ℕ) → slice_index units i < 2 ^ 16) → AreCharacters (utf16_chars units)
utf16_characters units small = recursion_from_All IsScalar (utf16_chars units) (unit_scalars units small)

-- ---- nothing is left

pub str_at_end : (bytes : List ℕ) → bytes ≡ [] → IsAtEnd (str_text bytes)
str_at_end bytes none = (none, ap chars none ∙ chars-nil)

pub utf8_at_end : (bytes : List ℕ) → bytes ≡ [] → IsAtEnd (utf8_text bytes)
utf8_at_end bytes none = (none, ap utf8_chars none ∙ lossy_chars-encode [] refl)

pub utf16_at_end : (units : List ℕ) → units ≡ [] → IsAtEnd (utf16_text units)
utf16_at_end units none = (none, ap utf16_chars none ∙ utf16_chars-nil)

-- ---- the first character

pub str_first : (text rest : List ℕ) (c : ℕ) → IsUtf8 text → text ≡ encode_utf8 c ++ rest → BeginsWith encode_utf8_all (str_text text) c (str_text rest)
str_first text rest c u e =
    let read = chars_past_char text rest c u e in
    record {
      scalar = (subst AreCharacters read (str_characters text u)).0;
      units = e ∙ ap (λ l. l ++ rest) (sym (append-nil (encode_utf8 c)));
      characters = read;
    }

pub utf8_first : (bytes : List ℕ) (found : Option ℕ) (size : ℕ) → found ≡ (decoded bytes).char → size ≡ (decoded bytes).size → (size ≡ 0 → ⊥)
    → MatchOption found (BeginsDamaged encode_utf8_all (utf8_text bytes) (utf8_text (take (length bytes - size) (drop size bytes))))
    (λ c. BeginsWith encode_utf8_all (utf8_text bytes) c (utf8_text (take (length bytes - size) (drop size bytes))))
utf8_first bytes None size char is some =
    let left = ap (λ k. drop k bytes) (sym is) ∙ sym (part size bytes) in
    record {
      never = λ c more scalar e.
          let read = ap decoded (e ∙ ap (λ l. l ++ more) (append-nil _)) ∙ decoded-encode c more scalar in
          let same : None ≡ Some c = char ∙ ap (λ (p : Decoded). p.char) read in
          cc;
      characters =
          lossy_chars-step bytes (size-some bytes (λ z. some (is ∙ z))) ∙ ap (λ o. or_replacement o ∷ lossy_chars (drop (decoded bytes).size bytes)) (sym char)
          ∙ ap (λ l. 0xFFFD ∷ lossy_chars l) left;
    }
utf8_first bytes (Some c) size char is some =
    let left = ap (λ k. drop k bytes) (sym is) ∙ sym (part size bytes) in
    let spelled = SpellsChar-decoded bytes c (sym char) in
    record {
      scalar = spelled.scalar;
      units = spelled.bytes ∙ ap₂ (λ x y. x ++ y) (sym (append-nil _)) left;
      characters =
          lossy_chars-step bytes (size-some bytes (λ z. some (is ∙ z))) ∙ ap (λ o. or_replacement o ∷ lossy_chars (drop (decoded bytes).size bytes)) (sym char)
          ∙ ap (λ l. c ∷ lossy_chars l) left;
    }

-- one, two or three bytes that spell a character
spelled_first : (bytes rest : List ℕ) (c : ℕ) → IsScalar c → bytes ≡ encode_utf8 c ++ rest → BeginsWith encode_utf8_all (utf8_text bytes) c (utf8_text rest)
spelled_first bytes rest c known e =
    let units = e ∙ ap (λ l. l ++ rest) (sym (append-nil (encode_utf8 c))) in
    record { scalar = known; units = units; characters = ap utf8_chars units ∙ lossy_chars-front (c ∷ []) rest (and_from (scalar c) true known refl) }

pub utf8_one : (bytes rest : List ℕ) (lead c : ℕ) → bytes ≡ lead ∷ rest → lead < 0x80 → c ≡ lead → BeginsWith encode_utf8_all (utf8_text bytes) c (utf8_text rest)
utf8_one bytes rest lead c e low same =
    spelled_first bytes rest c (low_scalar c (omega (arith, same))) (e ∙ ap (λ l. l ++ rest) (ap (λ x. x ∷ []) (sym same) ∙ sym (encode_ascii c (omega (arith, same)))))

two_bytes : (lead next c : ℕ) → 0xC2 ≤ lead → lead < 0xE0 → 0x80 ≤ next → next < 0xC0 → c ≡ (lead - 0xC0) * 0x40 + (next - 0x80) → encode_utf8 c ≡ lead ∷ next ∷ []
unfolding encode_utf8
two_bytes lead next c a b d f e =
    let low : 0x80 ≤ c = omega (arith, e) in
    let high : c < 0x800 = omega (arith, e) in
    let first : 192 + c / 64 ≡ lead = omega (arith, e) in
    let second : 128 + c % 64 ≡ next = omega (arith, e) in
    cond-false _ _ _ (le-ltb c 128 low) ∙ cond-true _ _ _ (lt-ltb c 2048 high) ∙ ap₂ (λ x y. x ∷ y ∷ []) first second

pub utf8_two : (bytes rest behind : List ℕ) (lead next c : ℕ) → bytes ≡ lead ∷ rest → rest ≡ next ∷ behind → 0xC2 ≤ lead → lead < 0xE0 → 0x80 ≤ next → next < 0xC0
    → c ≡ (lead - 0xC0) * 0x40 + (next - 0x80) → BeginsWith encode_utf8_all (utf8_text bytes) c (utf8_text behind)
utf8_two bytes rest behind lead next c e f a b d g is =
    spelled_first bytes behind c (low_scalar c (omega (arith, is, a, b, d, g))) (e ∙ ap (λ l. lead ∷ l) f ∙ ap (λ l. l ++ behind) (sym (two_bytes lead next c a b d g is)))

three_bytes : (lead next last c : ℕ) → 0xE1 ≤ lead → lead < 0xED → 0x80 ≤ next → next < 0xC0 → 0x80 ≤ last → last < 0xC0
    → c ≡ ((lead - 0xE0) * 0x40 + (next - 0x80)) * 0x40 + (last - 0x80) → encode_utf8 c ≡ lead ∷ next ∷ last ∷ []
unfolding encode_utf8
three_bytes lead next last c a b d f g h e =
    let front = (lead - 0xE0) * 0x40 + (next - 0x80) in
    let low : 0x1000 ≤ c = omega (arith, e) in
    let high : c < 0x1_0000 = omega (arith, e) in
    let over : c / 64 ≡ front = omega (arith, e) in
    let first : 224 + c / 4096 ≡ lead = omega (arith, e) in
    let second : 128 + c / 64 % 64 ≡ next = omega (arith, over) in
    let third : 128 + c % 64 ≡ last = omega (arith, e) in
    cond-false _ _ _ (le-ltb c 128 (omega arith)) ∙ cond-false _ _ _ (le-ltb c 2048 (omega arith)) ∙ cond-true _ _ _ (lt-ltb c 65536 high)
    ∙ ap₂ (λ x y. x ∷ y) first (ap₂ (λ x y. x ∷ y ∷ []) second third)

pub utf8_three : (bytes rest behind after : List ℕ) (lead next last c : ℕ) → bytes ≡ lead ∷ rest → rest ≡ next ∷ behind → behind ≡ last ∷ after → 0xE1 ≤ lead → lead < 0xED
    → 0x80 ≤ next → next < 0xC0 → 0x80 ≤ last → last < 0xC0 → c ≡ ((lead - 0xE0) * 0x40 + (next - 0x80)) * 0x40 + (last - 0x80)
    → BeginsWith encode_utf8_all (utf8_text bytes) c (utf8_text after)
utf8_three bytes rest behind after lead next last c e f k a b d g h i is =
    spelled_first bytes after c (low_scalar c (omega (arith, is, a, b, d, g, h, i)))
    (e ∙ ap (λ l. lead ∷ l) (f ∙ ap (λ l. next ∷ l) k) ∙ ap (λ l. l ++ after) (sym (three_bytes lead next last c a b d g h i is)))

-- a unit that is a character
one_long : (c : ℕ) → c < 2 ^ 16 → encode_utf16 c ≡ c ∷ []
one_long c small = grind (arith, nat_tests)

pub utf16_one : (units rest : List ℕ) (u c : ℕ) → units ≡ u ∷ rest → u < 2 ^ 16 → c ≡ u → IsScalar u → BeginsWith encode_utf16_all (utf16_text units) c (utf16_text rest)
utf16_one units rest u c e small same scalar = record {
  scalar = subst IsScalar (sym same) scalar;
  units = e ∙ ap (λ x. x ∷ rest) (sym same) ∙ ap (λ l. l ++ rest) (sym (append-nil _ ∙ one_long c (subst (λ x. x < 2 ^ 16) (sym same) small)));
  characters = ap utf16_chars e ∙ scalar_read u rest scalar ∙ ap (λ x. x ∷ utf16_chars rest) (sym same);
}

-- the two halves of a pair
two_long : (c : ℕ) → 0x1_0000 ≤ c → encode_utf16 c ≡ (0xD800 + (c - 0x1_0000) / 0x400) ∷ (0xDC00 + (c - 0x1_0000) % 0x400) ∷ []
two_long c large = grind (arith, nat_tests)

halves : (u v : ℕ) → is_pair u v ≡ true → (0xD800 ≤ u) × (u < 0xDC00) × (0xDC00 ≤ v) × (v < 0xE000)
halves u v pair = (grind (arith, nat_tests), grind (arith, nat_tests), grind (arith, nat_tests), grind (arith, nat_tests))

pair_units : (u v : ℕ) → is_pair u v ≡ true → encode_utf16 (surrogate_pair_char u v) ≡ u ∷ v ∷ []
pair_units u v pair =
    let parts = halves u v pair in
    let c = surrogate_pair_char u v in
    let first : 0xD800 + (c - 0x1_0000) / 0x400 ≡ u = omega arith in
    let second : 0xDC00 + (c - 0x1_0000) % 0x400 ≡ v = omega arith in
    two_long c (omega arith) ∙ ap₂ (λ x y. x ∷ y ∷ []) first second

pair_scalar : (u v : ℕ) → is_pair u v ≡ true → IsScalar (surrogate_pair_char u v)
pair_scalar u v pair = grind (arith, nat_tests)

pub utf16_two : (units rest behind : List ℕ) (u v c : ℕ) → units ≡ u ∷ rest → rest ≡ v ∷ behind → is_pair u v ≡ true → c ≡ surrogate_pair_char u v → BeginsWith encode_utf16_all (utf16_text units) c (utf16_text behind)
utf16_two units rest behind u v c e f pair same =
    let whole = e ∙ ap (λ l. u ∷ l) f in
    record {
      scalar = subst IsScalar (sym same) (pair_scalar u v pair);
      units = whole ∙ ap (λ l. l ++ behind) (sym (ap (λ x. encode_utf16_all (x ∷ [])) same ∙ append-nil _ ∙ pair_units u v pair));
      characters = ap utf16_chars whole ∙ pair_step u v behind pair ∙ ap (λ x. x ∷ utf16_chars behind) (sym same);
    }

-- a surrogate that is in no pair
surrogate : (u : ℕ) → u < 2 ^ 16 → (IsScalar u → ⊥) → (0xD800 ≤ u) × (u < 0xE000)
surrogate u small not = (grind (arith, nat_tests), grind (arith, nat_tests))

lone_damaged : (u : ℕ) → (0xD800 ≤ u) × (u < 0xE000) → lone_char u ≡ 0xFFFD
lone_damaged u within = grind (arith, nat_tests)

pair_of : (over : ℕ) → over < 0x10_0000 → is_pair (0xD800 + over / 0x400) (0xDC00 + over % 0x400) ≡ true
pair_of over low =
    let high : over / 0x400 < 0x400 = omega arith in
    let rest : over % 0x400 < 0x400 = omega arith in
    grind (arith, nat_tests)

pub utf16_none : (units rest : List ℕ) (u : ℕ) → units ≡ u ∷ rest → u < 2 ^ 16 → (IsScalar u → ⊥) → ((low : ℕ) (more : List ℕ) → rest ≡ low ∷ more → is_pair u low ≡ false) → BeginsDamaged encode_utf16_all (utf16_text units) (utf16_text rest)
utf16_none units rest u e small not alone = record {
  never = λ c more scalar f. ⊎_elim
      (λ (one : c < 0x1_0000).
      let same : u ∷ rest ≡ c ∷ more = sym e ∙ f ∙ ap (λ l. l ++ more) (append-nil _ ∙ one_long c (omega arith)) in
      let head : u ≡ c = cc in
      not (subst IsScalar (sym head) scalar))
      (λ (two : 0x1_0000 ≤ c).
      let over = c - 0x1_0000 in
      let bounded : over < 0x10_0000 = ⊎_elim (λ h. absurd (omega (arith, h))) (λ h. omega (arith, h.1)) (scalar_cases c scalar) in
      let high = 0xD800 + over / 0x400 in
      let low = 0xDC00 + over % 0x400 in
      let same : u ∷ rest ≡ high ∷ low ∷ more = sym e ∙ f ∙ ap (λ l. l ++ more) (append-nil _ ∙ two_long c two) in
      let head : u ≡ high = cc in
      let tail : rest ≡ low ∷ more = cc in
      let pair : is_pair u low ≡ true = ap (λ x. is_pair x low) head ∙ pair_of over bounded in
      let apart = alone low more tail in
      cc)
      (cases_lt c 0x1_0000);
  characters = ap utf16_chars e ∙ lone_read u rest alone ∙ ap (λ x. x ∷ utf16_chars rest) (lone_damaged u (surrogate u small not));
}

-- ---- the first pair of surrogates

lone_small : (u : ℕ) → u < 2 ^ 16 → lone_char u < 0x1_0000
lone_small u small = grind (arith, nat_tests)

-- a pair comes first, and reads as its character
pair_read : (units : List ℕ) (high low : ℕ) (more : List ℕ) → units ≡ high ∷ low ∷ more → is_pair high low ≡ true → utf16_chars units ≡ surrogate_pair_char high low ∷ utf16_chars more
pair_read units high low more e joined = ap utf16_chars e ∙ pair_step high low more joined

-- no pair comes first where nothing does
pub no_pair : (units : List ℕ) (high low : ℕ) (more : List ℕ) → utf16_chars units ≡ [] → units ≡ high ∷ low ∷ more → is_pair high low ≡ false
no_pair units high low more none e = ⊎_elim
    (λ joined.
    let both : [] ≡ surrogate_pair_char high low ∷ utf16_chars more = sym none ∙ pair_read units high low more e joined in
    cc)
    (λ alone. alone)
    (cases_Bool (is_pair high low))

-- nor where a character of one unit does
pub first_small : (units left : List ℕ) (c high low : ℕ) (more : List ℕ) → utf16_chars units ≡ c ∷ left → c < 0x1_0000 → units ≡ high ∷ low ∷ more → is_pair high low ≡ false
first_small units left c high low more read small e = ⊎_elim
    (λ joined.
    let both : c ∷ left ≡ surrogate_pair_char high low ∷ utf16_chars more = sym read ∙ pair_read units high low more e joined in
    let same : c ≡ surrogate_pair_char high low = cc in
    absurd (omega (arith, same)))
    (λ alone. alone)
    (cases_Bool (is_pair high low))

-- a character of two units comes of a pair
pub first_large : (units left : List ℕ) (c : ℕ) → ((i : ℕ) → slice_index units i < 2 ^ 16) → utf16_chars units ≡ c ∷ left → 0x1_0000 ≤ c
    → (high : ℕ) × (low : ℕ) × (units ≡ high ∷ low ∷ take (length units - 2) (drop 2 units)) × (is_pair high low ≡ true) × (c ≡ surrogate_pair_char high low)
first_large [] left c fits read large =
    let both : [] ≡ c ∷ left = sym utf16_chars-nil ∙ read in
    cc
first_large (u ∷ []) left c fits read large =
    let both : lone_char u ∷ [] ≡ c ∷ left = sym (one_unit u) ∙ read in
    let same : lone_char u ≡ c = cc in
    absurd (omega (arith, same, lone_small u (fits 0)))
first_large (u ∷ v ∷ us) left c fits read large = ⊎_elim
    (λ joined.
    let both : c ∷ left ≡ surrogate_pair_char u v ∷ utf16_chars us = sym read ∙ pair_step u v us joined in
    let same : c ≡ surrogate_pair_char u v = cc in
    (u, v, ap (λ l. u ∷ v ∷ l) (sym (part 2 (u ∷ v ∷ us))), joined, same))
    (λ alone.
    let both : lone_char u ∷ utf16_chars (v ∷ us) ≡ c ∷ left = sym (lone_step u v us alone) ∙ read in
    let same : lone_char u ≡ c = cc in
    absurd (omega (arith, same, lone_small u (fits 0))))
    (cases_Bool (is_pair u v))

-- ---- the parts of a text that is cut

module _ (text front rest : List ℕ) (whole : text ≡ front ++ rest) where
  seam : length front ≡ length text - length rest
  seam = omega (arith, ap length whole, length-append front rest)

  pub part_before : (a : List ℕ) → a ≡ take (length text - length rest) text → a ≡ front
  part_before a e = e ∙ ap (λ n. take n text) (sym seam) ∙ ap (take (length front)) whole ∙ take-append_seam front rest

  pub part_behind : (b : List ℕ) → b ≡ drop (length text - length rest) text → b ≡ rest
  part_behind b e = e ∙ ap (λ n. drop n text) (sym seam) ∙ ap (drop (length front)) whole ∙ drop-append_seam front rest

  pub str_cut : IsUtf8 rest → IsCharBoundary text (length text - length rest)
  str_cut u = subst (IsCharBoundary text) seam (IsCharBoundary-at_seam text front rest whole u)

all_scalars : (cs : List ℕ) → AreCharacters cs → scalars cs ≡ true
all_scalars [] all = refl
all_scalars (c ∷ cs) all = and_from (scalar c) (scalars cs) all.0 (all_scalars cs all.1)

pub str_reads : (cs : List ℕ) → AreCharacters cs → chars (encode_utf8_all cs) ≡ cs
str_reads cs all = chars-encodes cs (all_scalars cs all)

pub utf8_reads : (cs : List ℕ) → AreCharacters cs → utf8_chars (encode_utf8_all cs) ≡ cs
utf8_reads cs all = lossy_chars-encode cs (all_scalars cs all)

pub utf16_reads : (cs : List ℕ) → AreCharacters cs → utf16_chars (encode_utf16_all cs) ≡ cs
utf16_reads cs all = written_units cs (All-from_recursion IsScalar cs all)

-- ---- a text that is known to be UTF-8 has no damaged part

pub str_far : (form : List ℕ → List ℕ) (bound : ℕ) (bytes prefix : List ℕ) → IsUtf8 bytes → ReachesTo encode_utf8_all form bound (str_text bytes) prefix → ReachesBelow form bound (chars bytes) prefix
str_far form bound bytes prefix u far agreed left others c e f low =
    far agreed (encode_utf8_all (c ∷ left)) left others c (sym (encodes-chars bytes u) ∙ ap encode_utf8_all e ∙ encodes-append agreed (c ∷ left)) e f low

pub str_empty : (form : List ℕ → List ℕ) (bytes rest : List ℕ) → IsUtf8 bytes → (rest ≡ []) ↔ IsOwnText encode_utf8_all form (str_text bytes) → (rest ≡ []) ↔ IsOwnForm form (chars bytes)
str_empty form bytes rest u is = (λ none. (is.0 none).1, λ own. is.1 (encodes-chars bytes u, own))

-- ---- undamaged bytes

pub undamaged_utf8 : (bytes : List ℕ) → IsUndamaged encode_utf8_all (utf8_text bytes) → IsUtf8 bytes
undamaged_utf8 bytes own = (utf8_chars bytes, (all_scalars (utf8_chars bytes) (utf8_characters bytes), own))

pub utf8_same : (bytes : List ℕ) → IsUtf8 bytes → chars bytes ≡ utf8_chars bytes
utf8_same bytes u = sym (utf8_reads (chars bytes) (str_characters bytes u)) ∙ ap utf8_chars (encodes-chars bytes u)

pub utf8_undamaged : (bytes : List ℕ) → IsUtf8 bytes → IsUndamaged encode_utf8_all (utf8_text bytes)
utf8_undamaged bytes u = ap encode_utf8_all (sym (utf8_same bytes u)) ∙ encodes-chars bytes u

-- they are their own form where the text is
pub valid_own : (form : List ℕ → List ℕ) (bytes text : List ℕ) → IsUndamaged encode_utf8_all (utf8_text bytes) → chars text ≡ utf8_chars bytes
    → IsOwnForm form (chars text) ↔ IsOwnText encode_utf8_all form (utf8_text bytes)
valid_own form bytes text undamaged read =
    (λ own. (undamaged, ap form (sym read) ∙ own ∙ read), λ own. ap form read ∙ own.1 ∙ sym read)
