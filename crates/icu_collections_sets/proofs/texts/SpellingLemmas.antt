-- A text spells one range at most.
use Rattle.std.proofs.Common.{◌≡◌, ℕ, ◌+◌, ◌*◌, ◌/◌, ◌%◌, ◌<◌, ◌≤◌, ◌⊎◌, ◌&&◌, Bool, true, false, cond, leb, List, [], ◌∷◌, ◌++◌, length, get_or, drop, codes, Result, Ok, Err, is_ok, OnOk, IsUtf8, IsCharBoundary, ◌==◌, append_assoc, refl, sym, ap, ◌∙◌, arith, inl, inr, append-nil}
use Rattle.std.proofs.lemmas.Bool.{cases_lt, false≢true}
use Rattle.std.proofs.lemmas.Bool.Decides.{nat_tests}
use Rattle.std.proofs.lemmas.List.{append_cancel_left, length-append}
use Rattle.std.proofs.lemmas.Str.{encode_same, encode_ascii, length-encode, len_utf8_bounds, cons_from_encodes, IsCharBoundary-after_ascii}
use Rattle.std.specs.Char.{InScalarRange, OutOfScalarRange}
use Rattle.std.specs.declared.alloc.AllocError.{AllocError}
use lib.Utf8.{encode, scalar, scalars, scalar_cases}
use Rattle.icu_collections_sets.specs.Spelling.{IsSurrogate, hex_digit, hex_spelling, spelling, range_text, SpellsRange, BeginsWithSurrogate, BeginsWith}

pub surrogate_or : (c : ℕ) → IsSurrogate c ⊎ (IsSurrogate c → ⊥)
surrogate_or c = elim (cases_lt c 55296) [
  | inl below ↦ inr (λ h. absurd (omega (arith, h.0)))
  | inr up ↦ elim (cases_lt 57343 c) [
    | inl above ↦ inr (λ h. absurd (omega (arith, h.1)))
    | inr within ↦ inl (up, within)
  ]
]

pub spelling-surrogate : (c : ℕ) → IsSurrogate c → spelling c ≡ hex_spelling c
unfolding spelling
spelling-surrogate c h =
    let low : 55296 ≤ c = h.0 in
    let high : c ≤ 57343 = h.1 in
    let t : (leb 55296 c && leb c 57343) ≡ true = grind (arith, nat_tests) in
    ap (λ (b : Bool). cond b (hex_spelling c) (encode c)) t

not_within : (c : ℕ) → (IsSurrogate c → ⊥) → (leb 55296 c && leb c 57343) ≡ false
not_within c h = elim (cases_lt c 55296) [
  | inl below ↦ grind (arith, nat_tests)
  | inr up ↦ elim (cases_lt 57343 c) [
    | inl above ↦ grind (arith, nat_tests)
    | inr within ↦ absurd (h (up, within))
  ]
]

pub spelling-other : (c : ℕ) → (IsSurrogate c → ⊥) → spelling c ≡ encode c
unfolding spelling
spelling-other c h = ap (λ (b : Bool). cond b (hex_spelling c) (encode c)) (not_within c h)

-- a surrogate's number begins with `U+D`
pub hex_form : (c : ℕ) → IsSurrogate c → hex_spelling c ≡ 85 ∷ 43 ∷ 68 ∷ hex_digit (c / 256 % 16) ∷ hex_digit (c / 16 % 16) ∷ hex_digit (c % 16) ∷ []
unfolding hex_spelling
hex_form c h =
    let first : c / 4096 ≡ 13 = omega (arith, h.0, h.1) in
    ap (λ d. 85 ∷ 43 ∷ hex_digit d ∷ hex_digit (c / 256 % 16) ∷ hex_digit (c / 16 % 16) ∷ hex_digit (c % 16) ∷ []) first

pub hex_digit-same : (x y : ℕ) → x < 16 → y < 16 → hex_digit x ≡ hex_digit y → x ≡ y
hex_digit-same x y h l e = elim (cases_lt x 10) [
  | inl x_low ↦ elim (cases_lt y 10) [
    | inl y_low ↦ grind (arith, nat_tests)
    | inr y_high ↦ grind (arith, nat_tests)
  ]
  | inr x_high ↦ elim (cases_lt y 10) [
    | inl y_low ↦ grind (arith, nat_tests)
    | inr y_high ↦ grind (arith, nat_tests)
  ]
]

same_digits : (c d : ℕ) → IsSurrogate c → IsSurrogate d → c / 256 % 16 ≡ d / 256 % 16 → c / 16 % 16 ≡ d / 16 % 16 → c % 16 ≡ d % 16 → c ≡ d
same_digits c d h l a b e = omega (arith, h.0, h.1, l.0, l.1)

pub hex-same : (c d : ℕ) (s t : List ℕ) → IsSurrogate c → IsSurrogate d → hex_spelling c ++ s ≡ hex_spelling d ++ t → c ≡ d
hex-same c d s t h l e =
    let whole : 85 ∷ 43 ∷ 68 ∷ hex_digit (c / 256 % 16) ∷ hex_digit (c / 16 % 16) ∷ hex_digit (c % 16) ∷ s ≡ 85 ∷ 43 ∷ 68 ∷ hex_digit (d / 256 % 16) ∷ hex_digit (d / 16 % 16) ∷ hex_digit (d % 16) ∷ t =
    ap (λ f. f ++ s) (sym (hex_form c h)) ∙ e ∙ ap (λ f. f ++ t) (hex_form d l) in
    let first : hex_digit (c / 256 % 16) ≡ hex_digit (d / 256 % 16) = cc in
    let second : hex_digit (c / 16 % 16) ≡ hex_digit (d / 16 % 16) = cc in
    let third : hex_digit (c % 16) ≡ hex_digit (d % 16) = cc in
    same_digits c d h l
    (hex_digit-same _ _ (omega arith) (omega arith) first)
    (hex_digit-same _ _ (omega arith) (omega arith) second)
    (hex_digit-same _ _ (omega arith) (omega arith) third)

-- the bytes of a surrogate's number
pub record IsNumber (text : List ℕ) (c : ℕ) : Type 0 where
  pub long : 6 ≤ length text
  pub letter : get_or text 0 0 ≡ 85
  pub plus : get_or text 1 0 ≡ 43
  pub first : get_or text 2 0 ≡ 68
  pub second : get_or text 3 0 ≡ hex_digit (c / 256 % 16)
  pub third : get_or text 4 0 ≡ hex_digit (c / 16 % 16)
  pub fourth : get_or text 5 0 ≡ hex_digit (c % 16)

pub IsNumber-spelling : (text rest : List ℕ) (c : ℕ) → IsSurrogate c → text ≡ hex_spelling c ++ rest → IsNumber text c
IsNumber-spelling text rest c h e =
    let f : text ≡ 85 ∷ 43 ∷ 68 ∷ hex_digit (c / 256 % 16) ∷ hex_digit (c / 16 % 16) ∷ hex_digit (c % 16) ∷ rest = e ∙ ap (λ g. g ++ rest) (hex_form c h) in
    record {
      long = omega (arith, ap length f);
      letter = ap (λ t. get_or t 0 0) f;
      plus = ap (λ t. get_or t 1 0) f;
      first = ap (λ t. get_or t 2 0) f;
      second = ap (λ t. get_or t 3 0) f;
      third = ap (λ t. get_or t 4 0) f;
      fourth = ap (λ t. get_or t 5 0) f;
    }

number_form : (a b d c : ℕ) → c ≡ 53248 + a * 256 + b * 16 + d → 8 ≤ a → a < 16 → b < 16 → d < 16 → hex_spelling c ≡ 85 ∷ 43 ∷ 68 ∷ hex_digit a ∷ hex_digit b ∷ hex_digit d ∷ []
number_form a b d c e low h l m =
    let is : IsSurrogate c = (omega arith, omega arith) in
    let first : c / 256 % 16 ≡ a = omega arith in
    let second : c / 16 % 16 ≡ b = omega arith in
    let third : c % 16 ≡ d = omega arith in
    hex_form c is ∙ ap (λ x. 85 ∷ 43 ∷ 68 ∷ hex_digit x ∷ hex_digit (c / 16 % 16) ∷ hex_digit (c % 16) ∷ []) first
    ∙ ap (λ x. 85 ∷ 43 ∷ 68 ∷ hex_digit a ∷ hex_digit x ∷ hex_digit (c % 16) ∷ []) second
    ∙ ap (λ x. 85 ∷ 43 ∷ 68 ∷ hex_digit a ∷ hex_digit b ∷ hex_digit x ∷ []) third

pub text_of_number : (text : List ℕ) (a b d c : ℕ) → c ≡ 53248 + a * 256 + b * 16 + d → 8 ≤ a → a < 16 → b < 16 → d < 16 → 6 ≤ length text → get_or text 0 0 ≡ 85 → get_or text 1 0 ≡ 43 → get_or text 2 0 ≡ 68
    → get_or text 3 0 ≡ hex_digit a → get_or text 4 0 ≡ hex_digit b → get_or text 5 0 ≡ hex_digit d → text ≡ hex_spelling c ++ drop 6 text
text_of_number [] a b d c e low h l m long q r s t u v = absurd (omega arith)
text_of_number (x0 ∷ []) a b d c e low h l m long q r s t u v = absurd (omega arith)
text_of_number (x0 ∷ x1 ∷ []) a b d c e low h l m long q r s t u v = absurd (omega arith)
text_of_number (x0 ∷ x1 ∷ x2 ∷ []) a b d c e low h l m long q r s t u v = absurd (omega arith)
text_of_number (x0 ∷ x1 ∷ x2 ∷ x3 ∷ []) a b d c e low h l m long q r s t u v = absurd (omega arith)
text_of_number (x0 ∷ x1 ∷ x2 ∷ x3 ∷ x4 ∷ []) a b d c e low h l m long q r s t u v = absurd (omega arith)
text_of_number (x0 ∷ x1 ∷ x2 ∷ x3 ∷ x4 ∷ x5 ∷ rest) a b d c e low h l m long q r s t u v =
    let whole : x0 ∷ x1 ∷ x2 ∷ x3 ∷ x4 ∷ x5 ∷ rest ≡ 85 ∷ 43 ∷ 68 ∷ hex_digit a ∷ hex_digit b ∷ hex_digit d ∷ rest =
    ap (λ x. x ∷ x1 ∷ x2 ∷ x3 ∷ x4 ∷ x5 ∷ rest) q ∙ ap (λ x. 85 ∷ x ∷ x2 ∷ x3 ∷ x4 ∷ x5 ∷ rest) r ∙ ap (λ x. 85 ∷ 43 ∷ x ∷ x3 ∷ x4 ∷ x5 ∷ rest) s
    ∙ ap (λ x. 85 ∷ 43 ∷ 68 ∷ x ∷ x4 ∷ x5 ∷ rest) t ∙ ap (λ x. 85 ∷ 43 ∷ 68 ∷ hex_digit a ∷ x ∷ x5 ∷ rest) u ∙ ap (λ x. 85 ∷ 43 ∷ 68 ∷ hex_digit a ∷ hex_digit b ∷ x ∷ rest) v in
    whole ∙ ap (λ f. f ++ rest) (sym (number_form a b d c e low h l m))

-- the second digit of a surrogate's number is not below 8
pub no_low_digit : (text rest : List ℕ) (c a : ℕ) → IsSurrogate c → text ≡ hex_spelling c ++ rest → get_or text 3 0 ≡ hex_digit a → a < 8 → ⊥
no_low_digit text rest c a h e digit low =
    let number = IsNumber-spelling text rest c h e in
    let same : c / 256 % 16 ≡ a = hex_digit-same (c / 256 % 16) a (omega arith) (omega arith) (sym number.second ∙ digit) in
    omega (arith, h.0, h.1)

hex_digit_small : (x : ℕ) → x < 16 → hex_digit x < 128
hex_digit_small x h = elim (cases_lt x 10) [
  | inl low ↦ grind (arith, nat_tests)
  | inr high ↦ grind (arith, nat_tests)
]

-- a text may be cut after a surrogate's number
pub IsCharBoundary-number : (text : List ℕ) (c : ℕ) → IsUtf8 text → BeginsWithSurrogate text c → IsCharBoundary text 6
IsCharBoundary-number text c u h =
    let number = IsNumber-spelling text (drop 6 text) c h.0 h.1 in
    let small : hex_digit (c % 16) < 128 = hex_digit_small (c % 16) (omega arith) in
    IsCharBoundary-after_ascii text 5 u (omega (arith, number.long)) (omega (arith, number.fourth))

-- four digits after `U+`
encode_digit : (x a : ℕ) → x < 16 → a ≡ hex_digit x → encode a ≡ hex_digit x ∷ []
encode_digit x a h e = ap encode e ∙ encode_ascii (hex_digit x) (hex_digit_small x h)

pub digits_written : (before : List ℕ) (c a b d f : ℕ) → c < 65536 → a ≡ hex_digit (c / 4096) → b ≡ hex_digit (c / 256 % 16) → d ≡ hex_digit (c / 16 % 16) → f ≡ hex_digit (c % 16)
    → ((((before ++ codes "U+") ++ encode a) ++ encode b) ++ encode d) ++ encode f ≡ before ++ hex_spelling c
unfolding hex_spelling
digits_written before c a b d f h ea eb ed ef =
    let first : encode a ≡ hex_digit (c / 4096) ∷ [] = encode_digit (c / 4096) a (omega arith) ea in
    let second : encode b ≡ hex_digit (c / 256 % 16) ∷ [] = encode_digit (c / 256 % 16) b (omega arith) eb in
    let third : encode d ≡ hex_digit (c / 16 % 16) ∷ [] = encode_digit (c / 16 % 16) d (omega arith) ed in
    let fourth : encode f ≡ hex_digit (c % 16) ∷ [] = encode_digit (c % 16) f (omega arith) ef in
    rw (first, second, third, fourth) (simp append_assoc)

-- what a text has at its end after a code point is written
pub written : (r : Result (Unit {0}) AllocError) (was now ys zs : List ℕ) → now ≡ cond (is_ok r) (was ++ ys) was → ys ≡ zs → OnOk r (now ≡ was ++ zs)
written (Ok x) was now ys zs h e = h ∙ ap (λ l. was ++ l) e
written (Err x) was now ys zs h e = tt

pub not_surrogate : (c : ℕ) → InScalarRange c → IsSurrogate c → ⊥
not_surrogate c (inl low) h = omega (arith, h.0)
not_surrogate c (inr high) h = omega (arith, high.0, h.1)

pub surrogate_of : (c : ℕ) → c < 1114112 → OutOfScalarRange c → IsSurrogate c
surrogate_of c h (inl within) = within
surrogate_of c h (inr past) = absurd (omega arith)

-- what `is_empty` says
pub is_empty_true : (xs : List ℕ) (b : Bool) → b ≡ true → b ≡ (length xs == 0) → xs ≡ []
is_empty_true [] b h e = refl
is_empty_true (x ∷ xs) b h e = let t : (length (x ∷ xs) == 0) ≡ true = sym e ∙ h in absurd (grind (arith, nat_tests))

pub is_empty_false : (xs : List ℕ) (b : Bool) → b ≡ false → b ≡ (length xs == 0) → xs ≡ [] → ⊥
is_empty_false xs b h e none = false≢true (sym h ∙ e ∙ ap (λ l. length l == 0) none)

first_true : (a b : Bool) → (a && b) ≡ true → a ≡ true
first_true true b h = refl
first_true false b h = absurd (false≢true h)

-- the first character of a text is one
pub scalar_first : (text rest : List ℕ) (c : ℕ) → IsUtf8 text → text ≡ encode c ++ rest → (c < 1114112) × (IsSurrogate c → ⊥)
scalar_first text rest c u e =
    let split = cons_from_encodes u.0 rest c (u.1.1 ∙ e) in
    let is : scalar c ≡ true = first_true (scalar c) (scalars split.0) (ap scalars (sym split.1) ∙ u.1.0) in
    elim (scalar_cases c is) [
      | inl low ↦ (omega arith, λ h. absurd (omega (arith, h.0)))
      | inr high ↦ (omega (arith, high.1), λ h. absurd (omega (arith, h.1, high.0)))
    ]

-- a text ends, or goes on with `-`
abbrev pub IsEnd : List ℕ → Type 0
IsEnd tail = (tail ≡ []) ⊎ ((more : List ℕ) × (tail ≡ 45 ∷ more))

no_plus : (tail more : List ℕ) → IsEnd tail → tail ≡ 43 ∷ more → ⊥
no_plus tail more (inl h) e = cc
no_plus tail more (inr h) e =
    let other : tail ≡ 45 ∷ h.0 = h.1 in
    let same = ap (λ t. get_or t 0 0) (sym e ∙ other) in
    absurd (omega (arith, same))

not_number : (c x : ℕ) (s t : List ℕ) → IsSurrogate c → (IsSurrogate x → ⊥) → IsEnd t → spelling c ++ s ≡ spelling x ++ t → ⊥
not_number c x s t h other end e =
    let more = 68 ∷ hex_digit (c / 256 % 16) ∷ hex_digit (c / 16 % 16) ∷ hex_digit (c % 16) ∷ s in
    let whole : encode x ++ t ≡ encode 85 ++ (43 ∷ more) =
    ap (λ f. f ++ t) (sym (spelling-other x other)) ∙ sym e ∙ ap (λ f. f ++ s) (spelling-surrogate c h ∙ hex_form c h) ∙ ap (λ f. f ++ (43 ∷ more)) (sym (encode_ascii 85 (omega arith))) in
    no_plus t more end (encode_same x 85 t (43 ∷ more) whole).1

-- what a text begins with, where it ends after that or goes on with `-`
pub one_reading : (text rest tail : List ℕ) (c x : ℕ) → BeginsWith text c rest → text ≡ spelling x ++ tail → IsEnd tail → (c ≡ x) × (rest ≡ tail)
one_reading text rest tail c x begins e end = elim (surrogate_or x) [
  | inl is ↦
      let same : c ≡ x = begins.surrogates_first x tail is e in
      (same, append_cancel_left (spelling x) rest tail (ap (λ y. spelling y ++ rest) (sym same) ∙ sym begins.split ∙ e))
  | inr other ↦ elim (surrogate_or c) [
    | inl is ↦ absurd (not_number c x rest tail is other end (sym begins.split ∙ e))
    | inr none ↦ encode_same c x rest tail (ap (λ f. f ++ rest) (sym (spelling-other c none)) ∙ sym begins.split ∙ e ∙ ap (λ f. f ++ tail) (spelling-other x other))
  ]
]

pub BeginsWith-spelling : (text tail : List ℕ) (x : ℕ) → x < 1114112 → text ≡ spelling x ++ tail → IsEnd tail → BeginsWith text x tail
BeginsWith-spelling text tail x h e end = record {
  within = h;
  split = e;
  surrogates_first = λ s more is f. elim (surrogate_or x) [
    | inl same ↦ hex-same x s tail more same is (ap (λ g. g ++ tail) (sym (spelling-surrogate x same)) ∙ sym e ∙ f ∙ ap (λ g. g ++ more) (spelling-surrogate s is))
    | inr other ↦ absurd (not_number s x more tail is other end (sym f ∙ e))
  ];
}

-- a surrogate's number that a text begins with, and a character where none does
pub BeginsWith-surrogate : (text rest : List ℕ) (c : ℕ) → BeginsWithSurrogate text c → rest ≡ drop 6 text → BeginsWith text c rest
BeginsWith-surrogate text rest c h e =
    let split : text ≡ spelling c ++ rest = h.1 ∙ ap (λ f. f ++ drop 6 text) (sym (spelling-surrogate c h.0)) ∙ ap (λ r. spelling c ++ r) (sym e) in
    record {
      within = omega (arith, h.0.1);
      split = split;
      surrogates_first = λ s tail is f. hex-same c s rest tail h.0 is (ap (λ g. g ++ rest) (sym (spelling-surrogate c h.0)) ∙ sym split ∙ f ∙ ap (λ g. g ++ tail) (spelling-surrogate s is));
    }

pub BeginsWith-character : (text rest : List ℕ) (c : ℕ) → c < 1114112 → (IsSurrogate c → ⊥) → text ≡ encode c ++ rest → ((s : ℕ) (tail : List ℕ) → IsSurrogate s → text ≡ hex_spelling s ++ tail → ⊥) → BeginsWith text c rest
BeginsWith-character text rest c h other e none = record {
  within = h;
  split = e ∙ ap (λ f. f ++ rest) (sym (spelling-other c other));
  surrogates_first = λ s tail is f. absurd (none s tail is (f ∙ ap (λ g. g ++ tail) (spelling-surrogate s is)));
}

pub spelling-some : (c : ℕ) → spelling c ≡ [] → ⊥
spelling-some c e = elim (surrogate_or c) [
  | inl is ↦
      let none : 85 ∷ 43 ∷ 68 ∷ hex_digit (c / 256 % 16) ∷ hex_digit (c / 16 % 16) ∷ hex_digit (c % 16) ∷ [] ≡ [] = sym (hex_form c is) ∙ sym (spelling-surrogate c is) ∙ e in
      cc
  | inr other ↦ omega (arith, ap length (sym (spelling-other c other) ∙ e), length-encode c, (len_utf8_bounds c).0)
]

-- what the reading of a text's first code point says of the range that it spells
abbrev pub GoesOn : List ℕ → ℕ × ℕ → Type 0
GoesOn rest range = ((rest ≡ []) × (range.0 ≡ range.1)) ⊎ (rest ≡ 45 ∷ spelling range.1)

pub first_read : (text rest : List ℕ) (c : ℕ) (range : ℕ × ℕ) → BeginsWith text c rest → SpellsRange text range → (c ≡ range.0) × GoesOn rest range
first_read text rest c range begins h = elim h.spelled [
  | inl one ↦
      let read = one_reading text rest [] c range.0 begins (one.0 ∙ sym (append-nil (spelling range.0))) (inl refl) in
      (read.0, inl (read.1, one.1))
  | inr both ↦
      let read = one_reading text rest (45 ∷ spelling range.1) c range.0 begins both (inr (spelling range.1, refl)) in
      (read.0, inr read.1)
]

pub last_read : (text rest : List ℕ) (c x : ℕ) → BeginsWith text c rest → text ≡ spelling x → (c ≡ x) × (rest ≡ [])
last_read text rest c x begins e = one_reading text rest [] c x begins (e ∙ sym (append-nil (spelling x))) (inl refl)

-- a text that is read as a range spells it
pub SpellsRange-one : (text rest : List ℕ) (c : ℕ) → BeginsWith text c rest → rest ≡ [] → SpellsRange text (c, c)
SpellsRange-one text rest c begins e = record {
  rises = omega arith;
  within = begins.within;
  spelled = inl (begins.split ∙ ap (λ r. spelling c ++ r) e ∙ append-nil (spelling c), refl);
}

pub SpellsRange-both : (text rest more left : List ℕ) (c d : ℕ) → BeginsWith text c rest → rest ≡ 45 ∷ more → BeginsWith more d left → left ≡ [] → c ≤ d → SpellsRange text (c, d)
SpellsRange-both text rest more left c d begins e again end h = record {
  rises = h;
  within = again.within;
  spelled = inr (begins.split ∙ ap (λ r. spelling c ++ r) (e ∙ ap (λ r. 45 ∷ r) (again.split ∙ ap (λ r. spelling d ++ r) end ∙ append-nil (spelling d))));
}

-- and a text that can't be read spells none
pub no_text : (text : List ℕ) (range : ℕ × ℕ) → text ≡ [] → SpellsRange text range → ⊥
no_text text range e h = elim h.spelled [
  | inl one ↦ spelling-some range.0 (sym one.0 ∙ e)
  | inr both ↦
      let none : spelling range.0 ++ (45 ∷ spelling range.1) ≡ [] = sym both ∙ e in
      omega (arith, ap length none, length-append (spelling range.0) (45 ∷ spelling range.1))
]

pub no_dash : (text rest : List ℕ) (c : ℕ) (range : ℕ × ℕ) → BeginsWith text c rest → (rest ≡ [] → ⊥) → ((more : List ℕ) → rest ≡ 45 ∷ more → ⊥) → SpellsRange text range → ⊥
no_dash text rest c range begins some none h = elim (first_read text rest c range begins h).1 [
  | inl one ↦ some one.0
  | inr both ↦ none (spelling range.1) both
]

pub last_part : (text rest more : List ℕ) (c : ℕ) (range : ℕ × ℕ) → BeginsWith text c rest → rest ≡ 45 ∷ more → SpellsRange text range → (c ≡ range.0) × (more ≡ spelling range.1)
last_part text rest more c range begins e h =
    let read = first_read text rest c range begins h in (
      read.0,
      elim read.1 [
        | inl one ↦ let none : 45 ∷ more ≡ [] = sym e ∙ one.0 in cc
        | inr both ↦ let same : 45 ∷ more ≡ 45 ∷ spelling range.1 = sym e ∙ both in cc
      ],
    )

pub no_last : (text rest more : List ℕ) (c : ℕ) (range : ℕ × ℕ) → BeginsWith text c rest → rest ≡ 45 ∷ more → more ≡ [] → SpellsRange text range → ⊥
no_last text rest more c range begins e none h = spelling-some range.1 (sym (last_part text rest more c range begins e h).1 ∙ none)

pub not_both : (text rest more left : List ℕ) (c d : ℕ) (range : ℕ × ℕ) → BeginsWith text c rest → rest ≡ 45 ∷ more → BeginsWith more d left → SpellsRange text range → (c ≡ range.0) × (d ≡ range.1) × (left ≡ [])
not_both text rest more left c d range begins e again h =
    let part = last_part text rest more c range begins e h in
    let last = last_read more left d range.1 again part.1 in
    (part.0, last.0, last.1)

-- a text spells one range at most
pub one_range : (text : List ℕ) (range other : ℕ × ℕ) → SpellsRange text range → SpellsRange text other → (range.0 ≡ other.0) × (range.1 ≡ other.1)
one_range text range other h l = elim h.spelled [
  | inl one ↦
      let begins = BeginsWith-spelling text [] range.0 (omega (arith, h.rises, h.within)) (one.0 ∙ sym (append-nil (spelling range.0))) (inl refl) in
      let read = first_read text [] range.0 other begins l in (
        read.0,
        elim read.1 [
          | inl alone ↦ sym one.1 ∙ read.0 ∙ alone.1
          | inr both ↦ cc
        ],
      )
  | inr both ↦
      let begins = BeginsWith-spelling text (45 ∷ spelling range.1) range.0 (omega (arith, h.rises, h.within)) both (inr (spelling range.1, refl)) in
      let part = last_part text (45 ∷ spelling range.1) (spelling range.1) range.0 other begins refl l in
      let again = BeginsWith-spelling (spelling range.1) [] range.1 h.within (sym (append-nil (spelling range.1))) (inl refl) in
      (part.0, (last_read (spelling range.1) [] range.1 other.1 again part.1).0)
]

-- what is written for a range spells it
pub SpellsRange-range_text : (range : ℕ × ℕ) → range.0 ≤ range.1 → range.1 < 1114112 → SpellsRange (range_text range) range
SpellsRange-range_text range h l = elim (cases_lt range.0 range.1) [
  | inl below ↦ record {
    rises = h;
    within = l;
    spelled = inr (grind (arith, nat_tests));
  }
  | inr up ↦
      let same : range.0 ≡ range.1 = omega arith in
      record {
        rises = h;
        within = l;
        spelled = inl (grind (arith, nat_tests), same);
      }
]
