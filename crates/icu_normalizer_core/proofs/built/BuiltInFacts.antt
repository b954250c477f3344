-- What is built in: its mappings end, and name scalar values; a syllable's pair is its mapping.
use Rattle.std.proofs.Common.{◌≡◌, ◌≢◌, ℕ, ◌+◌, ◌-◌, ◌*◌, ◌/◌, ◌%◌, ◌<◌, ◌≤◌, ◌⊎◌, inl, inr, ⊎_elim, cond, ◌==◌, ◌||◌, ◌&&◌, leb, Bool, List, [], ◌∷◌, length, true, false, Option, Some, None, refl, sym, ap, ◌∙◌, arith, subst}
use Rattle.std.specs.List.{All}
use Rattle.std.specs.Char.{IsScalar}
use lib.Utf8.{low_scalar}
use Rattle.std.proofs.lemmas.Bool.{and_parts, and_from, leb-true, le-leb, lt-leb, and_right, and_left, cases_Bool, cond-true, cond-false, eq-eqb, eqb-true, ne_eqb, or_left, both_ways, cases_lt}
use Rattle.std.proofs.lemmas.Bool.Decides.{eqb_tells, nat_tests}
use Rattle.std.proofs.lemmas.Option.{none-some, same_Some}
use Rattle.std.proofs.lemmas.List.Elements.{All-nil, All-cons}
use Rattle.icu_normalizer_core.specs.BuiltIn.{is_within, is_syllable, is_open_syllable, is_jamo, syllable_step, singled_out, syllable_of, built_in_step, built_in_class}
use Rattle.icu_normalizer_core.specs.CanonicalWords.{syllable_letters, built_in_full}
use Rattle.icu_normalizer_core.specs.Canonical.{Leaves}
use Rattle.icu_normalizer_core.proofs.settling.LeftLemmas.{left_alone, left_single, left_double}

is_within-true : (a b c : ℕ) → is_within a b c ≡ true → (a ≤ c) × (c ≤ b)
is_within-true a b c e = let w = and_parts (leb a c) (leb c b) e in (leb-true a c w.0, leb-true c b w.1)

le-is_within : (a b c : ℕ) → a ≤ c → c ≤ b → is_within a b c ≡ true
le-is_within a b c h k = and_from (leb a c) (leb c b) (le-leb a c h) (le-leb c b k)

lt-is_within : (a b c : ℕ) → c < a → is_within a b c ≡ false
lt-is_within a b c h = and_left (leb a c) (leb c b) (lt-leb a c h)

gt-is_within : (a b c : ℕ) → b < c → is_within a b c ≡ false
gt-is_within a b c h = and_right (leb a c) (leb c b) (lt-leb c b h)

-- one test of a chain
at_test : (Q : ℕ → List ℕ → Type 0) (c a : ℕ) (xs ds : List ℕ) (rest : Option (List ℕ)) → Q a xs → (rest ≡ Some ds → Q c ds)
    → cond (c == a) (Some xs) rest ≡ Some ds → Q c ds
at_test Q c a xs ds rest here later e =
    ⊎_elim
    (λ w. let same : xs ≡ ds = same_Some xs ds (sym (cond-true (c == a) (Some xs) rest w.0) ∙ e) in
    subst (λ x. Q x ds) (sym w.1) (subst (λ ys. Q a ys) same here))
    (λ w. later (sym (cond-false (c == a) (Some xs) rest w.0) ∙ e))
    (eqb_tells c a)

-- what holds of the seven and their mappings
pub all_singled_out : (Q : ℕ → List ℕ → Type 0) → Q 0x340 (0x300 ∷ []) → Q 0x341 (0x301 ∷ []) → Q 0x343 (0x313 ∷ []) → Q 0x344 (0x308 ∷ 0x301 ∷ [])
    → Q 0xf73 (0xf71 ∷ 0xf72 ∷ []) → Q 0xf75 (0xf71 ∷ 0xf74 ∷ []) → Q 0xf81 (0xf71 ∷ 0xf80 ∷ [])
    → (c : ℕ) (ds : List ℕ) → singled_out c ≡ Some ds → Q c ds
unfolding singled_out
all_singled_out Q q1 q2 q3 q4 q5 q6 q7 c ds e =
    at_test Q c 0x340 _ ds _ q1
    (at_test Q c 0x341 _ ds _ q2
    (at_test Q c 0x343 _ ds _ q3
    (at_test Q c 0x344 _ ds _ q4
    (at_test Q c 0xf73 _ ds _ q5
    (at_test Q c 0xf75 _ ds _ q6
    (at_test Q c 0xf81 _ ds _ q7 (λ n. absurd (none-some ds n)))))))) e

-- a built-in mapping is a syllable's, none, or that of one of the seven
pub built_in_cases : (c : ℕ) (ds : List ℕ) → built_in_step c ≡ Some ds
    → ((is_syllable c ≡ true) × (syllable_step c ≡ ds)) ⊎ ((ds ≡ []) ⊎ (singled_out c ≡ Some ds))
unfolding built_in_step
built_in_cases c ds e =
    ⊎_elim
    (λ t. inl (t, same_Some (syllable_step c) ds (sym (cond-true (is_syllable c) _ _ t) ∙ e)))
    (λ f. let rest = sym (cond-false (is_syllable c) (Some (syllable_step c)) (cond (is_jamo c || (c == 0xfffd)) (Some []) (singled_out c)) f) ∙ e in
    ⊎_elim
    (λ t. inr (inl (sym (same_Some [] ds (sym (cond-true (is_jamo c || (c == 0xfffd)) (Some []) (singled_out c) t) ∙ rest)))))
    (λ g. inr (inr (sym (cond-false (is_jamo c || (c == 0xfffd)) (Some []) (singled_out c) g) ∙ rest)))
    (cases_Bool (is_jamo c || (c == 0xfffd))))
    (cases_Bool (is_syllable c))

abbrev pub IsOfJamo : ℕ → Type 0
IsOfJamo c =
    (a : ℕ) × (b : ℕ) × (syllable_step c ≡ a ∷ b ∷ []) × (is_jamo b ≡ true) × (b < 0xd800) × (a < 0xd800)
    × ((is_jamo a ≡ true) ⊎ ((is_syllable a ≡ true) × (is_open_syllable c ≡ false) × (is_open_syllable a ≡ true)))

syllable_short : (c : ℕ) → 0xac00 ≤ c → c ≤ 0xd7a3 → (((c - 0xac00) % 28) == 0) ≡ true → IsOfJamo c
unfolding syllable_step
syllable_short c low high t =
    let a : ℕ = 0x1100 + (c - 0xac00) / 588 in
    let b : ℕ = 0x1161 + (c - 0xac00) % 588 / 28 in (
      a,
      b,
      cond-true _ _ _ t,
      le-is_within 0x1100 0x11ff b (omega arith) (omega arith),
      omega arith,
      omega arith,
      inl (le-is_within 0x1100 0x11ff a (omega arith) (omega arith)),
    )

syllable_long : (c : ℕ) → 0xac00 ≤ c → c ≤ 0xd7a3 → is_syllable c ≡ true → (((c - 0xac00) % 28) == 0) ≡ false → IsOfJamo c
unfolding syllable_step
syllable_long c low high e f =
    let a : ℕ = c - (c - 0xac00) % 28 in
    let b : ℕ = 0x11a7 + (c - 0xac00) % 28 in
    let inside : is_syllable a ≡ true = le-is_within 0xac00 0xd7a3 a (omega arith) (omega arith) in
    let even : (a - 0xac00) % 28 ≡ 0 = omega arith in (
      a,
      b,
      cond-false _ _ _ f,
      le-is_within 0x1100 0x11ff b (omega arith) (omega arith),
      omega arith,
      omega arith,
      inr (inside, and_right (is_syllable c) _ f, and_from (is_syllable a) (((a - 0xac00) % 28) == 0) inside (eq-eqb ((a - 0xac00) % 28) 0 even)),
    )

-- a syllable without a trailing consonant is two jamo; another is a syllable without one, and a jamo
pub syllable_cases : (c : ℕ) → is_syllable c ≡ true → IsOfJamo c
syllable_cases c e =
    let r = is_within-true 0xac00 0xd7a3 c e in
    ⊎_elim (λ t. syllable_short c r.0 r.1 t) (λ f. syllable_long c r.0 r.1 e f) (cases_Bool (((c - 0xac00) % 28) == 0))

-- a jamo has no mapping
pub jamo_unmapped : (c : ℕ) → is_jamo c ≡ true → built_in_step c ≡ Some []
unfolding built_in_step
jamo_unmapped c e =
    let r = is_within-true 0x1100 0x11ff c e in
    cond-false (is_syllable c) _ _ (lt-is_within 0xac00 0xd7a3 c (omega arith)) ∙ cond-true _ _ _ (or_left (is_jamo c) _ e)

pub syllable_mapped : (c : ℕ) → is_syllable c ≡ true → built_in_step c ≡ Some (syllable_step c)
unfolding built_in_step
syllable_mapped c e = cond-true (is_syllable c) _ _ e

-- an open syllable is two jamo
pub open_syllable_cases : (c : ℕ) → is_open_syllable c ≡ true → (a : ℕ) × (b : ℕ) × (syllable_step c ≡ a ∷ b ∷ []) × (is_jamo a ≡ true) × (is_jamo b ≡ true)
open_syllable_cases c e =
    let w = syllable_cases c (and_parts (is_syllable c) _ e).0 in
    (w.0, w.1, w.2, ⊎_elim (λ j. j) (λ v. absurd (both_ways (is_open_syllable c) v.1 e)) w.6, w.3)

-- ---- Classes

at_choice : (P : ℕ → Type 0) (b : Bool) (x k : ℕ) (rest : Option ℕ) → P x → (rest ≡ Some k → P k) → cond b (Some x) rest ≡ Some k → P k
at_choice P true x k rest here later e = subst P (same_Some x k e) here
at_choice P false x k rest here later e = later e

abbrev IsSmall : ℕ → Type 0
IsSmall k = k < 255

pub small_class : (c k : ℕ) → built_in_class c ≡ Some k → k < 255
unfolding built_in_class
small_class c k e =
    at_choice IsSmall _ 230 k _ (omega arith)
    (at_choice IsSmall _ 129 k _ (omega arith)
    (at_choice IsSmall _ 130 k _ (omega arith)
    (at_choice IsSmall _ 132 k _ (omega arith)
    (at_choice IsSmall _ 8 k _ (omega arith)
    (at_choice IsSmall _ 0 k None (omega arith) (λ n. absurd (none-some k n))))))) e

no_class_high : (c : ℕ) → 0xd7a4 ≤ c → c < 0xe000 → built_in_class c ≡ None
unfolding built_in_class
no_class_high c h k = grind (arith, nat_tests)

pub no_class_past : (c : ℕ) → 0x10000 ≤ c → built_in_class c ≡ None
unfolding built_in_class
no_class_past c h = grind (arith, nat_tests)

pub free_past : (c : ℕ) → 0x10000 ≤ c → built_in_step c ≡ None
unfolding built_in_step singled_out
free_past c h = grind (arith, nat_tests)

-- no mapping is built in below U+0300, and no full list where no mapping is
pub low_free : (c : ℕ) → c < 0x300 → built_in_step c ≡ None
unfolding built_in_step singled_out
low_free c h = grind (arith, nat_tests)

chain_none : (a b : Bool) (x y u v : List ℕ) (r : Option (List ℕ)) → cond a (Some x) (cond b (Some y) r) ≡ None → cond a (Some u) (cond b (Some v) r) ≡ None
chain_none true b x y u v r e = absurd (none-some x (sym e))
chain_none false true x y u v r e = absurd (none-some y (sym e))
chain_none false false x y u v r e = e

pub free_full : (c : ℕ) → built_in_step c ≡ None → built_in_full c ≡ None
unfolding built_in_step built_in_full
free_full c e = chain_none (is_syllable c) (is_jamo c || (c == 0xfffd)) (syllable_step c) [] _ _ (singled_out c) e

-- numbers from U+E000 to U+10FFFF are scalar values
pub high_scalar : (c : ℕ) → 0xe000 ≤ c → c < 0x110000 → IsScalar c
high_scalar c h k = grind (arith, nat_tests)

pub class_scalar : (c k : ℕ) → built_in_class c ≡ Some k → IsScalar c
class_scalar c k e =
    ⊎_elim (λ low. low_scalar c (omega arith))
    (λ above. ⊎_elim (λ lt. absurd (none-some k (sym (no_class_high c above lt) ∙ e)))
    (λ high. ⊎_elim (λ lt. high_scalar c high (omega arith)) (λ past. absurd (none-some k (sym (no_class_past c past) ∙ e))) (cases_lt c 0x10000))
    (cases_lt c 0xe000))
    (cases_lt c 0xd7a4)

-- ---- Syllables

abbrev IsBuiltOn : (ℕ → List ℕ) → Type 0
IsBuiltOn step = (c : ℕ) (ds : List ℕ) → built_in_step c ≡ Some ds → step c ≡ ds

-- the leading consonant and the vowel of a syllable's number
abbrev leading : ℕ → ℕ
leading i = 0x1100 + i / 588

abbrev vowel : ℕ → ℕ
vowel i = 0x1161 + i % 588 / 28

jamo_left : (step : ℕ → List ℕ) → IsBuiltOn step → (c : ℕ) → 0x1100 ≤ c → c ≤ 0x11ff → Leaves step (c ∷ []) (c ∷ [])
jamo_left step built c low high = left_alone step c (built c [] (jamo_unmapped c (le-is_within 0x1100 0x11ff c low high)))

letters_open : (c : ℕ) → (((c - 0xac00) % 28) == 0) ≡ true → syllable_letters c ≡ leading (c - 0xac00) ∷ vowel (c - 0xac00) ∷ []
unfolding syllable_letters
letters_open c t = ap (λ (t : List ℕ). leading (c - 0xac00) ∷ vowel (c - 0xac00) ∷ t) (cond-true _ _ _ t)

letters_closed : (c : ℕ) → (((c - 0xac00) % 28) == 0) ≡ false
    → syllable_letters c ≡ leading (c - 0xac00) ∷ vowel (c - 0xac00) ∷ (0x11a7 + (c - 0xac00) % 28) ∷ []
unfolding syllable_letters
letters_closed c f = ap (λ (t : List ℕ). leading (c - 0xac00) ∷ vowel (c - 0xac00) ∷ t) (cond-false _ _ _ f)

step_open : (c : ℕ) → is_syllable c ≡ true → (((c - 0xac00) % 28) == 0) ≡ true → built_in_step c ≡ Some (leading (c - 0xac00) ∷ vowel (c - 0xac00) ∷ [])
unfolding syllable_step
step_open c e t = syllable_mapped c e ∙ ap (λ (ds : List ℕ). Some ds) (cond-true _ _ _ t)

step_closed : (c : ℕ) → is_syllable c ≡ true → (((c - 0xac00) % 28) == 0) ≡ false
    → built_in_step c ≡ Some ((c - (c - 0xac00) % 28) ∷ (0x11a7 + (c - 0xac00) % 28) ∷ [])
unfolding syllable_step
step_closed c e f = syllable_mapped c e ∙ ap (λ (ds : List ℕ). Some ds) (cond-false _ _ _ f)

open_left : (step : ℕ → List ℕ) → IsBuiltOn step → (c : ℕ) → is_syllable c ≡ true → (((c - 0xac00) % 28) == 0) ≡ true
    → Leaves step (c ∷ []) (leading (c - 0xac00) ∷ vowel (c - 0xac00) ∷ [])
open_left step built c e t =
    let r = is_within-true 0xac00 0xd7a3 c e in
    left_double step c (leading (c - 0xac00)) (vowel (c - 0xac00)) (leading (c - 0xac00) ∷ []) (vowel (c - 0xac00) ∷ [])
    (built c _ (step_open c e t)) (jamo_left step built (leading (c - 0xac00)) (omega arith) (omega arith)) (jamo_left step built (vowel (c - 0xac00)) (omega arith) (omega arith))

closed_left : (step : ℕ → List ℕ) → IsBuiltOn step → (c : ℕ) → is_syllable c ≡ true → (((c - 0xac00) % 28) == 0) ≡ false
    → Leaves step (c ∷ []) (leading (c - 0xac00) ∷ vowel (c - 0xac00) ∷ (0x11a7 + (c - 0xac00) % 28) ∷ [])
closed_left step built c e f =
    let r = is_within-true 0xac00 0xd7a3 c e in
    let a : ℕ = c - (c - 0xac00) % 28 in
    let b : ℕ = 0x11a7 + (c - 0xac00) % 28 in
    let inside : is_syllable a ≡ true = le-is_within 0xac00 0xd7a3 a (omega arith) (omega arith) in
    let even : (a - 0xac00) % 28 ≡ 0 = omega arith in
    let first : leading (a - 0xac00) ≡ leading (c - 0xac00) = omega arith in
    let second : vowel (a - 0xac00) ≡ vowel (c - 0xac00) = omega arith in
    let front : Leaves step (a ∷ []) (leading (c - 0xac00) ∷ vowel (c - 0xac00) ∷ []) =
    subst (λ (v : ℕ). Leaves step (a ∷ []) (leading (c - 0xac00) ∷ v ∷ [])) second
    (subst (λ (l : ℕ). Leaves step (a ∷ []) (l ∷ vowel (a - 0xac00) ∷ [])) first
    (open_left step built a inside (eq-eqb ((a - 0xac00) % 28) 0 even))) in
    left_double step c a b (leading (c - 0xac00) ∷ vowel (c - 0xac00) ∷ []) (b ∷ []) (built c _ (step_closed c e f)) front
    (jamo_left step built b (omega arith) (omega arith))

-- what is left of a syllable is its letters
pub syllable_left : (step : ℕ → List ℕ) → IsBuiltOn step → (c : ℕ) → is_syllable c ≡ true → Leaves step (c ∷ []) (syllable_letters c)
syllable_left step built c e =
    ⊎_elim
    (λ t. subst (λ (t : List ℕ). Leaves step (c ∷ []) t) (sym (letters_open c t)) (open_left step built c e t))
    (λ f. subst (λ (t : List ℕ). Leaves step (c ∷ []) t) (sym (letters_closed c f)) (closed_left step built c e f))
    (cases_Bool (((c - 0xac00) % 28) == 0))

pub letters_short : (c : ℕ) → length (syllable_letters c) ≤ 3
letters_short c =
    ⊎_elim (λ t. omega (arith, ap length (letters_open c t))) (λ f. omega (arith, ap length (letters_closed c f))) (cases_Bool (((c - 0xac00) % 28) == 0))

-- ---- Pairs of syllables

-- what is known of a syllable's pair
pub record IsSyllablePair (a b c : ℕ) : Type 0 where
  pub syllable : is_syllable c ≡ true
  pub step : built_in_step c ≡ Some (a ∷ b ∷ [])
  pub second : 0x300 ≤ b
  -- a vowel or a trailing consonant
  pub from : 0x1161 ≤ b
  pub to : b < 0x1200

jamo_pair : (a b c : ℕ) → 0x1100 ≤ a → a ≤ 0x1112 → 0x1161 ≤ b → b ≤ 0x1175 → c ≡ 0xac00 + ((a - 0x1100) * 21 + (b - 0x1161)) * 28 → IsSyllablePair a b c
jamo_pair a b c al ah bl bh e =
    let inside : is_syllable c ≡ true = le-is_within 0xac00 0xd7a3 c (omega arith) (omega arith) in
    let even : (c - 0xac00) % 28 ≡ 0 = omega arith in
    let first : leading (c - 0xac00) ≡ a = omega arith in
    let second : vowel (c - 0xac00) ≡ b = omega arith in
    record {
      syllable = inside;
      step = step_open c inside (eq-eqb ((c - 0xac00) % 28) 0 even) ∙ ap (λ (l : ℕ). Some (l ∷ vowel (c - 0xac00) ∷ [])) first ∙ ap (λ (v : ℕ). Some (a ∷ v ∷ [])) second;
      second = omega arith;
      from = omega arith;
      to = omega arith;
    }

long_pair : (a b c : ℕ) → 0xac00 ≤ a → a ≤ 0xd7a3 → (a - 0xac00) % 28 ≡ 0 → 0x11a8 ≤ b → b ≤ 0x11c2 → c ≡ a + (b - 0x11a7) → IsSyllablePair a b c
long_pair a b c al ah even bl bh e =
    let inside : is_syllable c ≡ true = le-is_within 0xac00 0xd7a3 c (omega arith) (omega arith) in
    let odd : (c - 0xac00) % 28 ≢ 0 = omega arith in
    let first : c - (c - 0xac00) % 28 ≡ a = omega arith in
    let second : 0x11a7 + (c - 0xac00) % 28 ≡ b = omega arith in
    record {
      syllable = inside;
      step = step_closed c inside (ne_eqb ((c - 0xac00) % 28) 0 odd) ∙ ap (λ (l : ℕ). Some (l ∷ (0x11a7 + (c - 0xac00) % 28) ∷ [])) first ∙ ap (λ (v : ℕ). Some (a ∷ v ∷ [])) second;
      second = omega arith;
      from = omega arith;
      to = omega arith;
    }

pub syllable_pair : (a b c : ℕ) → syllable_of a b ≡ Some c → IsSyllablePair a b c
unfolding syllable_of
syllable_pair a b c e =
    ⊎_elim
    (λ t.
    let both = and_parts (is_within 0x1100 0x1112 a) (is_within 0x1161 0x1175 b) t in
    let first = is_within-true 0x1100 0x1112 a both.0 in
    let second = is_within-true 0x1161 0x1175 b both.1 in
    jamo_pair a b c first.0 first.1 second.0 second.1 (sym (same_Some _ c (sym (cond-true _ _ _ t) ∙ e))))
    (λ f.
    let rest = sym (cond-false _ _ _ f) ∙ e in
    ⊎_elim
    (λ t.
    let both = and_parts (is_open_syllable a) (is_within 0x11a8 0x11c2 b) t in
    let opened = and_parts (is_syllable a) (((a - 0xac00) % 28) == 0) both.0 in
    let first = is_within-true 0xac00 0xd7a3 a opened.0 in
    let second = is_within-true 0x11a8 0x11c2 b both.1 in
    long_pair a b c first.0 first.1 (eqb-true ((a - 0xac00) % 28) 0 opened.1) second.0 second.1 (sym (same_Some _ c (sym (cond-true _ _ _ t) ∙ rest))))
    (λ g. absurd (none-some c (sym (cond-false _ _ _ g) ∙ rest)))
    (cases_Bool (is_open_syllable a && is_within 0x11a8 0x11c2 b)))
    (cases_Bool (is_within 0x1100 0x1112 a && is_within 0x1161 0x1175 b))

-- ---- Mappings

abbrev AreShort : ℕ → List ℕ → Type 0
AreShort c ds = All IsScalar ds × (length ds ≤ 2)

short_none : All IsScalar [] × (length {A = ℕ} [] ≤ 2)
short_none = (All-nil IsScalar, omega arith)

short_one : (a : ℕ) → IsScalar a → All IsScalar (a ∷ []) × (length (a ∷ []) ≤ 2)
short_one a s = (All-cons IsScalar a [] s (All-nil IsScalar), omega arith)

short_two : (a b : ℕ) → IsScalar a → IsScalar b → All IsScalar (a ∷ b ∷ []) × (length (a ∷ b ∷ []) ≤ 2)
short_two a b s t = (All-cons IsScalar a (b ∷ []) s (All-cons IsScalar b [] t (All-nil IsScalar)), omega arith)

singled_short : (c : ℕ) (ds : List ℕ) → singled_out c ≡ Some ds → AreShort c ds
singled_short =
    all_singled_out AreShort (short_one 0x300 refl) (short_one 0x301 refl) (short_one 0x313 refl) (short_two 0x308 0x301 refl refl)
    (short_two 0xf71 0xf72 refl refl) (short_two 0xf71 0xf74 refl refl) (short_two 0xf71 0xf80 refl refl)

-- a built-in mapping has at most two characters, each a scalar value
pub built_in_short : (c : ℕ) (ds : List ℕ) → built_in_step c ≡ Some ds → All IsScalar ds × (length ds ≤ 2)
built_in_short c ds e =
    ⊎_elim
    (λ w. let s = syllable_cases c w.0 in
    subst (λ (t : List ℕ). All IsScalar t × (length t ≤ 2)) (sym s.2 ∙ w.1) (short_two s.0 s.1 (low_scalar s.0 s.5) (low_scalar s.1 s.4)))
    (λ w. ⊎_elim
    (λ none. subst (λ (t : List ℕ). All IsScalar t × (length t ≤ 2)) (sym none) short_none)
    (λ one. singled_short c ds one) w)
    (built_in_cases c ds e)

-- what has a built-in mapping is a scalar value
pub syllable_scalar : (c : ℕ) → is_syllable c ≡ true → IsScalar c
syllable_scalar c e = let r = is_within-true 0xac00 0xd7a3 c e in low_scalar c (omega arith)

syllable_not_singled : (c : ℕ) → 0xac00 ≤ c → singled_out c ≡ None
unfolding singled_out
syllable_not_singled c h = grind (arith, nat_tests)

pub syllable_unsingled : (c : ℕ) → is_syllable c ≡ true → singled_out c ≡ None
syllable_unsingled c e = let r = is_within-true 0xac00 0xd7a3 c e in syllable_not_singled c r.0

-- one of the seven has a built-in mapping
pub singled_mapped : (c : ℕ) (ds : List ℕ) → singled_out c ≡ Some ds → built_in_step c ≡ Some ds
unfolding built_in_step singled_out
singled_mapped =
    all_singled_out (λ c ds. built_in_step c ≡ Some ds) refl refl refl refl refl refl refl

-- ---- Full lists

-- a mark with a built-in class is not mapped
abbrev MarksUnmapped : (ℕ → List ℕ) → Type 0
MarksUnmapped step = (c k : ℕ) → built_in_class c ≡ Some k → 0 < k → built_in_step c ≡ None → step c ≡ []

mark_left : (step : ℕ → List ℕ) → MarksUnmapped step → (c k : ℕ) → built_in_class c ≡ Some k → 0 < k → built_in_step c ≡ None → Leaves step (c ∷ []) (c ∷ [])
mark_left step marks c k class above free = left_alone step c (marks c k class above free)

singled_left : (step : ℕ → List ℕ) → IsBuiltOn step → MarksUnmapped step → (c : ℕ) (ds : List ℕ) → singled_out c ≡ Some ds → Leaves step (c ∷ []) ds
unfolding built_in_step built_in_class singled_out
singled_left step built marks =
    let mark = mark_left step marks in
    let m300 = mark 0x300 230 refl (omega arith) refl in
    let m301 = mark 0x301 230 refl (omega arith) refl in
    let m308 = mark 0x308 230 refl (omega arith) refl in
    let m313 = mark 0x313 230 refl (omega arith) refl in
    let mf71 = mark 0xf71 129 refl (omega arith) refl in
    let mf72 = mark 0xf72 130 refl (omega arith) refl in
    let mf74 = mark 0xf74 132 refl (omega arith) refl in
    let mf80 = mark 0xf80 130 refl (omega arith) refl in
    all_singled_out (λ c ds. Leaves step (c ∷ []) ds)
    (left_single step 0x340 0x300 (0x300 ∷ []) (built 0x340 _ refl) m300)
    (left_single step 0x341 0x301 (0x301 ∷ []) (built 0x341 _ refl) m301)
    (left_single step 0x343 0x313 (0x313 ∷ []) (built 0x343 _ refl) m313)
    (left_double step 0x344 0x308 0x301 (0x308 ∷ []) (0x301 ∷ []) (built 0x344 _ refl) m308 m301)
    (left_double step 0xf73 0xf71 0xf72 (0xf71 ∷ []) (0xf72 ∷ []) (built 0xf73 _ refl) mf71 mf72)
    (left_double step 0xf75 0xf71 0xf74 (0xf71 ∷ []) (0xf74 ∷ []) (built 0xf75 _ refl) mf71 mf74)
    (left_double step 0xf81 0xf71 0xf80 (0xf71 ∷ []) (0xf80 ∷ []) (built 0xf81 _ refl) mf71 mf80)

-- the full list of a character with a built-in mapping is what steps leave
pub record IsBuiltInFull (step : ℕ → List ℕ) (c : ℕ) : Type 0 where
  pub list : List ℕ
  pub is : built_in_full c ≡ Some list
  pub left : Leaves step (c ∷ []) list
  pub short : length list ≤ 3

pub built_in_left : (step : ℕ → List ℕ) → IsBuiltOn step → MarksUnmapped step → (c : ℕ) (ds : List ℕ) → built_in_step c ≡ Some ds → IsBuiltInFull step c
unfolding built_in_step built_in_full
built_in_left step built marks c ds e =
    ⊎_elim
    (λ t. record {
      list = syllable_letters c;
      is = cond-true (is_syllable c) _ _ t;
      left = syllable_left step built c t;
      short = letters_short c;
    })
    (λ f. let rest = sym (cond-false (is_syllable c) (Some (syllable_step c)) (cond (is_jamo c || (c == 0xfffd)) (Some []) (singled_out c)) f) ∙ e in
    ⊎_elim
    (λ t.
    let none : [] ≡ ds = same_Some [] ds (sym (cond-true (is_jamo c || (c == 0xfffd)) (Some []) (singled_out c) t) ∙ rest) in
    record {
      list = c ∷ [];
      is = cond-false (is_syllable c) _ _ f ∙ cond-true (is_jamo c || (c == 0xfffd)) _ _ t;
      left = left_alone step c (built c ds e ∙ sym none);
      short = omega arith;
    })
    (λ g.
    let one : singled_out c ≡ Some ds = sym (cond-false (is_jamo c || (c == 0xfffd)) (Some []) (singled_out c) g) ∙ rest in
    record {
      list = ds;
      is = cond-false (is_syllable c) _ _ f ∙ cond-false (is_jamo c || (c == 0xfffd)) _ _ g ∙ one;
      left = singled_left step built marks c ds one;
      short = let s = (singled_short c ds one).1 in omega arith;
    })
    (cases_Bool (is_jamo c || (c == 0xfffd))))
    (cases_Bool (is_syllable c))
