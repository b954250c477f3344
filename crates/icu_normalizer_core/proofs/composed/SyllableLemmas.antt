-- Hangul syllables with the word of syllables: composing leaves them alone.
use Rattle.std.proofs.Common.{◌≡◌, ℕ, ◌+◌, ◌-◌, ◌*◌, ◌/◌, ◌%◌, ◌<◌, ◌≤◌, ⊎_elim, ◌==◌, ◌&&◌, ltb, leb, List, [], ◌∷◌, cond, true, false, Option, Some, None, refl, sym, ap, subst, ◌∙◌, arith}
use Rattle.std.specs.Option.{IfSome}
use Rattle.std.specs.List.{Contains}
use Rattle.std.proofs.lemmas.Bool.{and_from, and_parts, and_left, and_right, both_ways, cases_Bool, cond-true, cond-false, eq-eqb, eqb-true, leb-true, le-leb, lt-leb}
use Rattle.std.proofs.lemmas.Bool.Decides.{nat_tests}
use Rattle.icu_normalizer_core.specs.BuiltIn.{is_within, is_syllable, is_open_syllable, is_jamo, built_in_class, syllable_of}
use Rattle.icu_normalizer_core.specs.Boundaries.{IsSteady}
use Rattle.icu_normalizer_core.specs.Canonical.{Canonical, composed, marks_in_order, put_in_order, recomposed}
use Rattle.icu_normalizer_core.specs.CanonicalFaults.{IsAccepted}
use Rattle.icu_normalizer_core.specs.CanonicalLists.{CanonicalLists, canonical_of}
use Rattle.icu_normalizer_core.specs.CanonicalWords.{full_of_word, syllable_letters}
use Rattle.icu_normalizer_core.specs.Plain.{IsPlainSyllable}
use Rattle.icu_normalizer_core.proofs.accepted.AcceptedPairs.{canonical, cases_option, listed_free}
use Rattle.icu_normalizer_core.proofs.accepted.TableMeanings.{full_is, pair_syllable}
use Rattle.icu_normalizer_core.proofs.built.BuiltInFacts.{syllable_pair}
use Rattle.icu_normalizer_core.proofs.composed.CompositionLemmas.{composed_one, composing_end, composing_joined, recomposed_starter}

within : (a b c : ℕ) → is_within a b c ≡ true → (a ≤ c) × (c ≤ b)
within a b c e = let w = and_parts (leb a c) (leb c b) e in (leb-true a c w.0, leb-true c b w.1)

inside : (a b c : ℕ) → a ≤ c → c ≤ b → is_within a b c ≡ true
inside a b c h k = and_from (leb a c) (leb c b) (le-leb a c h) (le-leb c b k)

above : (a b c : ℕ) → b < c → is_within a b c ≡ false
above a b c h = and_right (leb a c) (leb c b) (lt-leb c b h)

-- ---- Starters stay where they stand

put_starter : (class : ℕ → ℕ) (c d : ℕ) (ds : List ℕ) → class d ≡ 0 → put_in_order class c (d ∷ ds) ≡ c ∷ d ∷ ds
unfolding put_in_order
put_starter class c d ds e = ap (λ (n : ℕ). cond (ltb 0 n && ltb n (class c)) (d ∷ put_in_order class c ds) (c ∷ d ∷ ds)) e

in_order_one : (class : ℕ → ℕ) (a : ℕ) → marks_in_order class (a ∷ []) ≡ a ∷ []
unfolding marks_in_order put_in_order
in_order_one class a = refl

in_order_more : (class : ℕ → ℕ) (a b : ℕ) (cs : List ℕ) → class b ≡ 0 → marks_in_order class (b ∷ cs) ≡ b ∷ cs → marks_in_order class (a ∷ b ∷ cs) ≡ a ∷ b ∷ cs
unfolding marks_in_order
in_order_more class a b cs e rest = ap (put_in_order class a) rest ∙ put_starter class a b cs e

-- ---- The letters of a syllable

-- the leading consonant, the vowel and the trailing consonant of a syllable's number
abbrev leading : ℕ → ℕ
leading i = 0x1100 + i / 588

abbrev vowel : ℕ → ℕ
vowel i = 0x1161 + i % 588 / 28

abbrev trailing : ℕ → ℕ
trailing i = 0x11a7 + i % 28

letters_open : (c : ℕ) → (((c - 0xac00) % 28) == 0) ≡ true → syllable_letters c ≡ leading (c - 0xac00) ∷ vowel (c - 0xac00) ∷ []
unfolding syllable_letters
letters_open c t = ap (λ (t : List ℕ). leading (c - 0xac00) ∷ vowel (c - 0xac00) ∷ t) (cond-true _ _ _ t)

letters_closed : (c : ℕ) → (((c - 0xac00) % 28) == 0) ≡ false → syllable_letters c ≡ leading (c - 0xac00) ∷ vowel (c - 0xac00) ∷ trailing (c - 0xac00) ∷ []
unfolding syllable_letters
letters_closed c f = ap (λ (t : List ℕ). leading (c - 0xac00) ∷ vowel (c - 0xac00) ∷ t) (cond-false _ _ _ f)

-- the first two letters compose to the syllable without its trailing consonant
first_pair : (c : ℕ) → 0xac00 ≤ c → c ≤ 0xd7a3 → syllable_of (leading (c - 0xac00)) (vowel (c - 0xac00)) ≡ Some (c - (c - 0xac00) % 28)
unfolding syllable_of
first_pair c low high =
    let i : ℕ = c - 0xac00 in
    let first = inside 0x1100 0x1112 (leading i) (omega arith) (omega arith) in
    let second = inside 0x1161 0x1175 (vowel i) (omega arith) (omega arith) in
    let same : 0xac00 + ((leading i - 0x1100) * 21 + (vowel i - 0x1161)) * 28 ≡ c - i % 28 = omega arith in
    cond-true _ _ _ (and_from (is_within 0x1100 0x1112 (leading i)) (is_within 0x1161 0x1175 (vowel i)) first second) ∙ ap (λ (n : ℕ). Some n) same

-- that and the trailing consonant compose to the syllable
second_pair : (c : ℕ) → 0xac00 ≤ c → c ≤ 0xd7a3 → (((c - 0xac00) % 28) == 0) ≡ false → syllable_of (c - (c - 0xac00) % 28) (trailing (c - 0xac00)) ≡ Some c
unfolding syllable_of
second_pair c low high f =
    let a : ℕ = c - (c - 0xac00) % 28 in
    let b : ℕ = trailing (c - 0xac00) in
    let even : (a - 0xac00) % 28 ≡ 0 = omega arith in
    let some : 0 < (c - 0xac00) % 28 = grind (arith, nat_tests) in
    let opened = and_from (is_syllable a) (((a - 0xac00) % 28) == 0) (inside 0xac00 0xd7a3 a (omega arith) (omega arith)) (eq-eqb ((a - 0xac00) % 28) 0 even) in
    let last = inside 0x11a8 0x11c2 b (omega arith) (omega arith) in
    let same : a + (b - 0x11a7) ≡ c = omega arith in
    cond-false _ _ _ (and_left (is_within 0x1100 0x1112 a) (is_within 0x1161 0x1175 b) (above 0x1100 0x1112 a (omega arith)))
    ∙ cond-true _ _ _ (and_from (is_open_syllable a) (is_within 0x11a8 0x11c2 b) opened last) ∙ ap (λ (n : ℕ). Some n) same

-- ---- A syllable with its word

one_full : (scalars16 scalars24 : List ℕ) (c : ℕ) → full_of_word scalars16 scalars24 c 1 ≡ syllable_letters c
unfolding full_of_word
one_full scalars16 scalars24 c = refl

jamo_class : (c : ℕ) → 0x1100 ≤ c → c ≤ 0x11ff → built_in_class c ≡ Some 0
unfolding built_in_class
jamo_class c h k = grind (arith, nat_tests)

last_of_two : (a b : ℕ) (xs : List ℕ) → xs ≡ a ∷ b ∷ [] → Contains xs b
last_of_two a b xs e = subst (λ (ys : List ℕ). Contains ys b) (sym e) (1, omega arith, refl)

module _ (lists : CanonicalLists) (accepted : IsAccepted lists) where
  abbrev means : Canonical
  means = canonical_of lists

  letter_class : (c : ℕ) → 0x1100 ≤ c → c ≤ 0x11ff → means.class c ≡ 0
  letter_class c h k =
      subst (λ (o : Option ℕ). IfSome o (λ n. means.class c ≡ n)) (jamo_class c h k) ((canonical lists accepted).decomposing.built_in_classes c)

  -- no pair has a leading consonant as its second
  leading_alone : (a b : ℕ) → 0x1100 ≤ b → b ≤ 0x1112 → means.pair a b ≡ None
  leading_alone a b h k =
      ⊎_elim (λ none. none)
      (λ some. let z = some.0 in
      ⊎_elim
      (λ none.
      let step = (canonical lists accepted).composing.mapped a b z some.1 in
      let scalar = (canonical lists accepted).composing.scalars a b z some.1 in
      let other = (canonical lists accepted).decomposing.letters z b scalar (listed_free lists accepted a b z some.1 none) (last_of_two a b (means.step z) step) in
      absurd (both_ways (is_jamo b) other.0 (inside 0x1100 0x11ff b h (omega arith))))
      (λ syllable. let from = (syllable_pair a b syllable.0 syllable.1).from in absurd (omega (arith, from, k)))
      (cases_option (syllable_of a b)))
      (cases_option (means.pair a b))

  own_open : (c : ℕ) → 0xac00 ≤ c → c ≤ 0xd7a3 → (((c - 0xac00) % 28) == 0) ≡ true → means.full c ≡ syllable_letters c → composed means (c ∷ []) ≡ c ∷ []
  own_open c low high t full =
      let i : ℕ = c - 0xac00 in
      let l : ℕ = leading i in
      let v : ℕ = vowel i in
      let even : i % 28 ≡ 0 = eqb-true (i % 28) 0 t in
      let same : c - i % 28 ≡ c = omega (arith, even) in
      let sorted = ap (marks_in_order means.class) (full ∙ letters_open c t) ∙ in_order_more means.class l v [] (letter_class v (omega arith) (omega arith)) (in_order_one means.class v) in
      composed_one means c ∙ ap (recomposed means) sorted ∙ recomposed_starter means l (v ∷ []) (letter_class l (omega arith) (omega arith))
      ∙ composing_joined means l v (c - i % 28) [] (pair_syllable lists l v (c - i % 28) (first_pair c low high))
      ∙ composing_end means (c - i % 28) ∙ ap (λ (n : ℕ). n ∷ []) same

  own_closed : (c : ℕ) → 0xac00 ≤ c → c ≤ 0xd7a3 → (((c - 0xac00) % 28) == 0) ≡ false → means.full c ≡ syllable_letters c → composed means (c ∷ []) ≡ c ∷ []
  own_closed c low high f full =
      let i : ℕ = c - 0xac00 in
      let l : ℕ = leading i in
      let v : ℕ = vowel i in
      let t : ℕ = trailing i in
      let s : ℕ = c - i % 28 in
      let sorted = ap (marks_in_order means.class) (full ∙ letters_closed c f)
      ∙ in_order_more means.class l v (t ∷ []) (letter_class v (omega arith) (omega arith))
      (in_order_more means.class v t [] (letter_class t (omega arith) (omega arith)) (in_order_one means.class t)) in
      composed_one means c ∙ ap (recomposed means) sorted ∙ recomposed_starter means l (v ∷ t ∷ []) (letter_class l (omega arith) (omega arith))
      ∙ composing_joined means l v s (t ∷ []) (pair_syllable lists l v s (first_pair c low high))
      ∙ composing_joined means s t c [] (pair_syllable lists s t c (second_pair c low high f))
      ∙ composing_end means c

  pub syllable_steady : (c : ℕ) → IsPlainSyllable lists c → IsSteady means c
  syllable_steady c plain =
      let r = within 0xac00 0xd7a3 c plain.2 in
      let i : ℕ = c - 0xac00 in
      let full : means.full c ≡ syllable_letters c = full_is lists c ∙ ap (full_of_word lists.scalars16 lists.scalars24 c) plain.1 ∙ one_full lists.scalars16 lists.scalars24 c in
      let low : 0x1100 ≤ leading i = omega arith in
      let high : leading i ≤ 0x1112 = omega (arith, r.0, r.1) in
      let starter = letter_class (leading i) low (omega arith) in
      let alone = λ (a : ℕ). leading_alone a (leading i) low high in
      ⊎_elim
      (λ t. ((leading i, vowel i ∷ [], full ∙ letters_open c t, starter, alone), own_open c r.0 r.1 t full))
      (λ f. ((leading i, vowel i ∷ trailing i ∷ [], full ∙ letters_closed c f, starter, alone), own_closed c r.0 r.1 f full))
      (cases_Bool ((i % 28) == 0))
