-- Where the bytes of a weight begin those of another, told by the weights as numbers.
use Rattle.std.proofs.Common.{◌≡◌, ⊎_elim, ℕ, ◌-◌, ◌*◌, ◌/◌, ◌%◌, ◌^◌, ◌<◌, Bool, true, false, cond, not, ◌==◌, ltb, ◌&&◌, ◌||◌, List, [], ◌∷◌, refl, sym, ap, ap₂, ◌∙◌, arith}
use Rattle.std.proofs.lemmas.Bool.{and_from, and_parts, cases_Bool, cases_lt, eq-eqb, eqb-false, eqb-true, false_from_ne_true, false≢true, lt-ltb, ltb-true, ne_eqb, not-true, not_from_false, or_cases, or_left, or_parts, or_right}
use Rattle.icu_collator_core.specs.Numbers.{without_last_zeros}
use Rattle.icu_collator_core.specs.WeightLists.{begins}
use Rattle.icu_collator_core.specs.WeightRules.{are_apart, is_empty, is_proper_beginning, primary_bytes, primary_rest, weight_bytes}
use Rattle.icu_collator_core.proofs.weights.PrimaryRestLemmas.{before_left, left_of_cons, nothing}

-- ---- Bytes without those of 00 at the end

and_false : (b : Bool) → false ≡ (b && false)
and_false true = refl
and_false false = refl

and_true : (b : Bool) → b ≡ (b && true)
and_true true = refl
and_true false = refl

-- the same of one number more in front of each
begun : Bool → Bool → Bool → Bool → Bool → Bool → Bool
begun p_zero q_zero same rest_p_empty rest_q_empty rest = ((p_zero && rest_p_empty) && not (q_zero && rest_q_empty)) || (same && rest)

in_front : (p q : ℕ) (ps qs : List ℕ)
    → is_proper_beginning (before_left p ps) (before_left q qs) ≡ begun (p == 0) (q == 0) (p == q) (is_empty ps) (is_empty qs) (is_proper_beginning ps qs)
unfolding before_left is_proper_beginning begun
in_front p q [] [] = at (p == 0) (q == 0)
  where
    at : (a b : Bool) → is_proper_beginning (cond a [] (p ∷ [])) (cond b [] (q ∷ [])) ≡ (((a && true) && not (b && true)) || ((p == q) && false))
    at true true = and_false (p == q)
    at true false = refl
    at false true = and_false (p == q)
    at false false = refl
in_front p q [] (y ∷ ys) = at (p == 0) (q == 0)
  where
    at : (a b : Bool) → is_proper_beginning (cond a [] (p ∷ [])) (q ∷ y ∷ ys) ≡ (((a && true) && not (b && false)) || ((p == q) && true))
    at true true = refl
    at true false = refl
    at false true = refl
    at false false = refl
in_front p q (x ∷ xs) [] = at (p == 0) (q == 0)
  where
    at : (a b : Bool) → is_proper_beginning (p ∷ x ∷ xs) (cond b [] (q ∷ [])) ≡ (((a && false) && not (b && true)) || ((p == q) && false))
    at true true = and_false (p == q)
    at true false = refl
    at false true = and_false (p == q)
    at false false = refl
in_front p q (x ∷ xs) (y ∷ ys) = at (p == 0) (q == 0)
  where
    at : (a b : Bool) → ((p == q) && is_proper_beginning (x ∷ xs) (y ∷ ys)) ≡ (((a && false) && not (b && false)) || ((p == q) && is_proper_beginning (x ∷ xs) (y ∷ ys)))
    at true true = refl
    at true false = refl
    at false true = refl
    at false false = refl

is_empty_more : (p : ℕ) (ps : List ℕ) → is_empty (without_last_zeros (p ∷ ps)) ≡ ((p == 0) && is_empty (without_last_zeros ps))
unfolding before_left
is_empty_more p ps = ap is_empty (left_of_cons p ps) ∙ at (p == 0) (without_last_zeros ps)
  where
    of_cond : (a : Bool) → is_empty (cond a [] (p ∷ [])) ≡ (a && true)
    of_cond true = refl
    of_cond false = refl

    at : (a : Bool) (qs : List ℕ) → is_empty (before_left p qs) ≡ ((p == 0) && is_empty qs)
    at a [] = of_cond (p == 0)
    at a (q ∷ qs) = and_false (p == 0)

front : (p q : ℕ) (ps qs : List ℕ)
    → is_proper_beginning (without_last_zeros (p ∷ ps)) (without_last_zeros (q ∷ qs))
    ≡ ((is_empty (without_last_zeros (p ∷ ps)) && not (is_empty (without_last_zeros (q ∷ qs))))
    || ((p == q) && is_proper_beginning (without_last_zeros ps) (without_last_zeros qs)))
unfolding begun
front p q ps qs =
    ap₂ is_proper_beginning (left_of_cons p ps) (left_of_cons q qs)
    ∙ in_front p q (without_last_zeros ps) (without_last_zeros qs)
    ∙ ap₂ (λ a b. (a && not b) || ((p == q) && is_proper_beginning (without_last_zeros ps) (without_last_zeros qs)))
    (sym (is_empty_more p ps)) (sym (is_empty_more q qs))

-- ---- By numbers

same_bool : (a b : Bool) → (a ≡ true → b ≡ true) → (b ≡ true → a ≡ true) → a ≡ b
same_bool true b f g = sym (f refl)
same_bool false b f g = sym (false_from_ne_true b (λ e. false≢true (g e)))

-- the number ends with bytes of 00
abbrev ends24 : ℕ → Bool
ends24 v = v % 2 ^ 24 == 0

abbrev ends16 : ℕ → Bool
ends16 v = v % 2 ^ 16 == 0

abbrev ends8 : ℕ → Bool
ends8 v = v % 2 ^ 8 == 0

abbrev second : ℕ → ℕ
second v = v / 2 ^ 16 % 256

abbrev third : ℕ → ℕ
third v = v / 2 ^ 8 % 256

abbrev fourth : ℕ → ℕ
fourth v = v % 256

empty8 : (v : ℕ) → is_empty (without_last_zeros (fourth v ∷ [])) ≡ ends8 v
empty8 v = is_empty_more (fourth v) [] ∙ ap (λ ps. (fourth v == 0) && is_empty ps) nothing ∙ sym (and_true (fourth v == 0))

empty16 : (v : ℕ) → is_empty (without_last_zeros (third v ∷ fourth v ∷ [])) ≡ ends16 v
empty16 v =
    is_empty_more (third v) (fourth v ∷ []) ∙ ap (λ b. (third v == 0) && b) (empty8 v)
    ∙ same_bool ((third v == 0) && ends8 v) (ends16 v)
    (λ h. let p = and_parts (third v == 0) (ends8 v) h in let c = eqb-true _ _ p.0 in let d = eqb-true _ _ p.1 in eq-eqb _ _ (omega (arith, c, d)))
    (λ h. let z = eqb-true _ _ h in and_from (third v == 0) (ends8 v) (eq-eqb _ _ (omega (arith, z))) (eq-eqb _ _ (omega (arith, z))))

empty24 : (v : ℕ) → is_empty (without_last_zeros (second v ∷ third v ∷ fourth v ∷ [])) ≡ ends24 v
empty24 v =
    is_empty_more (second v) (third v ∷ fourth v ∷ []) ∙ ap (λ b. (second v == 0) && b) (empty16 v)
    ∙ same_bool ((second v == 0) && ends16 v) (ends24 v)
    (λ h. let p = and_parts (second v == 0) (ends16 v) h in let c = eqb-true _ _ p.0 in let d = eqb-true _ _ p.1 in eq-eqb _ _ (omega (arith, c, d)))
    (λ h. let z = eqb-true _ _ h in and_from (second v == 0) (ends16 v) (eq-eqb _ _ (omega (arith, z))) (eq-eqb _ _ (omega (arith, z))))

-- where the bytes after the first begin those of another, by what they end with
abbrev by8 : ℕ → ℕ → Bool
by8 v w = (ends8 v && not (ends8 w)) || ((fourth v == fourth w) && false)

abbrev by16 : ℕ → ℕ → Bool
by16 v w = (ends16 v && not (ends16 w)) || ((third v == third w) && by8 v w)

abbrev by24 : ℕ → ℕ → Bool
by24 v w = (ends24 v && not (ends24 w)) || ((second v == second w) && by16 v w)

nothing_begins : is_proper_beginning (without_last_zeros []) (without_last_zeros []) ≡ false
unfolding is_proper_beginning
nothing_begins = ap₂ is_proper_beginning nothing nothing

told8 : (v w : ℕ) → is_proper_beginning (without_last_zeros (fourth v ∷ [])) (without_last_zeros (fourth w ∷ [])) ≡ by8 v w
told8 v w =
    front (fourth v) (fourth w) [] []
    ∙ ap₂ (λ a b. (a && not b) || ((fourth v == fourth w) && is_proper_beginning (without_last_zeros []) (without_last_zeros []))) (empty8 v) (empty8 w)
    ∙ ap (λ b. (ends8 v && not (ends8 w)) || ((fourth v == fourth w) && b)) nothing_begins

told16 : (v w : ℕ)
    → is_proper_beginning (without_last_zeros (third v ∷ fourth v ∷ [])) (without_last_zeros (third w ∷ fourth w ∷ [])) ≡ by16 v w
told16 v w =
    front (third v) (third w) (fourth v ∷ []) (fourth w ∷ [])
    ∙ ap₂ (λ a b. (a && not b) || ((third v == third w) && is_proper_beginning (without_last_zeros (fourth v ∷ [])) (without_last_zeros (fourth w ∷ []))))
    (empty16 v) (empty16 w)
    ∙ ap (λ b. (ends16 v && not (ends16 w)) || ((third v == third w) && b)) (told8 v w)

told24 : (v w : ℕ) → is_proper_beginning (primary_rest v) (primary_rest w) ≡ by24 v w
told24 v w =
    front (second v) (second w) (third v ∷ fourth v ∷ []) (third w ∷ fourth w ∷ [])
    ∙ ap₂ (λ a b. (a && not b)
    || ((second v == second w) && is_proper_beginning (without_last_zeros (third v ∷ fourth v ∷ [])) (without_last_zeros (third w ∷ fourth w ∷ []))))
    (empty24 v) (empty24 w)
    ∙ ap (λ b. (ends24 v && not (ends24 w)) || ((second v == second w) && b)) (told16 v w)

told : (v w : ℕ) → is_proper_beginning (primary_bytes v) (primary_bytes w) ≡ ((v / 2 ^ 24 == w / 2 ^ 24) && by24 v w)
unfolding is_proper_beginning
told v w = ap (λ b. (v / 2 ^ 24 == w / 2 ^ 24) && b) (told24 v w)

some_left : (n : ℕ) → not (n == 0) ≡ true → 0 < n
some_left n h = ⊎_elim (λ lt. lt) (λ ge. absurd (eqb-false n 0 (not-true (n == 0) h) (omega (arith, ge)))) (cases_lt 0 n)

module _ (v w : ℕ) (filled : (v == 0) ≡ false) where
  abbrev room24 : Bool
  room24 = (v % 2 ^ 24 == 0) && ltb (w - v) (2 ^ 24)

  abbrev room16 : Bool
  room16 = (v % 2 ^ 16 == 0) && ltb (w - v) (2 ^ 16)

  abbrev room8 : Bool
  room8 = (v % 2 ^ 8 == 0) && ltb (w - v) (2 ^ 8)

  with_room : v < w → (room24 || (room16 || room8)) ≡ true → begins v w ≡ true
  with_room lt h = and_from (not (v == 0)) _ (not_from_false (v == 0) filled) (and_from (ltb v w) _ (lt-ltb v w lt) h)

  has_room8 : v / 2 ^ 8 ≡ w / 2 ^ 8 → (ends8 v && not (ends8 w)) ≡ true → begins v w ≡ true
  has_room8 same h =
      let p = and_parts (ends8 v) (not (ends8 w)) h in
      let z = eqb-true _ _ p.0 in
      let s = some_left (w % 2 ^ 8) p.1 in
      with_room (omega (arith, same, z, s)) (or_right room24 _ (or_right room16 room8 (and_from (ends8 v) _ p.0 (lt-ltb _ _ (omega (arith, same, z, s))))))

  has_room16 : v / 2 ^ 16 ≡ w / 2 ^ 16 → (ends16 v && not (ends16 w)) ≡ true → begins v w ≡ true
  has_room16 same h =
      let p = and_parts (ends16 v) (not (ends16 w)) h in
      let z = eqb-true _ _ p.0 in
      let s = some_left (w % 2 ^ 16) p.1 in
      with_room (omega (arith, same, z, s)) (or_right room24 _ (or_left room16 room8 (and_from (ends16 v) _ p.0 (lt-ltb _ _ (omega (arith, same, z, s))))))

  has_room24 : v / 2 ^ 24 ≡ w / 2 ^ 24 → (ends24 v && not (ends24 w)) ≡ true → begins v w ≡ true
  has_room24 same h =
      let p = and_parts (ends24 v) (not (ends24 w)) h in
      let z = eqb-true _ _ p.0 in
      let s = some_left (w % 2 ^ 24) p.1 in
      with_room (omega (arith, same, z, s)) (or_left room24 _ (and_from (ends24 v) _ p.0 (lt-ltb _ _ (omega (arith, same, z, s)))))

  from8 : v / 2 ^ 8 ≡ w / 2 ^ 8 → by8 v w ≡ true → begins v w ≡ true
  from8 same h =
      ⊎_elim (has_room8 same) (λ x. absurd (false≢true (and_parts (fourth v == fourth w) false x).1))
      (or_cases (ends8 v && not (ends8 w)) ((fourth v == fourth w) && false) h)

  from16 : v / 2 ^ 16 ≡ w / 2 ^ 16 → by16 v w ≡ true → begins v w ≡ true
  from16 same h =
      ⊎_elim (has_room16 same)
      (λ x. let p = and_parts (third v == third w) (by8 v w) x in let e = eqb-true _ _ p.0 in from8 (omega (arith, same, e)) p.1)
      (or_cases (ends16 v && not (ends16 w)) ((third v == third w) && by8 v w) h)

  from24 : v / 2 ^ 24 ≡ w / 2 ^ 24 → by24 v w ≡ true → begins v w ≡ true
  from24 same h =
      ⊎_elim (has_room24 same)
      (λ x. let p = and_parts (second v == second w) (by16 v w) x in let e = eqb-true _ _ p.0 in from16 (omega (arith, same, e)) p.1)
      (or_cases (ends24 v && not (ends24 w)) ((second v == second w) && by16 v w) h)

  ends_and_goes_on : (n m : ℕ) → (n == 0) ≡ true → 0 < m → ((n == 0) && not (m == 0)) ≡ true
  ends_and_goes_on n m z lt = and_from (n == 0) (not (m == 0)) z (not_from_false (m == 0) (ne_eqb m 0 (λ e. omega (arith, lt, e))))

  in24 : v < w → room24 ≡ true → ((v / 2 ^ 24 == w / 2 ^ 24) && by24 v w) ≡ true
  in24 lt h =
      let p = and_parts (ends24 v) (ltb (w - v) (2 ^ 24)) h in
      let z = eqb-true _ _ p.0 in
      let r = ltb-true _ _ p.1 in
      and_from (v / 2 ^ 24 == w / 2 ^ 24) (by24 v w) (eq-eqb _ _ (omega (arith, lt, z, r)))
      (or_left _ ((second v == second w) && by16 v w) (ends_and_goes_on (v % 2 ^ 24) (w % 2 ^ 24) p.0 (omega (arith, lt, z, r))))

  in16 : v < w → room16 ≡ true → ((v / 2 ^ 24 == w / 2 ^ 24) && by24 v w) ≡ true
  in16 lt h =
      let p = and_parts (ends16 v) (ltb (w - v) (2 ^ 16)) h in
      let z = eqb-true _ _ p.0 in
      let r = ltb-true _ _ p.1 in
      and_from (v / 2 ^ 24 == w / 2 ^ 24) (by24 v w) (eq-eqb _ _ (omega (arith, lt, z, r)))
      (or_right (ends24 v && not (ends24 w)) _ (and_from (second v == second w) (by16 v w) (eq-eqb _ _ (omega (arith, lt, z, r)))
      (or_left _ ((third v == third w) && by8 v w) (ends_and_goes_on (v % 2 ^ 16) (w % 2 ^ 16) p.0 (omega (arith, lt, z, r))))))

  in8 : v < w → room8 ≡ true → ((v / 2 ^ 24 == w / 2 ^ 24) && by24 v w) ≡ true
  in8 lt h =
      let p = and_parts (ends8 v) (ltb (w - v) (2 ^ 8)) h in
      let z = eqb-true _ _ p.0 in
      let r = ltb-true _ _ p.1 in
      and_from (v / 2 ^ 24 == w / 2 ^ 24) (by24 v w) (eq-eqb _ _ (omega (arith, lt, z, r)))
      (or_right (ends24 v && not (ends24 w)) _ (and_from (second v == second w) (by16 v w) (eq-eqb _ _ (omega (arith, lt, z, r)))
      (or_right (ends16 v && not (ends16 w)) _ (and_from (third v == third w) (by8 v w) (eq-eqb _ _ (omega (arith, lt, z, r)))
      (or_left _ ((fourth v == fourth w) && false) (ends_and_goes_on (v % 2 ^ 8) (w % 2 ^ 8) p.0 (omega (arith, lt, z, r))))))))

  back : begins v w ≡ true → ((v / 2 ^ 24 == w / 2 ^ 24) && by24 v w) ≡ true
  back h =
      let p = and_parts (not (v == 0)) _ h in
      let q = and_parts (ltb v w) (room24 || (room16 || room8)) p.1 in
      let lt = ltb-true v w q.0 in
      ⊎_elim (in24 lt) (λ x. ⊎_elim (in16 lt) (in8 lt) (or_cases room16 room8 x)) (or_cases room24 (room16 || room8) q.1)

  pub bytes_begin : is_proper_beginning (primary_bytes v) (primary_bytes w) ≡ begins v w
  bytes_begin =
      told v w ∙ same_bool ((v / 2 ^ 24 == w / 2 ^ 24) && by24 v w) (begins v w)
      (λ h. let p = and_parts (v / 2 ^ 24 == w / 2 ^ 24) (by24 v w) h in from24 (eqb-true _ _ p.0) p.1)
      back

-- ---- Weights apart

pub apart_from : (v w : ℕ) → begins v w ≡ false → begins w v ≡ false → are_apart primary_bytes v w ≡ true
apart_from v w h g =
    ⊎_elim
    (λ e. or_left ((v == 0) || (w == 0)) _ e)
    (λ e.
    let p = or_parts (v == 0) (w == 0) e in
    or_right ((v == 0) || (w == 0)) _
    (and_from _ _ (not_from_false _ (bytes_begin v w p.0 ∙ h)) (not_from_false _ (bytes_begin w v p.1 ∙ g))))
    (cases_Bool ((v == 0) || (w == 0)))

pub none_begun : (v w : ℕ) → are_apart primary_bytes v w ≡ true → begins v w ≡ false
none_begun v w h =
    let neither = not (is_proper_beginning (primary_bytes v) (primary_bytes w)) && not (is_proper_beginning (primary_bytes w) (primary_bytes v)) in
    false_from_ne_true (begins v w) (λ b.
    let p = and_parts (not (v == 0)) _ b in
    let filled : (v == 0) ≡ false = not-true (v == 0) p.0 in
    let lt = ltb-true v w (and_parts (ltb v w) _ p.1).0 in
    ⊎_elim
    (λ x. ⊎_elim
    (λ e. false≢true (sym filled ∙ e))
    (λ f. let z = eqb-true w 0 f in absurd (omega (arith, lt, z)))
    (or_cases (v == 0) (w == 0) x))
    (λ y. false≢true (sym (not-true _ (and_parts (not (is_proper_beginning (primary_bytes v) (primary_bytes w))) _ y).0) ∙ bytes_begin v w filled ∙ b))
    (or_cases ((v == 0) || (w == 0)) neither h))

-- ---- Secondaries and tertiaries

filled_alone : (n : ℕ) → without_last_zeros (n ∷ 0 ∷ 0 ∷ []) ≡ cond (n == 0) [] (n ∷ [])
unfolding without_last_zeros
filled_alone n = refl

weight_as_primary : (v : ℕ) → weight_bytes v ≡ primary_bytes (v * 2 ^ 16)
weight_as_primary v =
    let lead : v / 256 ≡ v * 2 ^ 16 / 2 ^ 24 = omega arith in
    let low : v % 256 ≡ v * 2 ^ 16 / 2 ^ 16 % 256 = omega arith in
    let no_third : 0 ≡ v * 2 ^ 16 / 2 ^ 8 % 256 = omega arith in
    let no_fourth : 0 ≡ v * 2 ^ 16 % 256 = omega arith in
    ap (λ bytes. v / 256 ∷ bytes) (sym (filled_alone (v % 256)))
    ∙ ap (λ n. n ∷ without_last_zeros (v % 256 ∷ 0 ∷ 0 ∷ [])) lead
    ∙ ap (λ n. (v * 2 ^ 16 / 2 ^ 24) ∷ without_last_zeros (n ∷ 0 ∷ 0 ∷ [])) low
    ∙ ap (λ n. (v * 2 ^ 16 / 2 ^ 24) ∷ without_last_zeros ((v * 2 ^ 16 / 2 ^ 16 % 256) ∷ n ∷ 0 ∷ [])) no_third
    ∙ ap (λ n. (v * 2 ^ 16 / 2 ^ 24) ∷ without_last_zeros ((v * 2 ^ 16 / 2 ^ 16 % 256) ∷ (v * 2 ^ 16 / 2 ^ 8 % 256) ∷ n ∷ [])) no_fourth

zero_as_primary : (v : ℕ) → (v == 0) ≡ (v * 2 ^ 16 == 0)
zero_as_primary v =
    same_bool (v == 0) (v * 2 ^ 16 == 0)
    (λ h. let z = eqb-true _ _ h in eq-eqb _ _ (omega (arith, z)))
    (λ h. let z = eqb-true _ _ h in eq-eqb _ _ (omega (arith, z)))

abbrev apart_by : Bool → Bool → List ℕ → List ℕ → Bool
apart_by a b xs ys = (a || b) || (not (is_proper_beginning xs ys) && not (is_proper_beginning ys xs))

pub weights_as_primaries : (v w : ℕ) → are_apart weight_bytes v w ≡ are_apart primary_bytes (v * 2 ^ 16) (w * 2 ^ 16)
weights_as_primaries v w =
    ap₂ (λ a b. apart_by a b (weight_bytes v) (weight_bytes w)) (zero_as_primary v) (zero_as_primary w)
    ∙ ap₂ (λ xs ys. apart_by (v * 2 ^ 16 == 0) (w * 2 ^ 16 == 0) xs ys) (weight_as_primary v) (weight_as_primary w)
