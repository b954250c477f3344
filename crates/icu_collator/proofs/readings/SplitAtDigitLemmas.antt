-- The elements of a list with a digit in it: those of what stands before, and those of what stands from there on.
use Rattle.std.proofs.Common.{◌≡◌, ℕ, zero, suc, ◌+◌, ◌≤◌, ◌==◌, ◌⊎◌, inl, inr, Bool, true, false, cond, not, ◌&&◌, ◌||◌, leb, ltb, List, [], ◌∷◌, ◌++◌, length, take, drop, reverse, Option, Some, None, refl, sym, ap, ◌∙◌, arith, append_assoc, append-nil, length-append, filter_map}
use Rattle.std.specs.Option.{unwrap_or, is_some}
use Rattle.std.proofs.lemmas.Bool.{and_from, and_parts, and_right, cases_Bool, eqb-true, false_from_ne_true, false≢true, or_from}
use Rattle.std.proofs.lemmas.Bool.Decides.{nat_tests}
use Rattle.std.proofs.lemmas.List.{take-append-le, drop-append-le, reverse-append}
use Rattle.std.proofs.lemmas.List.Sums.{prefix_len-le-length}
use Rattle.icu_normalizer_core.specs.BuiltIn.{built_in_class}
use Rattle.icu_normalizer_core.specs.Canonical.{Canonical, IsDecomposing}
use Rattle.icu_collator_types.specs.declared.elements.Element.{Element}
use Rattle.icu_collator_core.specs.Collation.{Collation}
use Rattle.icu_collator_core.specs.Weights.{Weights}
use Rattle.icu_collator_core.specs.Defaults.{special_primary, default_elements}
use Rattle.icu_collator_core.specs.Numbers.{number_elements}
use Rattle.icu_collator_core.specs.Elements.{Placed, Joining, Reading, at_greatest, behind_prefix, characters_of, match_length, prefix_match, recorded_length, joining, text_match, text_reading, digit_count, number_reading, is_before_accent, reading, elements_within}
use Rattle.icu_collator_core.proofs.readings.AlikeLemmas.{chosen_alike, reading_is}
use Rattle.icu_collator_core.proofs.readings.CaseLemmas.{reading_dropped, reading_otherwise}
use Rattle.icu_collator_core.proofs.readings.SamenessLemmas.{at_greatest_same}
use Rattle.icu_collator.specs.NumbersInTexts.{AreDigitsAlone, AreDotsLight, IsDotLight, are_light, is_digit}
use Rattle.icu_collator_core.proofs.readings.CountLemmas.{any_count, match_within, reading_shrinks}
use Rattle.icu_collator_core.proofs.readings.SplitAtBoundaryLemmas.{JoinsAlike, characters_append, characters_count, joining_apart, nothing_within}
use Rattle.icu_collator.proofs.readings.BeforeDigitLemmas.{EndsPlain, tail_plain, drop_plain, joining_plain, match_kept}

-- a reading of a list, and that of its front: what stands after the front is left
record ReadsApart (weights : Weights) (behind : List Placed) (whole front : Reading) : Type 0 where
  elements : whole.elements ≡ front.elements
  left : whole.left ≡ front.left ++ behind
  ends : EndsPlain weights front.left

text_match_apart : (collation : Collation) (p : Placed) (ps : List Placed) (q : Placed) (qs : List Placed)
    → AreDigitsAlone collation → is_digit collation.weights q.character ≡ true
    → JoinsAlike (q ∷ qs) (text_match collation.canonical collation.weights ((p ∷ ps) ++ q ∷ qs)) (text_match collation.canonical collation.weights (p ∷ ps))
unfolding text_match
text_match_apart collation p ps q qs a h =
    let canonical = collation.canonical
    in let weights = collation.weights
    in let front = characters_of (p ∷ ps)
    in let n = match_length weights front
    in let m = match_length weights (characters_of ((p ∷ ps) ++ q ∷ qs))
    in let list = characters_append (p ∷ ps) (q ∷ qs)
    in let count : m ≡ n = ap (match_length weights) list ∙ match_kept collation p.character (characters_of ps) (characters_of qs) q.character a h
    in let within = match_within weights p.character (characters_of ps)
    in let placed_within : n ≤ length (p ∷ ps) = characters_count (p ∷ ps) n within
    in let text : take m (characters_of ((p ∷ ps) ++ q ∷ qs)) ≡ take n front =
    cc (ap (take n) list, take-append-le n front (characters_of (q ∷ qs)) within, count)
    in let left : drop m ((p ∷ ps) ++ q ∷ qs) ≡ drop n (p ∷ ps) ++ q ∷ qs =
    ap (λ (k : ℕ). drop k ((p ∷ ps) ++ q ∷ qs)) count ∙ drop-append-le n (p ∷ ps) (q ∷ qs) placed_within
    in rw (text, left) (joining_apart canonical weights (take n front) [] (drop n (p ∷ ps)) q qs (a.starters q.character h))

text_apart : (collation : Collation) (c : ℕ) (p : Placed) (ps : List Placed) (q : Placed) (qs : List Placed)
    → AreDigitsAlone collation → is_digit collation.weights q.character ≡ true → EndsPlain collation.weights (p ∷ ps)
    → ReadsApart collation.weights (q ∷ qs)
    (text_reading collation.canonical collation.weights c ((p ∷ ps) ++ q ∷ qs)) (text_reading collation.canonical collation.weights c (p ∷ ps))
unfolding text_reading text_match
text_apart collation c p ps q qs a h e =
    let alike = text_match_apart collation p ps q qs a h
    in let n = match_length collation.weights (characters_of (p ∷ ps))
    in record {
      elements = ap (λ (text : List ℕ). unwrap_or (collation.weights.recorded [] text) (default_elements collation.weights c)) alike.text;
      left = alike.left;
      ends = joining_plain collation (take n (characters_of (p ∷ ps))) [] (drop n (p ∷ ps)) a refl (drop_plain collation.weights n (p ∷ ps) e);
    }

-- a number before something else is read as it is without that
count_kept : (weights : Weights) (p : Placed) (ps qs : List Placed) → EndsPlain weights (p ∷ ps)
    → digit_count weights ((p ∷ ps) ++ qs) ≡ digit_count weights (p ∷ ps)
count_kept weights p [] qs h = rw h refl
count_kept weights p (r ∷ rs) qs h =
    ap (λ (n : ℕ). cond (is_digit weights p.character) (1 + n) 0) (count_kept weights r rs qs h)

count_within : (weights : Weights) (ps : List Placed) → digit_count weights ps ≤ length ps
count_within weights ps = prefix_len-le-length (λ p. is_some (weights.digit p.character)) ps

number_apart : (weights : Weights) (p : Placed) (ps qs : List Placed) → EndsPlain weights (p ∷ ps)
    → ReadsApart weights qs (number_reading weights ((p ∷ ps) ++ qs)) (number_reading weights (p ∷ ps))
unfolding number_reading
number_apart weights p ps qs h =
    let n = digit_count weights (p ∷ ps)
    in let count = count_kept weights p ps qs h
    in let within = count_within weights (p ∷ ps)
    in record {
      elements = ap (λ (w : List Placed). number_elements weights.numeric_lead (filter_map (λ r. weights.digit r.character) w))
          (ap (λ (k : ℕ). take k ((p ∷ ps) ++ qs)) count ∙ take-append-le n (p ∷ ps) qs within);
      left = ap (λ (k : ℕ). drop k ((p ∷ ps) ++ qs)) count ∙ drop-append-le n (p ∷ ps) qs within;
      ends = drop_plain weights n (p ∷ ps) h;
    }

-- where a dot above before an accent is dropped, no digit is one of the accents
class_of_above : (collation : Collation) (c : ℕ) → AreDigitsAlone collation → collation.canonical.class c ≡ 230 → is_digit collation.weights c ≡ false
class_of_above collation c a h =
    false_from_ne_true (is_digit collation.weights c) (λ e. let none = a.starters c e in omega arith)

pub grave_class : (canonical : Canonical) → IsDecomposing canonical → canonical.class 0x300 ≡ 230
unfolding built_in_class
grave_class canonical d = d.built_in_classes 0x300

pub acute_class : (canonical : Canonical) → IsDecomposing canonical → canonical.class 0x301 ≡ 230
unfolding built_in_class
acute_class canonical d = d.built_in_classes 0x301

other_than : (weights : Weights) (c d : ℕ) → is_digit weights c ≡ true → is_digit weights d ≡ false → (c == d) ≡ false
other_than weights c d h g = false_from_ne_true (c == d) (λ e. let same = eqb-true c d e in cc (ap (is_digit weights) same))

-- of the accents, a digit can be a tilde alone
tilde_alone : (collation : Collation) (c : ℕ) → AreDigitsAlone collation → IsDecomposing collation.canonical → is_digit collation.weights c ≡ true
    → ((c == 0x300) || (c == 0x301) || (c == 0x303)) ≡ true → is_digit collation.weights 0x303 ≡ true
tilde_alone collation c a d h e =
    let w = collation.weights
    in let grave = other_than w c 0x300 h (class_of_above collation 0x300 a (grave_class collation.canonical d))
    in let acute = other_than w c 0x301 h (class_of_above collation 0x301 a (acute_class collation.canonical d))
    in let neither = or_from (c == 0x300) (c == 0x301) grave acute
    in let tilde : (c == 0x303) ≡ true = ap (λ (b : Bool). b || (c == 0x303)) (sym neither) ∙ e
    in let same = eqb-true c 0x303 tilde
    in cc (ap (is_digit w) same)

-- a dot above is dropped before a digit
record DropsDot (weights : Weights) (p q : Placed) (qs : List Placed) : Type 0 where
  on : weights.dot_above ≡ true
  is_dot : (p.character == 0x307) ≡ true
  accent : is_before_accent (q ∷ qs) ≡ true
  tilde : is_digit weights 0x303 ≡ true

-- at the end of a front a dot above is read as it is before a digit, or it is dropped there
dot_cases : (collation : Collation) (p q : Placed) (qs : List Placed)
    → AreDigitsAlone collation → IsDecomposing collation.canonical → is_digit collation.weights q.character ≡ true
    → ((collation.weights.dot_above && (p.character == 0x307) && is_before_accent (q ∷ qs)) ≡ (collation.weights.dot_above && (p.character == 0x307) && is_before_accent []))
    ⊎ DropsDot collation.weights p q qs
unfolding is_before_accent
dot_cases collation p q qs a d h =
    let on = collation.weights.dot_above
    in let is_dot = p.character == 0x307
    in let accent = (q.character == 0x300) || (q.character == 0x301) || (q.character == 0x303)
    in elim (cases_Bool (on && is_dot && accent)) [
      | inl drops ↦
          let both = and_parts (on && is_dot) accent drops
          in let dot = and_parts on is_dot both.0
          in inr (record { on = dot.0; is_dot = dot.1; accent = both.1; tilde = tilde_alone collation q.character a d h both.1 })
      | inr stays ↦ inl (stays ∙ sym (and_right (on && is_dot) false refl))
    ]

same_accent : (weights : Weights) (p r : Placed) (rs : List Placed) (q : Placed) (qs : List Placed)
    → (weights.dot_above && (p.character == 0x307) && is_before_accent ((r ∷ rs) ++ q ∷ qs)) ≡ (weights.dot_above && (p.character == 0x307) && is_before_accent (r ∷ rs))
unfolding is_before_accent
same_accent weights p r rs q qs = refl

-- a reading before a digit
reading_apart : (collation : Collation) (numeric : Bool) (p : Placed) (ps : List Placed) (q : Placed) (qs : List Placed)
    → AreDigitsAlone collation → is_digit collation.weights q.character ≡ true → EndsPlain collation.weights (p ∷ ps)
    → (collation.weights.dot_above && (p.character == 0x307) && is_before_accent (ps ++ q ∷ qs)) ≡ (collation.weights.dot_above && (p.character == 0x307) && is_before_accent ps)
    → ReadsApart collation.weights (q ∷ qs)
    (reading collation.canonical collation.weights numeric p (ps ++ q ∷ qs)) (reading collation.canonical collation.weights numeric p ps)
reading_apart collation numeric p ps q qs a h e dotted =
    let canonical = collation.canonical
    in let weights = collation.weights
    in let is_dot = p.character == 0x307
    in let rest = tail_plain weights p ps e
    in rw (reading_is canonical weights numeric p (ps ++ q ∷ qs), reading_is canonical weights numeric p ps)
    (rw dotted
    (chosen_alike (ReadsApart weights (q ∷ qs)) (special_primary p.character) _ _ (numeric && is_some (weights.digit p.character)) _ _
    (weights.dot_above && is_dot && is_before_accent ps) _ _ (prefix_match weights p) _ _ _ _
    (λ s. record { elements = refl; left = refl; ends = rest })
    (λ _. number_apart weights p ps (q ∷ qs) e)
    (record { elements = refl; left = refl; ends = rest })
    (λ es. record { elements = refl; left = refl; ends = rest })
    (text_apart collation p.character p ps q qs a h e)))

-- The elements of a list with a digit in it are those of what stands before, then those of the rest. The front alone has more
-- elements where it ends in a dot above that is dropped before the digit.
pub record SplitsAtDigit (weights : Weights) (whole front rest : List Element) : Type 0 where
  pub kept : List Element
  pub dots : List Element
  pub whole_is : whole ≡ kept ++ rest
  pub front_is : front ≡ kept ++ dots
  pub light : AreDotsLight weights → are_light dots ≡ true
  pub none : (not weights.dot_above || not (is_digit weights 0x303)) ≡ true → dots ≡ []

pub splits_along : (weights : Weights) (whole front rest whole' front' rest' : List Element) → whole ≡ whole' → front ≡ front' → rest ≡ rest'
    → SplitsAtDigit weights whole front rest → SplitsAtDigit weights whole' front' rest'
splits_along weights whole front rest whole' front' rest' first second third s =
    record {
      kept = s.kept;
      dots = s.dots;
      whole_is = sym first ∙ s.whole_is ∙ ap (λ (w : List Element). s.kept ++ w) third;
      front_is = sym second ∙ s.front_is;
      light = s.light;
      none = s.none;
    }

more_before : (weights : Weights) (es whole front rest : List Element) → SplitsAtDigit weights whole front rest
    → SplitsAtDigit weights (es ++ whole) (es ++ front) rest
more_before weights es whole front rest s =
    record {
      kept = es ++ s.kept;
      dots = s.dots;
      whole_is = ap (λ (w : List Element). es ++ w) s.whole_is ∙ sym (append_assoc es s.kept rest);
      front_is = ap (λ (w : List Element). es ++ w) s.front_is ∙ sym (append_assoc es s.kept s.dots);
      light = s.light;
      none = s.none;
    }

split_further : (collation : Collation) (numeric : Bool) (n : ℕ) (p : Placed) (ps : List Placed) (q : Placed) (qs : List Placed)
    → ReadsApart collation.weights (q ∷ qs) (reading collation.canonical collation.weights numeric p (ps ++ q ∷ qs)) (reading collation.canonical collation.weights numeric p ps)
    → length ((p ∷ ps) ++ q ∷ qs) ≤ suc n
    → SplitsAtDigit collation.weights
    (elements_within n collation.canonical collation.weights numeric ((reading collation.canonical collation.weights numeric p ps).left ++ q ∷ qs))
    (elements_within n collation.canonical collation.weights numeric (reading collation.canonical collation.weights numeric p ps).left)
    (elements_within n collation.canonical collation.weights numeric (q ∷ qs))
    → SplitsAtDigit collation.weights
    (elements_within (suc n) collation.canonical collation.weights numeric ((p ∷ ps) ++ q ∷ qs))
    (elements_within (suc n) collation.canonical collation.weights numeric (p ∷ ps))
    (elements_within (suc n) collation.canonical collation.weights numeric (q ∷ qs))
unfolding elements_within
split_further collation numeric n p ps q qs apart l s =
    let canonical = collation.canonical
    in let weights = collation.weights
    in let front = reading canonical weights numeric p ps
    in let count = length-append ps (q ∷ qs)
    in let more : elements_within n canonical weights numeric (q ∷ qs) ≡ elements_within (suc n) canonical weights numeric (q ∷ qs) =
    any_count canonical weights numeric n (suc n) (q ∷ qs) (omega arith) (omega arith)
    in let whole : elements_within (suc n) canonical weights numeric ((p ∷ ps) ++ q ∷ qs) ≡ front.elements ++ elements_within n canonical weights numeric (front.left ++ q ∷ qs) =
    cc (apart.elements, ap (elements_within n canonical weights numeric) apart.left)
    in splits_along weights _ _ _ _ _ _ (sym whole) refl more (more_before weights front.elements _ _ _ s)

-- a dot above at the end of a list
never : {A : Type 0} (b : Bool) (o : Option A) → o ≡ None → cond b o None ≡ None
never true o h = h
never false o h = refl

filled_unrecorded : (weights : Weights) (text xs : List ℕ) (x : ℕ) → ((c : ℕ) (cs : List ℕ) → weights.recorded (c ∷ cs) text ≡ None)
    → weights.recorded (xs ++ x ∷ []) text ≡ None
filled_unrecorded weights text [] x none = none x []
filled_unrecorded weights text (y ∷ ys) x none = none y (ys ++ x ∷ [])

behind_none : (weights : Weights) (text before : List ℕ) (n : ℕ) → ((c : ℕ) (cs : List ℕ) → weights.recorded (c ∷ cs) text ≡ None)
    → cond (ltb 0 n && leb n (length before)) (weights.recorded (reverse (take n before)) text) None ≡ None
behind_none weights text before zero none = refl
behind_none weights text [] (suc n) none =
    let short : leb (suc n) 0 ≡ false = grind (arith, nat_tests)
    in ap (λ (b : Bool). cond b (weights.recorded (reverse []) text) None) (and_right (ltb 0 (suc n)) (leb (suc n) 0) short)
behind_none weights text (c ∷ cs) (suc n) none =
    never (ltb 0 (suc n) && leb (suc n) (length (c ∷ cs))) (weights.recorded (reverse (c ∷ take n cs)) text)
    (ap (λ (w : List ℕ). weights.recorded w text) (reverse-append (c ∷ []) (take n cs)) ∙ filled_unrecorded weights text (reverse (take n cs)) c none)

no_prefix : (weights : Weights) (p : Placed) → ((c : ℕ) (cs : List ℕ) → weights.recorded (c ∷ cs) (p.character ∷ []) ≡ None)
    → prefix_match weights p ≡ None
unfolding at_greatest
no_prefix weights p none =
    at_greatest_same (behind_prefix weights p) (λ _. None) 3 (λ k. behind_none weights (p.character ∷ []) p.before k none)

one_at_most : (weights : Weights) (list : List ℕ) → unwrap_or (at_greatest (recorded_length weights list) 1) 1 ≡ 1
unfolding at_greatest
one_at_most weights list =
    elim (is_some (weights.recorded [] (take 1 list)))
    as (λ b. unwrap_or (elim (cond {A = Option ℕ} (ltb 0 1 && b) (Some 1) None) as (λ _. Option ℕ) [ Some x ↦ Some x | None ↦ None ]) 1 ≡ 1)
    [ true ↦ refl | false ↦ refl ]

alone_length : (weights : Weights) (c : ℕ) → match_length weights (c ∷ []) ≡ 1
alone_length weights c = one_at_most weights (c ∷ [])

last_read : (canonical : Canonical) (weights : Weights) (p : Placed) (es : List Element) → weights.recorded [] (p.character ∷ []) ≡ Some es
    → text_reading canonical weights p.character (p ∷ []) ≡ record { elements = es; left = [] }
unfolding text_reading text_match joining
last_read canonical weights p es h =
    let match : ℕ → Joining = λ n. joining canonical weights (take n (p.character ∷ [])) [] (drop n (p ∷ []))
    in let of : ℕ → Reading = λ n. record { elements = unwrap_or (weights.recorded [] (match n).text) (default_elements weights p.character); left = (match n).left }
    in let by : Option (List Element) → Reading = λ o. record { elements = unwrap_or o (default_elements weights p.character); left = [] }
    in ap of (alone_length weights p.character) ∙ ap by h

ordinary_dot : special_primary 0x307 ≡ None
unfolding special_primary
ordinary_dot = refl

dot_read : (canonical : Canonical) (weights : Weights) (numeric : Bool) (p : Placed) (dot : IsDotLight weights)
    → p.character ≡ 0x307 → is_digit weights p.character ≡ false
    → reading canonical weights numeric p [] ≡ record { elements = dot.elements; left = [] }
unfolding is_before_accent
dot_read canonical weights numeric p dot is plain =
    let of : Option (List Element) → Reading =
    λ o. elim o [ Some es ↦ record { elements = es; left = [] } | None ↦ text_reading canonical weights p.character (p ∷ []) ]
    in let none : (c : ℕ) (cs : List ℕ) → weights.recorded (c ∷ cs) (p.character ∷ []) ≡ None =
    λ c cs. ap (λ x. weights.recorded (c ∷ cs) (x ∷ [])) is ∙ dot.unprefixed c cs
    in reading_otherwise canonical weights numeric p [] (ap special_primary is ∙ ordinary_dot)
    (and_right numeric (is_some (weights.digit p.character)) plain)
    (and_right (weights.dot_above && (p.character == 0x307)) false refl)
    ∙ ap of (no_prefix weights p none)
    ∙ last_read canonical weights p dot.elements (ap (λ x. weights.recorded [] (x ∷ [])) is ∙ dot.is)

split_dot : (collation : Collation) (numeric : Bool) (n : ℕ) (p q : Placed) (qs : List Placed)
    → is_digit collation.weights p.character ≡ false → DropsDot collation.weights p q qs → length (p ∷ q ∷ qs) ≤ suc n
    → SplitsAtDigit collation.weights
    (elements_within (suc n) collation.canonical collation.weights numeric (p ∷ q ∷ qs))
    (elements_within (suc n) collation.canonical collation.weights numeric (p ∷ []))
    (elements_within (suc n) collation.canonical collation.weights numeric (q ∷ qs))
unfolding elements_within
split_dot collation numeric n p q qs plain drops l =
    let canonical = collation.canonical
    in let weights = collation.weights
    in let is_dot = p.character == 0x307
    in let is : p.character ≡ 0x307 = eqb-true p.character 0x307 drops.is_dot
    in let behind : Reading → List Element = λ r. r.elements ++ elements_within n canonical weights numeric r.left
    in let dropped : reading canonical weights numeric p (q ∷ qs) ≡ record { elements = []; left = q ∷ qs } =
    reading_dropped canonical weights numeric p (q ∷ qs) (ap special_primary is ∙ ordinary_dot)
    (and_right numeric (is_some (weights.digit p.character)) plain)
    (and_from (weights.dot_above && is_dot) (is_before_accent (q ∷ qs)) (and_from weights.dot_above is_dot drops.on drops.is_dot) drops.accent)
    in let on_tilde : (weights.dot_above && is_digit weights 0x303) ≡ true = and_from weights.dot_above (is_digit weights 0x303) drops.on drops.tilde
    in let undropped : (not weights.dot_above || not (is_digit weights 0x303)) ≡ false = rw (drops.on, drops.tilde) refl
    in record {
      kept = [];
      dots = elements_within (suc n) canonical weights numeric (p ∷ []);
      whole_is = ap behind dropped ∙ any_count canonical weights numeric n (suc n) (q ∷ qs) (omega arith) (omega arith);
      front_is = refl;
      light = λ are.
          let dot = are on_tilde
          in ap are_light
          (ap behind (dot_read canonical weights numeric p dot is plain)
          ∙ ap (λ (w : List Element). dot.elements ++ w) (nothing_within canonical weights numeric n) ∙ append-nil dot.elements)
          ∙ dot.light;
      none = λ h. absurd (false≢true (sym undropped ∙ h));
    }

pub split_at_digit : (collation : Collation) (numeric : Bool) (n : ℕ) (ps : List Placed) (q : Placed) (qs : List Placed)
    → AreDigitsAlone collation → IsDecomposing collation.canonical → is_digit collation.weights q.character ≡ true → EndsPlain collation.weights ps
    → length (ps ++ q ∷ qs) ≤ n
    → SplitsAtDigit collation.weights
    (elements_within n collation.canonical collation.weights numeric (ps ++ q ∷ qs))
    (elements_within n collation.canonical collation.weights numeric ps)
    (elements_within n collation.canonical collation.weights numeric (q ∷ qs))
split_at_digit collation numeric n [] q qs a d h e l =
    record {
      kept = [];
      dots = [];
      whole_is = refl;
      front_is = nothing_within collation.canonical collation.weights numeric n;
      light = λ _. refl;
      none = λ _. refl;
    }
split_at_digit collation numeric zero (p ∷ ps) q qs a d h e l = absurd (omega arith)
split_at_digit collation numeric (suc n) (p ∷ []) q qs a d h e l =
    let front = reading collation.canonical collation.weights numeric p []
    in let shrinks = reading_shrinks collation.canonical collation.weights numeric p []
    in let count = length-append front.left (q ∷ qs)
    in elim (dot_cases collation p q qs a d h) [
      | inl same ↦
          let apart = reading_apart collation numeric p [] q qs a h e same
          in split_further collation numeric n p [] q qs apart l (split_at_digit collation numeric n front.left q qs a d h apart.ends (omega arith))
      | inr drops ↦ split_dot collation numeric n p q qs e drops l
    ]
split_at_digit collation numeric (suc n) (p ∷ r ∷ rs) q qs a d h e l =
    let front = reading collation.canonical collation.weights numeric p (r ∷ rs)
    in let shrinks = reading_shrinks collation.canonical collation.weights numeric p (r ∷ rs)
    in let count = length-append front.left (q ∷ qs)
    in let parts = length-append rs (q ∷ qs)
    in let apart = reading_apart collation numeric p (r ∷ rs) q qs a h e (same_accent collation.weights p r rs q qs)
    in split_further collation numeric n p (r ∷ rs) q qs apart l (split_at_digit collation numeric n front.left q qs a d h apart.ends (omega arith))
