-- What stands before a digit, and doesn't end in one, is read without what stands from there on.
use Rattle.std.proofs.Common.{◌≡◌, ℕ, zero, suc, ◌<◌, ◌≤◌, ◌==◌, true, false, cond, ◌&&◌, ltb, List, [], ◌∷◌, ◌++◌, length, take, drop, refl, ap, ◌∙◌, arith, length-append, Option, Some, None}
use Rattle.std.specs.List.{list_all}
use Rattle.std.specs.Option.{unwrap_or, is_some}
use Rattle.std.proofs.lemmas.Bool.{cond_both, eq-eqb, false_from_ne_true, or_right, or_left}
use Rattle.std.proofs.lemmas.List.{take-append-le}
use Rattle.icu_collator_core.specs.Collation.{Collation}
use Rattle.icu_collator_core.specs.Weights.{Weights}
use Rattle.icu_collator_core.specs.Elements.{Placed, Joining, characters_of, recorded_length, match_length, joining}
use Rattle.icu_collator_core.proofs.readings.SplitAtBoundaryLemmas.{greatest_below, greatest_same, none_where}
use Rattle.icu_collator.specs.NumbersInTexts.{AreDigitsAlone, is_digit, holds_digit, ends_with_digit}

-- characters that don't end in a digit
abbrev pub EndsPlain : Weights → List Placed → Type 0
EndsPlain weights ps = ends_with_digit weights (characters_of ps) ≡ false

pub tail_plain : (weights : Weights) (p : Placed) (ps : List Placed) → EndsPlain weights (p ∷ ps) → EndsPlain weights ps
tail_plain weights p [] h = refl
tail_plain weights p (q ∷ qs) h = h

pub drop_plain : (weights : Weights) (n : ℕ) (ps : List Placed) → EndsPlain weights ps → EndsPlain weights (drop n ps)
drop_plain weights zero ps h = h
drop_plain weights (suc n) [] h = refl
drop_plain weights (suc n) (p ∷ ps) h = drop_plain weights n ps (tail_plain weights p ps h)

append_plain : (weights : Weights) (ps qs : List Placed) → EndsPlain weights ps → EndsPlain weights qs → EndsPlain weights (ps ++ qs)
append_plain weights [] qs h g = g
append_plain weights (p ∷ []) [] h g = h
append_plain weights (p ∷ []) (q ∷ qs) h g = g
append_plain weights (p ∷ r ∷ rs) qs h g = append_plain weights (r ∷ rs) qs h g

mark_plain : (collation : Collation) (c : ℕ) → AreDigitsAlone collation → (collation.canonical.class c == 0) ≡ false
    → is_digit collation.weights c ≡ false
mark_plain collation c d h =
    false_from_ne_true (is_digit collation.weights c)
    (λ e. let zero = eq-eqb (collation.canonical.class c) 0 (d.starters c e) in cc)

pub joining_plain : (collation : Collation) (text : List ℕ) (between ms : List Placed) → AreDigitsAlone collation
    → EndsPlain collation.weights between → EndsPlain collation.weights ms
    → EndsPlain collation.weights (joining collation.canonical collation.weights text between ms).left
unfolding joining
joining_plain collation text between [] d h g = h
joining_plain collation text between (m ∷ ms) d h g =
    let P : Joining → Type 0 = λ j. EndsPlain collation.weights j.left
    in let longer = text ++ m.character ∷ []
    in cond_both (collation.canonical.class m.character == 0) _ _ P
    (λ _. append_plain collation.weights between (m ∷ ms) h g)
    (λ n. cond_both (list_all (λ b. ltb (collation.canonical.class b.character) (collation.canonical.class m.character)) between && is_some (collation.weights.recorded [] longer)) _ _ P
    (λ _. joining_plain collation longer between ms d h (tail_plain collation.weights m ms g))
    (λ _. joining_plain collation text (between ++ m ∷ []) ms d
    (append_plain collation.weights between (m ∷ []) h (mark_plain collation m.character d n)) (tail_plain collation.weights m ms g)))

-- no recorded text reaches to a digit
taken_holds : (weights : Weights) (xs ys : List ℕ) (d n : ℕ) → is_digit weights d ≡ true → length xs < n
    → holds_digit weights (take n (xs ++ d ∷ ys)) ≡ true
taken_holds weights xs ys d zero h l = absurd (omega arith)
taken_holds weights [] ys d (suc n) h l = or_left (is_digit weights d) (holds_digit weights (take n ys)) h
taken_holds weights (x ∷ xs) ys d (suc n) h l =
    or_right (is_digit weights x) (holds_digit weights (take n (xs ++ d ∷ ys))) (taken_holds weights xs ys d n h (omega arith))

taken_long : (xs ys : List ℕ) (c d n : ℕ) → suc (length xs) < n → 1 < length (take n (c ∷ (xs ++ d ∷ ys)))
taken_long xs ys c d zero l = absurd (omega arith)
taken_long xs ys c d (suc zero) l = absurd (omega arith)
taken_long [] ys c d (suc (suc n)) l = omega arith
taken_long (x ∷ xs) ys c d (suc (suc n)) l = omega arith

pub match_kept : (collation : Collation) (c : ℕ) (xs ys : List ℕ) (d : ℕ) → AreDigitsAlone collation → is_digit collation.weights d ≡ true
    → match_length collation.weights ((c ∷ xs) ++ d ∷ ys) ≡ match_length collation.weights (c ∷ xs)
match_kept collation c xs ys d a h =
    let weights = collation.weights
    in let whole = (c ∷ xs) ++ d ∷ ys
    in let above : (k : ℕ) → length (c ∷ xs) < k → recorded_length weights whole k ≡ None =
    λ k l. none_where (ltb 0 k) (is_some (weights.recorded [] (take k whole))) k
    (ap is_some (a.alone [] (take k whole) (taken_long xs ys c d k l) (taken_holds weights (c ∷ xs) ys d k h l)))
    in let below : (k : ℕ) → k ≤ length (c ∷ xs) → recorded_length weights whole k ≡ recorded_length weights (c ∷ xs) k =
    λ k l. ap (λ (w : List ℕ). cond (ltb 0 k && is_some (weights.recorded [] w)) (Some k) None) (take-append-le k (c ∷ xs) (d ∷ ys) l)
    in ap (λ (o : Option ℕ). unwrap_or o 1)
    (greatest_below (recorded_length weights whole) (length (c ∷ xs)) (length whole) (omega (arith, length-append (c ∷ xs) (d ∷ ys))) above
    ∙ greatest_same (recorded_length weights whole) (recorded_length weights (c ∷ xs)) (length (c ∷ xs)) below)
