-- Of different characters one at most begins a line; lines name the characters that begin them.
use Rattle.std.proofs.Common.{◌≡◌, ℕ, ◌≤◌, Bool, true, false, cond, ◌==◌, ◌||◌, List, [], ◌∷◌, refl, sym, ap, ◌∙◌, arith, All}
use Rattle.std.specs.Prelude.{flat_map, nat_eq, sum_by}
use Rattle.std.specs.List.{IsDistinct, list_any}
use Rattle.std.proofs.lemmas.Bool.{eqb-true, eq-eqb, false_from_ne_true, false≢true, or_left, or_right}
use Rattle.std.proofs.lemmas.List.Elements.{All-from_recursion, All-head, All-tail}
use Rattle.std.proofs.lemmas.List.Folds.{list_any-append}
use Rattle.std.proofs.lemmas.List.Sums.{sum_by-cons}
use Rattle.std.proofs.lemmas.Map.Keys.{IsDistinct-head, IsDistinct-tail}
use Rattle.collate_lines.specs.Record.{Record, nothing, class, mapping, compatibility, weights, range, digit, setting}
use Rattle.collate_rules.specs.RecordRules.{begins_with}
use Rattle.collate_rules.specs.Rules.{named}
use Rattle.collate_compile.specs.LineSayings.{begins_line}

abbrev pub is_among : ℕ → List ℕ → Bool
is_among c cs = list_any (λ d. c == d) cs

pub or_false : (b : Bool) → (b || false) ≡ b
or_false true = refl
or_false false = refl

-- ---- One of different characters

-- so many, if a test passes
abbrev some_if : ℕ → Bool → ℕ
some_if n b = cond b n 0

none_same : (d c n : ℕ) (cs : List ℕ) → All (λ y. nat_eq c y ≡ false) cs → c ≡ d
    → sum_by (λ y. cond (y == d) n 0) cs ≡ 0
none_same d c n [] all e = refl
none_same d c n (y ∷ ys) all e =
    let apart : (y == d) ≡ false = false_from_ne_true (y == d)
    (λ same. false≢true (sym (All-head (λ z. nat_eq c z ≡ false) y ys all)
    ∙ eq-eqb c y (e ∙ sym (eqb-true y d same)))) in
    let zero = ap (some_if n) apart in
    let later = none_same d c n ys (All-tail (λ z. nat_eq c z ≡ false) y ys all) e in
    omega (arith, zero, later, sum_by-cons (λ z. cond (z == d) n 0) y ys)

-- of different characters one at most is this one
pub one_same : (d n : ℕ) (cs : List ℕ) → IsDistinct nat_eq cs → sum_by (λ y. cond (y == d) n 0) cs ≤ n
one_same d n [] once = omega arith
one_same d n (c ∷ cs) once = by (c == d) refl (one_same d n cs (IsDistinct-tail nat_eq c cs once))
  where
    by : (b : Bool) → (c == d) ≡ b → sum_by (λ y. cond (y == d) n 0) cs ≤ n
        → sum_by (λ y. cond (y == d) n 0) (c ∷ cs) ≤ n
    by true e later =
        let one = ap (some_if n) e in
        let none = none_same d c n cs
        (All-from_recursion (λ y. nat_eq c y ≡ false) cs (IsDistinct-head nat_eq c cs once)) (eqb-true c d e) in
        omega (arith, one, none, sum_by-cons (λ y. cond (y == d) n 0) c cs)
    by false e later =
        let zero = ap (some_if n) e in
        omega (arith, zero, later, sum_by-cons (λ y. cond (y == d) n 0) c cs)

-- ---- Named

named_among : (c : ℕ) (line : Record) → begins_line c line ≡ true → is_among c (named line) ≡ true
named_among c (weights layer prefix text es) h =
    list_any-append (λ d. c == d) prefix text ∙ or_right (is_among c prefix) (is_among c text) (first text h)
  where
    first : (ds : List ℕ) → begins_with c ds ≡ true → is_among c ds ≡ true
    first [] k = k
    first (d ∷ ds) k = or_left (c == d) (is_among c ds) k
named_among c nothing h = h
named_among c (class d k) h = absurd (false≢true h)
named_among c (mapping d ds x) h = absurd (false≢true h)
named_among c (compatibility d ds) h = absurd (false≢true h)
named_among c (range r) h = h
named_among c (digit d v) h = absurd (false≢true h)
named_among c (setting s) h = h

pub names_among : (c : ℕ) (lines : List Record) → list_any (begins_line c) lines ≡ true
    → is_among c (flat_map named lines) ≡ true
names_among c [] h = h
names_among c (line ∷ lines) h =
    list_any-append (λ d. c == d) (named line) (flat_map named lines)
    ∙ either (begins_line c line) (list_any (begins_line c) lines) (is_among c (named line))
    (is_among c (flat_map named lines)) (named_among c line) (names_among c lines) h
  where
    either : (a b p q : Bool) → (a ≡ true → p ≡ true) → (b ≡ true → q ≡ true) → (a || b) ≡ true → (p || q) ≡ true
    either true b p q f g k = or_left p q (f refl)
    either false b p q f g k = or_right p q (g k)
