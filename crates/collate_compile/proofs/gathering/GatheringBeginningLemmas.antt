-- The characters that lines begin with, gathered one after another: just those that pass, each once, and how much the
-- lines take that begin with them.
use Rattle.std.proofs.Common.{◌≡◌, ℕ, ◌+◌, ◌≤◌, Bool, true, false, cond, not, ◌==◌, ◌&&◌, ◌||◌, List, [], ◌∷◌, ◌++◌, length, map, drop, Option, Some, None, refl, sym, ap, ◌∙◌, subst, arith, All}
use Rattle.std.specs.Prelude.{count_by, nat_eq, sum_by}
use Rattle.std.specs.List.{IsDistinct, list_any}
use Rattle.std.proofs.lemmas.Bool.{and_parts, and_right, eqb-true, eq-eqb, false_from_ne_true, false≢true, or_parts}
use Rattle.std.proofs.lemmas.List.{drop_all}
use Rattle.std.proofs.lemmas.List.Elements.{All-from_recursion, All-head, All-nil, All-push, All-tail, recursion_from_All}
use Rattle.std.proofs.lemmas.List.Folds.{list_any-append}
use Rattle.std.proofs.lemmas.List.Sums.{sum_by-cons, sum_by-le-sum_by}
use Rattle.std.proofs.lemmas.Map.Keys.{IsDistinct-cons, IsDistinct-head, IsDistinct-tail}
use Rattle.icu_normalizer_core.specs.BuiltIn.{is_jamo}
use Rattle.collate_lines.specs.declared.record.Record.{Record as Line}
use Rattle.collate_lines.specs.Record.{Record, said, nothing, class, mapping, compatibility, weights, range, digit, setting, Layer, root, tailoring, is_same_layer}
use Rattle.collate_rules.specs.Accepted.{AreAccepted}
use Rattle.collate_rules.specs.GivenWeights.{elements_of}
use Rattle.collate_rules.specs.RecordRules.{begins_with}
use Rattle.collate_rules.specs.Rules.{element_room, is_beside, is_range}
use Rattle.collate_compile.specs.Beginnings.{AreBeginnings, AreFew, begun_by, begun_sum, elements_begun, first_of, is_begun, with_character}
use Rattle.collate_compile.specs.LineSayings.{begins_line, begins_tailored_line, is_tailored}
use Rattle.collate_compile.proofs.gathering.AcceptedLineLemmas.{accepted_elements, accepted_texts}
use Rattle.collate_compile.proofs.gathering.BesideLemmas.{any_weaker}
use Rattle.collate_compile.proofs.gathering.NameLemmas.{is_among, names_among, one_same, or_false}

abbrev is_it : ℕ → Option ℕ → Bool
is_it c None = false
is_it c (Some d) = c == d

among_push : (c d : ℕ) (cs : List ℕ) → is_among c (cs ++ d ∷ []) ≡ (is_among c cs || (c == d))
among_push c d cs =
    list_any-append (λ e. c == e) cs (d ∷ []) ∙ ap (λ (b : Bool). is_among c cs || b) (or_false (c == d))

module _ (passes : ℕ → Bool) where
  -- ---- Which characters

  among_with_one : (c d : ℕ) (cs : List ℕ)
      → is_among c (with_character passes cs (Some d)) ≡ (is_among c cs || (passes c && (c == d)))
  among_with_one c d cs = by (c == d) refl
    where
      other : (t : Bool) → (c == d) ≡ false
          → is_among c (cond t (cs ++ d ∷ []) cs) ≡ (is_among c cs || (passes c && false))
      other true e =
          among_push c d cs ∙ ap (λ (b : Bool). is_among c cs || b) (e ∙ sym (and_right (passes c) false refl))
      other false e =
          sym (ap (λ (b : Bool). is_among c cs || b) (and_right (passes c) false refl) ∙ or_false (is_among c cs))

      itself : (t u : Bool) → is_among c cs ≡ u → is_among c (cond (t && not u) (cs ++ c ∷ []) cs) ≡ (u || (t && true))
      itself true true e = e
      itself true false e = among_push c c cs ∙ ap (λ (b : Bool). b || (c == c)) e ∙ eq-eqb c c refl
      itself false true e = e
      itself false false e = e

      by : (b : Bool) → (c == d) ≡ b
          → is_among c (with_character passes cs (Some d)) ≡ (is_among c cs || (passes c && b))
      by false e = other (passes d && not (is_among d cs)) e
      by true e =
          subst (λ (x : ℕ). is_among c (with_character passes cs (Some x)) ≡ (is_among c cs || (passes c && true)))
          (eqb-true c d e) (itself (passes c) (is_among c cs) refl)

  among_with : (c : ℕ) (cs : List ℕ) (o : Option ℕ)
      → is_among c (with_character passes cs o) ≡ (is_among c cs || (passes c && is_it c o))
  among_with c cs None =
      sym (ap (λ (b : Bool). is_among c cs || b) (and_right (passes c) false refl) ∙ or_false (is_among c cs))
  among_with c cs (Some d) = among_with_one c d cs

  begun_among : (c : ℕ) (lines : List Record) (cs : List ℕ)
      → is_among c (begun_by passes lines cs)
      ≡ (is_among c cs || (passes c && list_any (λ line. is_it c (first_of line)) lines))
  begun_among c [] cs =
      sym (ap (λ (b : Bool). is_among c cs || b) (and_right (passes c) false refl) ∙ or_false (is_among c cs))
  begun_among c (line ∷ lines) cs =
      begun_among c lines (with_character passes cs (first_of line))
      ∙ ap (λ (b : Bool). b || (passes c && list_any (λ l. is_it c (first_of l)) lines))
      (among_with c cs (first_of line))
      ∙ regroup (is_among c cs) (passes c) (is_it c (first_of line)) (list_any (λ l. is_it c (first_of l)) lines)
    where
      regroup : (a p x y : Bool) → ((a || (p && x)) || (p && y)) ≡ (a || (p && (x || y)))
      regroup true p x y = refl
      regroup false true x y = refl
      regroup false false x y = refl

  -- ---- Each once

  once_push : (c : ℕ) (cs : List ℕ) → IsDistinct nat_eq cs → is_among c cs ≡ false → IsDistinct nat_eq (cs ++ c ∷ [])
  once_push c [] once none =
      IsDistinct-cons nat_eq c []
      (recursion_from_All (λ y. nat_eq c y ≡ false) [] (All-nil (λ y. nat_eq c y ≡ false))) once
  once_push c (d ∷ ds) once none =
      let parts = or_parts (c == d) (is_among c ds) none in
      let apart : nat_eq d c ≡ false = false_from_ne_true (nat_eq d c)
      (λ same. false≢true (sym parts.0 ∙ eq-eqb c d (sym (eqb-true d c same)))) in
      IsDistinct-cons nat_eq d (ds ++ c ∷ [])
      (recursion_from_All (λ y. nat_eq d y ≡ false) (ds ++ c ∷ [])
      (All-push (λ y. nat_eq d y ≡ false) ds c
      (All-from_recursion (λ y. nat_eq d y ≡ false) ds (IsDistinct-head nat_eq d ds once)) apart))
      (once_push c ds (IsDistinct-tail nat_eq d ds once) parts.1)

  once_with : (cs : List ℕ) (o : Option ℕ) → IsDistinct nat_eq cs → IsDistinct nat_eq (with_character passes cs o)
  once_with cs None once = once
  once_with cs (Some c) once = by (passes c) (is_among c cs) refl
    where
      by : (t u : Bool) → is_among c cs ≡ u → IsDistinct nat_eq (cond (t && not u) (cs ++ c ∷ []) cs)
      by true true e = once
      by true false e = once_push c cs once e
      by false u e = once

  begun_once : (lines : List Record) (cs : List ℕ) → IsDistinct nat_eq cs → IsDistinct nat_eq (begun_by passes lines cs)
  begun_once [] cs once = once
  begun_once (line ∷ lines) cs once =
      begun_once lines (with_character passes cs (first_of line)) (once_with cs (first_of line) once)

  -- ---- Each passes

  passes_with : (cs : List ℕ) (o : Option ℕ) → All (λ c. passes c ≡ true) cs
      → All (λ c. passes c ≡ true) (with_character passes cs o)
  passes_with cs None all = all
  passes_with cs (Some c) all = by (passes c) (not (is_among c cs)) refl
    where
      by : (t u : Bool) → passes c ≡ t → All (λ d. passes d ≡ true) (cond (t && u) (cs ++ c ∷ []) cs)
      by true true e = All-push (λ d. passes d ≡ true) cs c all e
      by true false e = all
      by false u e = all

  begun_pass : (lines : List Record) (cs : List ℕ) → All (λ c. passes c ≡ true) cs
      → All (λ c. passes c ≡ true) (begun_by passes lines cs)
  begun_pass [] cs all = all
  begun_pass (line ∷ lines) cs all =
      begun_pass lines (with_character passes cs (first_of line)) (passes_with cs (first_of line) all)

-- ---- Which lines begin with a character

it_begins : (c : ℕ) (line : Record) → is_it c (first_of line) ≡ begins_line c line
it_begins c (weights layer prefix [] es) = refl
it_begins c (weights layer prefix (d ∷ ds) es) = refl
it_begins c nothing = refl
it_begins c (class d k) = refl
it_begins c (mapping d ds x) = refl
it_begins c (compatibility d ds) = refl
it_begins c (range r) = refl
it_begins c (digit d v) = refl
it_begins c (setting s) = refl

any_same : {A : Type 0} (p q : A → Bool) (xs : List A) → ((x : A) → p x ≡ q x) → list_any p xs ≡ list_any q xs
any_same p q [] same = refl
any_same p q (x ∷ xs) same =
    ap (λ (b : Bool). b || list_any p xs) (same x) ∙ ap (λ (b : Bool). q x || b) (any_same p q xs same)

tailored_begins : (c : ℕ) (line : Record) → begins_tailored_line c line ≡ true → begins_line c line ≡ true
tailored_begins c (weights layer prefix text es) h =
    (and_parts (is_same_layer tailoring layer) (begins_with c text) h).1
tailored_begins c nothing h = h
tailored_begins c (class d k) h = h
tailored_begins c (mapping d ds x) h = h
tailored_begins c (compatibility d ds) h = h
tailored_begins c (range r) h = h
tailored_begins c (digit d v) h = h
tailored_begins c (setting s) h = h

-- a character that a layer has begins a line
begun_begins : (layer : Layer) (lines : List Record) (c : ℕ) → is_begun layer lines c ≡ true
    → list_any (begins_line c) lines ≡ true
begun_begins root lines c h =
    (and_parts (not (is_tailored lines c)) (list_any (begins_line c) lines)
    (and_parts (not (is_jamo c)) (not (is_tailored lines c) && list_any (begins_line c) lines) h).1).1
begun_begins tailoring lines c h =
    any_weaker (begins_tailored_line c) (begins_line c) lines (tailored_begins c)
    (and_parts (not (is_jamo c)) (list_any (begins_tailored_line c) lines) h).1

-- ---- How much the lines take

abbrev is_weights : Record → Bool
is_weights (weights layer prefix text es) = true
is_weights _ = false

sum_none : (cs : List ℕ) → sum_by (λ c. 0) cs ≡ 0
sum_none [] = refl
sum_none (c ∷ cs) = let later = sum_none cs in omega (arith, later, sum_by-cons (λ d. 0) c cs)

-- one of different characters at most begins a line
begun_line : (n : ℕ) (cs : List ℕ) → IsDistinct nat_eq cs → (line : Record)
    → sum_by (λ c. cond (begins_line c line) n 0) cs ≤ cond (is_weights line) n 0
begun_line n cs once (weights layer prefix [] es) = omega (arith, sum_none cs)
begun_line n cs once (weights layer prefix (d ∷ ds) es) = one_same d n cs once
begun_line n cs once nothing = omega (arith, sum_none cs)
begun_line n cs once (class d k) = omega (arith, sum_none cs)
begun_line n cs once (mapping d ds x) = omega (arith, sum_none cs)
begun_line n cs once (compatibility d ds) = omega (arith, sum_none cs)
begun_line n cs once (range r) = omega (arith, sum_none cs)
begun_line n cs once (digit d v) = omega (arith, sum_none cs)
begun_line n cs once (setting s) = omega (arith, sum_none cs)

module _ (taken : Record → ℕ) where
  line_more : (line : Record) (lines : List Record) (cs : List ℕ)
      → sum_by (begun_sum taken (line ∷ lines)) cs
      ≡ sum_by (λ c. cond (begins_line c line) (taken line) 0) cs + sum_by (begun_sum taken lines) cs
  line_more line lines [] = refl
  line_more line lines (c ∷ cs) =
      omega (
        arith,
        line_more line lines cs,
        sum_by-cons (λ l. cond (begins_line c l) (taken l) 0) line lines,
        sum_by-cons (begun_sum taken (line ∷ lines)) c cs,
        sum_by-cons (λ d. cond (begins_line d line) (taken line) 0) c cs,
        sum_by-cons (begun_sum taken lines) c cs,
      )

  none_begun : (cs : List ℕ) → sum_by (begun_sum taken []) cs ≡ 0
  none_begun [] = refl
  none_begun (c ∷ cs) = let later = none_begun cs in omega (arith, later, sum_by-cons (begun_sum taken []) c cs)

  -- what lines take that begin with different characters is counted once
  begun_lines : (cs : List ℕ) → IsDistinct nat_eq cs → (lines : List Record)
      → sum_by (begun_sum taken lines) cs ≤ sum_by (λ line. cond (is_weights line) (taken line) 0) lines
  begun_lines cs once [] = omega (arith, none_begun cs)
  begun_lines cs once (line ∷ lines) =
      omega (
        arith,
        begun_lines cs once lines,
        begun_line (taken line) cs once line,
        line_more line lines cs,
        sum_by-cons (λ l. cond (is_weights l) (taken l) 0) line lines,
      )

-- the elements of a line, and one
abbrev elements_and_one : Record → ℕ
elements_and_one line = 1 + length (elements_of line)

-- where a line begins with the character, there is one more
one_begun : (c : ℕ) (lines : List Record) → list_any (begins_line c) lines ≡ true
    → 1 + elements_begun lines c ≤ begun_sum elements_and_one lines c
one_begun c [] h = absurd (false≢true h)
one_begun c (line ∷ lines) h = by (begins_line c line) refl h (one_begun c lines) (as_many lines)
  where
    as_many : (ls : List Record) → elements_begun ls c ≤ begun_sum elements_and_one ls c
    as_many ls =
        sum_by-le-sum_by (λ l. cond (begins_line c l) (length (elements_of l)) 0)
        (λ l. cond (begins_line c l) (elements_and_one l) 0) ls
        (λ l. rises (begins_line c l) (length (elements_of l)))
      where
        rises : (b : Bool) (n : ℕ) → cond b n 0 ≤ cond b (1 + n) 0
        rises true n = omega arith
        rises false n = omega arith

    here : (b : Bool) → begins_line c line ≡ b
        → (1 + elements_begun (line ∷ lines) c ≡ 1 + (cond b (length (elements_of line)) 0 + elements_begun lines c))
        × (begun_sum elements_and_one (line ∷ lines) c
        ≡ cond b (elements_and_one line) 0 + begun_sum elements_and_one lines c)
    here b e = (
      omega (
        arith,
        ap (λ (t : Bool). cond t (length (elements_of line)) 0) e,
        sum_by-cons (λ l. cond (begins_line c l) (length (elements_of l)) 0) line lines,
      ),
      omega (
        arith,
        ap (λ (t : Bool). cond t (elements_and_one line) 0) e,
        sum_by-cons (λ l. cond (begins_line c l) (elements_and_one l) 0) line lines,
      ),
    )

    by : (b : Bool) → begins_line c line ≡ b → (b || list_any (begins_line c) lines) ≡ true
        → (list_any (begins_line c) lines ≡ true → 1 + elements_begun lines c ≤ begun_sum elements_and_one lines c)
        → elements_begun lines c ≤ begun_sum elements_and_one lines c
        → 1 + elements_begun (line ∷ lines) c ≤ begun_sum elements_and_one (line ∷ lines) c
    by true e k later many = let parts = here true e in omega (arith, parts.0, parts.1, many)
    by false e k later many =
        let parts = here false e in let more = later k in omega (arith, parts.0, parts.1, more)

each_begun : (lines : List Record) (cs : List ℕ) → All (λ c. list_any (begins_line c) lines ≡ true) cs
    → sum_by (λ c. 1 + elements_begun lines c) cs ≤ sum_by (begun_sum elements_and_one lines) cs
each_begun lines [] all = omega arith
each_begun lines (c ∷ cs) all =
    let one = one_begun c lines (All-head (λ d. list_any (begins_line d) lines ≡ true) c cs all) in
    let later = each_begun lines cs (All-tail (λ d. list_any (begins_line d) lines ≡ true) c cs all) in
    omega (
      arith,
      one,
      later,
      sum_by-cons (λ d. 1 + elements_begun lines d) c cs,
      sum_by-cons (begun_sum elements_and_one lines) c cs,
    )

-- the room that a line takes is no less
room_one : (line : Record)
    → cond (is_weights line) (elements_and_one line) 0 + cond (is_range line) 1 0 ≤ element_room line
room_one (weights layer prefix text es) = omega arith
room_one nothing = omega arith
room_one (class d k) = omega arith
room_one (mapping d ds x) = omega arith
room_one (compatibility d ds) = omega arith
room_one (range r) = omega arith
room_one (digit d v) = omega arith
room_one (setting s) = omega arith

room_all : (lines : List Record)
    → sum_by (λ line. cond (is_weights line) (elements_and_one line) 0) lines + count_by is_range lines
    ≤ sum_by element_room lines
room_all [] = omega arith
room_all (line ∷ lines) =
    omega (
      arith,
      room_all lines,
      room_one line,
      sum_by-cons (λ l. cond (is_weights l) (elements_and_one l) 0) line lines,
      sum_by-cons (λ l. cond (is_range l) 1 0) line lines,
      sum_by-cons element_room line lines,
    )

-- texts of several characters, and those after a prefix
texts_all : (lines : List Record)
    → sum_by (λ line. cond (is_weights line) (cond (is_beside line) 1 0) 0) lines ≤ count_by is_beside lines
texts_all lines =
    sum_by-le-sum_by (λ line. cond (is_weights line) (cond (is_beside line) 1 0) 0) (λ line. cond (is_beside line) 1 0)
    lines (λ line. falls (is_weights line) (cond (is_beside line) 1 0))
  where
    falls : (b : Bool) (n : ℕ) → cond b n 0 ≤ n
    falls true n = omega arith
    falls false n = omega arith

-- ---- The whole

-- one of those that pass passes
among_all : (P : ℕ → Bool) (c : ℕ) (cs : List ℕ) → All (λ d. P d ≡ true) cs → is_among c cs ≡ true → P c ≡ true
among_all P c [] all h = absurd (false≢true h)
among_all P c (d ∷ ds) all h =
    by (c == d) refl h (among_all P c ds (All-tail (λ x. P x ≡ true) d ds all))
  where
    by : (b : Bool) → (c == d) ≡ b → (b || is_among c ds) ≡ true → (is_among c ds ≡ true → P c ≡ true) → P c ≡ true
    by true e k later = subst (λ (x : ℕ). P x ≡ true) (sym (eqb-true c d e)) (All-head (λ x. P x ≡ true) d ds all)
    by false e k later = later k

module _ (layer : Layer) (lines : List Record) where
  passes_all : All (λ c. is_begun layer lines c ≡ true) (begun_by (is_begun layer lines) lines [])
  passes_all = begun_pass (is_begun layer lines) lines [] (All-nil (λ c. is_begun layer lines c ≡ true))

  once_all : IsDistinct nat_eq (begun_by (is_begun layer lines) lines [])
  unfolding IsDistinct
  once_all = begun_once (is_begun layer lines) lines [] tt

  pub beginnings_begin : AreBeginnings layer lines (begun_by (is_begun layer lines) lines [])
  beginnings_begin =
      record {
        begun = λ c. begun_among (is_begun layer lines) c lines []
            ∙ by c (is_begun layer lines c) refl;
        once = once_all;
      }
    where
      by : (c : ℕ) (b : Bool) → is_begun layer lines c ≡ b → (b && list_any (λ line. is_it c (first_of line)) lines) ≡ b
      by c false e = refl
      by c true e =
          any_same (λ line. is_it c (first_of line)) (begins_line c) lines (it_begins c) ∙ begun_begins layer lines c e

  pub beginnings_few : AreAccepted lines → AreFew lines (begun_by (is_begun layer lines) lines [])
  beginnings_few accepted =
      let cs = begun_by (is_begun layer lines) lines [] in
      let all : All (λ c. list_any (begins_line c) lines ≡ true) cs = λ k d lt. begun_begins layer lines _
      (passes_all k d lt) in
      record {
        elements =
            omega (
              arith,
              accepted_elements lines accepted,
              each_begun lines cs all,
              begun_lines elements_and_one cs once_all lines,
              room_all lines,
            );
        texts =
            omega (
              arith,
              accepted_texts lines accepted,
              begun_lines (λ line. cond (is_beside line) 1 0) cs once_all lines,
              texts_all lines,
            );
        are_named = λ c among. names_among c lines (begun_begins layer lines c (among_all (is_begun layer lines) c cs passes_all among));
      }

-- where all lines were gone through
pub begun_all : (passes : ℕ → Bool) (lines : List Line) (i : ℕ) (cs whole : List ℕ) → length lines ≤ i
    → begun_by passes (map said (drop i lines)) cs ≡ whole
    → cs ≡ whole
begun_all passes lines i cs whole past e =
    sym (ap (λ (ls : List Line). begun_by passes (map said ls) cs) (drop_all i lines past)) ∙ e
