-- A cursor that is given one character after another, and the longest text that it has found.
use Rattle.std.proofs.Common.{◌≡◌, ℕ, zero, suc, ◌+◌, ◌-◌, ◌/◌, ◌%◌, ◌<◌, ◌≤◌, inl, inr, Bool, true, false, ltb, cond, List, [], ◌∷◌, ◌++◌, length, take, drop, get_or, Option, Some, None, refl, sym, ◌∙◌, ap, arith, append-nil, length-drop, length-append, add-one, subst, if◌then◌else◌}
use Rattle.std.proofs.lemmas.Bool.{cases_eq, cond-true, lt-ltb}
use Rattle.std.proofs.lemmas.Grind.{flat_map-append}
use Rattle.std.proofs.lemmas.List.{get_or-drop, get_or_read, take_more}
use Rattle.std.proofs.Math.Seq.{take-nil}
use Rattle.std.specs.Prelude.{flat_map, option_map}
use Rattle.std.specs.Int.{cast_unsigned, w32}
use Rattle.std.specs.Option.{option_and_then}
use Rattle.icu_char16trie.specs.Cursors.{Follows, IsStopped, answer_to, answered, cursor_state, cursor_units, follow, state_of, units_of, value_of_key}
use Rattle.icu_char16trie.specs.UnitSteps.{start, step}
use Rattle.icu_char16trie.specs.declared.Char16TrieIterator.{Char16TrieIterator}
use Rattle.icu_char16trie.specs.declared.TrieResult.{TrieResult}
use Rattle.icu_char16trie.specs.declared.TrieResult.TheVariants.{NoMatch}
use Rattle.icu_char16trie.specs.declared.node.State.{State}
use Rattle.icu_char16trie.specs.declared.node.State.TheVariants.{Stopped}
use Rattle.icu_collator_core.specs.declared.reading.suffixes.LongerText.{LongerText}
use Rattle.icu_collator_core.specs.Elements.{at_greatest}
use Rattle.icu_collator_core.specs.Pools.{Pools}
use Rattle.icu_collator_core.specs.ReadTexts.{found_or, longest_text, text_by, text_of_length, word_by}

-- ---- What is found at the greatest number

pub greatest_more : {A : Type 0} (f : ℕ → Option A) (k : ℕ) → at_greatest f (k + 1) ≡ found_or (f (k + 1)) (at_greatest f k)
unfolding at_greatest
greatest_more {A} f k = rw add-one (elim (f (suc k)) as (λ o. (elim o as (λ _. Option A) [ Some x ↦ Some x | None ↦ at_greatest f k ]) ≡ found_or o (at_greatest f k)) [ Some x ↦ refl | None ↦ refl ])

greatest_none : {A : Type 0} (f : ℕ → Option A) (k : ℕ) → f (suc k) ≡ None → at_greatest f (suc k) ≡ at_greatest f k
unfolding at_greatest
greatest_none {A} f k e = ap (λ o. elim o as (λ _. Option A) [ Some x ↦ Some x | None ↦ at_greatest f k ]) e

pub greatest_past : {A : Type 0} (f : ℕ → Option A) (m n : ℕ) → m ≤ n → ((k : ℕ) → m < k → k ≤ n → f k ≡ None) → at_greatest f n ≡ at_greatest f m
greatest_past f m zero le none = let e : 0 ≡ m = omega arith in ap (at_greatest f) e
greatest_past f m (suc n) le none = elim (cases_eq m (suc n)) [
  | inl e ↦ ap (at_greatest f) (sym e)
  | inr other ↦
      let less : m ≤ n = omega (arith, other) in
      greatest_none f n (none (suc n) (omega (arith, less)) (omega arith))
      ∙ greatest_past f m n less (λ k above within. none k above (omega (arith, within)))
]

-- ---- Cursors

pub follow_after : (units : List ℕ) (state : State) (xs ys : List ℕ) → follow units state (xs ++ ys) ≡ follow units (follow units state xs) ys
follow_after units state [] ys = refl
follow_after units state (x ∷ xs) ys = follow_after units (state_of (step units state x)) xs ys

answer_more : (units : List ℕ) (state : State) (xs : List ℕ) (y : ℕ) (ys : List ℕ) → answer_to units state (xs ++ (y ∷ ys)) ≡ answer_to units (follow units state xs) (y ∷ ys)
answer_more units state [] y ys = refl
answer_more units state (x ∷ []) y ys = refl
answer_more units state (x ∷ next ∷ xs) y ys = answer_more units (state_of (step units state x)) (next ∷ xs) y ys

pub answer_after : (units : List ℕ) (state : State) (xs ys : List ℕ) → 0 < length ys → answer_to units state (xs ++ ys) ≡ answer_to units (follow units state xs) ys
answer_after units state xs [] some = absurd (omega (arith, some))
answer_after units state xs (y ∷ ys) some = answer_more units state xs y ys

stopped_answer : (units ys : List ℕ) → answer_to units Stopped ys ≡ NoMatch
stopped_answer units [] = refl
stopped_answer units (y ∷ []) = refl
stopped_answer units (y ∷ z ∷ ys) = stopped_answer units (z ∷ ys)

units_one : (b : Bool) (single high low : ℕ) → 0 < length (if b then single ∷ [] else high ∷ low ∷ [])
units_one true single high low = omega arith
units_one false single high low = omega arith

pub units_some : (c : ℕ) → 0 < length (units_of c)
units_some c = units_one (ltb c 0x10000) c (0xd800 + (c - 0x10000) / 0x400) (0xdc00 + c % 0x400)

-- ---- Texts

split_take : (m k : ℕ) (xs : List ℕ) → take (m + k) xs ≡ take m xs ++ take k (drop m xs)
split_take zero k xs = let e : zero + k ≡ k = omega arith in ap (λ n. take n xs) e
split_take (suc m) k [] = take-nil {A = ℕ} (suc m + k) ∙ sym (take-nil {A = ℕ} k)
split_take (suc m) k (x ∷ xs) =
    let e : suc m + k ≡ suc (m + k) = omega arith in
    ap (λ n. take n (x ∷ xs)) e ∙ ap (λ l. x ∷ l) (split_take m k xs)

pub units_more : (cs : List ℕ) (k c : ℕ) → k < length cs → get_or cs k 0 ≡ c
    → flat_map units_of (take (k + 1) cs) ≡ flat_map units_of (take k cs) ++ units_of c
units_more cs k c less e =
    ap (flat_map units_of) (take_more cs k 0 less ∙ ap (λ d. take k cs ++ d ∷ []) e)
    ∙ flat_map-append units_of (take k cs) (c ∷ [])
    ∙ ap (λ l. flat_map units_of (take k cs) ++ l) (append-nil (units_of c))

-- after a cursor has stopped no longer text has a word
none_behind : (units cs : List ℕ) (m n : ℕ) → follow units (start units) (flat_map units_of (take m cs)) ≡ Stopped
    → m < n → n ≤ length cs → word_by units (take n cs) ≡ None
unfolding value_of_key
none_behind units cs m n stopped less within =
    let k = n - m in
    let n_is : n ≡ m + k = omega arith in
    let rest = flat_map units_of (take k (drop m cs)) in
    let front = flat_map units_of (take m cs) in
    let split : flat_map units_of (take n cs) ≡ front ++ rest =
    ap (λ i. flat_map units_of (take i cs)) n_is ∙ ap (flat_map units_of) (split_take m k cs) ∙ flat_map-append units_of (take m cs) (take k (drop m cs)) in
    let filled : 0 < length (drop m cs) = let count = length-drop m cs in omega (arith, count) in
    let some : 0 < length rest = some_units (drop m cs) k (omega arith) filled in
    ap (λ key. option_map (cast_unsigned w32) (answered (answer_to units (start units) key))) split
    ∙ ap (λ answer. option_map (cast_unsigned w32) (answered answer))
    (answer_after units (start units) front rest some ∙ ap (λ state. answer_to units state rest) stopped ∙ stopped_answer units rest)
  where
    some_units : (ds : List ℕ) (i : ℕ) → 0 < i → 0 < length ds → 0 < length (flat_map units_of (take i ds))
    some_units [] i above filled = absurd (omega (arith, filled))
    some_units (d ∷ ds) zero above filled = absurd (omega (arith, above))
    some_units (d ∷ ds) (suc i) above filled =
        let count = length-append (units_of d) (flat_map units_of (take i ds)) in
        let first = units_some d in
        omega (arith, count, first)

text_here : (pools : Pools) (units cs : List ℕ) (k : ℕ)
    → text_of_length pools units cs (k + 1) ≡ option_and_then (text_by pools (k + 1)) (word_by units (take (k + 1) cs))
unfolding text_of_length
text_here pools units cs k =
    cond-true (ltb 0 (k + 1)) (option_and_then (text_by pools (k + 1)) (word_by units (take (k + 1) cs))) None (lt-ltb 0 (k + 1) (omega arith))

text_none : (pools : Pools) (units cs : List ℕ) (k : ℕ) → word_by units (take k cs) ≡ None → text_of_length pools units cs k ≡ None
unfolding text_of_length
text_none pools units cs k e =
    ap (λ o. cond (ltb 0 k) (option_and_then (text_by pools k) o) None) e ∙ either_none (ltb 0 k)
  where
    either_none : (b : Bool) → cond {A = Option LongerText} b None None ≡ None
    either_none true = refl
    either_none false = refl

-- ---- What a cursor has found of a list

pub record HasRead (pools : Pools) (units cs : List ℕ) (k : ℕ) (cursor : Char16TrieIterator) (longest : Option LongerText) : Type 0 where
  pub reads : cursor_units cursor ≡ units
  pub stands : cursor_state cursor ≡ follow units (start units) (flat_map units_of (take k cs))
  pub found : longest ≡ at_greatest (text_of_length pools units cs) k

pub read_more : (pools : Pools) (units cs : List ℕ) (k c : ℕ) (cursor after : Char16TrieIterator) (before longer : Option LongerText) (answer : TrieResult)
    → k < length cs → get_or cs k 0 ≡ c → HasRead pools units cs k cursor before → Follows cursor (units_of c) answer after
    → longer ≡ found_or (option_and_then (text_by pools (k + 1)) (option_map (cast_unsigned w32) (answered answer))) before
    → HasRead pools units cs (k + 1) after longer
unfolding value_of_key
read_more pools units cs k c cursor after before longer answer less is h step is_longer =
    let front = flat_map units_of (take k cs) in
    let more = units_more cs k c less is in
    let state = follow units (start units) front in
    let answers : answer ≡ answer_to units (start units) (flat_map units_of (take (k + 1) cs)) =
    step.found
    ∙ ap (λ read. answer_to read (cursor_state cursor) (units_of c)) h.reads
    ∙ ap (λ s. answer_to units s (units_of c)) h.stands
    ∙ sym (answer_after units (start units) front (units_of c) (units_some c))
    ∙ ap (answer_to units (start units)) (sym more) in
    record {
      reads = step.units ∙ h.reads;
      stands =
          step.stands
          ∙ ap (λ read. follow read (cursor_state cursor) (units_of c)) h.reads
          ∙ ap (λ s. follow units s (units_of c)) h.stands
          ∙ sym (follow_after units (start units) front (units_of c))
          ∙ ap (follow units (start units)) (sym more);
      found =
          is_longer
          ∙ ap (λ o. found_or o before)
          (ap (λ a. option_and_then (text_by pools (k + 1)) (option_map (cast_unsigned w32) (answered a))) answers ∙ sym (text_here pools units cs k))
          ∙ ap (found_or (text_of_length pools units cs (k + 1))) h.found
          ∙ sym (greatest_more (text_of_length pools units cs) k);
    }

pub read_stopped : (pools : Pools) (units cs : List ℕ) (k : ℕ) (cursor : Char16TrieIterator) (longest : Option LongerText)
    → k ≤ length cs → HasRead pools units cs k cursor longest → IsStopped cursor → longest ≡ longest_text pools units cs
read_stopped pools units cs k cursor longest within h stopped =
    h.found
    ∙ sym (greatest_past (text_of_length pools units cs) k (length cs) within
    (λ n above inside. text_none pools units cs n (none_behind units cs k n (sym h.stands ∙ stopped) above inside)))

pub read_all : (pools : Pools) (units cs : List ℕ) (k : ℕ) (cursor : Char16TrieIterator) (longest : Option LongerText)
    → k ≡ length cs → HasRead pools units cs k cursor longest → longest ≡ longest_text pools units cs
read_all pools units cs k cursor longest e h = h.found ∙ ap (at_greatest (text_of_length pools units cs)) e

pub read_none : (pools : Pools) (units cs : List ℕ) (cursor : Char16TrieIterator)
    → cursor_units cursor ≡ units → cursor_state cursor ≡ start units → HasRead pools units cs 0 cursor None
unfolding at_greatest text_of_length
read_none pools units cs cursor e f = record { reads = e; stands = f; found = refl }

pub read_next : (pools : Pools) (units list : List ℕ) (begin index x : ℕ) (cursor after : Char16TrieIterator) (before longer : Option LongerText) (answer : TrieResult)
    → begin ≤ index → index < length list → x ≡ get_or list index x
    → HasRead pools units (drop begin list) (index - begin) cursor before → Follows cursor (units_of x) answer after
    → longer ≡ found_or (option_and_then (text_by pools (index + 1 - begin)) (option_map (cast_unsigned w32) (answered answer))) before
    → HasRead pools units (drop begin list) (index + 1 - begin) after longer
read_next pools units list begin index x cursor after before longer answer above inside is h step is_longer =
    let k = index - begin in
    let next : index + 1 - begin ≡ k + 1 = omega arith in
    let back : begin + k ≡ index = omega arith in
    let less : k < length (drop begin list) = let count = length-drop begin list in omega (arith, count) in
    let here : get_or (drop begin list) k 0 ≡ x =
    get_or-drop begin list k 0 ∙ ap (λ i. get_or list i 0) back ∙ sym (get_or_read list index x inside is 0) in
    let now : HasRead pools units (drop begin list) (k + 1) after longer =
    read_more pools units (drop begin list) k x cursor after before longer answer less here h step
    (is_longer ∙ ap (λ n. found_or (option_and_then (text_by pools n) (option_map (cast_unsigned w32) (answered answer))) before) next) in
    subst (λ n. HasRead pools units (drop begin list) n after longer) (sym next) now

pub within_rest : (list : List ℕ) (begin index : ℕ) → begin ≤ index → index < length list → index + 1 - begin ≤ length (drop begin list)
within_rest list begin index above inside = let count = length-drop begin list in omega (arith, count)
