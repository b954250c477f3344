-- The elements of a list with a boundary in it: those of what stands before, and those of what stands from there on.
use Rattle.std.proofs.Common.{◌≡◌, ℕ, zero, suc, ◌+◌, ◌<◌, ◌≤◌, ◌==◌, Bool, true, false, cond, ◌&&◌, ltb, List, [], ◌∷◌, ◌++◌, length, take, drop, refl, sym, ap, ◌∙◌, arith, append_assoc, length-append, filter_map, inl, inr, Option, Some, None}
use Rattle.std.specs.List.{AllByRecursion, Contains, list_all}
use Rattle.std.specs.Option.{unwrap_or, is_some}
use Rattle.std.proofs.lemmas.Bool.{and_from, and_parts, cases_lt, eq-eqb}
use Rattle.std.proofs.lemmas.List.{drop-append-le, length-map, map-append, take-append-le}
use Rattle.std.proofs.lemmas.List.Sums.{prefix_len-le-length}
use Rattle.std.proofs.lemmas.List.Elements.{Contains-append_right}
use lib.Utf8.{scalar, scalars}
use Rattle.icu_normalizer_core.specs.Canonical.{Canonical}
use Rattle.icu_collator_types.specs.declared.elements.Element.{Element}
use Rattle.icu_collator_core.specs.Boundaries.{IsApart, IsBoundary, after, is_accent}
use Rattle.icu_collator_core.specs.Weights.{Weights}
use Rattle.icu_collator_core.specs.Defaults.{special_primary, default_elements}
use Rattle.icu_collator_core.specs.Numbers.{number_elements}
use Rattle.icu_collator_core.specs.Elements.{Placed, longest_prefix, Reading, Joining, characters_of, at_greatest, recorded_length, match_length, prefix_match, joining, text_match, text_reading, digit_count, number_reading, is_before_accent, reading, elements_within}
use Rattle.icu_collator_core.proofs.lookups.MatchLemmas.{scalars_front}
use Rattle.icu_collator_core.proofs.lookups.PrefixLemmas.{scalars_join}
use Rattle.icu_collator_core.proofs.readings.AlikeLemmas.{chosen_alike, reading_is, two_ways}
use Rattle.icu_collator_core.proofs.readings.CountLemmas.{any_count, match_within, reading_shrinks}
use Rattle.icu_collator_core.proofs.readings.ReadingLeftLemmas.{reading_left}

abbrev is_digit : Weights → ℕ → Bool
is_digit weights c = is_some (weights.digit c)

-- marks join no further than up to a starter, and what stands from there on is left after what is left before it
pub record JoinsAlike (behind : List Placed) (whole front : Joining) : Type 0 where
  pub text : whole.text ≡ front.text
  pub left : whole.left ≡ front.left ++ behind

pub joining_apart : (canonical : Canonical) (weights : Weights) (text : List ℕ) (between ms : List Placed) (q : Placed) (qs : List Placed)
    → canonical.class q.character ≡ 0
    → JoinsAlike (q ∷ qs) (joining canonical weights text between (ms ++ q ∷ qs)) (joining canonical weights text between ms)
unfolding joining
joining_apart canonical weights text between [] q qs h =
    let starter : (canonical.class q.character == 0) ≡ true = eq-eqb (canonical.class q.character) 0 h
    in rw starter (record { text = refl; left = refl })
joining_apart canonical weights text between (m ∷ ms) q qs h =
    two_ways (canonical.class m.character == 0)
    (list_all (λ b. ltb (canonical.class b.character) (canonical.class m.character)) between && is_some (weights.recorded [] (text ++ m.character ∷ [])))
    _ _ _ _ _ _ (JoinsAlike (q ∷ qs))
    (record { text = refl {a = text}; left = sym (append_assoc between (m ∷ ms) (q ∷ qs)) })
    (joining_apart canonical weights (text ++ m.character ∷ []) between ms q qs h)
    (joining_apart canonical weights text (between ++ m ∷ []) ms q qs h)

-- the characters of two lists of placed characters, one after the other
pub characters_append : (ps qs : List Placed) → characters_of (ps ++ qs) ≡ characters_of ps ++ characters_of qs
characters_append ps qs = map-append (λ p. p.character) ps qs

-- what is found at no number above m is found up to m
pub greatest_below : (found : ℕ → Option ℕ) (m n : ℕ) → m ≤ n → ((k : ℕ) → m < k → found k ≡ None) → at_greatest found n ≡ at_greatest found m
unfolding at_greatest
greatest_below found m zero h none = let same : m ≡ 0 = omega arith in ap (at_greatest found) (sym same)
greatest_below found m (suc n) h none =
    elim (cases_lt n m) [
      | inl above ↦ let same : suc n ≡ m = omega arith in ap (at_greatest found) same
      | inr below ↦
          ap (λ (o : Option ℕ). elim o as (λ _. Option ℕ) [ Some x ↦ Some x | None ↦ at_greatest found n ]) (none (suc n) (omega arith))
          ∙ greatest_below found m n below none
    ]

pub greatest_same : {A : Type 0} (f g : ℕ → Option A) (n : ℕ) → ((k : ℕ) → k ≤ n → f k ≡ g k) → at_greatest f n ≡ at_greatest g n
unfolding at_greatest
greatest_same f g zero h = h zero (omega arith)
greatest_same f g (suc n) h = cc (h (suc n) (omega arith), greatest_same f g n (λ k l. h k (omega arith)))

pub none_where : (b c : Bool) (n : ℕ) → c ≡ false → cond (b && c) (Some n) None ≡ None
none_where true c n e = rw e refl
none_where false c n e = refl

pub characters_count : (ps : List Placed) (n : ℕ) → n ≤ length (characters_of ps) → n ≤ length ps
characters_count ps n h = omega (arith, length-map {A = Placed} {B = ℕ})

pub nothing_within : (canonical : Canonical) (weights : Weights) (numeric : Bool) (n : ℕ) → elements_within n canonical weights numeric [] ≡ []
unfolding elements_within
nothing_within canonical weights numeric zero = refl
nothing_within canonical weights numeric (suc n) = refl

-- what is no record is none
not_recorded : {A : Type 0} (o : Option A) → ((x : A) → o ≡ Some x → ⊥) → o ≡ None
not_recorded None h = refl
not_recorded (Some x) h = absurd (h x refl)

-- a starter that no recorded text holds after its first character, and with which no prefix is recorded
pub starter_boundary : (canonical : Canonical) (weights : Weights) (d : ℕ) → canonical.class d ≡ 0
    → ((prefix : List ℕ) (first : ℕ) (later : List ℕ) (es : List Element) → weights.recorded prefix (first ∷ later) ≡ Some es → Contains later d → ⊥)
    → ((nearest : ℕ) (further later : List ℕ) (es : List Element) → weights.recorded (nearest ∷ further) (d ∷ later) ≡ Some es → ⊥)
    → IsBoundary canonical weights d
starter_boundary canonical weights d starter first unprefixed =
    record {
      starter = starter;
      behind = λ x xs ys s.
          not_recorded (weights.recorded [] (x ∷ xs ++ d ∷ ys)) (λ es e. first [] x (xs ++ d ∷ ys) es e (Contains-append_right xs (d ∷ ys) d (0, omega arith, refl)));
      prefixes = λ p ps s. not_recorded (weights.recorded (p ∷ ps) (d ∷ [])) (λ es e. unprefixed p ps [] es e);
    }

-- characters stand before an index as they stand in their list
pub after_scalars : (before cs : List ℕ) → scalars before ≡ true → scalars cs ≡ true → scalars (after before cs) ≡ true
after_scalars before [] h g = h
after_scalars before (c ∷ cs) h g =
    let parts = and_parts (scalar c) (scalars cs) g
    in after_scalars (take longest_prefix (c ∷ before)) cs (scalars_front longest_prefix (c ∷ before) (and_from (scalar c) (scalars before) parts.0 h)) parts.1

-- a reading of a list, and that of its front: what stands after the front is left
record ReadsApart (behind : List Placed) (whole front : Reading) : Type 0 where
  elements : whole.elements ≡ front.elements
  left : whole.left ≡ front.left ++ behind

-- ---- what a reading leaves

abbrev AreCharacters : List Placed → Type 0
AreCharacters ps = AllByRecursion (λ (p : Placed). scalar p.character ≡ true) ps

are_characters : (ps : List Placed) → scalars (characters_of ps) ≡ true → AreCharacters ps
are_characters [] h = tt
are_characters (p ∷ ps) h =
    let parts = and_parts (scalar p.character) (scalars (characters_of ps)) h in (parts.0, are_characters ps parts.1)

characters_are : (ps : List Placed) → AreCharacters ps → scalars (characters_of ps) ≡ true
characters_are [] h = refl
characters_are (p ∷ ps) h = and_from (scalar p.character) (scalars (characters_of ps)) h.0 (characters_are ps h.1)

left_scalars : (canonical : Canonical) (weights : Weights) (numeric : Bool) (p : Placed) (ps : List Placed) → scalars (characters_of (p ∷ ps)) ≡ true
    → scalars (characters_of (reading canonical weights numeric p ps).left) ≡ true
left_scalars canonical weights numeric p ps h =
    let all = are_characters (p ∷ ps) h
    in characters_are (reading canonical weights numeric p ps).left
    (reading_left canonical weights (λ (q : Placed). scalar q.character ≡ true) numeric p ps all.0 all.1)

-- ---- the longest recorded text

-- more of a list than what stands before an index goes on after the index
take_past : (xs ys : List ℕ) (d k : ℕ) → length xs < k → (m : ℕ) × (take k (xs ++ d ∷ ys) ≡ xs ++ d ∷ take m ys)
take_past xs ys d zero l = absurd (omega arith)
take_past [] ys d (suc k) l = (k, refl)
take_past (x ∷ xs) ys d (suc k) l =
    let rest = take_past xs ys d k (omega arith) in (rest.0, ap (λ (w : List ℕ). x ∷ w) rest.1)

-- digits end before a character that is none
count_before : (weights : Weights) (ps : List Placed) (q : Placed) (qs : List Placed) → is_digit weights q.character ≡ false
    → digit_count weights (ps ++ q ∷ qs) ≡ digit_count weights ps
count_before weights [] q qs h = rw h refl
count_before weights (p ∷ ps) q qs h =
    ap (λ (n : ℕ). cond (is_digit weights p.character) (1 + n) 0) (count_before weights ps q qs h)

undropped : (dot is_dot accent : Bool) → (dot && accent) ≡ false → (dot && is_dot && accent) ≡ (dot && is_dot && false)
undropped false is_dot accent h = refl
undropped true is_dot accent h = ap (λ (b : Bool). is_dot && b) h

module _ (canonical : Canonical) (weights : Weights) (numeric : Bool) (q : Placed) (qs : List Placed) (b : IsBoundary canonical weights q.character) (apart : IsApart weights numeric q.character) (ok : scalars (characters_of (q ∷ qs)) ≡ true) where
  match_kept : (c : ℕ) (xs : List ℕ) → scalars (c ∷ xs) ≡ true
      → match_length weights ((c ∷ xs) ++ characters_of (q ∷ qs)) ≡ match_length weights (c ∷ xs)
  match_kept c xs s =
      let d = q.character
      in let ys = characters_of qs
      in let whole = (c ∷ xs) ++ d ∷ ys
      in let all : scalars whole ≡ true = scalars_join (c ∷ xs) (d ∷ ys) s ok
      in let above : (k : ℕ) → length (c ∷ xs) < k → recorded_length weights whole k ≡ None =
      λ k l. let past = take_past (c ∷ xs) ys d k l
      in let front : scalars ((c ∷ xs) ++ d ∷ take past.0 ys) ≡ true = ap scalars (sym past.1) ∙ scalars_front k whole all
      in none_where (ltb 0 k) (is_some (weights.recorded [] (take k whole))) k
      (ap (λ (w : List ℕ). is_some (weights.recorded [] w)) past.1 ∙ ap (λ (o : Option (List Element)). is_some o) (b.behind c xs (take past.0 ys) front))
      in let below : (k : ℕ) → k ≤ length (c ∷ xs) → recorded_length weights whole k ≡ recorded_length weights (c ∷ xs) k =
      λ k l. ap (λ (w : List ℕ). cond (ltb 0 k && is_some (weights.recorded [] w)) (Some k) None) (take-append-le k (c ∷ xs) (d ∷ ys) l)
      in ap (λ (o : Option ℕ). unwrap_or o 1)
      (greatest_below (recorded_length weights whole) (length (c ∷ xs)) (length whole) (omega (arith, length-append (c ∷ xs) (d ∷ ys))) above
      ∙ greatest_same (recorded_length weights whole) (recorded_length weights (c ∷ xs)) (length (c ∷ xs)) below)

  text_match_apart : (p : Placed) (ps : List Placed) → scalars (characters_of (p ∷ ps)) ≡ true
      → JoinsAlike (q ∷ qs) (text_match canonical weights ((p ∷ ps) ++ q ∷ qs)) (text_match canonical weights (p ∷ ps))
  unfolding text_match
  text_match_apart p ps s =
      let front = characters_of (p ∷ ps)
      in let n = match_length weights front
      in let m = match_length weights (characters_of ((p ∷ ps) ++ q ∷ qs))
      in let list = characters_append (p ∷ ps) (q ∷ qs)
      in let count : m ≡ n = ap (match_length weights) list ∙ match_kept p.character (characters_of ps) s
      in let within = match_within weights p.character (characters_of ps)
      in let placed_within : n ≤ length (p ∷ ps) = characters_count (p ∷ ps) n within
      in let text : take m (characters_of ((p ∷ ps) ++ q ∷ qs)) ≡ take n front =
      cc (ap (take n) list, take-append-le n front (characters_of (q ∷ qs)) within, count)
      in let left : drop m ((p ∷ ps) ++ q ∷ qs) ≡ drop n (p ∷ ps) ++ q ∷ qs =
      ap (λ (k : ℕ). drop k ((p ∷ ps) ++ q ∷ qs)) count ∙ drop-append-le n (p ∷ ps) (q ∷ qs) placed_within
      in rw (text, left) (joining_apart canonical weights (take n front) [] (drop n (p ∷ ps)) q qs b.starter)

  text_apart : (c : ℕ) (p : Placed) (ps : List Placed) → scalars (characters_of (p ∷ ps)) ≡ true
      → ReadsApart (q ∷ qs) (text_reading canonical weights c ((p ∷ ps) ++ q ∷ qs)) (text_reading canonical weights c (p ∷ ps))
  unfolding text_reading
  text_apart c p ps s =
      let alike = text_match_apart p ps s
      in record {
        elements = ap (λ (text : List ℕ). unwrap_or (weights.recorded [] text) (default_elements weights c)) alike.text;
        left = alike.left;
      }

  number_apart : (p : Placed) (ps : List Placed) → (numeric && is_digit weights p.character) ≡ true
      → ReadsApart (q ∷ qs) (number_reading weights ((p ∷ ps) ++ q ∷ qs)) (number_reading weights (p ∷ ps))
  unfolding number_reading
  number_apart p ps h =
      let counts : numeric ≡ true = (and_parts numeric (is_digit weights p.character) h).0
      in let other : is_digit weights q.character ≡ false = ap (λ (n : Bool). n && is_digit weights q.character) (sym counts) ∙ apart.number
      in let n = digit_count weights (p ∷ ps)
      in let count = count_before weights (p ∷ ps) q qs other
      in let within = prefix_len-le-length (λ (r : Placed). is_some (weights.digit r.character)) (p ∷ ps)
      in record {
        elements = ap (λ (w : List Placed). number_elements weights.numeric_lead (filter_map (λ r. weights.digit r.character) w))
            (ap (λ (k : ℕ). take k ((p ∷ ps) ++ q ∷ qs)) count ∙ take-append-le n (p ∷ ps) (q ∷ qs) within);
        left = ap (λ (k : ℕ). drop k ((p ∷ ps) ++ q ∷ qs)) count ∙ drop-append-le n (p ∷ ps) (q ∷ qs) within;
      }

  dotted_apart : (is_dot : Bool) (ps : List Placed)
      → (weights.dot_above && is_dot && is_before_accent (ps ++ q ∷ qs)) ≡ (weights.dot_above && is_dot && is_before_accent ps)
  unfolding is_before_accent
  dotted_apart is_dot [] = undropped weights.dot_above is_dot (is_accent q.character) apart.accent
  dotted_apart is_dot (p ∷ ps) = refl

  -- a reading before a boundary
  reading_apart : (p : Placed) (ps : List Placed) → scalars (characters_of (p ∷ ps)) ≡ true
      → ReadsApart (q ∷ qs) (reading canonical weights numeric p (ps ++ q ∷ qs)) (reading canonical weights numeric p ps)
  reading_apart p ps s =
      let is_dot = p.character == 0x307
      in rw (reading_is canonical weights numeric p (ps ++ q ∷ qs), reading_is canonical weights numeric p ps)
      (rw (dotted_apart is_dot ps)
      (chosen_alike (ReadsApart (q ∷ qs)) (special_primary p.character) _ _ (numeric && is_some (weights.digit p.character)) _ _
      (weights.dot_above && is_dot && is_before_accent ps) _ _ (prefix_match weights p) _ _ _ _
      (λ k. record { elements = refl; left = refl })
      (number_apart p ps)
      (record { elements = refl; left = refl })
      (λ es. record { elements = refl; left = refl })
      (text_apart p.character p ps s)))

  -- the elements of what stands before a boundary, then those of the rest
  pub split_at_boundary : (n : ℕ) (ps : List Placed) → scalars (characters_of ps) ≡ true → length (ps ++ q ∷ qs) ≤ n
      → elements_within n canonical weights numeric (ps ++ q ∷ qs)
      ≡ elements_within n canonical weights numeric ps ++ elements_within n canonical weights numeric (q ∷ qs)
  unfolding elements_within
  split_at_boundary n [] s l =
      ap (λ (w : List Element). w ++ elements_within n canonical weights numeric (q ∷ qs))
      (sym (nothing_within canonical weights numeric n))
  split_at_boundary zero (p ∷ ps) s l = absurd (omega arith)
  split_at_boundary (suc n) (p ∷ ps) s l =
      let apart_read = reading_apart p ps s
      in let front = reading canonical weights numeric p ps
      in let shrinks = reading_shrinks canonical weights numeric p ps
      in let count = length-append ps (q ∷ qs)
      in let left_count = length-append front.left (q ∷ qs)
      in let rest = split_at_boundary n front.left (left_scalars canonical weights numeric p ps s) (omega arith)
      in let more = any_count canonical weights numeric n (suc n) (q ∷ qs) (omega arith) (omega arith)
      in rw (apart_read.elements, apart_read.left, rest, more) (sym (append_assoc front.elements (elements_within n canonical weights numeric front.left) (elements_within (suc n) canonical weights numeric (q ∷ qs))))
