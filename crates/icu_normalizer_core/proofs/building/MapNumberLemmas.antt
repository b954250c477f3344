-- Mappings as numbers, and what is found among them.
use Rattle.std.proofs.Common.{◌≡◌, ◌≢◌, ℕ, zero, suc, ◌+◌, ◌*◌, ◌/◌, ◌%◌, ◌^◌, ◌<◌, ⊎_elim, Bool, true, false, cond, not, ◌==◌, ◌&&◌, List, [], ◌∷◌, ◌++◌, length, slice_index, flat_map, Option, Some, None, refl, sym, ap, subst, ◌∙◌, arith}
use Rattle.std.specs.List.{All, find}
use Rattle.std.specs.Option.{is_some, unwrap_or, option_map, IfSome}
use Rattle.std.specs.Char.{IsScalar}
use Rattle.std.specs.Str.{bytes_eq}
use Rattle.std.proofs.lemmas.Bool.{cases_eq, cases_Bool, eq-eqb, ne_eqb, and_from, and_left, and_right, cond-true, cond-false}
use Rattle.std.proofs.lemmas.List.Elements.{All-head, All-tail, All-cons, All-nil, All-append}
use Rattle.icu_normalizer_core.specs.declared.builder.given.GivenMapping.{GivenMapping}
use Rattle.icu_normalizer_core.specs.BuiltIn.{built_in_step}
use Rattle.icu_normalizer_core.specs.CanonicalLists.{AreTriples, ArePairs, listed_step, listed_pair, mapping}
use Rattle.icu_normalizer_core.specs.CanonicalMaps.{mapping_given, given_step, given_pair, composes}
use Rattle.icu_normalizer_core.specs.GivenMaps.{IsOfScalars}
use Rattle.icu_normalizer_core.specs.InOrder.{first_of, Rise, AreFirstsInOrder}
use Rattle.icu_normalizer_core.specs.Settled.{key_at}
use Rattle.icu_normalizer_core.proofs.decoded.ScalarLemmas.{scalar_below}
use Rattle.icu_normalizer_core.proofs.settling.TripleLemmas.{listed_of}
use Rattle.icu_normalizer_core.specs.MapNumbers.{second_code, mapping_number, mapping_numbers, pair_number, pair_numbers, triple, IsMappingNumber, IsPairNumber}

-- ---- What is found holds what all hold

pub found_all : {X : Type 0} (P : X → Type 0) (p : X → Bool) (xs : List X) (x : X) → All P xs → find p xs ≡ Some x → P x
found_all P p [] x all e = absurd cc
found_all {X} P p (y ∷ ys) x all e =
    ⊎_elim
    (λ t.
    let same : Some y ≡ Some x = sym (ap (λ (b : Bool). cond b (Some y) (find p ys)) t) ∙ e in
    let is : y ≡ x = ap (λ (o : Option X). unwrap_or o y) same in
    subst P is (All-head P y ys all))
    (λ f. found_all P p ys x (All-tail P y ys all) (sym (ap (λ (b : Bool). cond b (Some y) (find p ys)) f) ∙ e))
    (cases_Bool (p y))

pub sorted_each : (P : ℕ → Type 0) (divisor : ℕ) (numbers sorted : List ℕ) → AreFirstsInOrder divisor numbers sorted → All P numbers
    → (i : ℕ) → i < length sorted → P (slice_index sorted i)
sorted_each P divisor numbers sorted order all i h =
    found_all P (λ n. (n / divisor) == (slice_index sorted i / divisor)) numbers (slice_index sorted i) all (order.kept i h)

pub all_from : (P : ℕ → Type 0) (xs : List ℕ) → ((i : ℕ) → i < length xs → P (slice_index xs i)) → All P xs
all_from P [] each = All-nil P
all_from P (x ∷ xs) each = All-cons P x xs (each 0 (omega arith)) (all_from P xs (λ i h. each (suc i) (omega arith)))

-- ---- The parts of a number

second_bound : (o : Option ℕ) → IfSome o IsScalar → unwrap_or o 0x110000 < 2 ^ 21
second_bound (Some d) s = let b = scalar_below d s in omega arith
second_bound None s = omega arith

second_scalar : (o : Option ℕ) → IfSome o IsScalar → unwrap_or o 0x110000 ≢ 0x110000 → IsScalar (unwrap_or o 0x110000)
second_scalar (Some d) s ne = s
second_scalar None s ne = absurd (ne refl)

second_mapping : (a : ℕ) (o : Option ℕ) → IfSome o IsScalar → mapping a (unwrap_or o 0x110000) ≡ a ∷ elim o [ Some d ↦ d ∷ [] | None ↦ [] ]
second_mapping a (Some d) s = let b = scalar_below d s in cond-false (d == 0x110000) _ _ (ne_eqb d 0x110000 (λ e. omega arith))
second_mapping a None s = refl

pub record HasParts (n a b c : ℕ) : Type 0 where
  pub first : n / 2 ^ 42 ≡ a
  pub second : n / 2 ^ 21 % 2 ^ 21 ≡ b
  pub third : n % 2 ^ 21 ≡ c

pub parts_of : (a b c n : ℕ) → b < 2 ^ 21 → c < 2 ^ 21 → n ≡ a * 2 ^ 42 + b * 2 ^ 21 + c → HasParts n a b c
parts_of a b c n lb lc e = record { first = omega arith; second = omega arith; third = omega arith }

pub mapping_parts : (g : GivenMapping) → IsOfScalars g → HasParts (mapping_number g) g.character g.first (second_code g)
mapping_parts g s =
    let lf = scalar_below g.first s.first in
    parts_of g.character g.first (second_code g) (mapping_number g) (omega arith) (second_bound g.second s.second) refl

pub pair_parts : (g : GivenMapping) → IsOfScalars g → HasParts (pair_number g) g.first (second_code g) g.character
pair_parts g s =
    let lc = scalar_below g.character s.character in
    parts_of g.first (second_code g) g.character (pair_number g) (second_bound g.second s.second) (omega arith) refl

-- what a number's mapping is
pub mapping_read : (g : GivenMapping) → IsOfScalars g → mapping (mapping_number g / 2 ^ 21 % 2 ^ 21) (mapping_number g % 2 ^ 21) ≡ mapping_given g
mapping_read g s =
    let p = mapping_parts g s in
    ap (λ (a : ℕ). mapping a (mapping_number g % 2 ^ 21)) p.second ∙ ap (mapping g.first) p.third ∙ second_mapping g.first g.second s.second

is_mapping_number : (g : GivenMapping) → IsOfScalars g → IsMappingNumber (mapping_number g)
is_mapping_number g s =
    let p = mapping_parts g s in
    record {
      character = subst IsScalar (sym p.first) s.character;
      first = subst IsScalar (sym p.second) s.first;
      second = λ ne. subst IsScalar (sym p.third) (second_scalar g.second s.second (λ e. ne (p.third ∙ e)));
    }

pub all_mapping_numbers : (ms : List GivenMapping) → All IsOfScalars ms → All IsMappingNumber (flat_map mapping_numbers ms)
all_mapping_numbers [] all = All-nil IsMappingNumber
all_mapping_numbers (g ∷ gs) all =
    All-append IsMappingNumber (mapping_numbers g) (flat_map mapping_numbers gs)
    (one (is_some (built_in_step g.character)))
    (all_mapping_numbers gs (All-tail IsOfScalars g gs all))
  where
    one : (b : Bool) → All IsMappingNumber (cond b [] (mapping_number g ∷ []))
    one true = All-nil IsMappingNumber
    one false = All-cons IsMappingNumber (mapping_number g) [] (is_mapping_number g (All-head IsOfScalars g gs all)) (All-nil IsMappingNumber)

-- ---- The first number of a key, after the numbers of one mapping

front_one : (divisor key n : ℕ) (f : Bool) (rest : List ℕ)
    → first_of divisor (cond f [] (n ∷ []) ++ rest) key ≡ cond f (first_of divisor rest key) (cond ((n / divisor) == key) (Some n) (first_of divisor rest key))
front_one divisor key n true rest = refl
front_one divisor key n false rest = refl

skipped : (f b : Bool) (n : ℕ) (o : Option ℕ) → (f ≡ false → b ≡ false) → cond f o (cond b (Some n) o) ≡ o
skipped true b n o h = refl
skipped false b n o h = cond-false b _ _ (h refl)

taken : (f b : Bool) (n : ℕ) (o : Option ℕ) → f ≡ false → b ≡ true → cond f o (cond b (Some n) o) ≡ Some n
taken f b n o off on = cond-false f _ _ off ∙ cond-true b _ _ on

-- a character without a built-in mapping is found with the number of its mapping
pub numbers_first : (ms : List GivenMapping) (c : ℕ) → All IsOfScalars ms → built_in_step c ≡ None
    → first_of (2 ^ 42) (flat_map mapping_numbers ms) c ≡ option_map mapping_number (find (λ g. g.character == c) ms)
numbers_first [] c all free = refl
numbers_first (g ∷ gs) c all free =
    let later = numbers_first gs c (All-tail IsOfScalars g gs all) free in
    let p = mapping_parts g (All-head IsOfScalars g gs all) in
    let fixed : Bool = is_some (built_in_step g.character) in
    let rest : List ℕ = flat_map mapping_numbers gs in
    front_one (2 ^ 42) c (mapping_number g) fixed rest
    ∙ ⊎_elim
    (λ (same : g.character ≡ c).
    taken fixed ((mapping_number g / 2 ^ 42) == c) (mapping_number g) (first_of (2 ^ 42) rest c)
    (ap (λ (k : ℕ). is_some (built_in_step k)) same ∙ ap (λ (o : Option (List ℕ)). is_some o) free)
    (eq-eqb (mapping_number g / 2 ^ 42) c (p.first ∙ same))
    ∙ sym (ap (option_map mapping_number) (cond-true (g.character == c) (Some g) (find (λ h. h.character == c) gs) (eq-eqb g.character c same))))
    (λ (other : g.character ≢ c).
    skipped fixed ((mapping_number g / 2 ^ 42) == c) (mapping_number g) (first_of (2 ^ 42) rest c)
    (λ off. ne_eqb (mapping_number g / 2 ^ 42) c (λ e. other (sym p.first ∙ e)))
    ∙ later
    ∙ sym (ap (option_map mapping_number) (cond-false (g.character == c) (Some g) (find (λ h. h.character == c) gs) (ne_eqb g.character c other))))
    (cases_eq g.character c)

-- one with a built-in mapping is not found
pub numbers_fixed : (ms : List GivenMapping) (c : ℕ) → All IsOfScalars ms → is_some (built_in_step c) ≡ true
    → first_of (2 ^ 42) (flat_map mapping_numbers ms) c ≡ None
numbers_fixed [] c all fix = refl
numbers_fixed (g ∷ gs) c all fix =
    let p = mapping_parts g (All-head IsOfScalars g gs all) in
    front_one (2 ^ 42) c (mapping_number g) (is_some (built_in_step g.character)) (flat_map mapping_numbers gs)
    ∙ skipped (is_some (built_in_step g.character)) ((mapping_number g / 2 ^ 42) == c) (mapping_number g) (first_of (2 ^ 42) (flat_map mapping_numbers gs) c)
    (λ off. ne_eqb (mapping_number g / 2 ^ 42) c (λ e.
    let same : c ≡ g.character = sym e ∙ p.first in
    let on : true ≡ false = sym fix ∙ ap (λ (k : ℕ). is_some (built_in_step k)) same ∙ off in
    absurd cc))
    ∙ numbers_fixed gs c (All-tail IsOfScalars g gs all) fix

-- ---- Numbers as triples

abbrev mapping_at : Option ℕ → List ℕ
mapping_at o = elim o [ Some n ↦ mapping (n / 2 ^ 21 % 2 ^ 21) (n % 2 ^ 21) | None ↦ [] ]

listed_first : (ns : List ℕ) (c : ℕ) → listed_step (flat_map triple ns) c ≡ mapping_at (first_of (2 ^ 42) ns c)
unfolding listed_step
listed_first [] c = refl
listed_first (n ∷ ns) c =
    ⊎_elim
    (λ t. cond-true ((n / 2 ^ 42) == c) _ _ t ∙ sym (ap mapping_at (cond-true ((n / 2 ^ 42) == c) (Some n) (first_of (2 ^ 42) ns c) t)))
    (λ f. cond-false ((n / 2 ^ 42) == c) _ _ f ∙ listed_first ns c ∙ sym (ap mapping_at (cond-false ((n / 2 ^ 42) == c) (Some n) (first_of (2 ^ 42) ns c) f)))
    (cases_Bool ((n / 2 ^ 42) == c))

read_found : (ms : List GivenMapping) (c : ℕ) (o : Option GivenMapping) → All IsOfScalars ms → find (λ g. g.character == c) ms ≡ o
    → mapping_at (option_map mapping_number o) ≡ elim o [ Some g ↦ mapping_given g | None ↦ [] ]
read_found ms c None all e = refl
read_found ms c (Some g) all e = mapping_read g (found_all IsOfScalars (λ h. h.character == c) ms g all e)

-- the triples list the mappings that aren't built in
pub sorted_listed : (ms : List GivenMapping) (sorted : List ℕ) (c : ℕ) → All IsOfScalars ms → AreFirstsInOrder (2 ^ 42) (flat_map mapping_numbers ms) sorted
    → listed_step (flat_map triple sorted) c ≡ cond (is_some (built_in_step c)) [] (given_step ms c)
sorted_listed ms sorted c all order = listed_first sorted c ∙ ap mapping_at (order.firsts c) ∙ by (built_in_step c) refl
  where
    by : (o : Option (List ℕ)) → built_in_step c ≡ o → mapping_at (first_of (2 ^ 42) (flat_map mapping_numbers ms) c) ≡ cond (is_some o) [] (given_step ms c)
    by None e = ap mapping_at (numbers_first ms c all e) ∙ read_found ms c (find (λ g. g.character == c) ms) all refl
    by (Some ds) e = ap mapping_at (numbers_fixed ms c all (ap (λ (o : Option (List ℕ)). is_some o) e))

pub triples_length : (ns : List ℕ) → length (flat_map triple ns) ≡ 3 * length ns
triples_length [] = refl
triples_length (n ∷ ns) = let e = triples_length ns in omega arith

record IsTripleHere (steps : List ℕ) (n i : ℕ) : Type 0 where
  character : slice_index steps (3 * i) ≡ n / 2 ^ 42
  first : slice_index steps (3 * i + 1) ≡ n / 2 ^ 21 % 2 ^ 21
  second : slice_index steps (3 * i + 2) ≡ n % 2 ^ 21

triple_here : (ns : List ℕ) (i : ℕ) → i < length ns → IsTripleHere (flat_map triple ns) (slice_index ns i) i
triple_here [] i h = absurd (omega arith)
triple_here (n ∷ ns) zero h = record { character = refl; first = refl; second = refl }
triple_here (n ∷ ns) (suc i) h =
    let t = triple_here ns i (omega arith) in
    let e : 3 * suc i ≡ suc (suc (suc (3 * i))) = omega arith in
    let e1 : 3 * suc i + 1 ≡ suc (suc (suc (3 * i + 1))) = omega arith in
    let e2 : 3 * suc i + 2 ≡ suc (suc (suc (3 * i + 2))) = omega arith in
    record { character = rw e t.character; first = rw e1 t.first; second = rw e2 t.second }

pub sorted_triples : (ns : List ℕ) → Rise (2 ^ 42) ns → ((i : ℕ) → i < length ns → IsMappingNumber (slice_index ns i)) → AreTriples (flat_map triple ns)
sorted_triples ns rise each =
    let len = triples_length ns in
    record {
      whole = omega arith;
      rising = λ i h.
          let next : 3 * i + 3 ≡ 3 * suc i = omega arith in
          let here = triple_here ns i (omega arith) in
          let after = triple_here ns (suc i) (omega arith) in
          rw next (omega (arith, here.character, after.character, rise i (omega arith)));
      characters = λ i h. let within : i < length ns = omega arith in subst IsScalar (sym (triple_here ns i within).character) (each i within).character;
      firsts = λ i h. let within : i < length ns = omega arith in subst IsScalar (sym (triple_here ns i within).first) (each i within).first;
      seconds = λ i h ne.
          let within : i < length ns = omega arith in
          let at = (triple_here ns i within).second in
          subst IsScalar (sym at) ((each i within).second (λ e. ne (at ∙ e)));
    }

pub mapping_some : (a b : ℕ) → mapping a b ≢ []
mapping_some a b e = ⊎_elim
    (λ t. let off : a ∷ [] ≡ [] = sym (cond-true (b == 0x110000) (a ∷ []) (a ∷ b ∷ []) t) ∙ e in absurd cc)
    (λ f. let off : a ∷ b ∷ [] ≡ [] = sym (cond-false (b == 0x110000) (a ∷ []) (a ∷ b ∷ []) f) ∙ e in absurd cc)
    (cases_Bool (b == 0x110000))

-- no triple is of a character with a built-in mapping
pub keys_free : (ms : List GivenMapping) (steps : List ℕ) → AreTriples steps → ((c : ℕ) → listed_step steps c ≡ cond (is_some (built_in_step c)) [] (given_step ms c))
    → (index : ℕ) → index < length steps / 3 → built_in_step (key_at steps index) ≡ None
keys_free ms steps t listed index h = by (built_in_step (key_at steps index)) refl
  where
    by : (o : Option (List ℕ)) → built_in_step (key_at steps index) ≡ o → built_in_step (key_at steps index) ≡ None
    by None e = e
    by (Some ds) e =
        let inside : 3 * index + 2 < length steps = let r = t.whole in omega arith in
        let is = listed_of steps (key_at steps index) index t (inside, refl) in
        let none = listed (key_at steps index) ∙ ap (λ (o : Option (List ℕ)). cond (is_some o) [] (given_step ms (key_at steps index))) e in
        absurd (mapping_some _ _ (sym is ∙ none))

-- ---- Composed pairs

is_pair_number : (g : GivenMapping) → IsOfScalars g → is_some g.second ≡ true → IsPairNumber (pair_number g)
is_pair_number g s some =
    let p = pair_parts g s in
    record {
      first = subst IsScalar (sym p.first) s.first;
      second = subst IsScalar (sym p.second) (there g.second s.second some);
      composed = subst IsScalar (sym p.third) s.character;
    }
  where
    there : (o : Option ℕ) → IfSome o IsScalar → is_some o ≡ true → IsScalar (unwrap_or o 0x110000)
    there (Some d) s e = s
    there None s e = let off : false ≡ true = e in absurd cc

pub all_pair_numbers : (ms : List GivenMapping) → All IsOfScalars ms → All IsPairNumber (flat_map pair_numbers ms)
all_pair_numbers [] all = All-nil IsPairNumber
all_pair_numbers (g ∷ gs) all =
    All-append IsPairNumber (pair_numbers g) (flat_map pair_numbers gs)
    (one g.is_composed (is_some g.second) (not (is_some (built_in_step g.character))) refl)
    (all_pair_numbers gs (All-tail IsOfScalars g gs all))
  where
    one : (a b d : Bool) → is_some g.second ≡ b → All IsPairNumber (cond (a && (b && d)) (pair_number g ∷ []) [])
    one true true true e = All-cons IsPairNumber (pair_number g) [] (is_pair_number g (All-head IsOfScalars g gs all) e) (All-nil IsPairNumber)
    one true true false e = All-nil IsPairNumber
    one true false d e = All-nil IsPairNumber
    one false b d e = All-nil IsPairNumber

-- the number of two characters is that of a mapping which composes them
key_of_two : (a b n : ℕ) → b < 2 ^ 21 → (m k : ℕ) → k < 2 ^ 21 → n / 2 ^ 21 ≡ m * 2 ^ 21 + k → ((n / 2 ^ 21) == (a * 2 ^ 21 + b)) ≡ ((m == a) && (k == b))
key_of_two a b n lb m k lk e =
    ⊎_elim
    (λ (first : m ≡ a). ⊎_elim
    (λ (second : k ≡ b).
    eq-eqb (n / 2 ^ 21) (a * 2 ^ 21 + b) (omega arith) ∙ sym (and_from (m == a) (k == b) (eq-eqb m a first) (eq-eqb k b second)))
    (λ (other : k ≢ b).
    ne_eqb (n / 2 ^ 21) (a * 2 ^ 21 + b) (λ same. other (omega arith)) ∙ sym (and_right (m == a) (k == b) (ne_eqb k b other)))
    (cases_eq k b))
    (λ (other : m ≢ a).
    ne_eqb (n / 2 ^ 21) (a * 2 ^ 21 + b) (λ same. other (omega arith)) ∙ sym (and_left (m == a) (k == b) (ne_eqb m a other)))
    (cases_eq m a)

pair_key : (g : GivenMapping) → IsOfScalars g → pair_number g / 2 ^ 21 ≡ g.first * 2 ^ 21 + second_code g
pair_key g s = let p = pair_parts g s in omega (arith, p.first, p.second)

-- whether a pair's number is among those of a mapping, and is that of the two
composes_by : (a b first : ℕ) (o : Option ℕ) (x y : Bool)
    → (x && (is_some o && y)) && ((first == a) && (unwrap_or o 0x110000 == b)) ≡ (x && (bytes_eq (first ∷ elim o [ Some d ↦ d ∷ [] | None ↦ [] ]) (a ∷ b ∷ []) && y))
composes_by a b first (Some d) true true = by (first == a) (d == b)
  where
    by : (p q : Bool) → p && q ≡ (p && (q && true)) && true
    by true true = refl
    by true false = refl
    by false q = refl
composes_by a b first (Some d) true false = by (first == a) (d == b)
  where
    by : (p q : Bool) → false ≡ (p && (q && true)) && false
    by true true = refl
    by true false = refl
    by false q = refl
composes_by a b first None true y = by (first == a)
  where
    by : (p : Bool) → false ≡ (p && false) && y
    by true = refl
    by false = refl
composes_by a b first o false y = refl

taken_one : (divisor key n : ℕ) (f : Bool) (rest : List ℕ)
    → first_of divisor (cond f (n ∷ []) [] ++ rest) key ≡ cond (f && ((n / divisor) == key)) (Some n) (first_of divisor rest key)
taken_one divisor key n true rest = refl
taken_one divisor key n false rest = refl

pub pairs_first : (ms : List GivenMapping) (a b : ℕ) → All IsOfScalars ms → b < 2 ^ 21
    → first_of (2 ^ 21) (flat_map pair_numbers ms) (a * 2 ^ 21 + b) ≡ option_map pair_number (find (composes a b) ms)
pairs_first [] a b all lb = refl
pairs_first (g ∷ gs) a b all lb =
    let s = All-head IsOfScalars g gs all in
    let f : Bool = g.is_composed && (is_some g.second && not (is_some (built_in_step g.character))) in
    let test : (f && ((pair_number g / 2 ^ 21) == (a * 2 ^ 21 + b))) ≡ composes a b g =
    ap (λ (t : Bool). f && t) (key_of_two a b (pair_number g) lb g.first (second_code g) (second_bound g.second s.second) (pair_key g s))
    ∙ composes_by a b g.first g.second g.is_composed (not (is_some (built_in_step g.character))) in
    taken_one (2 ^ 21) (a * 2 ^ 21 + b) (pair_number g) f (flat_map pair_numbers gs)
    ∙ ap (λ (t : Bool). cond t (Some (pair_number g)) (first_of (2 ^ 21) (flat_map pair_numbers gs) (a * 2 ^ 21 + b))) test
    ∙ ap (λ (o : Option ℕ). cond (composes a b g) (Some (pair_number g)) o) (pairs_first gs a b (All-tail IsOfScalars g gs all) lb)
    ∙ mapped (composes a b g) (find (composes a b) gs)
  where
    mapped : (t : Bool) (o : Option GivenMapping) → cond t (Some (pair_number g)) (option_map pair_number o) ≡ option_map pair_number (cond t (Some g) o)
    mapped true o = refl
    mapped false o = refl

abbrev composed_at : Option ℕ → Option ℕ
composed_at o = elim o [ Some n ↦ Some (n % 2 ^ 21) | None ↦ None ]

pair_first_of : (ns : List ℕ) (a b : ℕ) → b < 2 ^ 21 → listed_pair ns a b ≡ composed_at (first_of (2 ^ 21) ns (a * 2 ^ 21 + b))
unfolding listed_pair
pair_first_of [] a b lb = refl
pair_first_of (n ∷ ns) a b lb =
    let key : n / 2 ^ 21 ≡ (n / 2 ^ 42) * 2 ^ 21 + n / 2 ^ 21 % 2 ^ 21 = omega arith in
    let test = key_of_two a b n lb (n / 2 ^ 42) (n / 2 ^ 21 % 2 ^ 21) (omega arith) key in
    ap (λ (o : Option ℕ). cond ((n / 2 ^ 42 == a) && (n / 2 ^ 21 % 2 ^ 21 == b)) (Some (n % 2 ^ 21)) o) (pair_first_of ns a b lb)
    ∙ ap (λ (t : Bool). cond t (Some (n % 2 ^ 21)) (composed_at (first_of (2 ^ 21) ns (a * 2 ^ 21 + b)))) (sym test)
    ∙ moved ((n / 2 ^ 21) == (a * 2 ^ 21 + b)) (first_of (2 ^ 21) ns (a * 2 ^ 21 + b))
  where
    moved : (t : Bool) (o : Option ℕ) → cond t (Some (n % 2 ^ 21)) (composed_at o) ≡ composed_at (cond t (Some n) o)
    moved true o = refl
    moved false o = refl

read_pair : (ms : List GivenMapping) (a b : ℕ) (o : Option GivenMapping) → All IsOfScalars ms → find (composes a b) ms ≡ o
    → composed_at (option_map pair_number o) ≡ elim o [ Some g ↦ Some g.character | None ↦ None ]
read_pair ms a b None all e = refl
read_pair ms a b (Some g) all e = ap (λ (n : ℕ). Some n) (pair_parts g (found_all IsOfScalars (composes a b) ms g all e)).third

-- the pairs list what is composed
pub sorted_listed_pair : (ms : List GivenMapping) (sorted : List ℕ) (a b : ℕ) → All IsOfScalars ms → b < 2 ^ 21
    → AreFirstsInOrder (2 ^ 21) (flat_map pair_numbers ms) sorted → listed_pair sorted a b ≡ given_pair ms a b
sorted_listed_pair ms sorted a b all lb order =
    pair_first_of sorted a b lb ∙ ap composed_at (order.firsts (a * 2 ^ 21 + b) ∙ pairs_first ms a b all lb) ∙ read_pair ms a b (find (composes a b) ms) all refl

pub sorted_pairs : (ns : List ℕ) → Rise (2 ^ 21) ns → ((i : ℕ) → i < length ns → IsPairNumber (slice_index ns i)) → ArePairs ns
sorted_pairs ns rise each = record {
  rising = rise;
  firsts = λ i h. (each i h).first;
  seconds = λ i h. (each i h).second;
  composed = λ i h. (each i h).composed;
}
