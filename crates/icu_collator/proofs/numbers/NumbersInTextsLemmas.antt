-- Texts that differ in a number alone compare as the values of the numbers do.
use Rattle.std.proofs.Common.{◌≡◌, ℕ, suc, ◌+◌, ◌<◌, true, false, not, ◌||◌, leb, List, [], ◌∷◌, ◌++◌, length, take, drop, refl, sym, ap, ◌∙◌, inl, arith, Option, Some, None, filter_map, append-nil, length-append}
use Rattle.std.specs.Prelude.{◌≢◌}
use Rattle.std.specs.List.{list_all, prefix_len, cons_option, AllByRecursion}
use Rattle.std.specs.Option.{is_some}
use Rattle.std.specs.Ordering.{nat_cmp}
use Rattle.std.specs.declared.cmp.Ordering.TheVariants.{Less, Equal, Greater}
use Rattle.std.proofs.lemmas.Bool.{and_parts, leb-true}
use Rattle.std.proofs.lemmas.Bool.Decides.{nat_tests}
use Rattle.std.proofs.lemmas.List.Elements.{All-from_recursion}
use Rattle.icu_normalizer_core.specs.Canonical.{Canonical, IsDecomposing, decomposed}
use Rattle.icu_collator_types.specs.declared.elements.Element.{Element}
use Rattle.icu_collator_types.specs.declared.options.ResolvedCollatorOptions.{ResolvedCollatorOptions}
use Rattle.icu_collator_types.specs.declared.options.Strength.TheVariants.{Identical}
use Rattle.icu_collator_types.specs.Options.{is_at_least, is_numeric}
use Rattle.icu_collator_core.specs.Boundaries.{after}
use Rattle.icu_collator_core.specs.Collation.{Collation}
use Rattle.icu_collator_core.specs.Weights.{Weights}
use Rattle.icu_collator_core.specs.Defaults.{special_primary}
use Rattle.icu_collator_core.specs.Numbers.{number_elements}
use Rattle.icu_collator_core.specs.WholeNumbers.{IsWholeNumber}
use Rattle.icu_collator_core.specs.Elements.{Placed, Reading, placed_behind, digit_count, number_reading, reading, elements_within, elements_of_list}
use Rattle.icu_collator_core.proofs.numbers.NumberOrderLemmas.{equal_numbers}
use Rattle.icu_collator.specs.Levels.{levels_of, elements_of_text, levels_of_text, primary_at}
use Rattle.icu_collator.specs.Shifted.{counted}
use Rattle.icu_collator.specs.Order.{levels_order, collation_order}
use Rattle.icu_collator_core.proofs.lookups.PlacedLemmas.{characters_placed, length_placed, placed_append}
use Rattle.icu_collator.specs.NumbersInTexts.{AreNumbersTogether, AreDigitsAlone, AreDigitsApart, AreDotsLight, IsRunOfDigits, IsNumberBetween, is_digit, begins_with_digit, ends_with_digit, digits_of, run_value, no_number_is_variable}
use Rattle.icu_collator.proofs.numbers.DecomposedDigitsLemmas.{decomposed_run}
use Rattle.icu_collator.proofs.numbers.NumberLevelLemmas.{different_numbers, light_behind, same_elements}
use Rattle.icu_collator.proofs.readings.BeforeDigitLemmas.{EndsPlain}
use Rattle.icu_collator_core.proofs.readings.CountLemmas.{any_count}
use Rattle.icu_collator.proofs.readings.SplitAtDigitLemmas.{SplitsAtDigit, split_at_digit, splits_along}
use Rattle.icu_collator.proofs.readings.AfterNumberLemmas.{AgreeToDigit, placed_alike}
use Rattle.icu_collator_core.proofs.readings.AlikeLemmas.{reading_is, count_of, taken_of, elements_alike}

drop_placed : (before xs ys : List ℕ) → drop (length xs) (placed_behind before (xs ++ ys)) ≡ placed_behind (after before xs) ys
unfolding placed_behind
drop_placed before [] ys = refl
drop_placed before (x ∷ xs) ys = drop_placed (take 3 (x ∷ before)) xs ys

-- a run of digits is read up to its end
run_length : (weights : Weights) (run ys : List ℕ) → list_all (is_digit weights) run ≡ true → begins_with_digit weights ys ≡ false
    → prefix_len (is_digit weights) (run ++ ys) ≡ length run
run_length weights [] [] h g = refl
run_length weights [] (y ∷ ys) h g = rw g refl
run_length weights (d ∷ run) ys h g =
    let both = and_parts (is_digit weights d) (list_all (is_digit weights) run) h
    in let rest = run_length weights run ys both.1 g
    in rw both.0 (omega arith)

run_taken : (run ys : List ℕ) → take (length run) (run ++ ys) ≡ run
run_taken [] ys = refl
run_taken (d ∷ run) ys = ap (λ (w : List ℕ). d ∷ w) (run_taken run ys)

-- the reading of a run of digits
record IsNumberRead (weights : Weights) (before run ys : List ℕ) (r : Reading) : Type 0 where
  elements : r.elements ≡ number_elements weights.numeric_lead (digits_of weights run)
  left : r.left ≡ placed_behind (after before run) ys

number_read : (weights : Weights) (before run ys : List ℕ) → list_all (is_digit weights) run ≡ true → begins_with_digit weights ys ≡ false
    → IsNumberRead weights before run ys (number_reading weights (placed_behind before (run ++ ys)))
unfolding number_reading
number_read weights before run ys h g =
    let ps = placed_behind before (run ++ ys)
    in let same = characters_placed before (run ++ ys)
    in let count : digit_count weights ps ≡ length run = count_of weights ps ∙ ap (prefix_len (is_digit weights)) same ∙ run_length weights run ys h g
    in record {
      elements =
          ap (λ (k : ℕ). number_elements weights.numeric_lead (filter_map (λ p. weights.digit p.character) (take k ps))) count
          ∙ ap (number_elements weights.numeric_lead)
          (taken_of weights (length run) ps ∙ ap (λ (w : List ℕ). digits_of weights (take (length run) w)) same ∙ ap (digits_of weights) (run_taken run ys));
      left = ap (λ (k : ℕ). drop k ps) count ∙ drop_placed before run ys;
    }

digit_reading : (canonical : Canonical) (weights : Weights) (p : Placed) (ps : List Placed) → special_primary p.character ≡ None → is_digit weights p.character ≡ true
    → reading canonical weights true p ps ≡ number_reading weights (p ∷ ps)
digit_reading canonical weights p ps e h = reading_is canonical weights true p ps ∙ rw (e, h) refl

number_within : (collation : Collation) (n : ℕ) (before run ys : List ℕ) (d : ℕ) → AreDigitsAlone collation
    → list_all (is_digit collation.weights) (d ∷ run) ≡ true → begins_with_digit collation.weights ys ≡ false
    → elements_within (suc n) collation.canonical collation.weights true (placed_behind before ((d ∷ run) ++ ys))
    ≡ number_elements collation.weights.numeric_lead (digits_of collation.weights (d ∷ run))
    ++ elements_within n collation.canonical collation.weights true (placed_behind (after before (d ∷ run)) ys)
unfolding elements_within placed_behind
number_within collation n before run ys d a h g =
    let weights = collation.weights
    in let both = and_parts (is_digit weights d) (list_all (is_digit weights) run) h
    in let first = digit_reading collation.canonical weights (record { character = d; before = before }) (placed_behind (take 3 (d ∷ before)) (run ++ ys)) (a.plain d both.0) both.0
    in let number = number_read weights before (d ∷ run) ys h g
    in ap (λ (r : Reading). r.elements ++ elements_within n collation.canonical weights true r.left) first
    ∙ cc (number.elements, number.left)

-- the elements of a list with a run of digits in it
unfoldable behind_number : Collation → List ℕ → List ℕ → List ℕ → List Element
behind_number collation xs run ys =
    elements_within (length ys) collation.canonical collation.weights true (placed_behind (after (after [] xs) run) ys)

list_split : (collation : Collation) (xs run ys : List ℕ) (d : ℕ) → AreDigitsAlone collation → IsDecomposing collation.canonical
    → list_all (is_digit collation.weights) (d ∷ run) ≡ true → ends_with_digit collation.weights xs ≡ false → begins_with_digit collation.weights ys ≡ false
    → SplitsAtDigit collation.weights
    (elements_of_list collation.canonical collation.weights true (xs ++ ((d ∷ run) ++ ys)))
    (elements_of_list collation.canonical collation.weights true xs)
    (number_elements collation.weights.numeric_lead (digits_of collation.weights (d ∷ run)) ++ behind_number collation xs (d ∷ run) ys)
unfolding placed_behind behind_number
list_split collation xs run ys d a c h e g =
    let canonical = collation.canonical
    in let weights = collation.weights
    in let before = after [] xs
    in let whole = xs ++ ((d ∷ run) ++ ys)
    in let front = placed_behind [] xs
    in let q : Placed = record { character = d; before = before }
    in let qs = placed_behind (take 3 (d ∷ before)) (run ++ ys)
    in let rest = placed_behind (after before (d ∷ run)) ys
    in let m = length run + length ys
    in let split : placed_behind [] whole ≡ front ++ q ∷ qs = placed_append [] xs ((d ∷ run) ++ ys)
    in let both = and_parts (is_digit weights d) (list_all (is_digit weights) run) h
    in let plain : EndsPlain weights front = ap (ends_with_digit weights) (characters_placed [] xs) ∙ e
    in let count : length (front ++ q ∷ qs) ≡ length whole = sym (ap length split) ∙ length_placed [] whole
    in let front_count : length front ≡ length xs = length_placed [] xs
    in let rest_count : length rest ≡ length ys = length_placed (after before (d ∷ run)) ys
    in let behind_count : length qs ≡ m = length_placed (take 3 (d ∷ before)) (run ++ ys) ∙ length-append run ys
    in let parts = length-append front (q ∷ qs)
    in let first : elements_within (length whole) canonical weights true front ≡ elements_within (length xs) canonical weights true front =
    any_count canonical weights true (length whole) (length xs) front (omega arith) (omega arith)
    in let second : elements_within (length whole) canonical weights true (q ∷ qs) ≡ elements_within (suc m) canonical weights true (q ∷ qs) =
    any_count canonical weights true (length whole) (suc m) (q ∷ qs) (omega arith) (omega arith)
    in let third : elements_within m canonical weights true rest ≡ elements_within (length ys) canonical weights true rest =
    any_count canonical weights true m (length ys) rest (omega arith) (omega arith)
    in let number = number_within collation m before run ys d a h g
    in let rest_is : elements_within (length whole) canonical weights true (q ∷ qs) ≡ number_elements weights.numeric_lead (digits_of weights (d ∷ run)) ++ behind_number collation xs (d ∷ run) ys =
    cc (second, third, number)
    in splits_along weights _ _ _ _ _ _ (sym (ap (elements_within (length whole) canonical weights true) split)) first rest_is
    (split_at_digit collation true (length whole) front q qs a c both.0 plain (omega arith))

-- after two runs of digits the same elements stand
begins_agree : (weights : Weights) (xs ys : List ℕ) → begins_with_digit weights xs ≡ true → begins_with_digit weights ys ≡ true → AgreeToDigit weights xs ys
begins_agree weights [] ys h g = cc
begins_agree weights (x ∷ xs) [] h g = cc
begins_agree weights (x ∷ xs) (y ∷ ys) h g = inl (h, g)

after_begins : (weights : Weights) (before run : List ℕ) (d : ℕ) → list_all (is_digit weights) (d ∷ run) ≡ true
    → begins_with_digit weights (after before (d ∷ run)) ≡ true
after_begins weights before [] d h = (and_parts (is_digit weights d) true h).0
after_begins weights before (c ∷ run) d h =
    after_begins weights (take 3 (d ∷ before)) run c (and_parts (is_digit weights d) (list_all (is_digit weights) (c ∷ run)) h).1

behind_same : (collation : Collation) (xs run other ys : List ℕ) (d c : ℕ) → AreDigitsAlone collation
    → list_all (is_digit collation.weights) (d ∷ run) ≡ true → list_all (is_digit collation.weights) (c ∷ other) ≡ true
    → behind_number collation xs (d ∷ run) ys ≡ behind_number collation xs (c ∷ other) ys
unfolding behind_number
behind_same collation xs run other ys d c a h g =
    let before = after [] xs
    in elements_alike collation.canonical collation.weights true (length ys) _ _
    (placed_alike collation (after before (d ∷ run)) (after before (c ∷ other)) ys a
    (begins_agree collation.weights (after before (d ∷ run)) (after before (c ∷ other)) (after_begins collation.weights before run d h) (after_begins collation.weights before other c g)))

-- a run of digits is a whole number
option_below : (o : Option ℕ) (ds : List ℕ) → ((d : ℕ) → o ≡ Some d → leb d 9 ≡ true) → AllByRecursion (λ d. d < 10) ds
    → AllByRecursion (λ d. d < 10) (cons_option o ds)
option_below None ds h g = g
option_below (Some d) ds h g = let low = leb-true d 9 (h d refl) in (omega arith, g)

digits_below : (collation : Collation) (run : List ℕ) → AreDigitsAlone collation → AllByRecursion (λ d. d < 10) (digits_of collation.weights run)
digits_below collation [] a = tt
digits_below collation (c ∷ run) a = option_below (collation.weights.digit c) (digits_of collation.weights run) (a.values c) (digits_below collation run a)

option_filled : (o : Option ℕ) (ds : List ℕ) → is_some o ≡ true → 0 < length (cons_option o ds)
option_filled None ds h = cc
option_filled (Some d) ds h = omega arith

whole_number : (collation : Collation) (run : List ℕ) → AreDigitsAlone collation → IsRunOfDigits collation.weights run → IsWholeNumber (digits_of collation.weights run)
whole_number collation [] a h = let filled = h.filled in absurd (omega arith)
whole_number collation (d ∷ run) a h =
    record {
      below_ten = All-from_recursion (λ d. d < 10) (digits_of collation.weights (d ∷ run)) (digits_below collation (d ∷ run) a);
      filled =
          option_filled (collation.weights.digit d) (digits_of collation.weights run)
          (and_parts (is_digit collation.weights d) (list_all (is_digit collation.weights) run) h.digits).0;
      short = h.short;
    }

-- the elements of a text with a run of digits in it
text_split : (collation : Collation) (options : ResolvedCollatorOptions) (x run y : List ℕ) (d : ℕ) → AreDigitsAlone collation → IsDecomposing collation.canonical
    → is_numeric options.numeric ≡ true → list_all (is_digit collation.weights) (d ∷ run) ≡ true
    → ends_with_digit collation.weights (decomposed collation.canonical x) ≡ false → begins_with_digit collation.weights (decomposed collation.canonical y) ≡ false
    → SplitsAtDigit collation.weights
    (elements_of_text collation options (x ++ ((d ∷ run) ++ y)))
    (elements_of_list collation.canonical collation.weights true (decomposed collation.canonical x))
    (number_elements collation.weights.numeric_lead (digits_of collation.weights (d ∷ run))
    ++ behind_number collation (decomposed collation.canonical x) (d ∷ run) (decomposed collation.canonical y))
text_split collation options x run y d a c n h e g =
    let canonical = collation.canonical
    in let whole : elements_of_list canonical collation.weights true (decomposed canonical x ++ ((d ∷ run) ++ decomposed canonical y)) ≡ elements_of_text collation options (x ++ ((d ∷ run) ++ y)) =
    rw (n, decomposed_run collation x y d run a h) refl
    in splits_along collation.weights _ _ _ _ _ _ whole refl refl (list_split collation (decomposed canonical x) run (decomposed canonical y) d a c h e g)

-- numbers of different values decide
different_runs : (collation : Collation) (options : ResolvedCollatorOptions) (x r s y : List ℕ)
    → IsDecomposing collation.canonical → AreDigitsAlone collation → AreDotsLight collation.weights → AreNumbersTogether collation
    → is_numeric options.numeric ≡ true → no_number_is_variable collation options ≡ true
    → IsNumberBetween collation x r y → IsNumberBetween collation x s y
    → run_value collation.weights r ≢ run_value collation.weights s
    → collation_order collation options (x ++ (r ++ y)) (x ++ (s ++ y)) ≡ nat_cmp (run_value collation.weights r) (run_value collation.weights s)
different_runs collation options x [] s y c a dots t n v hr hs ne = let filled = hr.number.filled in absurd (omega arith)
different_runs collation options x (d ∷ r) [] y c a dots t n v hr hs ne = let filled = hs.number.filled in absurd (omega arith)
different_runs collation options x (d ∷ r) (b ∷ s) y c a dots t n v hr hs ne =
    let first = text_split collation options x r y d a c n hr.number.digits hr.before hr.behind
    in let second = text_split collation options x s y b a c n hs.number.digits hs.before hs.behind
    in let primaries : List Element → List ℕ = λ es. filter_map (primary_at collation) (counted collation options es)
    in let same : primaries first.kept ≡ primaries second.kept =
    sym (light_behind collation options first.kept first.dots (first.light dots))
    ∙ ap primaries (sym first.front_is ∙ second.front_is)
    ∙ light_behind collation options second.kept second.dots (second.light dots)
    in rw (first.whole_is, second.whole_is)
    (different_numbers collation options first.kept second.kept _ _ (digits_of collation.weights (d ∷ r)) (digits_of collation.weights (b ∷ s)) _ _ a.lead v t same
    (whole_number collation (d ∷ r) a hr.number) (whole_number collation (b ∷ s) a hs.number) ne)

-- a number of a lower value comes first, and one of a higher value comes after
pub lower_first : (collation : Collation) (options : ResolvedCollatorOptions) (x r s y : List ℕ)
    → IsDecomposing collation.canonical → AreDigitsAlone collation → AreDotsLight collation.weights → AreNumbersTogether collation
    → is_numeric options.numeric ≡ true → no_number_is_variable collation options ≡ true
    → IsNumberBetween collation x r y → IsNumberBetween collation x s y
    → run_value collation.weights r < run_value collation.weights s
    → collation_order collation options (x ++ (r ++ y)) (x ++ (s ++ y)) ≡ Less
lower_first collation options x r s y c a dots t n v hr hs below =
    let less : nat_cmp (run_value collation.weights r) (run_value collation.weights s) ≡ Less = grind (arith, nat_tests)
    in different_runs collation options x r s y c a dots t n v hr hs (λ e. omega arith) ∙ less

pub higher_behind : (collation : Collation) (options : ResolvedCollatorOptions) (x r s y : List ℕ)
    → IsDecomposing collation.canonical → AreDigitsAlone collation → AreDotsLight collation.weights → AreNumbersTogether collation
    → is_numeric options.numeric ≡ true → no_number_is_variable collation options ≡ true
    → IsNumberBetween collation x r y → IsNumberBetween collation x s y
    → run_value collation.weights s < run_value collation.weights r
    → collation_order collation options (x ++ (r ++ y)) (x ++ (s ++ y)) ≡ Greater
higher_behind collation options x r s y c a dots t n v hr hs below =
    let greater : nat_cmp (run_value collation.weights r) (run_value collation.weights s) ≡ Greater = grind (arith, nat_tests)
    in different_runs collation options x r s y c a dots t n v hr hs (λ e. omega arith) ∙ greater

-- where no dot is dropped, what stands before a number is read as it is alone
kept_is : (weights : Weights) (whole front rest : List Element) → SplitsAtDigit weights whole front rest
    → (not weights.dot_above || not (is_digit weights 0x303)) ≡ true → whole ≡ front ++ rest
kept_is weights whole front rest split undropped =
    let front_is : front ≡ split.kept = split.front_is ∙ ap (λ (w : List Element). split.kept ++ w) (split.none undropped) ∙ append-nil split.kept
    in split.whole_is ∙ ap (λ (w : List Element). w ++ rest) (sym front_is)

-- numbers of one value are the same below Identical
pub equal_runs : (collation : Collation) (options : ResolvedCollatorOptions) (x r s y : List ℕ)
    → IsDecomposing collation.canonical → AreDigitsApart collation
    → is_numeric options.numeric ≡ true → is_at_least options.strength Identical ≡ false
    → IsNumberBetween collation x r y → IsNumberBetween collation x s y
    → run_value collation.weights r ≡ run_value collation.weights s
    → collation_order collation options (x ++ (r ++ y)) (x ++ (s ++ y)) ≡ Equal
equal_runs collation options x [] s y c apart n v hr hs same = let filled = hr.number.filled in absurd (omega arith)
equal_runs collation options x (d ∷ r) [] y c apart n v hr hs same = let filled = hs.number.filled in absurd (omega arith)
equal_runs collation options x (d ∷ r) (b ∷ s) y c apart n v hr hs same =
    let weights = collation.weights
    in let a = apart.digits
    in let first = kept_is weights _ _ _ (text_split collation options x r y d a c n hr.number.digits hr.before hr.behind) apart.accents
    in let second = kept_is weights _ _ _ (text_split collation options x s y b a c n hs.number.digits hs.before hs.behind) apart.accents
    in let number =
    equal_numbers weights.numeric_lead (digits_of weights (d ∷ r)) (digits_of weights (b ∷ s))
    (whole_number collation (d ∷ r) a hr.number) (whole_number collation (b ∷ s) a hs.number) same
    in let behind = behind_same collation (decomposed collation.canonical x) r s (decomposed collation.canonical y) d b a hr.number.digits hs.number.digits
    in let one : elements_of_text collation options (x ++ ((d ∷ r) ++ y)) ≡ elements_of_text collation options (x ++ ((b ∷ s) ++ y)) = cc
    in ap (λ (es : List Element). levels_order options (levels_of collation options es (decomposed collation.canonical (x ++ ((d ∷ r) ++ y)))) (levels_of_text collation options (x ++ ((b ∷ s) ++ y)))) one
    ∙ same_elements collation options (elements_of_text collation options (x ++ ((b ∷ s) ++ y))) _ _ v
