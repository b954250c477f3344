-- A number in parts: what is left of it after a part, and that its digits stay digits.
use Rattle.std.proofs.Common.{◌≡◌, ℕ, zero, suc, ◌<◌, ◌≤◌, min, true, ◌≢◌, cond, ◌==◌, leb, List, [], ◌∷◌, ◌++◌, length, take, drop, get_or, refl, sym, ap, ◌∙◌, arith, append-nil, append_assoc, length-drop}
use Rattle.std.proofs.lemmas.Bool.{cond_both, and_parts, eqb-true}
use Rattle.std.proofs.lemmas.List.{drop_min, length-take-le, take_min}
use Rattle.std.proofs.lemmas.Bool.Decides.{nat_tests}
use Rattle.std.specs.List.{list_all}
use Rattle.icu_collator_types.specs.declared.elements.Element.{Element}
use Rattle.icu_collator_core.specs.NumberBytes.{AreDigitValues}
use Rattle.icu_collator_core.specs.Numbers.{value_of, significant, number_part, number_parts, number_elements}
use Rattle.icu_collator_core.proofs.numbers.DigitLemmas.{AreBelow, AreDigits, significant_digits}

-- ---- Digits

pub digits_from_values : (ds : List ℕ) → AreDigitValues ds → AreDigits ds
digits_from_values [] h = tt
digits_from_values (d ∷ ds) h =
    let both = and_parts (leb d 9) (list_all (λ e. leb e 9) ds) h
    in let here = both.0
    in (grind (arith, nat_tests), digits_from_values ds both.1)

pub values_from_digits : (ds : List ℕ) → AreDigits ds → AreDigitValues ds
values_from_digits [] h = refl
values_from_digits (d ∷ ds) h =
    let low = h.0
    in let here : leb d 9 ≡ true = grind (arith, nat_tests)
    in let behind = values_from_digits ds h.1
    in cc

take_below : (limit n : ℕ) (xs : List ℕ) → AreBelow limit xs → AreBelow limit (take n xs)
take_below limit zero xs h = tt
take_below limit (suc n) [] h = tt
take_below limit (suc n) (x ∷ xs) h = (h.0, take_below limit n xs h.1)

drop_below : (limit n : ℕ) (xs : List ℕ) → AreBelow limit xs → AreBelow limit (drop n xs)
drop_below limit zero xs h = h
drop_below limit (suc n) [] h = tt
drop_below limit (suc n) (x ∷ xs) h = drop_below limit n xs h.1

-- the digits of a part, and those after it
pub part_values : (n : ℕ) (ds : List ℕ) → AreDigitValues ds → AreDigitValues (take n (significant ds))
part_values n ds h =
    values_from_digits (take n (significant ds)) (take_below 10 n (significant ds) (significant_digits ds (digits_from_values ds h)))

pub rest_values : (n : ℕ) (ds : List ℕ) → AreDigitValues ds → AreDigitValues (drop n (significant ds))
rest_values n ds h =
    values_from_digits (drop n (significant ds)) (drop_below 10 n (significant ds) (significant_digits ds (digits_from_values ds h)))

pub digit_below : (ds : List ℕ) (i : ℕ) → AreDigits ds → get_or ds i 0 < 10
digit_below [] i h = omega arith
digit_below (d ∷ ds) zero h = h.0
digit_below (d ∷ ds) (suc i) h = digit_below ds i h.1

-- six digits have a value below a million
six_below : (ds : List ℕ) → AreDigits ds → length ds ≤ 6 → value_of ds < 1000000
six_below [] h l = omega arith
six_below (a ∷ []) (ha, h) l = omega arith
six_below (a ∷ b ∷ []) (ha, (hb, h)) l = omega arith
six_below (a ∷ b ∷ c ∷ []) (ha, (hb, (hc, h))) l = omega arith
six_below (a ∷ b ∷ c ∷ d ∷ []) (ha, (hb, (hc, (hd, h)))) l = omega arith
six_below (a ∷ b ∷ c ∷ d ∷ e ∷ []) (ha, (hb, (hc, (hd, (he, h))))) l = omega arith
six_below (a ∷ b ∷ c ∷ d ∷ e ∷ f ∷ []) (ha, (hb, (hc, (hd, (he, (hf, h)))))) l = omega arith
six_below (a ∷ b ∷ c ∷ d ∷ e ∷ f ∷ g ∷ ds) h l = absurd (omega arith)

-- so the value of at most seven digits fits 32 bits, however far it is read
pub value_fits : (ds : List ℕ) (i : ℕ) → AreDigitValues ds → i < length ds → length ds ≤ 7 → value_of (take i ds) < 1000000
value_fits ds i h inside few =
    let count = length-take-le i ds (omega (arith, inside))
    in six_below (take i ds) (take_below 10 i ds (digits_from_values ds h)) (omega (arith, count, inside, few))

-- ---- Leading zeros

pub zero_gone : (ds : List ℕ) → 1 < length ds → get_or ds 0 0 ≡ 0 → significant (drop 1 ds) ≡ significant ds
unfolding significant
zero_gone [] l z = absurd (omega arith)
zero_gone (d ∷ []) l z = absurd (omega arith)
zero_gone (d ∷ e ∷ ds) l z = sym (ap (λ (x : ℕ). cond (x == 0) (significant (e ∷ ds)) (x ∷ e ∷ ds)) z)

pub one_is_significant : (ds : List ℕ) → length ds ≤ 1 → significant ds ≡ ds
unfolding significant
one_is_significant [] l = refl
one_is_significant (d ∷ []) l = refl
one_is_significant (d ∷ e ∷ ds) l = absurd (omega arith)

pub none_is_gone : (ds : List ℕ) → get_or ds 0 0 ≢ 0 → significant ds ≡ ds
unfolding significant
none_is_gone [] some = refl
none_is_gone (d ∷ []) some = refl
none_is_gone (d ∷ e ∷ ds) some =
    cond_both (d == 0) (significant (e ∷ ds)) (d ∷ e ∷ ds) (λ (w : List ℕ). w ≡ d ∷ e ∷ ds) (λ z. absurd (some (eqb-true d 0 z))) (λ _. refl)

-- ---- Parts

pub significant_length : (ds : List ℕ) → length (significant ds) ≤ length ds
unfolding significant
significant_length [] = omega arith
significant_length (d ∷ []) = omega arith
significant_length (d ∷ e ∷ ds) =
    cond_both (d == 0) (significant (e ∷ ds)) (d ∷ e ∷ ds) (λ (w : List ℕ). length w ≤ length (d ∷ e ∷ ds))
    (λ _. let fewer = significant_length (e ∷ ds) in omega arith)
    (λ _. omega arith)

pub significant_filled : (ds : List ℕ) → 0 < length ds → 0 < length (significant ds)
unfolding significant
significant_filled [] l = l
significant_filled (d ∷ []) l = omega arith
significant_filled (d ∷ e ∷ ds) l =
    cond_both (d == 0) (significant (e ∷ ds)) (d ∷ e ∷ ds) (λ (w : List ℕ). 0 < length w)
    (λ _. significant_filled (e ∷ ds) (omega arith))
    (λ _. omega arith)

pub parts_of_none : (parts lead : ℕ) → number_parts parts lead [] ≡ []
unfolding number_parts
parts_of_none zero lead = refl
parts_of_none (suc parts) lead = refl

-- it doesn't count how many parts there may be, where there may be enough
parts_alike : (m n lead : ℕ) (ds : List ℕ) → length ds ≤ m → length ds ≤ n → number_parts m lead ds ≡ number_parts n lead ds
unfolding number_parts
parts_alike m n lead [] l k = parts_of_none m lead ∙ sym (parts_of_none n lead)
parts_alike zero n lead (d ∷ ds) l k = absurd (omega arith)
parts_alike (suc m) zero lead (d ∷ ds) l k = absurd (omega arith)
parts_alike (suc m) (suc n) lead (d ∷ ds) l k =
    let fewer = significant_length (d ∷ ds)
    in let count = length-drop 254 (significant (d ∷ ds))
    in ap (λ es. number_part lead (take 254 (significant (d ∷ ds))) ++ es)
    (parts_alike m n lead (drop 254 (significant (d ∷ ds))) (omega arith) (omega arith))

parts_first : (lead : ℕ) (ds : List ℕ) → 0 < length ds
    → number_elements lead ds ≡ number_part lead (take 254 (significant ds)) ++ number_elements lead (drop 254 (significant ds))
unfolding number_parts
parts_first lead [] l = absurd (omega arith)
parts_first lead (d ∷ ds) l =
    let fewer = significant_length (d ∷ ds)
    in let count = length-drop 254 (significant (d ∷ ds))
    in ap (λ es. number_part lead (take 254 (significant (d ∷ ds))) ++ es)
    (parts_alike (length ds) (length (drop 254 (significant (d ∷ ds)))) lead (drop 254 (significant (d ∷ ds))) (omega arith) (omega arith))

-- a part was appended
pub part_appended : (lead : ℕ) (whole before after : List Element) (ds : List ℕ) → 0 < length ds
    → before ++ number_elements lead ds ≡ whole → after ≡ before ++ number_part lead (take 254 (significant ds))
    → after ++ number_elements lead (drop 254 (significant ds)) ≡ whole
part_appended lead whole before after ds some so_far added =
    ap (λ es. es ++ number_elements lead (drop 254 (significant ds))) added
    ∙ append_assoc before (number_part lead (take 254 (significant ds))) (number_elements lead (drop 254 (significant ds)))
    ∙ ap (λ es. before ++ es) (sym (parts_first lead ds some))
    ∙ so_far

-- the digits of a part, and what is left, where they are cut at the least of two lengths
pub part_is : (ds counted part : List ℕ) (count : ℕ) → counted ≡ significant ds → count ≡ min (length counted) 254
    → part ≡ take count counted → part ≡ take 254 (significant ds)
part_is ds counted part count same least is =
    let turned : min (length counted) 254 ≡ min 254 (length counted) = omega arith
    in is ∙ ap (λ n. take n counted) (least ∙ turned) ∙ take_min 254 counted ∙ ap (take 254) same

pub rest_is : (ds counted rest : List ℕ) (count : ℕ) → counted ≡ significant ds → count ≡ min (length counted) 254
    → rest ≡ drop count counted → rest ≡ drop 254 (significant ds)
rest_is ds counted rest count same least is =
    let turned : min (length counted) 254 ≡ min 254 (length counted) = omega arith
    in is ∙ ap (λ n. drop n counted) (least ∙ turned) ∙ drop_min 254 counted ∙ ap (drop 254) same

-- fewer digits are left
pub rest_shorter : (ds : List ℕ) → 0 < length ds → length (drop 254 (significant ds)) < length ds
rest_shorter ds some =
    let fewer = significant_length ds
    in let count = length-drop 254 (significant ds)
    in omega (arith, fewer, count, some)

-- the elements of all parts were appended
pub parts_ended : (lead : ℕ) (whole before : List Element) (ds : List ℕ) → length ds ≤ 0 → before ++ number_elements lead ds ≡ whole → before ≡ whole
unfolding number_parts
parts_ended lead whole before [] none so_far = sym (append-nil before) ∙ so_far
parts_ended lead whole before (d ∷ ds) none so_far = absurd (omega (arith, none))
