-- The elements of a number, that is, of a maximal run of digits. Their primaries order as the values do.
use Rattle.std.specs.Prelude.{ℕ, zero, suc, ◌+◌, ◌-◌, ◌*◌, ◌/◌, ◌%◌, cond, ◌==◌, ltb, List, [], ◌∷◌, ◌++◌, length, take, drop, fold}
use Rattle.icu_collator_types.specs.declared.elements.Element.{Element}
use Rattle.icu_collator_core.specs.Defaults.{primary_of, primary_element}

-- the digits from the first nonzero one on, or the last digit
unfoldable pub significant : List ℕ → List ℕ
significant [] = []
significant (d ∷ []) = d ∷ []
significant (d ∷ e ∷ ds) = let fewer = significant (e ∷ ds) in cond (d == 0) fewer (d ∷ e ∷ ds)

-- the value of digits, the highest first
abbrev pub value_of : List ℕ → ℕ
value_of digits = fold (λ value d. value * 10 + d) 0 digits

-- two digits each, the highest first, of an even number of digits
unfoldable pub pairs_of : List ℕ → List ℕ
pairs_of [] = []
pairs_of (d ∷ []) = d * 10 ∷ []
pairs_of (d ∷ e ∷ ds) = (d * 10 + e) ∷ pairs_of ds

-- pairs without those of 00 at the end
unfoldable pub without_last_zeros : List ℕ → List ℕ
without_last_zeros [] = []
without_last_zeros (p ∷ ps) =
    elim (without_last_zeros ps) [ [] ↦ cond (p == 0) [] (p ∷ []) | q ∷ qs ↦ p ∷ q ∷ qs ]

-- the bytes of pairs; the last byte is one less than it would be if more followed
unfoldable pub pair_bytes : List ℕ → List ℕ
pair_bytes [] = []
pair_bytes (p ∷ []) = (10 + 2 * p) ∷ []
pair_bytes (p ∷ q ∷ ps) = (11 + 2 * p) ∷ pair_bytes (q ∷ ps)

-- elements of bytes, three to an element, after the lead byte
unfoldable pub elements_of_bytes : ℕ → List ℕ → List Element
elements_of_bytes lead [] = []
elements_of_bytes lead (a ∷ []) = primary_element (primary_of lead a 0 0) ∷ []
elements_of_bytes lead (a ∷ b ∷ []) = primary_element (primary_of lead a b 0) ∷ []
elements_of_bytes lead (a ∷ b ∷ c ∷ bytes) =
    primary_element (primary_of lead a b c) ∷ elements_of_bytes lead bytes

-- a number of many digits: how many pairs of digits, then the pairs
unfoldable pub long_number : ℕ → List ℕ → List Element
long_number lead digits =
    let count = (length digits + 1) / 2
    in let even = cond ((length digits % 2) == 0) digits (0 ∷ digits)
    in elements_of_bytes lead ((128 + count) ∷ pair_bytes (without_last_zeros (pairs_of even)))

-- a number of at most 254 digits, of which the first isn't 0 unless it stands alone
unfoldable pub number_part : ℕ → List ℕ → List Element
number_part lead digits =
    let v = value_of digits
    in let long = long_number lead digits
    in let w = v - 74
    in let two = primary_element (primary_of lead (2 + v) 0 0) ∷ []
    in let three = primary_element (primary_of lead (76 + w / 254) (2 + w % 254) 0) ∷ []
    in let x = v - 10234
    in let four = primary_element (primary_of lead (116 + x / 64516) (2 + x / 254 % 254) (2 + x % 254)) ∷ []
    in cond (ltb 7 (length digits))
    long
    (cond (ltb v 74) two (cond (ltb w 10160) three (cond (ltb x 1032256) four long)))

-- a number in parts of 254 digits; each part loses its leading zeros
unfoldable pub number_parts : ℕ → ℕ → List ℕ → List Element
number_parts zero lead digits = []
number_parts (suc parts) lead [] = []
number_parts (suc parts) lead (d ∷ ds) =
    let digits = significant (d ∷ ds)
    in number_part lead (take 254 digits) ++ number_parts parts lead (drop 254 digits)

-- the elements of a number whose primaries have this lead byte
abbrev pub number_elements : ℕ → List ℕ → List Element
number_elements lead digits = number_parts (length digits) lead digits
