-- The difference of two characters, by how many bytes it is written in.
use Rattle.std.proofs.Common.{◌≡◌, ℕ, ◌+◌, ◌<◌, ◌≤◌, true, false, leb, ltb, [], ◌∷◌, refl, arith}
use Rattle.std.proofs.lemmas.Bool.Decides.{nat_tests}
use Rattle.icu_collator.specs.KeyBytes.{difference_bytes, difference_digit, moved_by}

pub lowest : (p c : ℕ) → c + 192786 < p → difference_bytes p c ≡ 0x03 ∷ difference_digit 64009 p c ∷ difference_digit 253 p c ∷ difference_digit 1 p c ∷ []
unfolding difference_bytes
lowest p c h =
    let a : ltb (c + 192786) p ≡ true = grind (arith, nat_tests) in
    rw a refl

pub lower : (p c : ℕ) → p ≤ c + 192786 → c + 10668 < p → difference_bytes p c ≡ moved_by 7 64009 p c ∷ difference_digit 253 p c ∷ difference_digit 1 p c ∷ []
unfolding difference_bytes
lower p c g h =
    let a : ltb (c + 192786) p ≡ false = grind (arith, nat_tests) in
    let b : ltb (c + 10668) p ≡ true = grind (arith, nat_tests) in
    rw (a, b) refl

pub low : (p c : ℕ) → p ≤ c + 10668 → c + 80 < p → difference_bytes p c ≡ moved_by 49 253 p c ∷ difference_digit 1 p c ∷ []
unfolding difference_bytes
low p c g h =
    let a : ltb (c + 192786) p ≡ false = grind (arith, nat_tests) in
    let b : ltb (c + 10668) p ≡ false = grind (arith, nat_tests) in
    let d : ltb (c + 80) p ≡ true = grind (arith, nat_tests) in
    rw (a, b, d) refl

pub near : (p c : ℕ) → p ≤ c + 80 → c ≤ p + 80 → difference_bytes p c ≡ moved_by 129 1 p c ∷ []
unfolding difference_bytes
near p c g h =
    let a : ltb (c + 192786) p ≡ false = grind (arith, nat_tests) in
    let b : ltb (c + 10668) p ≡ false = grind (arith, nat_tests) in
    let d : ltb (c + 80) p ≡ false = grind (arith, nat_tests) in
    let e : leb c (p + 80) ≡ true = grind (arith, nat_tests) in
    rw (a, b, d, e) refl

pub high : (p c : ℕ) → p + 80 < c → c ≤ p + 10667 → difference_bytes p c ≡ moved_by 210 253 p c ∷ difference_digit 1 p c ∷ []
unfolding difference_bytes
high p c g h =
    let a : ltb (c + 192786) p ≡ false = grind (arith, nat_tests) in
    let b : ltb (c + 10668) p ≡ false = grind (arith, nat_tests) in
    let d : ltb (c + 80) p ≡ false = grind (arith, nat_tests) in
    let e : leb c (p + 80) ≡ false = grind (arith, nat_tests) in
    let f : leb c (p + 10667) ≡ true = grind (arith, nat_tests) in
    rw (a, b, d, e, f) refl

pub higher : (p c : ℕ) → p + 10667 < c → c ≤ p + 192785 → difference_bytes p c ≡ moved_by 252 64009 p c ∷ difference_digit 253 p c ∷ difference_digit 1 p c ∷ []
unfolding difference_bytes
higher p c g h =
    let a : ltb (c + 192786) p ≡ false = grind (arith, nat_tests) in
    let b : ltb (c + 10668) p ≡ false = grind (arith, nat_tests) in
    let d : ltb (c + 80) p ≡ false = grind (arith, nat_tests) in
    let e : leb c (p + 80) ≡ false = grind (arith, nat_tests) in
    let f : leb c (p + 10667) ≡ false = grind (arith, nat_tests) in
    let i : leb c (p + 192785) ≡ true = grind (arith, nat_tests) in
    rw (a, b, d, e, f, i) refl

pub highest : (p c : ℕ) → p + 192785 < c → difference_bytes p c ≡ 0xff ∷ difference_digit 64009 p c ∷ difference_digit 253 p c ∷ difference_digit 1 p c ∷ []
unfolding difference_bytes
highest p c g =
    let a : ltb (c + 192786) p ≡ false = grind (arith, nat_tests) in
    let b : ltb (c + 10668) p ≡ false = grind (arith, nat_tests) in
    let d : ltb (c + 80) p ≡ false = grind (arith, nat_tests) in
    let e : leb c (p + 80) ≡ false = grind (arith, nat_tests) in
    let f : leb c (p + 10667) ≡ false = grind (arith, nat_tests) in
    let i : leb c (p + 192785) ≡ false = grind (arith, nat_tests) in
    rw (a, b, d, e, f, i) refl
