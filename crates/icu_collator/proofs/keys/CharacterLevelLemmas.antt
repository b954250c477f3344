-- The identical level of a key orders as the characters do.
use Rattle.std.proofs.Common.{◌≡◌, ℕ, ◌<◌, ◌≤◌, ◌+◌, List, [], ◌∷◌, ◌++◌, refl, arith, inl, inr, ⊎_elim, Bool, true, false, cond, ltb, leb, ◌==◌}
use Rattle.std.proofs.lemmas.Bool.{cases_lt}
use Rattle.std.proofs.lemmas.Bool.Decides.{nat_tests}
use Rattle.icu_collator.specs.Order.{list_order, character_rank}
use Rattle.icu_collator.specs.KeyBytes.{character_level, character_code, last_character, expected_near, difference_bytes, difference_digit, moved_by}
use Rattle.icu_collator.proofs.keys.CodesLemmas.{DiffersBelow, BeginsAbove, BeginsUpTo, AllFrom, IsOrderCode, codes_order}
use Rattle.std.specs.List.{AllByRecursion}
use Rattle.std.specs.Cmp.Lexicographic.{slice_cmp}
use Rattle.std.specs.Ordering.{nat_cmp, ordering_then}

two_below : (a b c d : ℕ) (xs ys : List ℕ) → a ≤ c → (a ≡ c → b < d) → DiffersBelow (a ∷ b ∷ xs) (c ∷ d ∷ ys)
two_below a b c d xs ys low same = ⊎_elim (λ h. inl h) (λ h. let e : a ≡ c = omega (arith, low, h) in inr (e, inl (same e))) (cases_lt a c)

three_below :
    (a b x c d y : ℕ) (xs ys : List ℕ) → a ≤ c → (a ≡ c → b ≤ d) → (a ≡ c → b ≡ d → x < y) → DiffersBelow (a ∷ b ∷ x ∷ xs) (c ∷ d ∷ y ∷ ys)
three_below a b x c d y xs ys low second third = ⊎_elim (λ h. inl h) (λ h. let e : a ≡ c = omega (arith, low, h) in inr (e, two_below b x d y xs ys (second e) (third e))) (cases_lt a c)

four_below :
    (a b x z c d y w : ℕ) (xs ys : List ℕ) → a ≡ c → b ≤ d → (b ≡ d → x ≤ y) → (b ≡ d → x ≡ y → z < w)
    → DiffersBelow (a ∷ b ∷ x ∷ z ∷ xs) (c ∷ d ∷ y ∷ w ∷ ys)
four_below a b x z c d y w xs ys same second third fourth = inr (same, three_below b x z d y w xs ys second third fourth)

-- the seven ways to write a difference, each with the differences that it is for
data Written (p c : ℕ) : List ℕ → Type 0 where
  lowest : c + 192786 < p → Written p c (0x03 ∷ difference_digit 64009 p c ∷ difference_digit 253 p c ∷ difference_digit 1 p c ∷ [])
  lower : p ≤ c + 192786 → c + 10668 < p → Written p c (moved_by 7 64009 p c ∷ difference_digit 253 p c ∷ difference_digit 1 p c ∷ [])
  low : p ≤ c + 10668 → c + 80 < p → Written p c (moved_by 49 253 p c ∷ difference_digit 1 p c ∷ [])
  near : p ≤ c + 80 → c ≤ p + 80 → Written p c (moved_by 129 1 p c ∷ [])
  high : p + 80 < c → c ≤ p + 10667 → Written p c (moved_by 210 253 p c ∷ difference_digit 1 p c ∷ [])
  higher : p + 10667 < c → c ≤ p + 192785 → Written p c (moved_by 252 64009 p c ∷ difference_digit 253 p c ∷ difference_digit 1 p c ∷ [])
  highest : p + 192785 < c → Written p c (0xff ∷ difference_digit 64009 p c ∷ difference_digit 253 p c ∷ difference_digit 1 p c ∷ [])

by_cases : {A : Type 0} (P : A → Type 0) (b : Bool) (x y : A) → (b ≡ true → P x) → (b ≡ false → P y) → P (cond b x y)
by_cases P true x y t f = t refl
by_cases P false x y t f = f refl

written : (p c : ℕ) → Written p c (difference_bytes p c)
unfolding difference_bytes
written p c =
    by_cases (Written p c) (ltb (c + 192786) p) _ _ (λ h. lowest (grind (arith, nat_tests)))
    (λ h0. by_cases (Written p c) (ltb (c + 10668) p) _ _ (λ h. lower (grind (arith, nat_tests)) (grind (arith, nat_tests)))
    (λ h1. by_cases (Written p c) (ltb (c + 80) p) _ _ (λ h. low (grind (arith, nat_tests)) (grind (arith, nat_tests)))
    (λ h2. by_cases (Written p c) (leb c (p + 80)) _ _ (λ h. near (grind (arith, nat_tests)) (grind (arith, nat_tests)))
    (λ h3. by_cases (Written p c) (leb c (p + 10667)) _ _ (λ h. high (grind (arith, nat_tests)) (grind (arith, nat_tests)))
    (λ h4. by_cases (Written p c) (leb c (p + 192785)) _ _ (λ h. higher (grind (arith, nat_tests)) (grind (arith, nat_tests)))
    (λ h5. highest (grind (arith, nat_tests))))))))

-- a greater character after the same one is written above
written_below : (p c d : ℕ) {xs ys : List ℕ} → p < 1114200 → d < 1114112 → c < d → Written p c xs → Written p d ys → DiffersBelow xs ys
written_below p c d hp hd h (lowest i0) (lowest j0) = four_below _ _ _ _ _ _ _ _ [] [] refl (omega (arith, hp, hd, h, i0, j0)) (λ s. omega (arith, hp, hd, h, i0, j0, s)) (λ s t. omega (arith, hp, hd, h, i0, j0, s, t))
written_below p c d hp hd h (lowest i0) (lower j0 j1) = two_below _ _ _ _ (difference_digit 253 p c ∷ difference_digit 1 p c ∷ []) (difference_digit 1 p d ∷ []) (omega (arith, hp, hd, h, i0, j0, j1)) (λ s. omega (arith, hp, hd, h, i0, j0, j1, s))
written_below p c d hp hd h (lowest i0) (low j0 j1) = two_below _ _ _ _ (difference_digit 253 p c ∷ difference_digit 1 p c ∷ []) [] (omega (arith, hp, hd, h, i0, j0, j1)) (λ s. omega (arith, hp, hd, h, i0, j0, j1, s))
written_below p c d hp hd h (lowest i0) (near j0 j1) = inl (omega (arith, hp, hd, h, i0, j0, j1))
written_below p c d hp hd h (lowest i0) (high j0 j1) = two_below _ _ _ _ (difference_digit 253 p c ∷ difference_digit 1 p c ∷ []) [] (omega (arith, hp, hd, h, i0, j0, j1)) (λ s. omega (arith, hp, hd, h, i0, j0, j1, s))
written_below p c d hp hd h (lowest i0) (higher j0 j1) = two_below _ _ _ _ (difference_digit 253 p c ∷ difference_digit 1 p c ∷ []) (difference_digit 1 p d ∷ []) (omega (arith, hp, hd, h, i0, j0, j1)) (λ s. omega (arith, hp, hd, h, i0, j0, j1, s))
written_below p c d hp hd h (lowest i0) (highest j0) = two_below _ _ _ _ (difference_digit 253 p c ∷ difference_digit 1 p c ∷ []) (difference_digit 253 p d ∷ difference_digit 1 p d ∷ []) (omega (arith, hp, hd, h, i0, j0)) (λ s. omega (arith, hp, hd, h, i0, j0, s))
written_below p c d hp hd h (lower i0 i1) (lowest j0) = let never : ⊥ = omega (arith, hp, hd, h, i0, i1, j0) in absurd never
written_below p c d hp hd h (lower i0 i1) (lower j0 j1) = three_below _ _ _ _ _ _ [] [] (omega (arith, hp, hd, h, i0, i1, j0, j1)) (λ s. omega (arith, hp, hd, h, i0, i1, j0, j1, s)) (λ s t. omega (arith, hp, hd, h, i0, i1, j0, j1, s, t))
written_below p c d hp hd h (lower i0 i1) (low j0 j1) = two_below _ _ _ _ (difference_digit 1 p c ∷ []) [] (omega (arith, hp, hd, h, i0, i1, j0, j1)) (λ s. omega (arith, hp, hd, h, i0, i1, j0, j1, s))
written_below p c d hp hd h (lower i0 i1) (near j0 j1) = inl (omega (arith, hp, hd, h, i0, i1, j0, j1))
written_below p c d hp hd h (lower i0 i1) (high j0 j1) = two_below _ _ _ _ (difference_digit 1 p c ∷ []) [] (omega (arith, hp, hd, h, i0, i1, j0, j1)) (λ s. omega (arith, hp, hd, h, i0, i1, j0, j1, s))
written_below p c d hp hd h (lower i0 i1) (higher j0 j1) = two_below _ _ _ _ (difference_digit 1 p c ∷ []) (difference_digit 1 p d ∷ []) (omega (arith, hp, hd, h, i0, i1, j0, j1)) (λ s. omega (arith, hp, hd, h, i0, i1, j0, j1, s))
written_below p c d hp hd h (lower i0 i1) (highest j0) = two_below _ _ _ _ (difference_digit 1 p c ∷ []) (difference_digit 253 p d ∷ difference_digit 1 p d ∷ []) (omega (arith, hp, hd, h, i0, i1, j0)) (λ s. omega (arith, hp, hd, h, i0, i1, j0, s))
written_below p c d hp hd h (low i0 i1) (lowest j0) = let never : ⊥ = omega (arith, hp, hd, h, i0, i1, j0) in absurd never
written_below p c d hp hd h (low i0 i1) (lower j0 j1) = let never : ⊥ = omega (arith, hp, hd, h, i0, i1, j0, j1) in absurd never
written_below p c d hp hd h (low i0 i1) (low j0 j1) = two_below _ _ _ _ [] [] (omega (arith, hp, hd, h, i0, i1, j0, j1)) (λ s. omega (arith, hp, hd, h, i0, i1, j0, j1, s))
written_below p c d hp hd h (low i0 i1) (near j0 j1) = inl (omega (arith, hp, hd, h, i0, i1, j0, j1))
written_below p c d hp hd h (low i0 i1) (high j0 j1) = two_below _ _ _ _ [] [] (omega (arith, hp, hd, h, i0, i1, j0, j1)) (λ s. omega (arith, hp, hd, h, i0, i1, j0, j1, s))
written_below p c d hp hd h (low i0 i1) (higher j0 j1) = two_below _ _ _ _ [] (difference_digit 1 p d ∷ []) (omega (arith, hp, hd, h, i0, i1, j0, j1)) (λ s. omega (arith, hp, hd, h, i0, i1, j0, j1, s))
written_below p c d hp hd h (low i0 i1) (highest j0) = two_below _ _ _ _ [] (difference_digit 253 p d ∷ difference_digit 1 p d ∷ []) (omega (arith, hp, hd, h, i0, i1, j0)) (λ s. omega (arith, hp, hd, h, i0, i1, j0, s))
written_below p c d hp hd h (near i0 i1) (lowest j0) = let never : ⊥ = omega (arith, hp, hd, h, i0, i1, j0) in absurd never
written_below p c d hp hd h (near i0 i1) (lower j0 j1) = let never : ⊥ = omega (arith, hp, hd, h, i0, i1, j0, j1) in absurd never
written_below p c d hp hd h (near i0 i1) (low j0 j1) = let never : ⊥ = omega (arith, hp, hd, h, i0, i1, j0, j1) in absurd never
written_below p c d hp hd h (near i0 i1) (near j0 j1) = inl (omega (arith, hp, hd, h, i0, i1, j0, j1))
written_below p c d hp hd h (near i0 i1) (high j0 j1) = inl (omega (arith, hp, hd, h, i0, i1, j0, j1))
written_below p c d hp hd h (near i0 i1) (higher j0 j1) = inl (omega (arith, hp, hd, h, i0, i1, j0, j1))
written_below p c d hp hd h (near i0 i1) (highest j0) = inl (omega (arith, hp, hd, h, i0, i1, j0))
written_below p c d hp hd h (high i0 i1) (lowest j0) = let never : ⊥ = omega (arith, hp, hd, h, i0, i1, j0) in absurd never
written_below p c d hp hd h (high i0 i1) (lower j0 j1) = let never : ⊥ = omega (arith, hp, hd, h, i0, i1, j0, j1) in absurd never
written_below p c d hp hd h (high i0 i1) (low j0 j1) = let never : ⊥ = omega (arith, hp, hd, h, i0, i1, j0, j1) in absurd never
written_below p c d hp hd h (high i0 i1) (near j0 j1) = let never : ⊥ = omega (arith, hp, hd, h, i0, i1, j0, j1) in absurd never
written_below p c d hp hd h (high i0 i1) (high j0 j1) = two_below _ _ _ _ [] [] (omega (arith, hp, hd, h, i0, i1, j0, j1)) (λ s. omega (arith, hp, hd, h, i0, i1, j0, j1, s))
written_below p c d hp hd h (high i0 i1) (higher j0 j1) = two_below _ _ _ _ [] (difference_digit 1 p d ∷ []) (omega (arith, hp, hd, h, i0, i1, j0, j1)) (λ s. omega (arith, hp, hd, h, i0, i1, j0, j1, s))
written_below p c d hp hd h (high i0 i1) (highest j0) = two_below _ _ _ _ [] (difference_digit 253 p d ∷ difference_digit 1 p d ∷ []) (omega (arith, hp, hd, h, i0, i1, j0)) (λ s. omega (arith, hp, hd, h, i0, i1, j0, s))
written_below p c d hp hd h (higher i0 i1) (lowest j0) = let never : ⊥ = omega (arith, hp, hd, h, i0, i1, j0) in absurd never
written_below p c d hp hd h (higher i0 i1) (lower j0 j1) = let never : ⊥ = omega (arith, hp, hd, h, i0, i1, j0, j1) in absurd never
written_below p c d hp hd h (higher i0 i1) (low j0 j1) = let never : ⊥ = omega (arith, hp, hd, h, i0, i1, j0, j1) in absurd never
written_below p c d hp hd h (higher i0 i1) (near j0 j1) = let never : ⊥ = omega (arith, hp, hd, h, i0, i1, j0, j1) in absurd never
written_below p c d hp hd h (higher i0 i1) (high j0 j1) = let never : ⊥ = omega (arith, hp, hd, h, i0, i1, j0, j1) in absurd never
written_below p c d hp hd h (higher i0 i1) (higher j0 j1) = three_below _ _ _ _ _ _ [] [] (omega (arith, hp, hd, h, i0, i1, j0, j1)) (λ s. omega (arith, hp, hd, h, i0, i1, j0, j1, s)) (λ s t. omega (arith, hp, hd, h, i0, i1, j0, j1, s, t))
written_below p c d hp hd h (higher i0 i1) (highest j0) = two_below _ _ _ _ (difference_digit 1 p c ∷ []) (difference_digit 253 p d ∷ difference_digit 1 p d ∷ []) (omega (arith, hp, hd, h, i0, i1, j0)) (λ s. omega (arith, hp, hd, h, i0, i1, j0, s))
written_below p c d hp hd h (highest i0) (lowest j0) = let never : ⊥ = omega (arith, hp, hd, h, i0, j0) in absurd never
written_below p c d hp hd h (highest i0) (lower j0 j1) = let never : ⊥ = omega (arith, hp, hd, h, i0, j0, j1) in absurd never
written_below p c d hp hd h (highest i0) (low j0 j1) = let never : ⊥ = omega (arith, hp, hd, h, i0, j0, j1) in absurd never
written_below p c d hp hd h (highest i0) (near j0 j1) = let never : ⊥ = omega (arith, hp, hd, h, i0, j0, j1) in absurd never
written_below p c d hp hd h (highest i0) (high j0 j1) = let never : ⊥ = omega (arith, hp, hd, h, i0, j0, j1) in absurd never
written_below p c d hp hd h (highest i0) (higher j0 j1) = let never : ⊥ = omega (arith, hp, hd, h, i0, j0, j1) in absurd never
written_below p c d hp hd h (highest i0) (highest j0) = four_below _ _ _ _ _ _ _ _ [] [] refl (omega (arith, hp, hd, h, i0, j0)) (λ s. omega (arith, hp, hd, h, i0, j0, s)) (λ s t. omega (arith, hp, hd, h, i0, j0, s, t))

-- every byte of a character but U+FFFE is above the one that ends a level, and above that of U+FFFE
begins_high : {p c : ℕ} {xs : List ℕ} → p < 1114200 → c < 1114112 → Written p c xs → BeginsAbove 2 xs
begins_high hp hc (lowest a) = omega arith
begins_high hp hc (lower a b) = omega (arith, hp, hc, a, b)
begins_high hp hc (low a b) = omega (arith, hp, hc, a, b)
begins_high hp hc (near a b) = omega (arith, hp, hc, a, b)
begins_high hp hc (high a b) = omega (arith, hp, hc, a, b)
begins_high hp hc (higher a b) = omega (arith, hp, hc, a, b)
begins_high hp hc (highest a) = omega arith

end_differs : (ys : List ℕ) → BeginsAbove 2 ys → DiffersBelow (0x02 ∷ []) ys
end_differs [] h = elim h [ ]
end_differs (y ∷ ys) h = inl h

above_one : (ys : List ℕ) → BeginsAbove 2 ys → BeginsAbove 1 ys
above_one [] h = elim h [ ]
above_one (y ∷ ys) h = omega (arith, h)

abbrev pub IsCharacter : ℕ → Type 0
IsCharacter c = c < 0x110000

near_bound : (last : ℕ) → IsCharacter last → expected_near last < 1114200
near_bound last h = grind (arith, nat_tests)

character_rises :
    (last c d : ℕ) → IsCharacter last → IsCharacter c → IsCharacter d → character_rank c < character_rank d
    → DiffersBelow (character_code last c) (character_code last d)
character_rises last c d hl hc hd h =
    let p : ℕ = expected_near last in
    by_cases (λ xs. DiffersBelow xs (character_code last d)) (c == 0xfffe) _ _
    (λ is_end. by_cases (λ ys. DiffersBelow (0x02 ∷ []) ys) (d == 0xfffe) _ _
    (λ too. let never : ⊥ = grind (arith, nat_tests) in absurd never)
    (λ other. end_differs _ (begins_high (near_bound last hl) hd (written p d))))
    (λ is_none. by_cases (λ ys. DiffersBelow (difference_bytes p c) ys) (d == 0xfffe) _ _
    (λ is_end. let never : ⊥ = grind (arith, nat_tests) in absurd never)
    (λ other. written_below p c d (near_bound last hl) hd (grind (arith, nat_tests)) (written p c) (written p d)))

character_begins : (last c : ℕ) → IsCharacter last → IsCharacter c → BeginsAbove 1 (character_code last c)
character_begins last c hl hc =
    by_cases (BeginsAbove 1) (c == 0xfffe) _ _ (λ h. omega arith) (λ h. above_one _ (begins_high (near_bound last hl) hc (written (expected_near last) c)))

-- a character after one
abbrev StandsBehind : ℕ → ℕ → Type 0
StandsBehind last c = IsCharacter last × IsCharacter c

characters_code : IsOrderCode character_code character_rank StandsBehind 1
characters_code =
    record {
      same = λ last c d hc hd h. grind (arith, nat_tests);
      rises = λ last c d hc hd h. character_rises last c d hc.0 hc.1 hd.1 h;
      begins = λ last c hc. character_begins last c hc.0 hc.1;
    }

stay_characters : (last : ℕ) (cs : List ℕ) → IsCharacter last → AllByRecursion IsCharacter cs → AllFrom StandsBehind last_character last cs
stay_characters last [] hl all = tt
stay_characters last (c ∷ cs) hl all = ((hl, all.0), stay_characters (last_character last c) cs (grind (arith, nat_tests, all.0)) all.1)

-- The identical levels of two keys order as the characters, and else as what stands after them.
pub character_level_order :
    (cs ds xs ys : List ℕ) → AllByRecursion IsCharacter cs → AllByRecursion IsCharacter ds → BeginsUpTo 1 xs → BeginsUpTo 1 ys
    → slice_cmp nat_cmp (character_level cs ++ xs) (character_level ds ++ ys) ≡ ordering_then (list_order character_rank cs ds) (slice_cmp nat_cmp xs ys)
character_level_order cs ds xs ys all others low_xs low_ys =
    codes_order character_code last_character character_rank StandsBehind 1 characters_code 0 cs ds xs ys
    (stay_characters 0 cs (omega arith) all)
    (stay_characters 0 ds (omega arith) others)
    low_xs
    low_ys
