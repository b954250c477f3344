-- What is left of a decomposed list from an index on: its characters, and after what they stand.
use Rattle.std.proofs.Common.{◌≡◌, ℕ, zero, suc, ◌≤◌, List, [], ◌∷◌, ◌++◌, length, take, drop, reverse, refl, sym, ◌∙◌, ap, arith, append-nil, append_assoc}
use Rattle.std.proofs.lemmas.List.{length-take, reverse-append, take_all}
use Rattle.icu_collator_core.specs.Boundaries.{after}
use Rattle.icu_collator_core.specs.Elements.{Placed, characters_of, longest_prefix, placed, placed_behind}
use Rattle.icu_collator_core.specs.ReadTexts.{characters_before}

pub take_less : (n m : ℕ) (xs : List ℕ) → n ≤ m → take n (take m xs) ≡ take n xs
take_less zero m xs le = refl
take_less (suc n) zero xs le = absurd (omega arith)
take_less (suc n) (suc m) [] le = refl
take_less (suc n) (suc m) (x ∷ xs) le = ap (λ l. x ∷ l) (take_less n m xs (omega arith))

pub take_behind : (n m : ℕ) (ys zs : List ℕ) → n ≤ m → take n (ys ++ take m zs) ≡ take n (ys ++ zs)
take_behind n m [] zs le = take_less n m zs le
take_behind zero m (y ∷ ys) zs le = refl
take_behind (suc n) m (y ∷ ys) zs le = ap (λ l. y ∷ l) (take_behind n m ys zs (omega arith))

behind_drop : (k : ℕ) (before list : List ℕ) → length before ≤ longest_prefix → k ≤ length list
    → drop k (placed_behind before list) ≡ placed_behind (take longest_prefix (reverse (take k list) ++ before)) (drop k list)
unfolding placed_behind
behind_drop zero before list few within = ap (λ b. placed_behind b list) (sym (take_all longest_prefix before few))
behind_drop (suc k) before [] few within = absurd (omega arith)
behind_drop (suc k) before (c ∷ cs) few within =
    let nearest = take longest_prefix (c ∷ before) in
    let fewer : length nearest ≤ longest_prefix = let count = length-take longest_prefix (c ∷ before) in omega (arith, count) in
    let turned : reverse (c ∷ take k cs) ≡ reverse (take k cs) ++ (c ∷ []) = reverse-append (c ∷ []) (take k cs) in
    behind_drop k nearest cs fewer (omega arith)
    ∙ ap (λ b. placed_behind b (drop k cs))
    (take_behind longest_prefix longest_prefix (reverse (take k cs)) (c ∷ before) (omega arith)
    ∙ ap (take longest_prefix) (sym (append_assoc (reverse (take k cs)) (c ∷ []) before) ∙ ap (λ l. l ++ before) (sym turned)))

pub placed_drop : (k : ℕ) (list : List ℕ) → k ≤ length list → drop k (placed list) ≡ placed_behind (characters_before list k) (drop k list)
placed_drop k list within =
    behind_drop k [] list (omega arith) within
    ∙ ap (λ b. placed_behind (take longest_prefix b) (drop k list)) (append-nil (reverse (take k list)))

pub characters_placed : (before list : List ℕ) → characters_of (placed_behind before list) ≡ list
unfolding placed_behind
characters_placed before [] = refl
characters_placed before (c ∷ cs) = ap (λ l. c ∷ l) (characters_placed (take longest_prefix (c ∷ before)) cs)

pub length_placed : (before list : List ℕ) → length (placed_behind before list) ≡ length list
unfolding placed_behind
length_placed before [] = refl
length_placed before (c ∷ cs) = ap suc (length_placed (take longest_prefix (c ∷ before)) cs)

pub placed_append : (before xs ys : List ℕ) → placed_behind before (xs ++ ys) ≡ placed_behind before xs ++ placed_behind (after before xs) ys
unfolding placed_behind
placed_append before [] ys = refl
placed_append before (x ∷ xs) ys =
    ap (λ (w : List Placed). record { character = x; before = before } ∷ w) (placed_append (take longest_prefix (x ∷ before)) xs ys)
