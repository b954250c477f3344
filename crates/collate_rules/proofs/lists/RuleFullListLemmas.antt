-- The full list of a character, step by step.
use Rattle.std.proofs.Common.{◌≡◌, ◌≢◌, ℕ, zero, suc, ◌+◌, ◌-◌, ◌<◌, List, [], ◌∷◌, ◌++◌, length, get_or, take, drop, flat_map, refl, sym, ap, ◌∙◌, arith, append-nil, append_assoc, add-one, drop-cons}
use Rattle.std.proofs.lemmas.List.{take_more}
use Rattle.collate_rules.specs.Meaning.{expanded}

-- what at most n steps leave, by what the first of them gives
abbrev pub by_first : (ℕ → List ℕ) → ℕ → ℕ → List ℕ → List ℕ
by_first step n c [] = c ∷ []
by_first step n c (d ∷ ds) = flat_map (expanded step n) (d ∷ ds)

pub expanded-suc : (step : ℕ → List ℕ) (n c : ℕ) → expanded step (suc n) c ≡ by_first step n c (step c)
unfolding expanded
expanded-suc step n c = refl

pub expanded_none : (step : ℕ → List ℕ) (n c : ℕ) → n ≡ 0 → expanded step n c ≡ c ∷ []
unfolding expanded
expanded_none step zero c e = refl
expanded_none step (suc n) c e = absurd (omega arith)

pub expanded_unmapped : (step : ℕ → List ℕ) (n c : ℕ) → step c ≡ [] → expanded step n c ≡ c ∷ []
expanded_unmapped step zero c e = expanded_none step zero c refl
expanded_unmapped step (suc n) c e = expanded-suc step n c ∙ ap (by_first step n c) e

pub expanded_one : (step : ℕ → List ℕ) (n c d : ℕ) → n ≢ 0 → step c ≡ d ∷ [] → expanded step n c ≡ expanded step (n - 1) d
expanded_one step zero c d h e = absurd (h refl)
expanded_one step (suc n) c d h e =
    let less : n ≡ suc n - 1 = omega arith in
    expanded-suc step n c ∙ ap (by_first step n c) e ∙ append-nil (expanded step n d) ∙ ap (λ (m : ℕ). expanded step m d) less

pub expanded_two : (step : ℕ → List ℕ) (n c d e : ℕ) → n ≢ 0 → step c ≡ d ∷ e ∷ [] → expanded step n c ≡ expanded step (n - 1) d ++ expanded step (n - 1) e
expanded_two step zero c d e h s = absurd (h refl)
expanded_two step (suc n) c d e h s =
    let less : n ≡ suc n - 1 = omega arith in
    expanded-suc step n c ∙ ap (by_first step n c) s
    ∙ ap (λ (l : List ℕ). expanded step n d ++ l) (append-nil (expanded step n e))
    ∙ ap (λ (m : ℕ). expanded step m d ++ expanded step m e) less

pub expanded_some : (step : ℕ → List ℕ) (n c : ℕ) (ds : List ℕ) → n ≢ 0 → step c ≡ ds → ds ≢ [] → expanded step n c ≡ flat_map (expanded step (n - 1)) ds
expanded_some step zero c ds h e some = absurd (h refl)
expanded_some step (suc n) c [] h e some = absurd (some refl)
expanded_some step (suc n) c (d ∷ ds) h e some =
    let less : n ≡ suc n - 1 = omega arith in
    expanded-suc step n c ∙ ap (by_first step n c) e ∙ ap (λ (m : ℕ). flat_map (expanded step m) (d ∷ ds)) less

flat_append : (f : ℕ → List ℕ) (xs : List ℕ) (x : ℕ) → flat_map f (xs ++ x ∷ []) ≡ flat_map f xs ++ f x
flat_append f [] x = append-nil (f x)
flat_append f (y ∷ ys) x = ap (λ (l : List ℕ). f y ++ l) (flat_append f ys x) ∙ sym (append_assoc (f y) (flat_map f ys) (f x))

-- one character more
pub flat_more : (f : ℕ → List ℕ) (before xs : List ℕ) (i x : ℕ) → i < length xs → x ≡ get_or xs i x
    → (before ++ flat_map f (take i xs)) ++ f x ≡ before ++ flat_map f (take (i + 1) xs)
flat_more f before xs i x within is =
    append_assoc before (flat_map f (take i xs)) (f x)
    ∙ ap (λ (l : List ℕ). before ++ l)
    (sym (ap (flat_map f) (take_more xs i x within ∙ ap (λ (y : ℕ). take i xs ++ y ∷ []) (sym is)) ∙ flat_append f (take i xs) x))

pub drop_item : (xs : List ℕ) (i x : ℕ) → i < length xs → x ≡ get_or xs i x → drop i xs ≡ x ∷ drop (i + 1) xs
drop_item xs i x within is =
    drop-cons xs i x within ∙ ap (λ (y : ℕ). y ∷ drop (suc i) xs) (sym is) ∙ ap (λ (n : ℕ). x ∷ drop n xs) (sym (add-one i))
