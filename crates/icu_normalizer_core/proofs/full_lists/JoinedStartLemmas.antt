-- The first nine characters of lists that are joined one after another.
use Rattle.std.proofs.Common.{◌≡◌, ℕ, List, [], ◌∷◌, ◌++◌, take, flat_map, sym, ap, ◌∙◌, append_assoc, arith}
use Rattle.std.proofs.lemmas.List.Concat.{flat_map-cons}
use Rattle.icu_normalizer_core.specs.declared.canonical.check.left.Left.{Left}
use Rattle.icu_normalizer_core.specs.Settled.{left_items}
use Rattle.icu_normalizer_core.proofs.settling.SettledLemmas.{cut_begun, cut_front, cut_joined}

cut_same : (first xs ys : List ℕ) → take 9 xs ≡ take 9 ys → take 9 (first ++ xs) ≡ take 9 (first ++ ys)
cut_same first xs ys e = sym (cut_joined first xs) ∙ ap (λ (t : List ℕ). take 9 (take 9 first ++ t)) e ∙ cut_joined first ys

-- one more of the lists of characters that are read from the front
pub joined_more : (f : ℕ → List ℕ) (left start new : Left) (c : ℕ) (before rest list : List ℕ)
    → take 9 (left_items left ++ flat_map f before) ≡ take 9 (flat_map f list) → before ≡ c ∷ rest → left_items start ≡ take 9 (f c)
    → left_items new ≡ take 9 (left_items left ++ left_items start) → take 9 (left_items new ++ flat_map f rest) ≡ take 9 (flat_map f list)
joined_more f left start new c before rest list is first begun more =
    ap (λ (t : List ℕ). take 9 (t ++ flat_map f rest)) more
    ∙ cut_front 9 9 (left_items left ++ left_items start) (flat_map f rest) (omega arith)
    ∙ ap (take 9) (append_assoc (left_items left) (left_items start) (flat_map f rest))
    ∙ cut_same (left_items left) (left_items start ++ flat_map f rest) (f c ++ flat_map f rest)
    (ap (λ (t : List ℕ). take 9 (t ++ flat_map f rest)) begun ∙ cut_front 9 9 (f c) (flat_map f rest) (omega arith))
    ∙ ap (λ (t : List ℕ). take 9 (left_items left ++ t)) (sym (flat_map-cons f c rest) ∙ ap (flat_map f) (sym first))
    ∙ is

pub joined_all : (f : ℕ → List ℕ) (left : Left) (rest list : List ℕ) → take 9 (left_items left ++ flat_map f rest) ≡ take 9 (flat_map f list) → rest ≡ []
    → left_items left ≡ take 9 (flat_map f list)
joined_all f left rest list is none =
    cut_begun left.count left.characters left.fits ∙ ap (λ (t : List ℕ). take 9 (left_items left ++ flat_map f t)) (sym none) ∙ is
