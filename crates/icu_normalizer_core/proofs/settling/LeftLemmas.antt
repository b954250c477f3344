-- What mapping steps leave of a text: one list, of characters that aren't mapped.
use Rattle.std.proofs.Common.{◌≡◌, ℕ, List, [], ◌∷◌, ◌++◌, sym, subst, ◌∙◌}
use Rattle.std.specs.List.{All}
use Rattle.std.specs.Char.{IsScalar}
use Rattle.std.proofs.lemmas.List.Elements.{All-cons, All-nil, All-head, All-tail, All-append}
use Rattle.icu_normalizer_core.specs.Canonical.{Leaves, nothing, unmapped, mapped}
pub use Rattle.icu_normalizer_core.proofs.decomposed_lists.DecomposedLemmas.{left_append, left_mapped, left_one, left_unmapped}

-- none of the characters that are left is mapped
pub AreUnmapped : (ℕ → List ℕ) → List ℕ → Type 0
AreUnmapped step [] = Unit {0}
AreUnmapped step (c ∷ cs) = (step c ≡ []) × AreUnmapped step cs

pub unmapped_left : (step : ℕ → List ℕ) (xs ns : List ℕ) → Leaves step xs ns → AreUnmapped step ns
unfolding AreUnmapped
unmapped_left step xs ns nothing = tt
unmapped_left step xs ns (unmapped c cs ms e h) = (e, unmapped_left step cs ms h)
unmapped_left step xs ns (mapped c d ds cs ms e h) = unmapped_left step ((d ∷ ds) ++ cs) ms h

-- so is each of them
pub unmapped_at : (step : ℕ → List ℕ) (done : List ℕ) (x : ℕ) (rest : List ℕ) → AreUnmapped step (done ++ x ∷ rest) → step x ≡ []
unfolding AreUnmapped
unmapped_at step [] x rest h = h.0
unmapped_at step (y ∷ ys) x rest h = unmapped_at step ys x rest h.1

pub all_unmapped : (step : ℕ → List ℕ) (xs : List ℕ) → AreUnmapped step xs → All (λ c. step c ≡ []) xs
unfolding AreUnmapped
all_unmapped step [] h = All-nil (λ c. step c ≡ [])
all_unmapped step (x ∷ xs) h = All-cons (λ c. step c ≡ []) x xs h.0 (all_unmapped step xs h.1)

-- a character that is left of itself isn't mapped
pub unmapped_itself : (step : ℕ → List ℕ) (c : ℕ) → Leaves step (c ∷ []) (c ∷ []) → step c ≡ []
unfolding AreUnmapped
unmapped_itself step c h = (unmapped_left step (c ∷ []) (c ∷ []) h).0

-- what is left of a character that isn't mapped, and of one that is mapped to one or two
pub left_alone : (step : ℕ → List ℕ) (c : ℕ) → step c ≡ [] → Leaves step (c ∷ []) (c ∷ [])
left_alone step c e = unmapped c [] [] e nothing

pub left_single : (step : ℕ → List ℕ) (c d : ℕ) (xs : List ℕ) → step c ≡ d ∷ [] → Leaves step (d ∷ []) xs → Leaves step (c ∷ []) xs
left_single step c d xs e h = mapped c d [] [] xs e h

pub left_double : (step : ℕ → List ℕ) (c d e : ℕ) (xs ys : List ℕ) → step c ≡ d ∷ e ∷ [] → Leaves step (d ∷ []) xs → Leaves step (e ∷ []) ys
    → Leaves step (c ∷ []) (xs ++ ys)
left_double step c d e xs ys is first second = mapped c d (e ∷ []) [] (xs ++ ys) is (left_append step (d ∷ []) (e ∷ []) xs ys first second)

-- what is left of scalar values are scalar values
pub left_scalars : (step : ℕ → List ℕ) (xs ns : List ℕ) → ((c : ℕ) → All IsScalar (step c)) → All IsScalar xs → Leaves step xs ns → All IsScalar ns
left_scalars step xs ns steps all nothing = all
left_scalars step xs ns steps all (unmapped c cs ms e h) =
    All-cons IsScalar c ms (All-head IsScalar c cs all) (left_scalars step cs ms steps (All-tail IsScalar c cs all) h)
left_scalars step xs ns steps all (mapped c d ds cs ms e h) =
    left_scalars step ((d ∷ ds) ++ cs) ms steps (All-append IsScalar (d ∷ ds) cs (subst (All IsScalar) e (steps c)) (All-tail IsScalar c cs all)) h

-- steps that are the same leave the same
pub left_same : (s t : ℕ → List ℕ) (xs ns : List ℕ) → ((c : ℕ) → s c ≡ t c) → Leaves s xs ns → Leaves t xs ns
left_same s t xs ns same nothing = nothing
left_same s t xs ns same (unmapped c cs ms e h) = unmapped c cs ms (sym (same c) ∙ e) (left_same s t cs ms same h)
left_same s t xs ns same (mapped c d ds cs ms e h) = mapped c d ds cs ms (sym (same c) ∙ e) (left_same s t ((d ∷ ds) ++ cs) ms same h)
