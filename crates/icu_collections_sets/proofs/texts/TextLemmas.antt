-- Texts as their bytes.
use Rattle.std.proofs.Common.{◌≡◌, ℕ, ◌++◌, List, [], ◌∷◌, length, map, String, Global, string_bytes, refl, sym, ap, ◌∙◌}
use Rattle.std.specs.Prelude.{◌&&◌, nat_eq}
use Rattle.std.specs.List.{AllZip, flat_map}
use Rattle.std.specs.Hash as fed
use Rattle.std.specs.Cmp.Lexicographic.{pointwise}
use Rattle.std.proofs.lemmas.List.{length-map}
use Rattle.icu_collections_sets.specs.StringList.{CodePointsAndStrings}

pub same_texts : (xs ys : List (String Global)) → AllZip (λ s t. string_bytes t ≡ string_bytes s) xs ys → map string_bytes ys ≡ map string_bytes xs
same_texts [] [] h = refl
same_texts [] (y ∷ ys) h = absurd h
same_texts (x ∷ xs) [] h = absurd h
same_texts (x ∷ xs) (y ∷ ys) h = ap (λ b. b ∷ map string_bytes ys) h.0 ∙ ap (λ bs. string_bytes x ∷ bs) (same_texts xs ys h.1)

pub equal_texts : (xs ys : List (String Global)) → pointwise (λ s t. pointwise nat_eq (string_bytes s) (string_bytes t)) xs ys ≡ pointwise (pointwise nat_eq) (map string_bytes xs) (map string_bytes ys)
equal_texts [] [] = refl
equal_texts [] (y ∷ ys) = refl
equal_texts (x ∷ xs) [] = refl
equal_texts (x ∷ xs) (y ∷ ys) = ap (λ b. pointwise nat_eq (string_bytes x) (string_bytes y) && b) (equal_texts xs ys)

fed_each : (xs : List (String Global)) → flat_map (λ s. fed.str (string_bytes s)) xs ≡ flat_map fed.str (map string_bytes xs)
fed_each [] = refl
fed_each (x ∷ xs) = ap (λ ys. fed.str (string_bytes x) ++ ys) (fed_each xs)

pub fed_texts : (xs : List (String Global)) → fed.slice (λ s. fed.str (string_bytes s)) xs ≡ fed.slice fed.str (map string_bytes xs)
fed_texts xs = ap (λ n. fed.usize n ++ flat_map (λ s. fed.str (string_bytes s)) xs) (sym (length-map xs string_bytes)) ∙ ap (λ ys. fed.usize (length (map string_bytes xs)) ++ ys) (fed_each xs)

-- the set of these code points and these texts
abbrev pub set_of : List ℕ → List (List ℕ) → CodePointsAndStrings
set_of code_points strings = record { code_points = code_points; strings = strings }
