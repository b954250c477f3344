-- What lines that were read give.
use Rattle.std.proofs.Common.{◌≡◌, ℕ, ◌+◌, ◌<◌, ◌≤◌, List, [], ◌∷◌, ◌++◌, length, get_or, map, take, sym, ap, ◌∙◌, arith, append-nil, take_all}
use Rattle.std.specs.Prelude.{flat_map}
use Rattle.std.proofs.lemmas.Grind.{flat_map-append}
use Rattle.std.proofs.lemmas.List.{get_or-map, length-map, take-map, take_more}
use Rattle.collate_lines.specs.declared.record.Record.{Record as Line}
use Rattle.collate_lines.specs.Record.{Record, nothing, said}

-- the lines up to one, as they were read
pub said_to : (lines : List Line) (n : ℕ) → map said (take n lines) ≡ take n (map said lines)
said_to lines n = sym (take-map said n lines)

-- what is taken from each line, one line further
pub given_more : {A : Type 0} (give : Record → List A) (lines : List Line) (i : ℕ) (x : Line) → i < length lines → x ≡ get_or lines i x
    → flat_map give (take (i + 1) (map said lines)) ≡ flat_map give (take i (map said lines)) ++ give (said x)
given_more {A} give lines i x within read =
    let many = length-map lines said in
    ap (λ (ss : List Record). flat_map give ss)
    (take_more (map said lines) i nothing (omega (arith, many, within))
    ∙ ap (λ (s : Record). take i (map said lines) ++ s ∷ []) (get_or-map said lines i x nothing within ∙ ap said (sym read)))
    ∙ flat_map-append give (take i (map said lines)) (said x ∷ [])
    ∙ ap (λ (xs : List A). flat_map give (take i (map said lines)) ++ xs) (append-nil (give (said x)))

-- what is taken from all lines, once there is no further one
pub given_all : {A : Type 0} (give : Record → List A) (lines : List Line) (i : ℕ) → length lines ≤ i
    → flat_map give (take i (map said lines)) ≡ flat_map give (map said lines)
given_all give lines i past =
    let many = length-map lines said in ap (λ (ss : List Record). flat_map give ss) (take_all i (map said lines) (omega (arith, many, past)))
