-- the lines of bytes
use Rattle.std.proofs.Common.{◌≡◌, ◌≢◌, ℕ, ◌<◌, ◌≤◌, false, eqb, List, [], ◌∷◌, ◌++◌, length, flat_map, All, refl, ap, ◌∙◌, append_assoc, arith}
use Rattle.std.proofs.lemmas.Bool.Decides.{nat_tests}
use Rattle.std.proofs.lemmas.List.Elements.{All-cons, All-head, All-nil, All-same, All-tail}
use Rattle.collate_run.specs.Reading.{IsUnended}
use Rattle.collate_run.specs.Replies.{ended}
use Rattle.collate_run.specs.Runs.{IsWithin, line_limit, lines_of, whole_lines}

differs : (b : ℕ) → (b ≡ 10 → ⊥) → eqb b 10 ≡ false
differs b h = grind (arith, nat_tests)

pub lines_of-ended : (line rest : List ℕ) → IsUnended line → lines_of (line ++ 10 ∷ rest) ≡ line ∷ lines_of rest
unfolding lines_of
lines_of-ended [] rest h = refl
lines_of-ended (b ∷ bs) rest h =
    let e = differs b (All-head (λ byte. byte ≢ 10) b bs h) in
    let later = lines_of-ended bs rest (All-tail (λ byte. byte ≢ 10) b bs h) in
    rw (e, later) refl

pub whole_lines-ended : (line rest : List ℕ) → IsUnended line → whole_lines (line ++ 10 ∷ rest) ≡ line ∷ whole_lines rest
unfolding whole_lines
whole_lines-ended [] rest h = refl
whole_lines-ended (b ∷ bs) rest h =
    let e = differs b (All-head (λ byte. byte ≢ 10) b bs h) in
    let later = whole_lines-ended bs rest (All-tail (λ byte. byte ≢ 10) b bs h) in
    rw (e, later) refl

pub lines_of-none : lines_of [] ≡ []
unfolding lines_of
lines_of-none = refl

pub lines_of-last : (b : ℕ) (bs : List ℕ) → IsUnended (b ∷ bs) → lines_of (b ∷ bs) ≡ (b ∷ bs) ∷ []
unfolding lines_of
lines_of-last b [] h = let e = differs b (All-head (λ byte. byte ≢ 10) b [] h) in rw e refl
lines_of-last b (c ∷ cs) h =
    let e = differs b (All-head (λ byte. byte ≢ 10) b (c ∷ cs) h) in
    let later = lines_of-last c cs (All-tail (λ byte. byte ≢ 10) b (c ∷ cs) h) in
    rw (e, later) refl

pub lines_of-unended : (line : List ℕ) → IsUnended line → 0 < length line → lines_of line ≡ line ∷ []
lines_of-unended [] h some = absurd (omega (arith, some))
lines_of-unended (b ∷ bs) h some = lines_of-last b bs h

-- the bytes of a line that is cut off, within the limit
pub lines_of-within : (line : List ℕ) → IsUnended line → length line ≤ line_limit → All IsWithin (lines_of line)
lines_of-within [] h short = All-same IsWithin (lines_of []) [] lines_of-none (All-nil IsWithin)
lines_of-within (b ∷ bs) h short = All-same IsWithin (lines_of (b ∷ bs)) ((b ∷ bs) ∷ []) (lines_of-last b bs h) (All-cons IsWithin (b ∷ bs) [] short (All-nil IsWithin))

pub whole_lines-unended : (line : List ℕ) → IsUnended line → whole_lines line ≡ []
unfolding whole_lines
whole_lines-unended [] h = refl
whole_lines-unended (b ∷ bs) h =
    let e = differs b (All-head (λ byte. byte ≢ 10) b bs h) in
    let later = whole_lines-unended bs (All-tail (λ byte. byte ≢ 10) b bs h) in
    rw (e, later) refl

pub lines_of-whole : (lines : List (List ℕ)) (rest : List ℕ) → All IsUnended lines → lines_of (flat_map ended lines ++ rest) ≡ lines ++ lines_of rest
lines_of-whole [] rest h = refl
lines_of-whole (line ∷ lines) rest h =
    ap lines_of (append_assoc (ended line) (flat_map ended lines) rest ∙ append_assoc line (10 ∷ []) (flat_map ended lines ++ rest))
    ∙ lines_of-ended line (flat_map ended lines ++ rest) (All-head IsUnended line lines h)
    ∙ ap (λ (ls : List (List ℕ)). line ∷ ls) (lines_of-whole lines rest (All-tail IsUnended line lines h))

pub whole_lines-whole : (lines : List (List ℕ)) (rest : List ℕ) → All IsUnended lines → whole_lines (flat_map ended lines ++ rest) ≡ lines ++ whole_lines rest
whole_lines-whole [] rest h = refl
whole_lines-whole (line ∷ lines) rest h =
    ap whole_lines (append_assoc (ended line) (flat_map ended lines) rest ∙ append_assoc line (10 ∷ []) (flat_map ended lines ++ rest))
    ∙ whole_lines-ended line (flat_map ended lines ++ rest) (All-head IsUnended line lines h)
    ∙ ap (λ (ls : List (List ℕ)). line ∷ ls) (whole_lines-whole lines rest (All-tail IsUnended line lines h))
