-- what the definitions of a run say of a few bytes
use Rattle.std.proofs.Common.{◌≡◌, ℕ, ◌<◌, Ok, List, [], ◌∷◌, ◌++◌, length, codes, refl, sym, arith}
use Rattle.std.proofs.lemmas.List.Elements.{All-head, All-same}
use Rattle.collate_run.specs.Reading.{IsUnended}
use Rattle.collate_run.specs.Replies.{add, remove, find, between, key, list, reload, unknown, command_of}
use Rattle.collate_run.specs.Runs.{IsCutReload, IsWithin, KeepsInputLimit, KeepsLineLimit, input_limit, line_limit, lines_of, whole_lines}
use Rattle.collate_run.proofs.lines.CommandLineLemmas.{lines_of-ended}

lines : lines_of (codes "a\n\nb") ≡ codes "a" ∷ [] ∷ codes "b" ∷ []
unfolding lines_of
lines = refl

ended_lines : lines_of (codes "a\n\n") ≡ codes "a" ∷ [] ∷ []
unfolding lines_of
ended_lines = refl

whole : whole_lines (codes "a\n\nb") ≡ codes "a" ∷ [] ∷ []
unfolding whole_lines
whole = refl

added : command_of (codes "add ") ≡ add []
unfolding command_of
added = refl

found : command_of (codes "find a b") ≡ find (codes "a b")
unfolding command_of
found = refl

taken : command_of (codes "remove a ") ≡ remove (codes "a ")
unfolding command_of
taken = refl

parted : command_of (codes "between a b\tc\td") ≡ between (codes "a b") (codes "c\td")
unfolding command_of
parted = refl

unparted : command_of (codes "between a b") ≡ unknown
unfolding command_of
unparted = refl

asked_key : command_of (codes "key ") ≡ key []
unfolding command_of
asked_key = refl

listed : command_of (codes "list") ≡ list
unfolding command_of
listed = refl

other : command_of (codes "list ") ≡ unknown
unfolding command_of
other = refl

loaded : command_of (codes "reload 16") ≡ reload 16
unfolding command_of
loaded = refl

loaded_nothing : command_of (codes "reload 0") ≡ reload 0
unfolding command_of
loaded_nothing = refl

led_by_zero : command_of (codes "reload 01") ≡ unknown
unfolding command_of
led_by_zero = refl

eight_digits : command_of (codes "reload 10000000") ≡ unknown
unfolding command_of
eight_digits = refl

cut_off : IsCutReload (codes "reload 2" ∷ codes "x" ∷ [])
unfolding command_of
cut_off = omega arith

-- a run that answers a line past the limit keeps no line limit
long_line : (line rest : List ℕ) → IsUnended line → line_limit < length line → KeepsLineLimit (Ok tt) input_limit (line ++ 10 ∷ rest) → ⊥
long_line line rest unended long kept =
    let short = All-head IsWithin line (lines_of rest) (All-same IsWithin (line ∷ lines_of rest) (lines_of (line ++ 10 ∷ rest)) (sym (lines_of-ended line rest unended)) kept) in
    omega (arith, long, short)

-- nor one the input limit that reads on past it
long_input : (taken : List ℕ) → input_limit < length taken → KeepsInputLimit (Ok tt) input_limit taken → ⊥
long_input taken long kept = omega (arith, long, kept)
