-- bytes written in parts
use Rattle.std.proofs.Common.{◌≡◌, ℕ, ◌-◌, ◌<◌, Bool, true, false, ◌||◌, eqb, List, ◌++◌, length, take, drop, sym, ap, ◌∙◌, append_assoc, arith}
use Rattle.std.proofs.lemmas.List.{take_rest, take-append-drop}
use Rattle.std.proofs.lemmas.Bool.Decides.{nat_tests}

pub more-sent : (bytes sent rest : List ℕ) (n : ℕ) → bytes ≡ sent ++ rest → bytes ≡ (sent ++ take n rest) ++ take (length rest - n) (drop n rest)
more-sent bytes sent rest n e =
    e ∙ ap (λ (xs : List ℕ). sent ++ xs) (sym (take-append-drop n rest) ∙ ap (λ (xs : List ℕ). take n rest ++ xs) (sym (take_rest rest n))) ∙ sym (append_assoc sent (take n rest) (take (length rest - n) (drop n rest)))

pub still-same : (new old : Bool) (n : ℕ) → 0 < n → new ≡ (old || eqb n 0) → new ≡ old
still-same new true n h e = e
still-same new false n h e = e ∙ grind (arith, nat_tests)
