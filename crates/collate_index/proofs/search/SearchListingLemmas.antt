-- a walk over names: the first of those that are left
use Rattle.std.proofs.Common.{◌≡◌, ℕ, ◌+◌, ◌<◌, List, [], ◌∷◌, length, drop, get_or, Option, None, Some, MatchOption, slice_get, Bor, ap, ◌∙◌, arith}
use Rattle.std.specs.Option.{option_copied}
use Rattle.std.proofs.lemmas.List.{drop_more, length-drop}
use Rattle.std.specs.Bool.{⊤}
use Rattle.std.specs.Iterator.{MakesProgress, item_count}
use Rattle.std.proofs.lemmas.Option.{slice_get-get_or}

pub first_left : (names : List (List ℕ)) (next : ℕ) (r : Option (Bor (List ℕ))) → next < length names → option_copied r ≡ slice_get names next → MatchOption r ((drop next names ≡ []) × (drop (next + 1) names ≡ [])) (λ x. drop next names ≡ x.now ∷ drop (next + 1) names)
first_left names next None h e = let some : slice_get names next ≡ Some (get_or names next []) = slice_get-get_or names next [] h in cc
first_left names next (Some x) h e =
    let some : slice_get names next ≡ Some (get_or names next []) = slice_get-get_or names next [] h in
    let same : get_or names next [] ≡ x.now = cc in
    drop_more names next [] h ∙ ap (λ name. name ∷ drop (next + 1) names) same

pub fewer_left : (names : List (List ℕ)) (next : ℕ) (r : Option (Bor (List ℕ))) → next < length names → MakesProgress (λ _. ⊤) (item_count (λ (rest : List (List ℕ)). rest)) (drop next names) r (drop (next + 1) names)
fewer_left names next None h = record { on = λ f. tt; keeps = tt; rests = λ f. tt }
fewer_left names next (Some x) h = record { on = λ f. (tt, tt, omega (arith, length-drop next names, length-drop (next + 1) names)); keeps = tt; rests = λ f. tt }
