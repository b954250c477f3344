-- What a level's list gives, as weights and as their ranks.
use Rattle.std.proofs.Common.{◌≡◌, Option, Some, None, List, [], ◌∷◌, map, filter_map, refl, sym, ap, ◌∙◌}
use Rattle.std.specs.List.{cons_option}
use Rattle.std.specs.Prelude.{option_map}

ranked : {Y Z : Type 0} (rank : Y → Z) (o : Option Y) (ys : List Y) → map rank (cons_option o ys) ≡ cons_option (option_map rank o) (map rank ys)
ranked rank (Some y) ys = refl
ranked rank None ys = refl

map_of_filter_map : {X Y Z : Type 0} (rank : Y → Z) (at : X → Option Y) (xs : List X) → map rank (filter_map at xs) ≡ filter_map (λ x. option_map rank (at x)) xs
map_of_filter_map rank at [] = refl
map_of_filter_map rank at (x ∷ xs) = ranked rank (at x) (filter_map at xs) ∙ ap (cons_option (option_map rank (at x))) (map_of_filter_map rank at xs)

-- ranks that elements give are those of the places that they give
pub ranks_by : {X Y Z : Type 0} (rank : Y → Z) (at : X → Option Y) (xs : List X) → filter_map (λ x. option_map rank (at x)) xs ≡ map rank (filter_map at xs)
ranks_by rank at xs = sym (map_of_filter_map rank at xs)
