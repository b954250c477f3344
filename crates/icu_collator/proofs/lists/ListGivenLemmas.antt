-- What elements give one after another, and that all shifted primaries which they give have 32 bits.
use Rattle.std.proofs.Common.{◌≡◌, ℕ, ◌+◌, ◌<◌, Bool, true, Option, Some, None, List, [], ◌∷◌, ◌++◌, filter_map, get_or, length, refl, sym, take, ap, ◌∙◌}
use Rattle.std.specs.List.{cons_option, list_all}
use Rattle.std.proofs.lemmas.List.{map-append, take_more}
use Rattle.std.proofs.lemmas.List.Folds.{list_all-append}
use Rattle.icu_collator.specs.KeyCodes.{gives_small_place, is_small_place}
use Rattle.icu_collator.specs.LevelLists.{counted_by, counted_list}
use Rattle.icu_collator.specs.Levels.{QuaternaryPlace}
use Rattle.icu_collator.proofs.keys.CommonAloneLemmas.{and_true}

one_given : (place : Option QuaternaryPlace) (places : List QuaternaryPlace) → gives_small_place place ≡ true → list_all is_small_place places ≡ true
    → list_all is_small_place (cons_option place places) ≡ true
one_given None places here all = all
one_given (Some place) places here all = rw (here, all) refl

pub all_given : {X : Type 0} (at : X → Option QuaternaryPlace) (xs : List X) → list_all (λ x. gives_small_place (at x)) xs ≡ true
    → list_all is_small_place (filter_map at xs) ≡ true
all_given at [] all = refl
all_given at (x ∷ xs) all =
    let both = and_true (gives_small_place (at x)) (list_all (λ x. gives_small_place (at x)) xs) all in
    one_given (at x) (filter_map at xs) both.0 (all_given at xs both.1)

-- the items up to one more place
pub counted_more : (end : ℕ) (xs : List ℕ) (i x : ℕ) → i < length xs → x ≡ get_or xs i x
    → counted_list end (take (i + 1) xs) ≡ counted_list end (take i xs) ++ counted_by end x ∷ []
counted_more end xs i x within is =
    ap (counted_list end) (take_more xs i x within) ∙ map-append (counted_by end) (take i xs) (get_or xs i x ∷ [])
    ∙ ap (λ y. counted_list end (take i xs) ++ counted_by end y ∷ []) (sym is)

-- what passes for all, and for one more
pub more_pass : {X : Type 0} (test : X → Bool) (xs ys : List X) (x : X) → ys ≡ xs ++ x ∷ [] → list_all test xs ≡ true → test x ≡ true → list_all test ys ≡ true
more_pass test xs ys x e all here = rw (e, list_all-append test xs (x ∷ []), all, here) refl
