-- what is found in lines after others
use Rattle.std.proofs.lemmas.List.{get_or-map, length-map}
use Rattle.std.proofs.lemmas.List.Elements.{All-get_or}
use Rattle.std.proofs.Common.{◌<◌, length, get_or, map, All, subst, ◌≡◌, ℕ, List, [], ◌∷◌, ◌++◌, Option, Some, None, refl, sym, ap, ◌∙◌}
use Rattle.std.specs.Option.{option_or}
use Rattle.collate_rules.specs.Meaning.{first_found}

-- what is found first in two lists, one after another
pub first_found-append : {A B : Type 0} (f : A → Option B) (xs ys : List A) → first_found f (xs ++ ys) ≡ option_or (first_found f xs) (first_found f ys)
first_found-append f [] ys = refl
first_found-append f (x ∷ xs) ys =
    elim (f x) as (λ o. (elim o [ Some z ↦ Some z | None ↦ first_found f (xs ++ ys) ]) ≡ option_or (elim o [ Some z ↦ Some z | None ↦ first_found f xs ]) (first_found f ys))
    [ Some z ↦ refl | None ↦ first_found-append f xs ys ]

first_found-single : {A B : Type 0} (f : A → Option B) (x : A) → first_found f (x ∷ []) ≡ f x
first_found-single f x = elim (f x) as (λ o. (elim o [ Some y ↦ Some y | None ↦ None ]) ≡ o) [ Some y ↦ refl | None ↦ refl ]

-- what is found first in a list and one more item
pub first_found-push : {A B : Type 0} (f : A → Option B) (xs : List A) (x : A) → first_found f (xs ++ x ∷ []) ≡ option_or (first_found f xs) (f x)
first_found-push f xs x = first_found-append f xs (x ∷ []) ∙ ap (λ o. option_or (first_found f xs) o) (first_found-single f x)

option_or-none : {B : Type 0} (o : Option B) → option_or o None ≡ o
option_or-none None = refl
option_or-none (Some x) = refl

-- an item that says nothing of it changes nothing
pub first_found-skip : {A B : Type 0} (f : A → Option B) (xs : List A) (x : A) → f x ≡ None → first_found f (xs ++ x ∷ []) ≡ first_found f xs
first_found-skip f xs x e = first_found-push f xs x ∙ ap (λ o. option_or (first_found f xs) o) e ∙ option_or-none (first_found f xs)

-- what holds of each line holds of the line at an index
pub All-map_at : {A B : Type 0} (P : B → Type 0) (f : A → B) (xs ys : List A) (i : ℕ) (x : A)
    → ys ≡ xs → i < length ys → x ≡ get_or ys i x → All P (map f xs) → P (f x)
All-map_at P f xs ys i x same below is all =
    let read : get_or (map f ys) i (f x) ≡ f (get_or ys i x) = get_or-map f ys i x (f x) below in
    let here : P (get_or (map f ys) i (f x)) = All-get_or P (map f ys) i (f x) (rw length-map below) (rw same all) in
    subst P (read ∙ ap f (sym is)) here
