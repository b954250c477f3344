-- lists as they are written, line by line
use Rattle.std.proofs.Common.{◌≡◌, ℕ, ◌+◌, ◌≤◌, List, [], ◌∷◌, ◌++◌, Option, None, Some, length, map, subst, ap, ◌∙◌, sym, append_assoc, append-nil, flat_map, take, take_all}
use Rattle.std.specs.Prelude.{slice_get}
use Rattle.std.specs.Option.{option_map}
use Rattle.std.specs.Io.KnownBytes.{Appends}
use Rattle.std.proofs.lemmas.Grind.{flat_map-append}
use Rattle.std.proofs.lemmas.List.{take_more}
use Rattle.std.proofs.lemmas.Option.{get_or_from_slice_get, slice_get-map, slice_get_within}

pub appends-none : (a : Option (List ℕ)) → Appends a a []
appends-none None = tt
appends-none (Some xs) = sym (append-nil xs)

pub appends-then : (a b c : Option (List ℕ)) (xs ys : List ℕ) → Appends a b xs → Appends b c ys → Appends a c (xs ++ ys)
appends-then None b c xs ys h k = tt
appends-then (Some old) None c xs ys h k = absurd h
appends-then (Some old) (Some bs) None xs ys h k = absurd k
appends-then (Some old) (Some bs) (Some cs) xs ys h k = k ∙ ap (λ (zs : List ℕ). zs ++ ys) h ∙ append_assoc old xs ys

-- what is found at an index of what is made of values is made of the value there
pub found_mapped : {A : Type 0} (v : A → List ℕ) (xs : List A) (k : ℕ) (y : List ℕ) (x : A) → Some y ≡ slice_get (map v xs) k → slice_get xs k ≡ Some x → y ≡ v x
found_mapped v xs k y x found is = let both : Some y ≡ Some (v x) = found ∙ slice_get-map v xs k ∙ ap (option_map v) is in cc

pub none_mapped : {A : Type 0} (v : A → List ℕ) (xs : List A) (k : ℕ) (x : A) → None ≡ slice_get (map v xs) k → slice_get xs k ≡ Some x → ⊥
none_mapped v xs k x found is = let both : None ≡ Some (v x) = found ∙ slice_get-map v xs k ∙ ap (option_map v) is in cc

-- of the texts of the first so many values a first part is sent, and the rest is gathered
abbrev pub Sending : {A : Type 0} → (A → List ℕ) → List A → ℕ → Option (List ℕ) → Option (List ℕ) → List ℕ → Type 0
Sending f xs n old new gathered = (sent : List ℕ) × Appends old new sent × (sent ++ gathered ≡ flat_map f (take n xs))

one_text_more : {A : Type 0} (f : A → List ℕ) (xs : List A) (n : ℕ) (x : A) → slice_get xs n ≡ Some x → flat_map f (take n xs) ++ f x ≡ flat_map f (take (n + 1) xs)
one_text_more f xs n x is =
    let more : take (n + 1) xs ≡ take n xs ++ x ∷ [] =
    take_more xs n x (slice_get_within xs n x is) ∙ ap (λ y. take n xs ++ y ∷ []) (get_or_from_slice_get xs n x x is) in
    sym (ap (flat_map f) more ∙ flat_map-append f (take n xs) (x ∷ []) ∙ ap (λ (zs : List ℕ). flat_map f (take n xs) ++ zs) (append-nil (f x)))

pub text_more : {A : Type 0} (f : A → List ℕ) (xs : List A) (n : ℕ) (x : A) (old between new : Option (List ℕ)) (gathered added kept : List ℕ)
    → slice_get xs n ≡ Some x → Sending f xs n old between gathered → added ≡ gathered ++ f x
    → (sent : List ℕ) × Appends between new sent × (sent ++ kept ≡ added)
    → Sending f xs (n + 1) old new kept
text_more f xs n x old between new gathered added kept is before added_is after =
    let sent = before.0 in let more = after.0 in (
      sent ++ more,
      appends-then old between new sent more before.1 after.1,
      append_assoc sent more kept
          ∙ ap (λ (zs : List ℕ). sent ++ zs) (after.2 ∙ added_is)
          ∙ sym (append_assoc sent gathered (f x))
          ∙ ap (λ (zs : List ℕ). zs ++ f x) before.2
          ∙ one_text_more f xs n x is,
    )

pub text_all : {A : Type 0} (f : A → List ℕ) (xs : List A) (n : ℕ) (old between new : Option (List ℕ)) (gathered : List ℕ)
    → length xs ≤ n → Sending f xs n old between gathered → Appends between new gathered → Appends old new (flat_map f xs)
text_all f xs n old between new gathered all before last =
    let whole : before.0 ++ gathered ≡ flat_map f xs = before.2 ∙ ap (flat_map f) (take_all n xs all) in
    subst (Appends old new) whole (appends-then old between new before.0 gathered before.1 last)
