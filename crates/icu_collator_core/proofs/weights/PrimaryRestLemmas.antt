-- The bytes of a primary after its lead, where it is known how many stand before those of 00 at the end.
use Rattle.std.proofs.Common.{◌≡◌, ℕ, ◌/◌, ◌%◌, ◌^◌, Bool, true, false, cond, List, [], ◌∷◌, refl, sym, ◌∙◌, ap}
use Rattle.std.specs.Prelude.{◌==◌, ◌&&◌, not, leb}
use Rattle.std.proofs.lemmas.Bool.{cond-false, cond-true, eqb-true}
use Rattle.icu_collator_core.specs.Numbers.{without_last_zeros}
use Rattle.icu_collator_core.specs.WeightRules.{are_inner_bytes, is_empty, primary_rest}

-- a number before what is left of others
unfoldable pub before_left : ℕ → List ℕ → List ℕ
before_left p [] = cond (p == 0) [] (p ∷ [])
before_left p (q ∷ qs) = p ∷ q ∷ qs

pub left_of_cons : (p : ℕ) (ps : List ℕ) → without_last_zeros (p ∷ ps) ≡ before_left p (without_last_zeros ps)
unfolding without_last_zeros before_left
left_of_cons p ps =
    elim (without_last_zeros ps) as (λ r. elim r [ [] ↦ cond (p == 0) [] (p ∷ []) | q ∷ qs ↦ p ∷ q ∷ qs ] ≡ before_left p r) [ [] ↦ refl | q ∷ qs ↦ refl ]

before_some : (p q : ℕ) (ps qs : List ℕ) → without_last_zeros ps ≡ q ∷ qs → without_last_zeros (p ∷ ps) ≡ p ∷ q ∷ qs
unfolding before_left
before_some p q ps qs h = left_of_cons p ps ∙ ap (before_left p) h

before_none : (p : ℕ) (ps : List ℕ) → without_last_zeros ps ≡ [] → without_last_zeros (p ∷ ps) ≡ cond (p == 0) [] (p ∷ [])
unfolding before_left
before_none p ps h = left_of_cons p ps ∙ ap (before_left p) h

last_kept : (p : ℕ) (ps : List ℕ) → without_last_zeros ps ≡ [] → (p == 0) ≡ false → without_last_zeros (p ∷ ps) ≡ p ∷ []
last_kept p ps h e = before_none p ps h ∙ cond-false (p == 0) [] (p ∷ []) e

last_gone : (p : ℕ) (ps : List ℕ) → without_last_zeros ps ≡ [] → (p == 0) ≡ true → without_last_zeros (p ∷ ps) ≡ []
last_gone p ps h e = before_none p ps h ∙ cond-true (p == 0) [] (p ∷ []) e

pub nothing : without_last_zeros [] ≡ []
unfolding without_last_zeros
nothing = refl

and_true : (b : Bool) → (b && true) ≡ b
and_true true = refl
and_true false = refl

-- whether there are bytes, none of them one that ends or separates levels
abbrev is_sound : List ℕ → Bool
is_sound bytes = not (is_empty bytes) && are_inner_bytes bytes

pub three_left : (p : ℕ) → (p % 256 == 0) ≡ false
    → (not (is_empty (primary_rest p)) && are_inner_bytes (primary_rest p))
    ≡ are_inner_bytes (p / 2 ^ 16 % 256 ∷ p / 2 ^ 8 % 256 ∷ p % 256 ∷ [])
three_left p h = ap is_sound (before_some _ _ _ _ (before_some _ _ _ _ (last_kept (p % 256) [] nothing h)))

pub two_left : (p : ℕ) → (p % 256 == 0) ≡ true → (p / 2 ^ 8 % 256 == 0) ≡ false
    → (not (is_empty (primary_rest p)) && are_inner_bytes (primary_rest p))
    ≡ are_inner_bytes (p / 2 ^ 16 % 256 ∷ p / 2 ^ 8 % 256 ∷ [])
two_left p h g = ap is_sound (before_some _ _ _ _ (last_kept (p / 2 ^ 8 % 256) _ (last_gone (p % 256) [] nothing h) g))

pub one_left : (p : ℕ) → (p % 256 == 0) ≡ true → (p / 2 ^ 8 % 256 == 0) ≡ true
    → (not (is_empty (primary_rest p)) && are_inner_bytes (primary_rest p)) ≡ leb 2 (p / 2 ^ 16 % 256)
one_left p h g = at (p / 2 ^ 16 % 256 == 0) refl
  where
    behind : without_last_zeros (p / 2 ^ 8 % 256 ∷ p % 256 ∷ []) ≡ []
    behind = last_gone (p / 2 ^ 8 % 256) _ (last_gone (p % 256) [] nothing h) g

    at : (b : Bool) → (p / 2 ^ 16 % 256 == 0) ≡ b
        → (not (is_empty (primary_rest p)) && are_inner_bytes (primary_rest p)) ≡ leb 2 (p / 2 ^ 16 % 256)
    at false e = ap is_sound (last_kept (p / 2 ^ 16 % 256) _ behind e) ∙ and_true (leb 2 (p / 2 ^ 16 % 256))
    at true e = ap is_sound (last_gone (p / 2 ^ 16 % 256) _ behind e) ∙ ap (leb 2) (sym (eqb-true (p / 2 ^ 16 % 256) 0 e))
