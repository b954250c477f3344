-- A cursor that is given the characters of a text one after another.
use Rattle.std.proofs.Common.{◌≡◌, ℕ, ◌+◌, ◌-◌, ◌<◌, ◌/◌, ◌%◌, Bool, true, false, if◌then◌else◌, List, [], ◌∷◌, ◌++◌, length, refl, ap, ◌∙◌, arith, append-nil}
use Rattle.std.specs.Prelude.{flat_map, ltb}
use Rattle.std.proofs.lemmas.Grind.{flat_map-append}
use Rattle.icu_char16trie.specs.Cursors.{answer_to, follow, state_of, units_of}
use Rattle.icu_char16trie.specs.UnitSteps.{step}
use Rattle.icu_char16trie.specs.declared.node.State.{State}

pub follow_on : (units : List ℕ) (state : State) (xs ys : List ℕ) → follow units state (xs ++ ys) ≡ follow units (follow units state xs) ys
follow_on units state [] ys = refl
follow_on units state (x ∷ xs) ys = follow_on units (state_of (step units state x)) xs ys

answer_on : (units : List ℕ) (state : State) (xs : List ℕ) (y : ℕ) (ys : List ℕ)
    → answer_to units state (xs ++ (y ∷ ys)) ≡ answer_to units (follow units state xs) (y ∷ ys)
answer_on units state [] y ys = refl
answer_on units state (x ∷ []) y ys = refl
answer_on units state (x ∷ next ∷ xs) y ys = answer_on units (state_of (step units state x)) (next ∷ xs) y ys

answer_further : (units : List ℕ) (state : State) (xs ys : List ℕ) → 0 < length ys
    → answer_to units state (xs ++ ys) ≡ answer_to units (follow units state xs) ys
answer_further units state xs [] some = absurd (omega (arith, some))
answer_further units state xs (y ∷ ys) some = answer_on units state xs y ys

some_units : (c : ℕ) → 0 < length (units_of c)
some_units c = by_size (ltb c 0x10000)
  where
    by_size : (b : Bool) → 0 < length (if b then c ∷ [] else ((0xd800 + (c - 0x10000) / 0x400) ∷ (0xdc00 + c % 0x400) ∷ []))
    by_size true = omega arith
    by_size false = omega arith

-- the answer to a character more
pub answer_with : (units : List ℕ) (state : State) (xs : List ℕ) (c : ℕ)
    → answer_to units state (xs ++ units_of c) ≡ answer_to units (follow units state xs) (units_of c)
answer_with units state xs c = answer_further units state xs (units_of c) (some_units c)

-- the units of a text with a character more
pub units_with : (cs : List ℕ) (c : ℕ) → flat_map units_of (cs ++ c ∷ []) ≡ flat_map units_of cs ++ units_of c
units_with cs c = flat_map-append units_of cs (c ∷ []) ∙ ap (λ xs. flat_map units_of cs ++ xs) (append-nil (units_of c))
