-- Characters of units, one after another.
use Rattle.std.proofs.Common.{◌≡◌, ℕ, Bool, true, false, cond, ◌&&◌, List, [], ◌∷◌, ap, ◌⊎◌, inl, inr, Option, Some, None}
use Rattle.std.specs.Option.{option_map}
use Rattle.std.proofs.lemmas.Option.{none-some}
use Rattle.icu_normalizer_core.specs.BuiltIn.{is_within}
use Rattle.icu_collator_core.specs.ContextRules.{characters_of_units, is_upper_half, is_lower_half, joined_halves}

-- a unit that is no half is a character
pub whole_unit : (unit : ℕ) (rest : List ℕ) → is_within 0xd800 0xdfff unit ≡ false
    → characters_of_units (unit ∷ rest) ≡ option_map (λ cs. unit ∷ cs) (characters_of_units rest)
unfolding characters_of_units
whole_unit unit [] e = ap (λ b. cond b None (Some (unit ∷ []))) e
whole_unit unit (next ∷ rest) e =
    ap (λ b. cond b (cond (is_upper_half unit && is_lower_half next) (option_map (λ cs. joined_halves unit next ∷ cs) (characters_of_units rest)) None)
    (option_map (λ cs. unit ∷ cs) (characters_of_units (next ∷ rest)))) e

-- two units of which the first is a half
pub two_units : (unit next : ℕ) (rest : List ℕ) → is_within 0xd800 0xdfff unit ≡ true
    → characters_of_units (unit ∷ next ∷ rest)
    ≡ cond (is_upper_half unit && is_lower_half next) (option_map (λ cs. joined_halves unit next ∷ cs) (characters_of_units rest)) None
unfolding characters_of_units
two_units unit next rest e =
    ap (λ b. cond b (cond (is_upper_half unit && is_lower_half next) (option_map (λ cs. joined_halves unit next ∷ cs) (characters_of_units rest)) None)
    (option_map (λ cs. unit ∷ cs) (characters_of_units (next ∷ rest)))) e

pub branched : (b d : Bool) (x y : Option (List ℕ)) (cs : List ℕ) → cond b (cond d x None) y ≡ Some cs → (x ≡ Some cs) ⊎ (y ≡ Some cs)
branched true true x y cs e = inl e
branched true false x y cs e = absurd (none-some cs e)
branched false d x y cs e = inr e
