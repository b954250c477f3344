-- The primaries of characters in a range that keeps the rule on ranges.
use Rattle.std.proofs.Common.{◌≡◌, ◌≢◌, ℕ, ◌<◌, ◌≤◌, ◌+◌, ◌*◌, ◌-◌, ◌/◌, ◌%◌, ◌^◌, Bool, true, false, cond, [], ◌∷◌, refl, sym, arith}
use Rattle.std.proofs.lemmas.Bool.{and_parts, le-leb, leb-true, eqb-true, eqb-false, ne_eqb}
use Rattle.std.specs.Prelude.{◌==◌, ◌||◌, not, leb}
use Rattle.icu_normalizer_core.specs.BuiltIn.{is_within}
use Rattle.icu_collator_types.specs.declared.elements.Element.{Element}
use Rattle.icu_collator_core.specs.Weights.{Range, Weights}
use Rattle.icu_collator_core.specs.Defaults.{primary_of, moved_primary, range_primary}
use Rattle.icu_collator_core.specs.Numbers.{without_last_zeros}
use Rattle.icu_collator_core.specs.WeightRules.{is_letter_lead, is_sound_primary, is_sound_range, is_of_other_lead, is_sound_ranged, is_beside_ranged}

-- two bytes before 00
two_left : (s t : ℕ) → (t == 0) ≡ false → without_last_zeros (s ∷ t ∷ 0 ∷ []) ≡ s ∷ t ∷ []
unfolding without_last_zeros
two_left s t h = rw (without_last_zeros, h) refl

-- a primary of these three bytes keeps the rules
bytes_sound : (weights : Weights) (p l s t : ℕ) → p / 2 ^ 24 ≡ l → p / 2 ^ 16 % 256 ≡ s → p / 2 ^ 8 % 256 ≡ t → p % 256 ≡ 0
    → is_letter_lead l ≡ true → (l == weights.numeric_lead) ≡ false → 2 ≤ s → 2 ≤ t → (not (weights.is_compressible l) || is_within 0x04 0xfe s) ≡ true
    → is_sound_ranged weights p ≡ true
bytes_sound weights p l s t first second third fourth letter differs low some room =
    let filled : (t == 0) ≡ false = ne_eqb t 0 (λ e. omega (arith, some, e))
    in rw (first, second, third, fourth, two_left s t filled, letter, differs, le-leb 2 s low, le-leb 2 t some, room, filled) refl

-- the second bytes that stand under a lead
abbrev spread : Bool → ℕ → ℕ
spread k n = cond k 4 2 + n % cond k 251 254

spread_bounds : (k : Bool) (n : ℕ) → (2 ≤ spread k n) × (spread k n < 256)
spread_bounds true n = (omega arith, omega arith)
spread_bounds false n = (omega arith, omega arith)

spread_room : (k : Bool) (n : ℕ) → (not k || is_within 0x04 0xfe (spread k n)) ≡ true
spread_room true n = rw (le-leb 4 (4 + n % 251) (omega arith), le-leb (4 + n % 251) 0xfe (omega arith)) refl
spread_room false n = refl

not_true : (b : Bool) → not b ≡ true → b ≡ false
not_true true h = sym h
not_true false h = refl

letter_high : (l : ℕ) → is_letter_lead l ≡ true → 3 ≤ l
letter_high l h = leb-true 3 l (and_parts (leb 3 l) _ h).0

-- the lead of a range that keeps the rule
range_lead : (weights : Weights) (range : Range) → is_sound_range weights range ≡ true
    → (is_letter_lead (range.primary / 2 ^ 24) ≡ true) × ((range.primary / 2 ^ 24 == weights.numeric_lead) ≡ false)
range_lead weights range h =
    let seventh = and_parts _ _ h
    in let sixth = and_parts _ _ seventh.0
    in let fifth = and_parts _ _ sixth.0
    in let fourth = and_parts _ _ fifth.0
    in let primary : is_sound_primary weights range.primary ≡ true = (and_parts _ _ fourth.0).1
    in let room = and_parts _ _ primary
    in let inner = and_parts _ _ room.0
    in let filled = and_parts _ _ inner.0
    in let differs = and_parts _ _ filled.0
    in (differs.0, not_true _ differs.1)

pub range_primary_sound : (weights : Weights) (range : Range) (c : ℕ) → is_sound_range weights range ≡ true
    → is_sound_ranged weights (range_primary weights.is_compressible range c) ≡ true
unfolding range_primary moved_primary
range_primary_sound weights range c h = at _ _
  where
    lead : ℕ
    lead = range.primary / 2 ^ 24

    at : (n m : ℕ) → is_sound_ranged weights (primary_of lead (spread (weights.is_compressible lead) n) (2 + m % 254) 0) ≡ true
    at n m =
        let k = weights.is_compressible lead
        in let s = spread k n
        in let bounds = spread_bounds k n
        in let third : 2 + m % 254 < 256 = omega arith
        in let both = range_lead weights range h
        in bytes_sound weights (primary_of lead s (2 + m % 254) 0) lead s (2 + m % 254)
        (omega (arith, bounds.1, third)) (omega (arith, bounds.1, third)) (omega (arith, third)) (omega arith)
        both.0 both.1 bounds.0 (omega arith) (spread_room k n)

pub moved_lead : (compressible : Bool) (primary by : ℕ) → moved_primary compressible primary by / 2 ^ 24 ≡ primary / 2 ^ 24
unfolding moved_primary
moved_lead compressible primary by = at _ _
  where
    at : (n m : ℕ) → primary_of (primary / 2 ^ 24) (spread compressible n) (2 + m % 254) 0 / 2 ^ 24 ≡ primary / 2 ^ 24
    at n m = let bounds = spread_bounds compressible n in omega (arith, bounds.1)

pub other_lead_beside : (weights : Weights) (range : Range) (c : ℕ) (e : Element) → is_sound_range weights range ≡ true → is_of_other_lead range e ≡ true
    → is_beside_ranged (range_primary weights.is_compressible range c) e ≡ true
unfolding range_primary
other_lead_beside weights range c e h other =
    let lead = range.primary / 2 ^ 24
    in let high = letter_high lead (range_lead weights range h).0
    in let differs : e.primary / 2 ^ 24 ≢ lead = λ same. by_test (e.primary == 0) refl same high other
    in rw (moved_lead (weights.is_compressible lead) range.primary ((c - range.first) * range.step), ne_eqb (e.primary / 2 ^ 24) lead differs) refl
  where
    by_test : (b : Bool) → (e.primary == 0) ≡ b → e.primary / 2 ^ 24 ≡ range.primary / 2 ^ 24 → 3 ≤ range.primary / 2 ^ 24
        → (b || not (e.primary / 2 ^ 24 == range.primary / 2 ^ 24)) ≡ true → ⊥
    by_test true is same high k = let none = eqb-true e.primary 0 is in omega (arith, none, same, high)
    by_test false is same high k = eqb-false _ _ (not_true _ k) same
