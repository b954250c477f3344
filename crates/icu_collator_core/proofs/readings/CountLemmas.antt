-- How many characters readings take, and how many they leave.
use Rattle.std.proofs.Common.{◌≡◌, ℕ, zero, suc, ◌+◌, ◌<◌, ◌≤◌, ◌==◌, Bool, true, false, cond, ◌&&◌, ltb, List, [], ◌∷◌, ◌++◌, length, take, drop, refl, ap, ◌⊎◌, inl, inr, arith, length-append, length-drop, Option, Some, None}
use Rattle.std.specs.List.{list_all, prefix_len}
use Rattle.std.specs.Option.{unwrap_or, is_some}
use Rattle.std.proofs.lemmas.Bool.{and_parts, cond_both}
use Rattle.icu_normalizer_core.specs.Canonical.{Canonical}
use Rattle.icu_collator_types.specs.declared.elements.Element.{Element}
use Rattle.icu_collator_core.specs.Weights.{Weights}
use Rattle.icu_collator_core.specs.Defaults.{special_primary, primary_element}
use Rattle.icu_collator_core.specs.Elements.{Placed, Reading, Joining, characters_of, at_greatest, recorded_length, match_length, prefix_match, joining, text_match, text_reading, number_reading, is_before_accent, reading, elements_within}
use Rattle.icu_collator_core.proofs.readings.AlikeLemmas.{chosen_alike, reading_is}

pub joining_shrinks : (canonical : Canonical) (weights : Weights) (text : List ℕ) (between ms : List Placed)
    → length (joining canonical weights text between ms).left ≤ length between + length ms
unfolding joining
joining_shrinks canonical weights text between [] = omega arith
joining_shrinks canonical weights text between (m ∷ ms) =
    let longer = text ++ m.character ∷ []
    in let joined = joining_shrinks canonical weights longer between ms
    in let stays = joining_shrinks canonical weights text (between ++ m ∷ []) ms
    in let P : Joining → Type 0 = λ j. length j.left ≤ length between + suc (length ms)
    in cond_both (canonical.class m.character == 0) _ _ P
    (λ _. omega (arith, length-append between (m ∷ ms)))
    (λ _. cond_both (list_all (λ b. ltb (canonical.class b.character) (canonical.class m.character)) between && is_some (weights.recorded [] longer)) _ _ P
    (λ _. omega arith)
    (λ _. omega (arith, length-append between (m ∷ []))))

-- the longest recorded text is not longer than the list, and not empty
one_length : (b : Bool) (n : ℕ) (o : Option ℕ) → 0 < unwrap_or o 1 → (unwrap_or o 1 ≤ n) ⊎ (unwrap_or o 1 ≡ 1)
    → (0 < unwrap_or (elim (cond b (Some (suc n)) None) as (λ _. Option ℕ) [ Some x ↦ Some x | None ↦ o ]) 1)
    × ((unwrap_or (elim (cond b (Some (suc n)) None) as (λ _. Option ℕ) [ Some x ↦ Some x | None ↦ o ]) 1 ≤ suc n)
    ⊎ (unwrap_or (elim (cond b (Some (suc n)) None) as (λ _. Option ℕ) [ Some x ↦ Some x | None ↦ o ]) 1 ≡ 1))
one_length true n o h g = (omega arith, inl (omega arith))
one_length false n o h (inl g) = (h, inl (omega arith))
one_length false n o h (inr g) = (h, inr g)

length_bounds : (weights : Weights) (list : List ℕ) (n : ℕ)
    → (0 < unwrap_or (at_greatest (recorded_length weights list) n) 1)
    × ((unwrap_or (at_greatest (recorded_length weights list) n) 1 ≤ n) ⊎ (unwrap_or (at_greatest (recorded_length weights list) n) 1 ≡ 1))
unfolding at_greatest
length_bounds weights list zero = (omega arith, inr refl)
length_bounds weights list (suc n) =
    let rest = length_bounds weights list n
    in one_length (ltb 0 (suc n) && is_some (weights.recorded [] (take (suc n) list))) n (at_greatest (recorded_length weights list) n) rest.0 rest.1

pub match_filled : (weights : Weights) (list : List ℕ) → 0 < match_length weights list
match_filled weights list = (length_bounds weights list (length list)).0

pub match_within : (weights : Weights) (c : ℕ) (cs : List ℕ) → match_length weights (c ∷ cs) ≤ length (c ∷ cs)
match_within weights c cs =
    elim (length_bounds weights (c ∷ cs) (length (c ∷ cs))).1 [ inl h ↦ h | inr e ↦ omega arith ]

-- a reading leaves less
number_shrinks : (numeric : Bool) (weights : Weights) (p : Placed) (ps : List Placed) → (numeric && is_some (weights.digit p.character)) ≡ true
    → length (number_reading weights (p ∷ ps)).left ≤ length ps
unfolding number_reading
number_shrinks numeric weights p ps h =
    let both = and_parts numeric (is_some (weights.digit p.character)) h
    in let k = prefix_len (λ r. is_some (weights.digit r.character)) ps
    in rw both.1 (omega (arith, length-drop (1 + k) (p ∷ ps)))

text_shrinks : (canonical : Canonical) (weights : Weights) (c : ℕ) (p : Placed) (ps : List Placed)
    → length (text_reading canonical weights c (p ∷ ps)).left ≤ length ps
unfolding text_reading text_match
text_shrinks canonical weights c p ps =
    let list = characters_of (p ∷ ps)
    in let n = match_length weights list
    in let filled = match_filled weights list
    in let shrinks = joining_shrinks canonical weights (take n list) [] (drop n (p ∷ ps))
    in omega (arith, length-drop n (p ∷ ps))

pub reading_shrinks : (canonical : Canonical) (weights : Weights) (numeric : Bool) (p : Placed) (ps : List Placed)
    → length (reading canonical weights numeric p ps).left ≤ length ps
reading_shrinks canonical weights numeric p ps =
    let same : length ps ≤ length ps = omega arith
    in rw (reading_is canonical weights numeric p ps)
    (chosen_alike (λ (r s : Reading). length r.left ≤ length ps) (special_primary p.character) _ (λ s. record { elements = primary_element s ∷ []; left = ps })
    (numeric && is_some (weights.digit p.character)) _ (number_reading weights (p ∷ ps))
    (weights.dot_above && (p.character == 0x307) && is_before_accent ps) _ (record { elements = []; left = ps }) (prefix_match weights p)
    _ (λ es. record { elements = es; left = ps }) _ (text_reading canonical weights p.character (p ∷ ps))
    (λ s. same) (number_shrinks numeric weights p ps) same (λ es. same) (text_shrinks canonical weights p.character p ps))

-- more readings than are needed give the same
pub any_count : (canonical : Canonical) (weights : Weights) (numeric : Bool) (n m : ℕ) (ps : List Placed) → length ps ≤ n → length ps ≤ m
    → elements_within n canonical weights numeric ps ≡ elements_within m canonical weights numeric ps
unfolding elements_within
any_count canonical weights numeric zero zero ps h g = refl
any_count canonical weights numeric zero (suc m) [] h g = refl
any_count canonical weights numeric zero (suc m) (p ∷ ps) h g = absurd (omega arith)
any_count canonical weights numeric (suc n) zero [] h g = refl
any_count canonical weights numeric (suc n) zero (p ∷ ps) h g = absurd (omega arith)
any_count canonical weights numeric (suc n) (suc m) [] h g = refl
any_count canonical weights numeric (suc n) (suc m) (p ∷ ps) h g =
    let first = reading canonical weights numeric p ps
    in let shrinks = reading_shrinks canonical weights numeric p ps
    in ap (λ (w : List Element). first.elements ++ w) (any_count canonical weights numeric n m first.left (omega arith) (omega arith))
