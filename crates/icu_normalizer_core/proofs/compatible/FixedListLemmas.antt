-- The full lists that are fixed for characters.
use Rattle.std.proofs.Common.{◌≡◌, ℕ, ◌<◌, ◌≤◌, ⊎_elim, cond, ltb, ◌==◌, List, [], ◌∷◌, length, take, Option, Some, None, sym, ap, subst, ◌∙◌, arith}
use Rattle.std.proofs.lemmas.List.{take_all}
use Rattle.std.proofs.lemmas.Bool.{cases_Bool, cases_lt, cond-true, cond-false, lt-ltb, le-ltb}
use Rattle.std.proofs.lemmas.Bool.Decides.{nat_tests}
use Rattle.std.proofs.lemmas.Option.{none-some, same_Some}
use Rattle.icu_normalizer_core.specs.BuiltIn.{built_in_compatibility_step}
use Rattle.icu_normalizer_core.specs.CanonicalWords.{built_in_full}
use Rattle.icu_normalizer_core.specs.Compatibility.{fixed_list}
use Rattle.icu_normalizer_core.proofs.accepted.AcceptedTables.{cases_step}
use Rattle.icu_normalizer_core.proofs.built.BuiltInFacts.{free_full, free_past}
use Rattle.icu_normalizer_core.proofs.faults.BuiltInTestLemmas.{full_short, short_start}

abbrev fixed_from : ℕ → Option (List ℕ) → Option (List ℕ)
fixed_from c o = elim o [ Some list ↦ Some list | None ↦ cond (ltb c 0xa0) (Some (c ∷ [])) (built_in_compatibility_step c) ]

pub fixed_built : (c : ℕ) (list : List ℕ) → built_in_full c ≡ Some list → fixed_list c ≡ Some list
unfolding fixed_list
fixed_built c list e = ap (fixed_from c) e

pub fixed_low : (c : ℕ) → built_in_full c ≡ None → c < 0xa0 → fixed_list c ≡ Some (c ∷ [])
unfolding fixed_list
fixed_low c e h = ap (fixed_from c) e ∙ cond-true (ltb c 0xa0) (Some (c ∷ [])) (built_in_compatibility_step c) (lt-ltb c 0xa0 h)

pub fixed_step : (c : ℕ) → built_in_full c ≡ None → 0xa0 ≤ c → fixed_list c ≡ built_in_compatibility_step c
unfolding fixed_list
fixed_step c e h = ap (fixed_from c) e ∙ cond-false (ltb c 0xa0) (Some (c ∷ [])) (built_in_compatibility_step c) (le-ltb c 0xa0 h)

no_step_past : (c : ℕ) → 0x10000 ≤ c → built_in_compatibility_step c ≡ None
unfolding built_in_compatibility_step
no_step_past c h = grind (arith, nat_tests)

-- nothing is fixed from U+10000 on
pub fixed_past : (c : ℕ) → 0x10000 ≤ c → fixed_list c ≡ None
fixed_past c h = fixed_step c (free_full c (free_past c h)) (omega arith) ∙ no_step_past c h

abbrev IsShort : List ℕ → Type 0
IsShort list = length list ≤ 3

step_short : (c : ℕ) (list : List ℕ) → built_in_compatibility_step c ≡ Some list → IsShort list
unfolding built_in_compatibility_step
step_short c list e =
    let other = cond (c == 0xff9f) (Some (0x309a ∷ [])) None in
    ⊎_elim
    (λ t. subst IsShort (same_Some (0x3099 ∷ []) list (sym (cond-true (c == 0xff9e) (Some (0x3099 ∷ [])) other t) ∙ e)) (omega arith))
    (λ f.
    let rest = sym (cond-false (c == 0xff9e) (Some (0x3099 ∷ [])) other f) ∙ e in
    ⊎_elim
    (λ t. subst IsShort (same_Some (0x309a ∷ []) list (sym (cond-true (c == 0xff9f) (Some (0x309a ∷ [])) None t) ∙ rest)) (omega arith))
    (λ g. absurd (none-some list (sym (cond-false (c == 0xff9f) (Some (0x309a ∷ [])) None g) ∙ rest)))
    (cases_Bool (c == 0xff9f)))
    (cases_Bool (c == 0xff9e))

fixed_short : (c : ℕ) (list : List ℕ) → fixed_list c ≡ Some list → IsShort list
fixed_short c list e =
    ⊎_elim
    (λ none. ⊎_elim
    (λ low. subst IsShort (same_Some (c ∷ []) list (sym (fixed_low c none low) ∙ e)) (omega arith))
    (λ high. step_short c list (sym (fixed_step c none high) ∙ e))
    (cases_lt c 0xa0))
    (λ some. subst IsShort (same_Some some.0 list (sym (fixed_built c some.0 some.1) ∙ e)) (full_short c some.0 some.1))
    (cases_step (built_in_full c))

-- a full list is the fixed one just where its first nine characters are
pub fixed_good : (c : ℕ) (list start full : List ℕ) → fixed_list c ≡ Some list → start ≡ take 9 full → start ≡ list → full ≡ list
fixed_good c list start full e is same = let short = fixed_short c list e in short_start 9 full list (omega arith) (sym is ∙ same)

pub fixed_bad : (c : ℕ) (list start full : List ℕ) → fixed_list c ≡ Some list → start ≡ take 9 full → full ≡ list → start ≡ list
fixed_bad c list start full e is same = let short = fixed_short c list e in is ∙ ap (take 9) same ∙ take_all 9 list (omega arith)
