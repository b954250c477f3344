-- Notes of low characters.
use Rattle.std.specs.List.{AllByRecursion, list_all}
use Rattle.icu_normalizer.specs.LoneMarks.{IsSteadyUpTo}
use Rattle.std.proofs.Common.{◌≡◌, ℕ, suc, ◌+◌, ◌-◌, ◌<◌, ◌≤◌, ⊎_elim, true, false, not, ltb, List, [], ◌∷◌, ◌++◌, length, take, sym, ap, subst, ◌∙◌, arith}
use Rattle.std.proofs.lemmas.Bool.Decides.{nat_tests}
use Rattle.std.proofs.lemmas.Bool.{and_parts, cases_lt}
use Rattle.std.proofs.lemmas.List.{get_or_append_left, get_or_push, length_push}
use Rattle.icu_normalizer_core.specs.Boundaries.{IsSteady}
use Rattle.icu_normalizer_core.specs.Canonical.{Canonical}
use Rattle.icu_normalizer.specs.declared.form_notes.FormNote.{FormNote}
use Rattle.icu_normalizer.specs.FormNotes.{AreLow, IsListed, IsLow, IsSteadyNote, noted_list}

-- where there are none yet
pub none_low : (canonical : Canonical) → AreLow canonical []
none_low canonical c other lt = absurd (omega (arith, lt))

-- one of the next character
pub low_more : (canonical : Canonical) (notes : List FormNote) (note : FormNote) (code : ℕ) → length notes ≡ code
    → IsLow canonical code note → AreLow canonical notes → AreLow canonical (notes ++ note ∷ [])
low_more canonical notes note code many is are c other lt =
    let more : length (notes ++ note ∷ []) ≡ length notes + 1 = length_push notes note in
    ⊎_elim
    (λ (before : c < code).
    let inside : c < length notes = omega arith in
    subst (λ (n : FormNote). IsLow canonical c n) (sym (get_or_append_left notes (note ∷ []) other c inside)) (are c other inside))
    (λ (behind : code ≤ c).
    let here : c ≡ code = omega arith in
    let last : length notes ≡ c = omega arith in
    subst (λ (n : FormNote). IsLow canonical c n) (sym (get_or_push notes note other c last)) (subst (λ (d : ℕ). IsLow canonical d note) (sym here) is))
    (cases_lt c code)

-- nothing is noted
pub nothing_listed : (canonical : Canonical) (list : List ℕ) (note : FormNote) → note.len ≡ 0 → IsListed canonical list note
nothing_listed canonical list note none = record {
  within = omega (arith, none);
  highest = λ some. absurd (omega (arith, none, some));
  list_is = λ some. absurd (omega (arith, none, some));
  stands = λ some. absurd (omega (arith, none, some));
}

pub nothing_low : (canonical : Canonical) (c : ℕ) (note : FormNote) → note.len ≡ 0 → note.steady ≡ false → IsLow canonical c note
nothing_low canonical c note none unsteady = record {
  listed = nothing_listed canonical (canonical.full c) note none;
  alone = λ one. absurd (omega (arith, none, one));
  steady = λ steady. absurd (cc (unsteady, steady));
}

-- no class is above the highest
none_above : (class : ℕ → ℕ) (xs : List ℕ) (high n : ℕ) → high ≤ n → list_all (λ d. not (ltb high (class d))) xs ≡ true → AllByRecursion (λ d. class d ≤ n) xs
none_above class [] high n le h = tt
none_above class (x ∷ xs) high n le h =
    let parts = and_parts (not (ltb high (class x))) (list_all (λ d. not (ltb high (class d))) xs) h in
    let first : class x ≤ high = grind (arith, nat_tests, parts.0) in
    (omega (arith, first, le), none_above class xs high n le parts.1)

-- the list that is noted, by its first character
noted_first : (note : FormNote) → 0 < note.len → noted_list note ≡ note.first ∷ take (note.len - 1) (note.second ∷ note.third ∷ [])
noted_first note some =
    let on : note.len ≡ suc (note.len - 1) = omega (arith, some) in ap (λ k. take k (note.first ∷ note.second ∷ note.third ∷ [])) on

same_first : (x y : ℕ) (xs ys : List ℕ) → x ∷ xs ≡ y ∷ ys → x ≡ y
same_first x y xs ys e = cc

-- a note of a steady character
pub steady_noted : (canonical : Canonical) (c n : ℕ) (note : FormNote) → IsLow canonical c note → note.steady ≡ true → note.class ≤ n → IsSteadyUpTo canonical c n
steady_noted canonical c n note low steady le =
    let is = low.steady steady in (
      ((note.first, take (note.len - 1) (note.second ∷ note.third ∷ []), low.listed.list_is is.some ∙ noted_first note is.some, is.starter, is.apart), is.own),
      none_above canonical.class (canonical.full c) note.class n le (low.listed.highest is.some),
    )

-- and what such a note says
pub steady_note : (canonical : Canonical) (c : ℕ) (note : FormNote) → 0 < note.len → IsListed canonical (canonical.full c) note → IsSteady canonical c → IsSteadyNote canonical c note
steady_note canonical c note some listed steady =
    let same : steady.0.0 ≡ note.first = same_first _ _ _ _ (sym steady.0.2 ∙ listed.list_is some ∙ noted_first note some) in
    record {
      some = some;
      starter = ap canonical.class (sym same) ∙ steady.0.3;
      apart = λ a. ap (canonical.pair a) (sym same) ∙ steady.0.4 a;
      own = steady.1;
    }
