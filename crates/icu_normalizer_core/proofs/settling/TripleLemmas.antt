-- Triples in rising order: where a character's stands.
use Rattle.std.proofs.Common.{◌≡◌, ◌≢◌, ℕ, zero, suc, ◌+◌, ◌-◌, ◌*◌, ◌/◌, ◌%◌, ◌<◌, ◌≤◌, ⊎_elim, List, [], ◌∷◌, length, slice_index, ◌==◌, refl, sym, ap, subst, ◌∙◌, arith}
use Rattle.std.proofs.lemmas.Bool.{cases_lt, cond-true, cond-false, eq-eqb, ne_eqb}
use Rattle.icu_normalizer_core.specs.CanonicalLists.{AreTriples, listed_step, mapping}
use Rattle.icu_normalizer_core.specs.Triples.{IsUnlisted, IsTripleOf, IsTripleAt}

-- keys rise
rises_by : (steps : List ℕ) → AreTriples steps → (i d : ℕ) → 3 * (i + suc d) < length steps → slice_index steps (3 * i) < slice_index steps (3 * (i + suc d))
rises_by steps t i zero h =
    let next : 3 * i + 3 < length steps = omega arith in
    let same : 3 * (i + suc zero) ≡ 3 * i + 3 = omega arith in
    rw same (t.rising i next)
rises_by steps t i (suc d) h =
    let before : slice_index steps (3 * i) < slice_index steps (3 * (i + suc d)) = rises_by steps t i d (omega arith) in
    let next : 3 * (i + suc d) + 3 < length steps = omega arith in
    let last : slice_index steps (3 * (i + suc d)) < slice_index steps (3 * (i + suc d) + 3) = t.rising (i + suc d) next in
    let same : 3 * (i + suc (suc d)) ≡ 3 * (i + suc d) + 3 = omega arith in
    rw same (omega arith)

pub keys_rise : (steps : List ℕ) → AreTriples steps → (i j : ℕ) → i < j → 3 * j < length steps → slice_index steps (3 * i) < slice_index steps (3 * j)
keys_rise steps t i j lt h =
    let same : j ≡ i + suc (j - i - 1) = omega arith in
    let far : 3 * (i + suc (j - i - 1)) < length steps = omega arith in
    let rises = rises_by steps t i (j - i - 1) far in
    subst (λ (k : ℕ). slice_index steps (3 * i) < slice_index steps (3 * k)) (sym same) rises

-- the keys before an index are below the character, and those from it on above
pub unlisted_between : (steps : List ℕ) (c index : ℕ) → AreTriples steps
    → (0 < index → slice_index steps (3 * (index - 1)) < c)
    → (3 * index < length steps → c < slice_index steps (3 * index))
    → 3 * index ≤ length steps
    → IsUnlisted steps c
unlisted_between steps c index t below above within i h same =
    ⊎_elim
    (λ before. let inside : 3 * (index - 1) < length steps = omega arith in ⊎_elim
    (λ lt. let first = keys_rise steps t i (index - 1) lt inside in let last = below (omega arith) in omega arith)
    (λ ge. let at : i ≡ index - 1 = omega arith in let last = below (omega arith) in
    let key : slice_index steps (3 * i) ≡ slice_index steps (3 * (index - 1)) = ap (λ (k : ℕ). slice_index steps (3 * k)) at in omega arith)
    (cases_lt i (index - 1)))
    (λ behind. ⊎_elim
    (λ lt. let last = keys_rise steps t index i lt h in let first = above (omega arith) in omega arith)
    (λ ge. let at : i ≡ index = omega arith in
    let key : slice_index steps (3 * i) ≡ slice_index steps (3 * index) = ap (λ (k : ℕ). slice_index steps (3 * k)) at in
    let first = above (omega arith) in omega arith)
    (cases_lt index i))
    (cases_lt i index)

-- ---- A character's mapping, by the index of its triple

pub further : (k a b : ℕ) (rest : List ℕ) (i d : ℕ) → slice_index (k ∷ a ∷ b ∷ rest) (3 * suc i + d) ≡ slice_index rest (3 * i + d)
further k a b rest i d = let e : 3 * suc i + d ≡ suc (suc (suc (3 * i + d))) = omega arith in rw e refl

further_key : (k a b : ℕ) (rest : List ℕ) (i : ℕ) → slice_index (k ∷ a ∷ b ∷ rest) (3 * suc i) ≡ slice_index rest (3 * i)
further_key k a b rest i = let e : 3 * suc i ≡ suc (suc (suc (3 * i))) = omega arith in rw e refl

pub listed_at : (steps : List ℕ) (c i : ℕ) → 3 * i + 2 < length steps → slice_index steps (3 * i) ≡ c
    → ((j : ℕ) → j < i → slice_index steps (3 * j) ≢ c)
    → listed_step steps c ≡ mapping (slice_index steps (3 * i + 1)) (slice_index steps (3 * i + 2))
unfolding listed_step
listed_at [] c i h e before = absurd (omega arith)
listed_at (k ∷ []) c i h e before = absurd (omega arith)
listed_at (k ∷ a ∷ []) c i h e before = absurd (omega arith)
listed_at (k ∷ a ∷ b ∷ rest) c zero h e before = cond-true (k == c) _ _ (eq-eqb k c e)
listed_at (k ∷ a ∷ b ∷ rest) c (suc i) h e before =
    let other : k ≢ c = before 0 (omega arith) in
    let later = listed_at rest c i (omega arith) (sym (further_key k a b rest i) ∙ e)
    (λ j lt same. before (suc j) (omega arith) (further_key k a b rest j ∙ same)) in
    cond-false (k == c) _ _ (ne_eqb k c other) ∙ later
    ∙ ap (λ (n : ℕ). mapping n (slice_index rest (3 * i + 2))) (sym (further k a b rest i 1))
    ∙ ap (λ (n : ℕ). mapping (slice_index (k ∷ a ∷ b ∷ rest) (3 * suc i + 1)) n) (sym (further k a b rest i 2))

pub listed_none : (steps : List ℕ) (c : ℕ) → IsUnlisted steps c → listed_step steps c ≡ []
unfolding listed_step
listed_none [] c none = refl
listed_none (k ∷ []) c none = refl
listed_none (k ∷ a ∷ []) c none = refl
listed_none (k ∷ a ∷ b ∷ rest) c none =
    let other : k ≢ c = none 0 (omega arith) in
    cond-false (k == c) _ _ (ne_eqb k c other) ∙ listed_none rest c (λ i h same. none (suc i) (omega arith) (further_key k a b rest i ∙ same))

-- the triple of a character in rising triples
pub listed_of : (steps : List ℕ) (c index : ℕ) → AreTriples steps → IsTripleOf steps c index
    → listed_step steps c ≡ mapping (slice_index steps (3 * index + 1)) (slice_index steps (3 * index + 2))
listed_of steps c index t is =
    listed_at steps c index is.0 is.1
    (λ j lt same. let rises = keys_rise steps t j index lt (omega arith) in let key = is.1 in omega arith)

-- ---- Triples, one by one

pub triple_at : (steps : List ℕ) (i : ℕ) → AreTriples steps → 3 * i + 2 < length steps → IsTripleAt steps i
triple_at steps i t h = record {
  character = t.characters i (omega arith);
  first = t.firsts i (omega arith);
  second = t.seconds i (omega arith);
  above = λ some.
      let same : 3 * (i - 1) + 3 ≡ 3 * i = omega arith in
      let before : 3 * (i - 1) ≡ 3 * i - 3 = omega arith in
      let rises = t.rising (i - 1) (omega arith) in
      subst (λ (n : ℕ). slice_index steps n < slice_index steps (3 * i)) before (subst (λ (n : ℕ). slice_index steps (3 * (i - 1)) < slice_index steps n) same rises);
}

pub triples_from : (steps : List ℕ) → length steps % 3 ≡ 0 → ((i : ℕ) → i < length steps / 3 → IsTripleAt steps i) → AreTriples steps
triples_from steps whole each = record {
  whole = whole;
  rising = λ i h.
      let next : 3 * suc i ≡ 3 * i + 3 = omega arith in
      let before : 3 * suc i - 3 ≡ 3 * i = omega arith in
      let above = (each (suc i) (omega arith)).above (omega arith) in
      subst (λ (n : ℕ). slice_index steps (3 * i) < slice_index steps n) next (subst (λ (n : ℕ). slice_index steps n < slice_index steps (3 * suc i)) before above);
  characters = λ i h. (each i (omega arith)).character;
  firsts = λ i h. (each i (omega arith)).first;
  seconds = λ i h. (each i (omega arith)).second;
}
