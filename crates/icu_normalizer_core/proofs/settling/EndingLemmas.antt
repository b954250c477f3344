-- Where no triple of a character without a built-in mapping is open, steps from each character end.
use Rattle.std.proofs.Common.{◌≡◌, ◌≢◌, ℕ, zero, suc, ◌*◌, ◌/◌, ◌%◌, ◌<◌, ◌⊎◌, inl, inr, ⊎_elim, List, [], ◌∷◌, ◌++◌, length, slice_index, slice_get, Option, None, Some, refl, sym, ap, subst, ◌∙◌, arith}
use Rattle.std.proofs.lemmas.Bool.{cases_eq, cases_lt}
use Rattle.icu_normalizer_core.specs.declared.canonical.check.left.Left.{Left}
use Rattle.icu_normalizer_core.specs.BuiltIn.{singled_out, built_in_step}
use Rattle.icu_normalizer_core.specs.Canonical.{Leaves, IsFree}
use Rattle.icu_normalizer_core.specs.CanonicalLists.{step_in, AreTriples}
use Rattle.icu_normalizer_core.specs.CanonicalWords.{syllable_letters}
use Rattle.icu_normalizer_core.specs.Triples.{IsUnlisted, IsTripleOf}
use Rattle.icu_normalizer_core.specs.Settled.{AreStarts, key_at}
use Rattle.icu_normalizer_core.proofs.settling.LeftLemmas.{left_alone, left_single, left_double}
use Rattle.icu_normalizer_core.proofs.settling.TripleLemmas.{listed_none}
use Rattle.icu_normalizer_core.proofs.accepted.TableMeanings.{step_in_built_in, step_in_free}
use Rattle.icu_normalizer_core.proofs.accepted.AcceptedTables.{cases_step}
use Rattle.icu_normalizer_core.proofs.built.BuiltInFacts.{all_singled_out, built_in_cases, syllable_left}

-- the character is that of one of so many triples, or of none
search_below : (steps : List ℕ) (c n : ℕ) → ((i : ℕ) → i < n → slice_index steps (3 * i) ≢ c) ⊎ ((i : ℕ) × (i < n) × (slice_index steps (3 * i) ≡ c))
search_below steps c zero = inl (λ i h. absurd (omega arith))
search_below steps c (suc n) =
    ⊎_elim
    (λ here. inr (n, omega arith, here))
    (λ other. ⊎_elim
    (λ none. inl (λ i h same. ⊎_elim
    (λ before. none i before same)
    (λ last. let at : i ≡ n = omega arith in other (sym (ap (λ (k : ℕ). slice_index steps (3 * k)) at) ∙ same))
    (cases_lt i n)))
    (λ found. inr (found.0, (let h = found.1 in omega arith), found.2))
    (search_below steps c n))
    (cases_eq (slice_index steps (3 * n)) c)

pub listed_or_not : (steps : List ℕ) (c : ℕ) → length steps % 3 ≡ 0 → IsUnlisted steps c ⊎ ((i : ℕ) × IsTripleOf steps c i)
listed_or_not steps c whole =
    ⊎_elim
    (λ none. inl (λ i h. none i (omega arith)))
    (λ found. inr (found.0, ((let h = found.1 in omega arith), found.2)))
    (search_below steps c (length steps / 3))

pub got_cases : (xs : List (Option Left)) (i : ℕ) → i < length xs → (slice_get xs i ≡ Some None) ⊎ ((left : Left) × (slice_get xs i ≡ Some (Some left)))
got_cases [] i h = absurd (omega arith)
got_cases (None ∷ xs) zero h = inl refl
got_cases (Some left ∷ xs) zero h = inr (left, refl)
got_cases (x ∷ xs) (suc i) h = got_cases xs i (omega arith)

-- steps from the character end
abbrev pub EndsIn : List ℕ → ℕ → Type 0
EndsIn steps c = (list : List ℕ) × Leaves (step_in steps) (c ∷ []) list

-- no triple of a character without a built-in mapping is open
abbrev pub NoneOpen : List ℕ → List (Option Left) → Type 0
NoneOpen steps settled = (i : ℕ) → i < length settled → IsFree (key_at steps i) → slice_get settled i ≡ Some None → ⊥

module _ (steps : List ℕ) (settled : List (Option Left)) (t : AreTriples steps) (starts : AreStarts steps settled) (none_open : NoneOpen steps settled) where
  triple_ends : (c i : ℕ) → IsFree c → IsTripleOf steps c i → EndsIn steps c
  triple_ends c i free is =
      let inside : i < length settled = let n = starts.count in let h = is.0 in omega arith in
      let key : IsFree (key_at steps i) = subst (λ (k : ℕ). IsFree k) (sym is.1) free in
      ⊎_elim
      (λ e. absurd (none_open i inside key e))
      (λ w. let s = starts.each i w.0 w.1 key in (s.0, subst (λ (k : ℕ). Leaves (step_in steps) (k ∷ []) s.0) is.1 s.1))
      (got_cases settled i inside)

  free_ends : (c : ℕ) → IsFree c → EndsIn steps c
  free_ends c free =
      ⊎_elim
      (λ none. (c ∷ [], left_alone (step_in steps) c (step_in_free steps c free ∙ listed_none steps c none)))
      (λ w. triple_ends c w.0 free w.1)
      (listed_or_not steps c t.whole)

  one_ends : (c a : ℕ) → built_in_step c ≡ Some (a ∷ []) → IsFree a → EndsIn steps c
  one_ends c a e free =
      let s = free_ends a free in (s.0, left_single (step_in steps) c a s.0 (step_in_built_in steps c (a ∷ []) e) s.1)

  two_end : (c a b : ℕ) → built_in_step c ≡ Some (a ∷ b ∷ []) → IsFree a → IsFree b → EndsIn steps c
  two_end c a b e first second =
      let s = free_ends a first in
      let r = free_ends b second in
      (s.0 ++ r.0, left_double (step_in steps) c a b s.0 r.0 (step_in_built_in steps c (a ∷ b ∷ []) e) s.1 r.1)

  singled_ends : (c : ℕ) (ds : List ℕ) → singled_out c ≡ Some ds → EndsIn steps c
  unfolding built_in_step singled_out
  singled_ends =
      all_singled_out (λ c ds. EndsIn steps c) (one_ends 0x340 0x300 refl refl) (one_ends 0x341 0x301 refl refl) (one_ends 0x343 0x313 refl refl)
      (two_end 0x344 0x308 0x301 refl refl refl) (two_end 0xf73 0xf71 0xf72 refl refl refl) (two_end 0xf75 0xf71 0xf74 refl refl refl)
      (two_end 0xf81 0xf71 0xf80 refl refl refl)

  pub each_ends : (c : ℕ) → EndsIn steps c
  each_ends c =
      ⊎_elim
      (λ free. free_ends c free)
      (λ b. ⊎_elim
      (λ w. (syllable_letters c, syllable_left (step_in steps) (step_in_built_in steps) c w.0))
      (λ w. ⊎_elim
      (λ none. (c ∷ [], left_alone (step_in steps) c (step_in_built_in steps c b.0 b.1 ∙ none)))
      (λ one. singled_ends c b.0 one) w)
      (built_in_cases c b.0 b.1))
      (cases_step (built_in_step c))
