-- Whether a character is unsafe, by itself or by the first of its full list; and what is known where it is not.
use Rattle.std.proofs.Common.{◌≡◌, ◌≢◌, ◌↔◌, inl, inr, ⊎_elim, ℕ, ◌<◌, ◌≤◌, Bool, true, false, IsTrue, List, [], ◌∷◌, ◌++◌, length, refl, ap, sym, subst, ◌∙◌, arith}
use Rattle.std.specs.Prelude.{◌==◌, slice_index}
use Rattle.std.specs.Char.{IsScalar}
use Rattle.std.specs.List.{Contains}
use Rattle.std.proofs.lemmas.Bool.{cases_lt, eqb-true, false≢true}
use Rattle.icu_normalizer_core.specs.Canonical.{Canonical, IsDecomposing, Leaves}
use Rattle.icu_collator_core.specs.UnsafeWords.{AreUnsafeByRecords}
use Rattle.icu_collator_core.specs.UnsafeCharacters.{IsSafe, IsUnsafeByRecords, IsUnsafe, IsUnsafeItself}
use Rattle.icu_collator_core.specs.Weights.{Weights}

module _ (canonical : Canonical) (weights : Weights) (c : ℕ) where
  -- a starter is unsafe by itself just where the list of unsafe characters holds it
  pub starter_is_unsafe : (unsafe_characters items : List ℕ) (starter held : Bool) → AreUnsafeByRecords weights unsafe_characters → items ≡ unsafe_characters → starter ≡ (canonical.class c == 0)
      → starter ≡ true → (IsTrue held ↔ Contains items c) → IsTrue held ↔ IsUnsafeItself canonical weights c
  starter_is_unsafe unsafe_characters items starter held are same told first by =
      let zero = eqb-true (canonical.class c) 0 (sym told ∙ first) in (
        λ t. inr ((are.all c).0 (subst (λ xs. Contains xs c) same (by.0 t))),
        λ s. ⊎_elim
            (λ (mark : canonical.class c ≢ 0). absurd (mark zero))
            (λ (is : IsUnsafeByRecords weights c). by.1 (subst (λ xs. Contains xs c) (sym same) ((are.all c).1 is)))
            s,
      )

  abbrev ByFirst : Type 0
  ByFirst = (first : ℕ) × (rest : List ℕ) × (canonical.full c ≡ first ∷ rest) × IsUnsafeItself canonical weights first

  -- a character that is not unsafe by itself is so just where the first of its full list is
  pub unsafe_by_first : (itself told : Bool) (first : ℕ) (rest : List ℕ) → itself ≡ false → (IsTrue itself ↔ IsUnsafeItself canonical weights c)
      → canonical.full c ≡ first ∷ rest → (IsTrue told ↔ IsUnsafeItself canonical weights first) → IsTrue told ↔ IsUnsafe canonical weights c
  unsafe_by_first itself told first rest none by_itself full by = (
    λ t. inr (first, rest, full, by.0 t),
    λ s. ⊎_elim
        (λ (own : IsUnsafeItself canonical weights c). absurd (false≢true (sym none ∙ by_itself.1 own)))
        (λ (other : ByFirst).
        let same : other.0 ≡ first = ap (λ xs. slice_index xs 0) (sym other.2 ∙ full) in
        by.1 (subst (IsUnsafeItself canonical weights) same other.3))
        s,
  )

-- what steps leave of something is something
left_some : (step : ℕ → List ℕ) (xs ys : List ℕ) → Leaves step xs ys → 1 ≤ length xs → 1 ≤ length ys
left_some step xs ys Leaves.nothing h = absurd (omega (arith, h))
left_some step xs ys (Leaves.unmapped c cs ms u k) h = omega arith
left_some step xs ys (Leaves.mapped c d ds cs ms u k) h = left_some step ((d ∷ ds) ++ cs) ms k (omega arith)

-- a character at which reading may begin, where it is not unsafe
pub safe_character : (canonical : Canonical) (weights : Weights) (c : ℕ) → IsDecomposing canonical → IsScalar c
    → (IsUnsafe canonical weights c → ⊥) → IsSafe canonical weights c
safe_character canonical weights c decomposing scalar not_unsafe = at (canonical.full c) refl
  where
    at : (xs : List ℕ) → canonical.full c ≡ xs → IsSafe canonical weights c
    at [] is =
        let some = left_some canonical.step (c ∷ []) (canonical.full c) (decomposing.ends c scalar) (omega arith) in
        let none = ap length is in
        absurd (omega (arith, some, none))
    at (first ∷ rest) is =
        let itself : IsUnsafeItself canonical weights first → ⊥ = λ own. not_unsafe (inr (first, rest, is, own)) in
        record {
          first = first;
          rest = rest;
          full = is;
          starter = ⊎_elim
              (λ (more : 0 < canonical.class first). absurd (itself (inl (λ zero. omega (arith, more, zero)))))
              (λ (less : canonical.class first ≤ 0). omega (arith, less))
              (cases_lt 0 (canonical.class first));
          stands_first = λ later. itself (inr (inl later));
          unprefixed = λ has. itself (inr (inr has));
        }
