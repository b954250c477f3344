-- Characters below U+0300 that are as they should be at each beginning of parts.
use Rattle.std.proofs.Common.{◌≡◌, ◌≢◌, ℕ, ◌-◌, ◌<◌, ◌≤◌, ◌&&◌, ltb, List, [], ◌∷◌, ◌++◌, length, take, drop, map, ◌⊎◌, inl, inr, ⊎_elim, false, refl, sym, ap, ◌∙◌, subst, arith, append-nil, append_assoc, take_all}
use Rattle.std.specs.List.{All}
use Rattle.std.proofs.lemmas.List.{map-append, take-append-drop}
use Rattle.std.proofs.lemmas.List.Elements.{All-take, All-weaker}
use Rattle.icu_normalizer_core.specs.Canonical.{composed, composing, marks_in_order, put_in_order, recomposed}
use Rattle.icu_normalizer_core.proofs.composed.CompositionLemmas.{composed_one, composing_end, composing_joined, recomposed_starter}
use Rattle.icu_normalizer_core.proofs.decomposed_lists.DecomposedLemmas.{put_starter}
use Rattle.collate_lines.specs.Record.{Record}
use Rattle.collate_rules.specs.declared.canonical_part.CanonicalPart.{CanonicalPart}
use Rattle.collate_rules.specs.CanonicalParts.{in_full, subject_of}
use Rattle.collate_rules.specs.LowParts.{IsAlwaysOwn, IsAlwaysPair, IsNeverBadlyLow, NeverHasBadLow}
use Rattle.collate_rules.specs.Meaning.{canonical_of, class_of, compatibility_of, expanded, full_of, step_of}
use Rattle.collate_rules.specs.Rules.{IsBadlyLow}
use Rattle.collate_rules.proofs.lists.LowLemmas.{low_none}
use Rattle.collate_rules.proofs.lists.RuleFullListLemmas.{expanded_two, expanded_unmapped}
use Rattle.collate_mapping_rules.proofs.mappings.BeginningLemmas.{class_none, compatibility_none, pair_begun, stays_apart, step_begun, step_none}
use Rattle.collate_mapping_rules.proofs.mappings.MappingOrderLemmas.{in_order_cons, in_order_none, put_here, put_last}

-- a beginning of parts, and the parts after it
whole_parts : (parts : List CanonicalPart) (k : ℕ) → map in_full (take k parts) ++ map in_full (drop k parts) ≡ map in_full parts
whole_parts parts k = sym (map-append in_full (take k parts) (drop k parts)) ∙ ap (map in_full) (take-append-drop k parts)

-- the class of the first character
abbrev front_class : (ℕ → ℕ) → List ℕ → ℕ
front_class class [] = 0
front_class class (d ∷ ds) = class d

-- A character is its own composed list; or steps, so many left, lead to one with a tail whose marks are in order, and composing that
-- one with the tail gives the character.
abbrev Follows : List Record → ℕ → ℕ → ℕ → List ℕ → Type 0
Follows lines c x n tail =
    (composed (canonical_of lines) (c ∷ []) ≡ c ∷ [])
    ⊎ ((full_of lines c ≡ expanded (step_of lines) n x ++ tail) × (marks_in_order (class_of lines) tail ≡ tail) × (composing (canonical_of lines) x [] tail ≡ c ∷ []))

-- so at each beginning of parts
pub record IsFollowed (parts : List CanonicalPart) (c x n next : ℕ) : Type 0 where
  tail : List ℕ
  front : front_class (class_of (map in_full parts)) tail ≡ next
  each : (k : ℕ) → Follows (map in_full (take k parts)) c x n tail

pub follow_start : (parts : List CanonicalPart) (c : ℕ) → IsFollowed parts c c 0x110000 0
follow_start parts c = record {
  tail = [];
  front = refl;
  each = λ k. inr (
    sym (append-nil (full_of (map in_full (take k parts)) c)),
    in_order_none (class_of (map in_full (take k parts))),
    composing_end (canonical_of (map in_full (take k parts))) c,
  );
}

-- a starter that isn't mapped
end_here : (lines : List Record) (c x n : ℕ) (tail : List ℕ) → class_of lines x ≡ 0 → step_of lines x ≡ [] → full_of lines c ≡ expanded (step_of lines) n x ++ tail
    → marks_in_order (class_of lines) tail ≡ tail → composing (canonical_of lines) x [] tail ≡ c ∷ [] → composed (canonical_of lines) (c ∷ []) ≡ c ∷ []
end_here lines c x n tail starts none full sorted own =
    let list : full_of lines c ≡ x ∷ tail = full ∙ ap (λ (l : List ℕ). l ++ tail) (expanded_unmapped (step_of lines) n x none) in
    let marks : marks_in_order (class_of lines) (x ∷ tail) ≡ x ∷ tail =
    in_order_cons (class_of lines) x tail ∙ put_starter (class_of lines) x (marks_in_order (class_of lines) tail) starts ∙ ap (λ (l : List ℕ). x ∷ l) sorted in
    composed_one (canonical_of lines) c
    ∙ ap (λ (l : List ℕ). recomposed (canonical_of lines) (marks_in_order (class_of lines) l)) list
    ∙ ap (recomposed (canonical_of lines)) marks
    ∙ recomposed_starter (canonical_of lines) x tail starts ∙ own

pub follow_end : (parts : List CanonicalPart) (c x n next : ℕ) → class_of (map in_full parts) x ≡ 0 → step_of (map in_full parts) x ≡ []
    → IsFollowed parts c x n next → IsAlwaysOwn parts c
follow_end parts c x n next starts none followed k =
    let lines = map in_full (take k parts) in
    let whole = whole_parts parts k in
    ⊎_elim (λ own. own)
    (λ w. end_here lines c x n followed.tail (class_none lines (map in_full (drop k parts)) (map in_full parts) whole x starts)
    (step_none lines (map in_full (drop k parts)) (map in_full parts) whole x none) w.0 w.1 w.2)
    (followed.each k)

-- a mark put before a tail that it doesn't go after
put_front : (lines : List Record) (b : ℕ) (tail : List ℕ) → ((d : ℕ) (ds : List ℕ) → tail ≡ d ∷ ds → (ltb 0 (class_of lines d) && ltb (class_of lines d) (class_of lines b)) ≡ false)
    → marks_in_order (class_of lines) tail ≡ tail → marks_in_order (class_of lines) (b ∷ tail) ≡ b ∷ tail
put_front lines b [] apart sorted = in_order_cons (class_of lines) b [] ∙ ap (put_in_order (class_of lines) b) sorted ∙ put_last (class_of lines) b
put_front lines b (d ∷ ds) apart sorted =
    in_order_cons (class_of lines) b (d ∷ ds) ∙ ap (put_in_order (class_of lines) b) sorted ∙ put_here (class_of lines) b d ds (apart d ds refl)

-- what the classes of all parts tell of the first mark of a tail
front_apart : (all lines : List Record) (b next : ℕ) (tail : List ℕ) → front_class (class_of all) tail ≡ next → (ltb 0 next && ltb next (class_of all b)) ≡ false
    → ((d : ℕ) → (ltb 0 (class_of all d) && ltb (class_of all d) (class_of all b)) ≡ false → (ltb 0 (class_of lines d) && ltb (class_of lines d) (class_of lines b)) ≡ false)
    → (d : ℕ) (ds : List ℕ) → tail ≡ d ∷ ds → (ltb 0 (class_of lines d) && ltb (class_of lines d) (class_of lines b)) ≡ false
front_apart all lines b next tail front apart keeps d ds e =
    let class : class_of all d ≡ next = sym (ap (front_class (class_of all)) e) ∙ front in
    keeps d (ap (λ (k : ℕ). ltb 0 k && ltb k (class_of all b)) class ∙ apart)

-- one step more
module _ (parts : List CanonicalPart) (c x a b n next : ℕ) (some : n ≢ 0) (starts : class_of (map in_full parts) x ≡ 0) (step : step_of (map in_full parts) x ≡ a ∷ b ∷ [])
    (always : IsAlwaysPair (map in_full parts) x a b) (apart : (ltb 0 next && ltb next (class_of (map in_full parts) b)) ≡ false) where
  next_at : (k : ℕ) (tail : List ℕ) → front_class (class_of (map in_full parts)) tail ≡ next → Follows (map in_full (take k parts)) c x n tail
      → Follows (map in_full (take k parts)) c a (n - 1) (b ∷ tail)
  next_at k tail front follows =
      let lines = map in_full (take k parts) in
      let more = map in_full (drop k parts) in
      let all = map in_full parts in
      let whole = whole_parts parts k in
      ⊎_elim (λ own. inl own)
      (λ w. ⊎_elim
      (λ none. inl (end_here lines c x n tail (class_none lines more all whole x starts) none w.0 w.1 w.2))
      (λ same. inr (
        w.0 ∙ ap (λ (l : List ℕ). l ++ tail)
            (expanded_two (step_of lines) n x a b some (same ∙ step)
            ∙ ap (λ (l : List ℕ). expanded (step_of lines) (n - 1) a ++ l) (expanded_unmapped (step_of lines) (n - 1) b (step_none lines more all whole b always.unmapped)))
            ∙ append_assoc (expanded (step_of lines) (n - 1) a) (b ∷ []) tail,
        put_front lines b tail (front_apart all lines b next tail front apart (λ d. stays_apart lines more all whole b d)) w.1,
        composing_joined (canonical_of lines) a b x tail (pair_begun lines more all whole x a b always (same ∙ step)) ∙ w.2,
      ))
      (step_begun lines more all whole x))
      follows

  pub follow_next : IsFollowed parts c x n next → IsFollowed parts c a (n - 1) (class_of (map in_full parts) b)
  follow_next followed = record {
    tail = b ∷ followed.tail;
    front = refl;
    each = λ k. next_at k followed.tail followed.front (followed.each k);
  }

-- a starter that is its own composed list and has no mapping that it may not have
pub never_low : (parts : List CanonicalPart) (c : ℕ) → class_of (map in_full parts) c ≡ 0
    → ((((c < 0xc0) × (step_of (map in_full parts) c ≢ [])) ⊎ ((c < 0xa0) × (compatibility_of (map in_full parts) c ≢ []))) → ⊥)
    → IsAlwaysOwn parts c → IsNeverBadlyLow parts c
never_low parts c starts unmapped own k bad =
    let lines = map in_full (take k parts) in
    let more = map in_full (drop k parts) in
    let all = map in_full parts in
    let whole = whole_parts parts k in
    ⊎_elim (λ mark. mark (class_none lines more all whole c starts))
    (λ w. ⊎_elim (λ moved. moved (own k))
    (λ v. ⊎_elim
    (λ mapped. unmapped (inl (mapped.0, λ none. mapped.1 (step_none lines more all whole c none))))
    (λ mapped. unmapped (inr (mapped.0, λ none. mapped.1 (compatibility_none lines more all whole c none))))
    v)
    w)
    bad.1

-- a character from U+0300 on isn't low
pub never_high : (parts : List CanonicalPart) (c : ℕ) → 0x300 ≤ c → IsNeverBadlyLow parts c
never_high parts c high k bad = let low = bad.0 in absurd (omega arith)

-- where no part is on a character that is badly low at a beginning, there is none at any
pub never_none : (parts : List CanonicalPart) (i : ℕ) → length parts ≤ i → All (λ part. IsNeverBadlyLow parts (subject_of part)) (take i parts) → NeverHasBadLow parts
never_none parts i past never k bad =
    let all : All (λ part. IsNeverBadlyLow parts (subject_of part)) parts =
    subst (λ (l : List CanonicalPart). All (λ part. IsNeverBadlyLow parts (subject_of part)) l) (take_all i parts past) never in
    let front = take k parts in
    let each : All (λ part. IsBadlyLow (map in_full front) (subject_of part) → ⊥) front =
    All-weaker (λ part. IsNeverBadlyLow parts (subject_of part)) (λ part. IsBadlyLow (map in_full front) (subject_of part) → ⊥)
    (λ part h. h k) front (All-take (λ part. IsNeverBadlyLow parts (subject_of part)) k parts all) in
    low_none front (length front) (omega arith)
    (subst (λ (l : List CanonicalPart). All (λ part. IsBadlyLow (map in_full front) (subject_of part) → ⊥) l) (sym (take_all (length front) front (omega arith))) each)
    bad
