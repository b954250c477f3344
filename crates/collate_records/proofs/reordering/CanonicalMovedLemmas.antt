-- The rules on classes and mappings that lines break together, of the same lines in another order: C1, C2 and C4.
use Rattle.std.proofs.Common.{◌≡◌, ◌≢◌, ℕ, ◌+◌, ⊎_elim, inl, inr, true, List, [], ◌∷◌, ◌++◌, length, take, drop, All, sym, ap, ◌∙◌, subst}
use Rattle.std.specs.Char.{IsScalar}
use Rattle.std.specs.List.Sorted.{IsPermutation}
use Rattle.std.specs.Option.{unwrap_or}
use Rattle.std.proofs.Math.Seq.{take-append_seam}
use Rattle.std.proofs.lemmas.Bool.{cases_Bool, cond-true}
use Rattle.std.proofs.lemmas.List.{take-append-drop}
use Rattle.std.proofs.lemmas.List.Elements.{All-cons, All-nil, All-take, All-weaker}
use Rattle.std.proofs.lemmas.List.Sorted.{All-permutation}
use Rattle.icu_normalizer_core.specs.BuiltIn.{built_in_compatibility_step, built_in_step, is_built_in}
use Rattle.icu_normalizer_core.proofs.building.AllStepLemmas.{cases_list, scalars_left}
use Rattle.collate_lines.specs.declared.rule.Rule.TheVariants.{C1, C2, C4, C5, V14}
use Rattle.collate_lines.specs.Record.{Record}
use Rattle.collate_rules.specs.CanonicalParts.{SaysSame}
use Rattle.collate_rules.specs.Meaning.{any_step, class_of, compatibility_of, else_mapped, full_of, step_of}
use Rattle.collate_rules.specs.Offenders.{NoneOffends}
use Rattle.collate_rules.specs.Rules.{HasBadList, HasLoop, MapsMark, compatibility_full_of}
use Rattle.collate_rules.proofs.lists.BadListLemmas.{HasBadList-none, HasBadList-same}
use Rattle.collate_rules.proofs.lists.RuleFullListLemmas.{expanded_unmapped}
use Rattle.collate_rules.proofs.mappings.CanonicalPartLemmas.{SaysSame-sym}
use Rattle.collate_rules.proofs.mappings.LoopPartLemmas.{HasLoop-none, HasLoop-same}
use Rattle.collate_rules.proofs.offenders.BreachLemmas.{none_together}
use Rattle.collate_rules.proofs.offenders.MappedMarkLemmas.{MapsMark-none, MapsMark-same}
use Rattle.collate_rules.specs.Accepted.{IsSaid}
use Rattle.collate_records.proofs.mappings.MappingDecomposingLemmas.{ends_without_loop}
use Rattle.collate_records.proofs.mappings.MappingStepLemmas.{step_scalars}
use Rattle.collate_records.proofs.maps.AnyStepLemmas.{any_by_lines, any_ends_unless, any_scalars, compatibility_free, mapped_by_line, mapped_scalar_value}
use Rattle.collate_records.proofs.reading.ReadingAcceptedLemmas.{said_scalars}
use Rattle.collate_records.proofs.reordering.FewerLineLemmas.{IsFull, any_stays, bad_list_lasts, class_some, loops_last, mapped_stays, marks_last, step_stays}
use Rattle.collate_records.proofs.reordering.SameSayingLemmas.{says_same}

-- ---- Fewer lines of lines that keep these rules

module _ (lines more : List Record) (said : All IsSaid (lines ++ more)) (unmarked : MapsMark (lines ++ more) → ⊥) (loopless : HasLoop (lines ++ more) → ⊥) where
  fewer_said : All IsSaid lines
  fewer_said =
      subst (All IsSaid) (take-append_seam lines more) (All-take IsSaid (length lines) (lines ++ more) said)

  fewer_loopless : HasLoop lines → ⊥
  fewer_loopless loop = loopless (loops_last lines more unmarked loop)

  -- what is built in stays
  any_built : (c : ℕ) → is_built_in c ≡ true → any_step lines c ≡ any_step (lines ++ more) c
  any_built c built =
      let by : List ℕ → List ℕ → List ℕ = λ xs ys. unwrap_or (built_in_compatibility_step c) (else_mapped xs ys) in
      let step : step_of lines c ≡ step_of (lines ++ more) c =
      cond-true (is_built_in c) (unwrap_or (built_in_step c) []) _ built ∙ sym (cond-true (is_built_in c) (unwrap_or (built_in_step c) []) _ built) in
      let other : compatibility_of lines c ≡ compatibility_of (lines ++ more) c =
      cond-true (is_built_in c) [] _ built ∙ sym (cond-true (is_built_in c) [] _ built) in
      ap (λ (xs : List ℕ). by xs (compatibility_of lines c)) step ∙ ap (by (step_of (lines ++ more) c)) other

  -- a mark that fewer lines don't map all lines don't
  mark_alone : (c : ℕ) → class_of (lines ++ more) c ≢ 0 → any_step lines c ≡ [] → any_step (lines ++ more) c ≡ []
  mark_alone c mark none =
      ⊎_elim
      (λ built. sym (any_built c built) ∙ none)
      (λ free. ⊎_elim
      (λ empty. empty)
      (λ w.
      let some : any_step (lines ++ more) c ≢ [] = λ empty. let off : w.0 ∷ w.1 ≡ [] = sym w.2 ∙ empty in cc in
      absurd (unmarked (c, (mapped_by_line (lines ++ more) c free some, free, inl mark))))
      (cases_list (any_step (lines ++ more) c)))
      (cases_Bool (is_built_in c))

  -- nor canonically
  canonical_alone : (c : ℕ) → class_of (lines ++ more) c ≢ 0 → step_of lines c ≡ [] → step_of (lines ++ more) c ≡ []
  canonical_alone c mark none =
      ⊎_elim
      (λ built.
      cond-true (is_built_in c) (unwrap_or (built_in_step c) []) _ built ∙ sym (cond-true (is_built_in c) (unwrap_or (built_in_step c) []) _ built) ∙ none)
      (λ free. ⊎_elim
      (λ empty. empty)
      (λ w.
      let any : any_step (lines ++ more) c ≡ w.0 ∷ w.1 =
      any_by_lines (lines ++ more) c (compatibility_free c free) ∙ ap (λ (xs : List ℕ). else_mapped xs (compatibility_of (lines ++ more) c)) w.2 in
      let some : any_step (lines ++ more) c ≢ [] = λ empty. let off : w.0 ∷ w.1 ≡ [] = sym any ∙ empty in cc in
      absurd (unmarked (c, (mapped_by_line (lines ++ more) c free some, free, inl mark))))
      (cases_list (step_of (lines ++ more) c)))
      (cases_Bool (is_built_in c))

  full_alone : (c : ℕ) → class_of lines c ≢ 0 → step_of lines c ≡ [] → full_of (lines ++ more) c ≡ c ∷ []
  full_alone c mark none =
      expanded_unmapped (step_of (lines ++ more)) 0x110000 c (canonical_alone c (class_some lines more c mark) none)

  any_alone : (c : ℕ) → class_of lines c ≢ 0 → any_step lines c ≡ [] → compatibility_full_of (lines ++ more) c ≡ c ∷ []
  any_alone c mark none =
      expanded_unmapped (any_step (lines ++ more)) 0x110000 c (mark_alone c (class_some lines more c mark) none)

  canonical_full : (c : ℕ) → IsScalar c → IsFull (step_of (lines ++ more)) (full_of (lines ++ more)) c
  canonical_full c scalar = ends_without_loop (lines ++ more) (said_scalars (lines ++ more) said) loopless c scalar

  any_full : (c : ℕ) → IsScalar c → IsFull (any_step (lines ++ more)) (compatibility_full_of (lines ++ more)) c
  any_full c scalar = any_ends_unless (lines ++ more) said loopless c scalar

  one_scalar : (c : ℕ) → IsScalar c → All IsScalar (c ∷ [])
  one_scalar c scalar = All-cons IsScalar c [] scalar (All-nil IsScalar)

  -- a bad full list stays so
  pub lists_last : HasBadList lines → HasBadList (lines ++ more)
  lists_last bad =
      let c = bad.0 in
      let scalar = mapped_scalar_value lines fewer_said c bad.1.0 in
      let left = ends_without_loop lines (said_scalars lines fewer_said) fewer_loopless c scalar in
      let any_left = any_ends_unless lines fewer_said fewer_loopless c scalar in
      let scalars = scalars_left (step_of lines) (c ∷ []) (full_of lines c) (λ d s. (step_scalars lines (said_scalars lines fewer_said) d).0) (one_scalar c scalar) left in
      let any_values = scalars_left (any_step lines) (c ∷ []) (compatibility_full_of lines c) (λ d s. any_scalars lines fewer_said d) (one_scalar c scalar) any_left in (
        c,
        (
          mapped_stays lines more c bad.1.0,
          bad.1.1,
          ⊎_elim
              (λ canonical. inl (bad_list_lasts lines more (step_of (lines ++ more)) (full_of (lines ++ more)) (step_of lines) (step_stays lines more) full_alone c (full_of lines c) left
              (All-weaker IsScalar (IsFull (step_of (lines ++ more)) (full_of (lines ++ more))) canonical_full (full_of lines c) scalars) (canonical_full c scalar) canonical))
              (λ any. inr (bad_list_lasts lines more (any_step (lines ++ more)) (compatibility_full_of (lines ++ more)) (any_step lines) (any_stays lines more unmarked) any_alone c
              (compatibility_full_of lines c) any_left
              (All-weaker IsScalar (IsFull (any_step (lines ++ more)) (compatibility_full_of (lines ++ more))) any_full (compatibility_full_of lines c) any_values) (any_full c scalar) any))
              bad.1.2,
        ),
      )

-- ---- The same lines in another order

module _ (a b : List Record) (moved : IsPermutation a b) (said : All IsSaid a) (once : NoneOffends V14 a) (pairs : NoneOffends C5 a)
    (starters : NoneOffends C1 a) (ends : NoneOffends C2 a) where
  pub same : SaysSame b a
  same = SaysSame-sym a b (says_same a b moved once pairs)

  pub unmarked : MapsMark b → ⊥
  unmarked bad = none_together MapsMark MapsMark-none a starters (MapsMark-same b a same bad)

  pub loopless : HasLoop b → ⊥
  loopless loop = none_together HasLoop HasLoop-none a ends (HasLoop-same b a same loop)

  whole : (i : ℕ) → take (i + 1) b ++ drop (i + 1) b ≡ b
  whole i = take-append-drop (i + 1) b

  -- what further lines don't heal
  lasting : (P : List Record → Type 0) → ((lines more : List Record) → All IsSaid (lines ++ more) → (MapsMark (lines ++ more) → ⊥) → (HasLoop (lines ++ more) → ⊥) → P lines → P (lines ++ more))
      → (i : ℕ) → P (take (i + 1) b) → P b
  lasting P stays i h =
      subst P (whole i)
      (stays (take (i + 1) b) (drop (i + 1) b) (subst (All IsSaid) (sym (whole i)) (All-permutation IsSaid a b moved said))
      (subst (λ (lines : List Record). MapsMark lines → ⊥) (sym (whole i)) unmarked) (subst (λ (lines : List Record). HasLoop lines → ⊥) (sym (whole i)) loopless) h)

  pub starters_moved : NoneOffends C1 b
  starters_moved i lt bad = unmarked (lasting MapsMark (λ lines more s u l. marks_last lines more) i bad)

  pub loops_moved : NoneOffends C2 b
  loops_moved i lt bad = loopless (lasting HasLoop (λ lines more s u l. loops_last lines more u) i bad)

  pub lists_moved : NoneOffends C4 a → NoneOffends C4 b
  lists_moved lists i lt bad =
      none_together HasBadList HasBadList-none a lists (HasBadList-same b a same (lasting HasBadList lists_last i bad))
