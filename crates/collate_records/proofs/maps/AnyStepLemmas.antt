-- Steps of both kinds of accepted lines: they end, and leave what the rules let them.
use Rattle.std.proofs.Common.{◌≡◌, ◌≢◌, ℕ, ◌<◌, ◌≤◌, inl, inr, ⊎_elim, true, false, not, ◌||◌, List, [], ◌∷◌, length, All, Option, Some, None, get_or, refl, sym, ap, ◌∙◌, arith, subst}
use Rattle.std.specs.Char.{IsScalar}
use Rattle.std.specs.Option.{is_some, unwrap_or}
use lib.Utf8.{scalar_cases}
use Rattle.std.proofs.lemmas.Bool.{cases_Bool, cases_eq, cases_lt, cond-false, cond-true, ne_eqb}
use Rattle.std.proofs.lemmas.Bool.Decides.{nat_tests}
use Rattle.std.proofs.lemmas.Option.{unwrap_or-slice_get}
use Rattle.std.proofs.lemmas.List.Elements.{All-cons, All-contains, All-get_or, All-nil, All-weaker}
use Rattle.icu_normalizer_core.specs.BuiltIn.{built_in_compatibility_step, built_in_step, is_built_in}
use Rattle.icu_normalizer_core.specs.Canonical.{Leaves}
use Rattle.icu_normalizer_core.proofs.built.BuiltInFacts.{class_scalar}
use Rattle.icu_normalizer_core.proofs.building.AllStepLemmas.{cases_list, cases_step, compatible}
use Rattle.collate_lines.specs.declared.rule.Rule.TheVariants.{C1, C2, C4, C7}
use Rattle.collate_lines.specs.Record.{Record, nothing, class, mapping, compatibility, weights, range, digit, setting}
use Rattle.collate_rules.specs.Meaning.{any_step, class_of, compatibility_in, compatibility_of, else_mapped, first_found, mapping_in, step_of}
use Rattle.collate_rules.specs.Rules.{HasBadList, HasBadLow, HasLoop, MapsMark, begins_with_mark, compatibility_full_of, is_mapped}
use Rattle.collate_rules.proofs.lookups.FoundLemmas.{mapping_line}
use Rattle.collate_rules.proofs.lists.BadListLemmas.{HasBadList-none}
use Rattle.collate_rules.proofs.lists.LowLemmas.{HasBadLow-none}
use Rattle.collate_rules.proofs.mappings.MappingEndingLemmas.{ends}
use Rattle.collate_rules.proofs.mappings.LoopPartLemmas.{HasLoop-none}
use Rattle.collate_rules.proofs.offenders.BreachLemmas.{none_together}
use Rattle.collate_rules.proofs.offenders.MappedMarkLemmas.{MapsMark-none}
use Rattle.collate_rules.specs.Accepted.{AreAccepted, IsSaid}
use Rattle.collate_records.specs.Maps.{MapsToSome}
use Rattle.collate_records.proofs.mappings.MappingStepLemmas.{some_or_none, step_scalars}
use Rattle.collate_records.proofs.maps.CompatibilityLineLemmas.{compatibility_line}
use Rattle.collate_records.proofs.reading.ReadingAcceptedLemmas.{said_scalars}
use Rattle.collate_records.proofs.reading.ReadingScalarLemmas.{compatibility_scalar, compatibility_some, mapped_scalar}

-- where no compatibility mapping is built in, the canonical mapping counts before the other
pub any_by_lines : (records : List Record) (c : ℕ) → built_in_compatibility_step c ≡ None → any_step records c ≡ else_mapped (step_of records c) (compatibility_of records c)
any_by_lines records c none = ap (λ (o : Option (List ℕ)). unwrap_or o (else_mapped (step_of records c) (compatibility_of records c))) none

-- a built-in one counts alone
pub any_built_in : (records : List Record) (c : ℕ) (ds : List ℕ) → built_in_compatibility_step c ≡ Some ds → any_step records c ≡ ds
any_built_in records c ds e = ap (λ (o : Option (List ℕ)). unwrap_or o (else_mapped (step_of records c) (compatibility_of records c))) e

-- what is mapped of either kind, where the mapping is not built in
some_mapped : (o p : Option (List ℕ)) → else_mapped (unwrap_or o []) (unwrap_or p []) ≢ [] → (is_some o || is_some p) ≡ true
some_mapped (Some ds) p some = refl
some_mapped None (Some ds) some = refl
some_mapped None None some = absurd (some refl)

pub compatibility_free : (c : ℕ) → is_built_in c ≡ false → built_in_compatibility_step c ≡ None
compatibility_free c free = by (built_in_step c) (built_in_compatibility_step c) free
  where
    by : (o p : Option (List ℕ)) → (is_some o || is_some p) ≡ false → p ≡ None
    by (Some ds) p e = absurd (cc)
    by None (Some es) e = absurd (cc)
    by None None e = refl

-- steps of either kind, by the lines, where nothing is built in
pub any_free : (records : List Record) (c : ℕ) → is_built_in c ≡ false
    → any_step records c ≡ else_mapped (unwrap_or (first_found (mapping_in c) records) []) (unwrap_or (first_found (compatibility_in c) records) [])
any_free records c free =
    let first : step_of records c ≡ unwrap_or (first_found (mapping_in c) records) [] = cond-false (is_built_in c) _ _ free in
    let second : compatibility_of records c ≡ unwrap_or (first_found (compatibility_in c) records) [] = cond-false (is_built_in c) _ _ free in
    any_by_lines records c (compatibility_free c free)
    ∙ ap (λ (ds : List ℕ). else_mapped ds (compatibility_of records c)) first
    ∙ ap (λ (es : List ℕ). else_mapped (unwrap_or (first_found (mapping_in c) records) []) es) second

-- a character that they map is mapped by a line
pub mapped_by_line : (records : List Record) (c : ℕ) → is_built_in c ≡ false → any_step records c ≢ [] → is_mapped records c ≡ true
mapped_by_line records c free some = some_mapped _ _ (λ none. some (any_free records c free ∙ none))

module _ (records : List Record) (in_grammar : All IsSaid records) where
  -- a line says one character or more, scalar values
  pub said_some : (c : ℕ) (ds : List ℕ) → first_found (compatibility_in c) records ≡ Some ds → All IsScalar ds × (1 ≤ length ds)
  said_some c ds found =
      let w = compatibility_line records c ds found in
      let here : IsSaid (get_or records w.0 nothing) = All-get_or IsSaid records w.0 nothing w.1 in_grammar in
      let said : IsSaid (compatibility c ds) = subst IsSaid (sym (unwrap_or-slice_get records w.0 nothing) ∙ w.2) here in
      compatibility_some said.0 c ds said.1

  given_scalars : (c : ℕ) → All IsScalar (unwrap_or (first_found (compatibility_in c) records) [])
  given_scalars c =
      ⊎_elim
      (λ w. subst (All IsScalar) (sym (ap (λ (o : Option (List ℕ)). unwrap_or o []) w.1)) (said_some c w.0 w.1).0)
      (λ none. subst (All IsScalar) (sym (ap (λ (o : Option (List ℕ)). unwrap_or o []) none)) (All-nil IsScalar))
      (some_or_none (first_found (compatibility_in c) records))

  compatibility_scalars : (c : ℕ) → All IsScalar (compatibility_of records c)
  compatibility_scalars c =
      ⊎_elim
      (λ built. subst (All IsScalar) (sym (cond-true (is_built_in c) [] (unwrap_or (first_found (compatibility_in c) records) []) built)) (All-nil IsScalar))
      (λ free. subst (All IsScalar) (sym (cond-false (is_built_in c) [] (unwrap_or (first_found (compatibility_in c) records) []) free)) (given_scalars c))
      (cases_Bool (is_built_in c))

  else_scalars : (xs ys : List ℕ) → All IsScalar xs → All IsScalar ys → All IsScalar (else_mapped xs ys)
  else_scalars [] ys first second = second
  else_scalars (x ∷ xs) ys first second = first

  pub any_scalars : (c : ℕ) → All IsScalar (any_step records c)
  any_scalars c =
      ⊎_elim
      (λ none. subst (All IsScalar) (sym (any_by_lines records c none))
      (else_scalars (step_of records c) (compatibility_of records c) (step_scalars records (said_scalars records in_grammar) c).0 (compatibility_scalars c)))
      (λ w.
      let fixed = compatible c w.0 w.1 in
      subst (All IsScalar) (sym (any_built_in records c w.0 w.1 ∙ fixed.is)) (All-cons IsScalar fixed.mark [] (class_scalar fixed.mark 8 fixed.mark_class) (All-nil IsScalar)))
      (cases_step (built_in_compatibility_step c))

  -- steps of both kinds end, where they lead in no loop
  pub any_ends_unless : (HasLoop records → ⊥) → (c : ℕ) → IsScalar c → Leaves (any_step records) (c ∷ []) (compatibility_full_of records c)
  any_ends_unless loops c scalar =
      ends (any_step records) 0x110000 IsScalar
      (λ d p. ⊎_elim (λ low. omega arith) (λ high. high.1) (scalar_cases d p))
      (λ d e p h. All-contains IsScalar (any_step records d) e (any_scalars d) h)
      (λ d r. loops (d, r))
      c scalar

  -- a character that a line maps is a scalar value
  pub mapped_scalar_value : (c : ℕ) → is_mapped records c ≡ true → IsScalar c
  mapped_scalar_value c h = by (first_found (mapping_in c) records) (first_found (compatibility_in c) records) refl refl h
    where
      by : (o p : Option (List ℕ)) → first_found (mapping_in c) records ≡ o → first_found (compatibility_in c) records ≡ p → (is_some o || is_some p) ≡ true → IsScalar c
      by (Some ds) p e f t =
          let w = mapping_line records c ds e in
          let here : IsSaid (get_or records w.0 nothing) = All-get_or IsSaid records w.0 nothing w.2 in_grammar in
          let said : IsSaid (mapping c ds w.1) = subst IsSaid (sym (unwrap_or-slice_get records w.0 nothing) ∙ w.3) here in
          mapped_scalar said.0 c ds w.1 said.1
      by None (Some ds) e f t =
          let w = compatibility_line records c ds f in
          let here : IsSaid (get_or records w.0 nothing) = All-get_or IsSaid records w.0 nothing w.1 in_grammar in
          let said : IsSaid (compatibility c ds) = subst IsSaid (sym (unwrap_or-slice_get records w.0 nothing) ∙ w.2) here in
          compatibility_scalar said.0 c ds said.1
      by None None e f t = absurd (cc)

module _ (records : List Record) (accepted : AreAccepted records) where
  -- steps of both kinds end
  pub any_ends : (c : ℕ) → IsScalar c → Leaves (any_step records) (c ∷ []) (compatibility_full_of records c)
  any_ends = any_ends_unless records accepted.in_grammar (none_together HasLoop HasLoop-none records (accepted.keep_rules C2))

  pub no_marks : MapsMark records → ⊥
  no_marks = none_together MapsMark MapsMark-none records (accepted.keep_rules C1)

  no_bad_lists : HasBadList records → ⊥
  no_bad_lists = none_together HasBadList HasBadList-none records (accepted.keep_rules C4)

  -- a mapped character has a short full list,
  pub any_short : (c : ℕ) → is_mapped records c ≡ true → is_built_in c ≡ false → length (compatibility_full_of records c) ≤ 8
  any_short c mapped free =
      ⊎_elim (λ over. absurd (no_bad_lists (c, (mapped, free, inr (inl over))))) (λ few. few) (cases_lt 8 (length (compatibility_full_of records c)))

  -- that begins with a starter
  pub any_begins : (c d : ℕ) (ds : List ℕ) → is_mapped records c ≡ true → is_built_in c ≡ false → compatibility_full_of records c ≡ d ∷ ds → class_of records d ≡ 0
  any_begins c d ds mapped free full =
      ⊎_elim
      (λ zero. zero)
      (λ mark.
      let bad : begins_with_mark records (compatibility_full_of records c) ≡ true = ap (begins_with_mark records) full ∙ ap not (ne_eqb (class_of records d) 0 mark) in
      absurd (no_bad_lists (c, (mapped, free, inr (inr bad)))))
      (cases_eq (class_of records d) 0)

  -- a character below U+00A0 has no compatibility mapping
  pub low_unmapped : (c : ℕ) → c < 0xa0 → compatibility_of records c ≡ []
  low_unmapped c low =
      ⊎_elim
      (λ none. none)
      (λ w.
      let some : compatibility_of records c ≢ [] = λ none. let off : w.0 ∷ w.1 ≡ [] = sym w.2 ∙ none in cc in
      absurd (none_together HasBadLow HasBadLow-none records (accepted.keep_rules C7) (c, (omega arith, inr (inr (inr (low, some)))))))
      (cases_list (compatibility_of records c))

pub low_compatibility : (c : ℕ) → c < 0xa0 → built_in_compatibility_step c ≡ None
unfolding built_in_compatibility_step
low_compatibility c low = grind (arith, nat_tests)

-- ---- Each line maps by compatibility to some characters

said_to_some : (s : Record) → IsSaid s → MapsToSome s
said_to_some nothing said = tt
said_to_some (class c k) said = tt
said_to_some (mapping c ds x) said = tt
said_to_some (compatibility c ds) said = (compatibility_some said.0 c ds said.1).1
said_to_some (weights l p t es) said = tt
said_to_some (range r) said = tt
said_to_some (digit c v) said = tt
said_to_some (setting v) said = tt

pub accepted_some : (records : List Record) → AreAccepted records → All MapsToSome records
accepted_some records accepted = All-weaker IsSaid MapsToSome said_to_some records accepted.in_grammar
