-- lines that keep the rules give canonical data
use Rattle.std.proofs.Common.{◌≡◌, ℕ, ◌<◌, ◌≤◌, inl, inr, ⊎_elim, not, List, [], ◌∷◌, length, All, true, Option, Some, None, refl, sym, ap, ◌∙◌, arith, subst}
use Rattle.std.specs.Bool.{IsTrue}
use Rattle.std.specs.Option.{is_some, unwrap_or, IfSome}
use Rattle.std.specs.Char.{IsScalar}
use Rattle.std.specs.List.{Contains}
use lib.Utf8.{scalar_cases}
use Rattle.std.proofs.lemmas.Bool.{cases_eq, cases_lt, ne_eqb, or_left}
use Rattle.std.proofs.lemmas.List.Elements.{All-contains, All-cons, All-nil}
use Rattle.icu_normalizer_core.specs.BuiltIn.{is_syllable, is_jamo, syllable_step, singled_out, built_in_step, built_in_compatibility_step, built_in_class}
use Rattle.icu_normalizer_core.proofs.built.BuiltInFacts.{built_in_cases, all_singled_out, syllable_cases, open_syllable_cases, jamo_unmapped, syllable_mapped}
use Rattle.icu_normalizer_core.specs.Canonical.{Reaches, stands, steps, Leaves, IsFree, IsDecomposing}
use Rattle.collate_lines.specs.Record.{Record}
use Rattle.collate_rules.specs.Meaning.{first_found, class_in, mapping_in, compatibility_in, compatibility_of, else_mapped, step_of, class_of, full_of, canonical_of, any_step}
use Rattle.collate_rules.specs.Rules.{begins_with_mark, is_mapped, MapsMark, HasLoop, HasBadList}
use Rattle.collate_lines.specs.declared.rule.Rule.TheVariants.{C1, C2, C3, C4, C9}
use Rattle.collate_rules.specs.Offenders.{NoneOffends}
use Rattle.collate_rules.specs.Accepted.{AreScalars}
use Rattle.collate_rules.proofs.mappings.MappingEndingLemmas.{ends}
use Rattle.collate_rules.proofs.mappings.SoonEndedLemmas.{EndsSoon, unmapped-ends_soon, two-ends_soon, bounded_built_in}
use Rattle.collate_records.proofs.mappings.MappingStepLemmas.{IsMapped, step_cases, free_step_cases, step_scalars, mark_unmapped, mapped_starter, no_letters, small_class, step_of-built_in, step_of-compatibility, some_or_none}
use Rattle.collate_rules.proofs.offenders.MappedMarkLemmas.{MapsMark-none}
use Rattle.collate_rules.proofs.lists.BadListLemmas.{HasBadList-none}
use Rattle.collate_rules.proofs.lists.RuleFullListLemmas.{expanded_unmapped}
use Rattle.collate_rules.proofs.mappings.LoopPartLemmas.{HasLoop-none}
use Rattle.collate_rules.proofs.offenders.BreachLemmas.{none_together}

-- what is reached from a text that has more
pub reaches_from : (step : ℕ → List ℕ) (s t : List ℕ) (x : ℕ) → ((d : ℕ) → Contains s d → Contains t d) → Reaches step s x → Reaches step t x
reaches_from step s t x more (stands u d h) = stands t d (more d h)
reaches_from step s t x more (steps u d e h r) = steps t d e (more d h) r

-- what is reached by steps of which there are more
pub reaches_wider : (step later : ℕ → List ℕ) → ((c d : ℕ) → Contains (step c) d → Contains (later c) d) → (t : List ℕ) (x : ℕ)
    → Reaches step t x → Reaches later t x
reaches_wider step later more t x (stands s d h) = stands s d h
reaches_wider step later more t x (steps s d e h r) =
    steps s d e h (reaches_from later (step d) (later d) e (more d) (reaches_wider step later more (step d) e r))

-- what a mapping brings stands where another would come after it
still_mapped : (ds es : List ℕ) (d : ℕ) → Contains ds d → Contains (else_mapped ds es) d
still_mapped [] es d h = absurd (omega (arith, h.1))
still_mapped (x ∷ xs) es d h = h

module _ (records : List Record) where
  mapped_by : (c : ℕ) → IsMapped records c (step_of records c) → IsTrue (is_mapped records c)
  mapped_by c m = or_left (is_some (first_found (mapping_in c) records)) (is_some (first_found (compatibility_in c) records)) (ap is_some m.found)

  class_of-built_in : (c k : ℕ) → built_in_class c ≡ Some k → class_of records c ≡ k
  class_of-built_in c k e = ap (λ o. unwrap_or o (unwrap_or (first_found (class_in c) records) 0)) e

  -- a mark that a built-in mapping names has no mapping
  mark-ends_soon : (MapsMark records → ⊥) → (c k : ℕ) → IsFree c → built_in_class c ≡ Some k → 0 < k → step_of records c ≡ []
  mark-ends_soon keeps c k free e above =
      let same = class_of-built_in c k e in mark_unmapped records keeps c free (λ zero. omega (arith, same, zero))

  jamo-ends_soon : (c : ℕ) → is_jamo c ≡ true → step_of records c ≡ []
  jamo-ends_soon c e = step_of-built_in records c [] (jamo_unmapped c e)

  abbrev Soon : ℕ → Type 0
  Soon c = EndsSoon (step_of records) c

  one_soon : (a : ℕ) → step_of records a ≡ [] → All Soon (a ∷ [])
  one_soon a e = All-cons Soon a [] (unmapped-ends_soon (step_of records) a e) (All-nil Soon)

  two_soon : (a b : ℕ) → step_of records a ≡ [] → step_of records b ≡ [] → All Soon (a ∷ b ∷ [])
  two_soon a b e f = All-cons Soon a (b ∷ []) (unmapped-ends_soon (step_of records) a e) (one_soon b f)

  singled_out-ends_soon : (MapsMark records → ⊥) → (c : ℕ) (ds : List ℕ) → singled_out c ≡ Some ds → All Soon ds
  unfolding built_in_step built_in_class singled_out
  singled_out-ends_soon keeps =
      let mark = mark-ends_soon keeps in
      let m300 = mark 0x300 230 refl refl (omega arith) in
      let m301 = mark 0x301 230 refl refl (omega arith) in
      let m308 = mark 0x308 230 refl refl (omega arith) in
      let m313 = mark 0x313 230 refl refl (omega arith) in
      let mf71 = mark 0xf71 129 refl refl (omega arith) in
      let mf72 = mark 0xf72 130 refl refl (omega arith) in
      let mf74 = mark 0xf74 132 refl refl (omega arith) in
      let mf80 = mark 0xf80 130 refl refl (omega arith) in
      all_singled_out (λ c ds. All Soon ds) (one_soon 0x300 m300) (one_soon 0x301 m301) (one_soon 0x313 m313) (two_soon 0x308 0x301 m308 m301)
      (two_soon 0xf71 0xf72 mf71 mf72) (two_soon 0xf71 0xf74 mf71 mf74) (two_soon 0xf71 0xf80 mf71 mf80)

  syllable-ends_soon : (c : ℕ) → is_syllable c ≡ true → All Soon (syllable_step c)
  syllable-ends_soon c e =
      let w = syllable_cases c e in
      let last = unmapped-ends_soon (step_of records) w.1 (jamo-ends_soon w.1 w.3) in
      let first : Soon w.0 = ⊎_elim
      (λ jamo. unmapped-ends_soon (step_of records) w.0 (jamo-ends_soon w.0 jamo))
      (λ v. let o = open_syllable_cases w.0 v.2 in
      two-ends_soon (step_of records) w.0 o.0 o.1 (step_of-built_in records w.0 (syllable_step w.0) (syllable_mapped w.0 v.0) ∙ o.2) (jamo-ends_soon o.0 o.3) (jamo-ends_soon o.1 o.4))
      w.6 in
      subst (All Soon) (sym w.2) (All-cons Soon w.0 (w.1 ∷ []) first (All-cons Soon w.1 [] last (All-nil Soon)))

  -- what a built-in mapping gives ends soon
  pub built_in-ends_soon : (MapsMark records → ⊥) → (c : ℕ) → built_in_step c ≡ Some (step_of records c) → All Soon (step_of records c)
  built_in-ends_soon keeps c e =
      ⊎_elim
      (λ w. subst (All Soon) w.1 (syllable-ends_soon c w.0))
      (λ w. ⊎_elim (λ none. subst (All Soon) (sym none) (All-nil Soon)) (λ one. singled_out-ends_soon keeps c (step_of records c) one) w)
      (built_in_cases c (step_of records c) e)

  bounded : AreScalars records → (MapsMark records → ⊥) → (HasBadList records → ⊥) → (c : ℕ) → length (full_of records c) ≤ 8
  bounded scalars marks lists c =
      ⊎_elim
      (λ built_in. bounded_built_in (step_of records) (λ d. (step_scalars records scalars d).1) 0x10fffd c (built_in-ends_soon marks c built_in))
      (λ w. ⊎_elim
      (λ none. let e = ap length (expanded_unmapped (step_of records) 0x110000 c none) in omega (arith, e))
      (λ m. ⊎_elim (λ over. absurd (lists (c, (mapped_by c m, m.free, inl (inl over))))) (λ h. h) (cases_lt 8 (length (full_of records c))))
      w)
      (step_cases records c)

  begins : (HasBadList records → ⊥) → (c d : ℕ) (ds : List ℕ) → IsFree c → step_of records c ≡ d ∷ ds
      → (e : ℕ) (es : List ℕ) → full_of records c ≡ e ∷ es → class_of records e ≡ 0
  begins lists c d ds free leads e es full =
      ⊎_elim
      (λ none. let off : [] ≡ d ∷ ds = sym none ∙ leads in absurd cc)
      (λ m. ⊎_elim
      (λ zero. zero)
      (λ mark. let bad : begins_with_mark records (full_of records c) ≡ true = ap (begins_with_mark records) full ∙ ap not (ne_eqb (class_of records e) 0 mark) in
      absurd (lists (c, (mapped_by c m, m.free, inl (inr bad)))))
      (cases_eq (class_of records e) 0))
      (free_step_cases records c free)

  -- the same steps are steps of either kind
  step_in_any : (c d : ℕ) → Contains (step_of records c) d → Contains (any_step records c) d
  step_in_any c d h =
      ⊎_elim
      (λ w. let none = step_of-compatibility records c (ap is_some w.1) in
      let inside : Contains [] d = subst (λ ds. Contains ds d) none h in absurd (omega (arith, inside.1)))
      (λ none. subst (λ ds. Contains ds d) (sym (ap (λ o. unwrap_or o (else_mapped (step_of records c) (compatibility_of records c))) none))
      (still_mapped (step_of records c) (compatibility_of records c) d h))
      (some_or_none (built_in_compatibility_step c))

  pub ends_without_loop : AreScalars records → (HasLoop records → ⊥) → (c : ℕ) → IsScalar c → Leaves (step_of records) (c ∷ []) (full_of records c)
  ends_without_loop scalars loops c scalar =
      ends (step_of records) 0x110000 IsScalar
      (λ d p. ⊎_elim (λ low. omega arith) (λ high. high.1) (scalar_cases d p))
      (λ d e p h. All-contains IsScalar (step_of records d) e (step_scalars records scalars d).0 h)
      (λ d r. loops (d, reaches_from (any_step records) (step_of records d) (any_step records d) d (step_in_any d) (reaches_wider (step_of records) (any_step records) step_in_any (step_of records d) d r)))
      c scalar

class_agrees : (records : List Record) (c : ℕ) → IfSome (built_in_class c) (λ k. class_of records c ≡ k)
class_agrees records c =
    elim (built_in_class c) as (λ o. IfSome o (λ k. unwrap_or o (unwrap_or (first_found (class_in c) records) 0) ≡ k)) [ Some k ↦ refl | None ↦ tt ]

step_agrees_at : (records : List Record) (c : ℕ) (o : Option (List ℕ)) → built_in_step c ≡ o → IfSome o (λ ds. step_of records c ≡ ds)
step_agrees_at records c (Some ds) e = step_of-built_in records c ds e
step_agrees_at records c None e = tt

-- lines that keep the rules give canonical data
pub decomposing : (records : List Record) → AreScalars records → NoneOffends C1 records → NoneOffends C2 records → NoneOffends C3 records
    → NoneOffends C4 records → NoneOffends C9 records → IsDecomposing (canonical_of records)
decomposing records scalars starters loops classes lists letters =
    let marks = none_together MapsMark MapsMark-none records starters in
    let bad_lists = none_together HasBadList HasBadList-none records lists in
    record {
      classes = λ c scalar. small_class records classes c;
      built_in_classes = class_agrees records;
      built_in_steps = λ c. step_agrees_at records c (built_in_step c) refl;
      short = λ c scalar. (step_scalars records scalars c).1;
      scalars = λ c scalar. (step_scalars records scalars c).0;
      starters = λ c d ds scalar. mapped_starter records marks c d ds;
      letters = λ c d scalar. no_letters records letters c d;
      ends = ends_without_loop records scalars (none_together HasLoop HasLoop-none records loops);
      begins = λ c d ds scalar. begins records bad_lists c d ds;
      bounded = λ c scalar. bounded records scalars marks bad_lists c;
    }
