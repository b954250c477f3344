-- the mapping of a character: what is built in, none, or what a line says
use Rattle.std.proofs.Common.{◌≡◌, ◌≢◌, ℕ, ◌<◌, ◌≤◌, ◌⊎◌, inl, inr, ⊎_elim, ◌||◌, List, [], ◌∷◌, length, All, Bool, true, false, Option, Some, None, refl, sym, ap, ◌∙◌, arith, subst}
use Rattle.std.specs.Option.{is_some, unwrap_or}
use Rattle.std.specs.Char.{IsScalar}
use Rattle.std.specs.List.{Contains, list_any}
use Rattle.std.proofs.lemmas.List.Folds.{list_any_at}
use Rattle.std.proofs.lemmas.Bool.{or_left, or_right, or_parts, or_from, cases_Bool, cases_eq, cases_lt, both_ways, false≢true, false_from_ne_true, cond-true, cond-false}
use Rattle.std.proofs.lemmas.Bool.Decides.{eqb_tells}
use Rattle.std.proofs.lemmas.Option.{none-some, unwrap_or-slice_get}
use Rattle.std.proofs.lemmas.List.Elements.{All-get_or, All-nil}
use Rattle.icu_normalizer_core.specs.BuiltIn.{is_syllable, is_jamo, singled_out, built_in_step, built_in_compatibility_step, built_in_class, is_built_in}
use Rattle.icu_normalizer_core.specs.Canonical.{IsFree}
use Rattle.icu_normalizer_core.proofs.built.BuiltInFacts.{built_in_short, small_class as small_built_in_class}
use Rattle.collate_lines.specs.Record.{Record, nothing, class, mapping}
use Rattle.collate_rules.specs.Meaning.{first_found, mapping_in, class_in, step_of, class_of}
use Rattle.collate_lines.specs.Repeats.{record_at}
use Rattle.collate_rules.specs.Rules.{MapsMark, MapsHangul, IsBadClass, is_built_in_record}
use Rattle.collate_rules.specs.Accepted.{AreScalars, MapsToScalars}
use Rattle.collate_rules.proofs.mappings.MappingEndingLemmas.{Contains-tail}
use Rattle.collate_rules.proofs.lookups.FoundLemmas.{mapping_line, class_line}

pub some_or_none : {A : Type 0} (o : Option A) → ((x : A) × (o ≡ Some x)) ⊎ (o ≡ None)
some_or_none (Some x) = inl (x, refl)
some_or_none None = inr refl

pub step_of-built_in : (records : List Record) (c : ℕ) (ds : List ℕ) → built_in_step c ≡ Some ds → step_of records c ≡ ds
step_of-built_in records c ds e =
    cond-true (is_built_in c) _ _ (or_left _ (is_some (built_in_compatibility_step c)) (ap is_some e)) ∙ ap (λ o. unwrap_or o []) e

-- a compatibility mapping is built in only where no canonical one is
compatibility_alone : (c : ℕ) → is_some (built_in_compatibility_step c) ≡ true → built_in_step c ≡ None
unfolding built_in_step built_in_compatibility_step singled_out
compatibility_alone c e =
    ⊎_elim (λ w. rw w.1 refl)
    (λ w. ⊎_elim (λ v. rw v.1 refl)
    (λ v. absurd (false≢true (sym (ap is_some (cond-false _ (Some (0x3099 ∷ [])) _ w.0 ∙ cond-false _ (Some (0x309a ∷ [])) None v.0)) ∙ e))) (eqb_tells c 0xff9f))
    (eqb_tells c 0xff9e)

pub step_of-compatibility : (records : List Record) (c : ℕ) → is_some (built_in_compatibility_step c) ≡ true → step_of records c ≡ []
step_of-compatibility records c e =
    cond-true (is_built_in c) _ _ (or_right (is_some (built_in_step c)) _ e) ∙ ap (λ o. unwrap_or o []) (compatibility_alone c e)

step_of-free : (records : List Record) (c : ℕ) → is_built_in c ≡ false → step_of records c ≡ unwrap_or (first_found (mapping_in c) records) []
step_of-free records c e = cond-false (is_built_in c) _ _ e

-- a jamo or a syllable
abbrev is_letter : ℕ → Bool
is_letter d = is_jamo d || is_syllable d

list_any_false : (p : ℕ → Bool) (xs : List ℕ) (x : ℕ) → list_any p xs ≡ false → Contains xs x → p x ≡ false
list_any_false p xs x e h =
    false_from_ne_true (p x) (λ t. both_ways (list_any p xs) e (list_any_at p xs h.0 x h.1 (subst (λ y. p y ≡ true) (sym h.2) t)))

-- a line on a character that isn't built in says nothing built in
pub free_not_said : (c : ℕ) (ds : List ℕ) (x : Bool) → IsFree c → is_built_in_record (mapping c ds x) ≡ false
free_not_said c [] x free = refl
free_not_said c (d ∷ []) x free = rw (is_built_in_record, free) refl
free_not_said c (d ∷ e ∷ []) x free = rw (is_built_in_record, free) refl
free_not_said c (d ∷ e ∷ f ∷ ds) x free = refl

-- a character that a line maps
pub record IsMapped (records : List Record) (c : ℕ) (ds : List ℕ) : Type 0 where
  pub free : is_built_in c ≡ false
  pub found : first_found (mapping_in c) records ≡ Some ds

-- at most two characters, scalar values
abbrev AreTwoScalars : List ℕ → Type 0
AreTwoScalars ds = All IsScalar ds × (length ds ≤ 2)

no_scalars : AreTwoScalars []
no_scalars = (All-nil IsScalar, omega arith)

module _ (records : List Record) where
  -- a mapping is built in, or there is none, or a line says it
  pub step_cases : (c : ℕ) → (built_in_step c ≡ Some (step_of records c)) ⊎ ((step_of records c ≡ []) ⊎ IsMapped records c (step_of records c))
  step_cases c =
      ⊎_elim
      (λ w. inl (w.1 ∙ ap Some (sym (step_of-built_in records c w.0 w.1))))
      (λ none. ⊎_elim
      (λ t. inr (inl (step_of-compatibility records c t)))
      (λ f. let free : is_built_in c ≡ false = or_from _ _ (ap is_some none) f in
      ⊎_elim
      (λ w. let same = step_of-free records c free ∙ ap (λ o. unwrap_or o []) w.1 in
      inr (inr (record { free = free; found = w.1 ∙ ap Some (sym same) })))
      (λ n. inr (inl (step_of-free records c free ∙ ap (λ o. unwrap_or o []) n)))
      (some_or_none (first_found (mapping_in c) records)))
      (cases_Bool (is_some (built_in_compatibility_step c))))
      (some_or_none (built_in_step c))

  pub free_step_cases : (c : ℕ) → IsFree c → (step_of records c ≡ []) ⊎ IsMapped records c (step_of records c)
  free_step_cases c free = ⊎_elim (λ built_in. absurd (none-some _ (sym free ∙ built_in))) (λ w. w) (step_cases c)

  -- what a line says of a mapping
  line_scalars : AreScalars records → (c : ℕ) (ds : List ℕ) → IsMapped records c ds → AreTwoScalars ds
  line_scalars scalars c ds m =
      let w = mapping_line records c ds m.found in
      let here = All-get_or MapsToScalars records w.0 nothing w.2 scalars in
      let same = sym (unwrap_or-slice_get records w.0 nothing) ∙ w.3 in
      subst MapsToScalars same here

  pub step_scalars : AreScalars records → (c : ℕ) → All IsScalar (step_of records c) × (length (step_of records c) ≤ 2)
  step_scalars scalars c =
      ⊎_elim
      (λ built_in. built_in_short c (step_of records c) built_in)
      (λ w. ⊎_elim
      (λ none. subst AreTwoScalars (sym none) no_scalars)
      (λ m. line_scalars scalars c (step_of records c) m)
      w)
      (step_cases c)

  -- a mark that isn't built in has no mapping
  pub mark_unmapped : (MapsMark records → ⊥) → (c : ℕ) → IsFree c → class_of records c ≢ 0 → step_of records c ≡ []
  mark_unmapped keeps c free mark =
      ⊎_elim (λ none. none) (λ m. absurd (keeps (c, (or_left (is_some (first_found (mapping_in c) records)) _ (ap is_some m.found), m.free, inl mark)))) (free_step_cases c free)

  -- a mapped character that isn't built in is a starter
  pub mapped_starter : (MapsMark records → ⊥) → (c d : ℕ) (ds : List ℕ) → IsFree c → step_of records c ≡ d ∷ ds → class_of records c ≡ 0
  mapped_starter keeps c d ds free e =
      ⊎_elim (λ zero. zero) (λ mark. let none = mark_unmapped keeps c free mark in absurd cc) (cases_eq (class_of records c) 0)

  -- no line maps a jamo or a syllable, nor to one
  pub no_letters : ((i : ℕ) → i < length records → MapsHangul (record_at records i) → ⊥) → (c d : ℕ) → IsFree c → Contains (step_of records c) d
      → (is_jamo d ≡ false) × (is_syllable d ≡ false)
  no_letters keeps c d free h =
      ⊎_elim
      (λ none. let inside : Contains [] d = subst (λ ds. Contains ds d) none h in absurd (omega (arith, inside.1)))
      (λ m. let w = mapping_line records c (step_of records c) m.found in
      let unsaid : MapsHangul (mapping c (step_of records c) w.1) → ⊥ = subst (λ s. MapsHangul s → ⊥) w.3 (keeps w.0 w.2) in
      let clean = false_from_ne_true (list_any is_letter (c ∷ step_of records c)) (λ t. unsaid (t, free_not_said c (step_of records c) w.1 free)) in
      or_parts (is_jamo d) (is_syllable d) (list_any_false is_letter (c ∷ step_of records c) d clean (Contains-tail c (step_of records c) d h)))
      (free_step_cases c free)

  -- a class is below 255
  pub small_class : ((i : ℕ) → i < length records → IsBadClass (record_at records i) → ⊥) → (c : ℕ) → class_of records c < 255
  small_class keeps c =
      ⊎_elim
      (λ w. let small = small_built_in_class c w.0 w.1 in
      let same : class_of records c ≡ w.0 = ap (λ o. unwrap_or o (unwrap_or (first_found (class_in c) records) 0)) w.1 in omega arith)
      (λ none. let same : class_of records c ≡ unwrap_or (first_found (class_in c) records) 0 = ap (λ o. unwrap_or o (unwrap_or (first_found (class_in c) records) 0)) none in
      ⊎_elim
      (λ w. let line = class_line records c w.0 w.1 in
      let good : IsBadClass (class c w.0) → ⊥ = subst (λ s. IsBadClass s → ⊥) line.2 (keeps line.0 line.1) in
      let equal : class_of records c ≡ w.0 = same ∙ ap (λ o. unwrap_or o 0) w.1 in
      ⊎_elim
      (λ small. omega arith)
      (λ large. absurd (good (inr large, λ e. none-some w.0 (sym none ∙ e))))
      (cases_lt w.0 255))
      (λ n. let equal : class_of records c ≡ 0 = same ∙ ap (λ o. unwrap_or o 0) n in omega arith)
      (some_or_none (first_found (class_in c) records)))
      (some_or_none (built_in_class c))
