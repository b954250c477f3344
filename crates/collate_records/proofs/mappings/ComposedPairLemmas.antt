-- Lines that keep the rules give canonical data, as far as composing goes.
use Rattle.std.proofs.Common.{◌≡◌, ◌≢◌, ℕ, ◌<◌, ◌≤◌, ◌⊎◌, ◌==◌, ◌&&◌, suc, inl, inr, ⊎_elim, not, cond, Bool, List, [], ◌∷◌, length, take, drop, get_or, true, false, Option, Some, None, refl, sym, ap, ◌∙◌, arith, subst, bytes_eq}
use Rattle.std.specs.Option.{is_some, IfSome, option_or}
use Rattle.std.specs.Char.{IsScalar}
use Rattle.std.specs.List.{list_any}
use Rattle.std.proofs.lemmas.Bool.{cases_Bool, cases_eq, eqb-true, false≢true, or_parts, and_parts, false_from_ne_true, not-true}
use Rattle.std.proofs.lemmas.Bool.Decides.{Decides-eqb}
use Rattle.std.proofs.lemmas.List.{take-append-drop}
use Rattle.std.proofs.Math.Seq.{drop-cons}
use Rattle.std.proofs.lemmas.Option.{none-some, same_Some, unwrap_or-slice_get}
use Rattle.std.proofs.lemmas.Slice.Eq.{bytes_eq-Decides}
use Rattle.icu_normalizer_core.specs.BuiltIn.{syllable_of, singled_out, built_in_step, is_within, is_built_in}
use Rattle.icu_normalizer_core.specs.Canonical.{IsComposing, composed}
use Rattle.icu_normalizer_core.proofs.built.BuiltInFacts.{syllable_pair, syllable_scalar, syllable_unsingled, singled_mapped}
use Rattle.collate_lines.specs.declared.rule.Rule.TheVariants.{C6, C7, V14}
use Rattle.collate_lines.specs.Record.{Record, nothing, class, mapping, compatibility, weights, range, digit, setting}
use Rattle.collate_rules.specs.Meaning.{first_found, mapping_in, composed_in, step_of, class_of, pair_of, canonical_of}
use Rattle.collate_lines.specs.Repeats.{record_at, is_second}
use Rattle.collate_rules.specs.Rules.{pair_in, HasBadSecond, HasBadLow}
use Rattle.collate_rules.specs.Offenders.{NoneOffends}
use Rattle.collate_rules.proofs.lists.LowLemmas.{HasBadLow-none}
use Rattle.collate_rules.proofs.lookups.FoundLemmas.{found_at}
use Rattle.collate_records.proofs.lookups.LookedUpKeyLemmas.{mapping-absent}
use Rattle.collate_records.proofs.mappings.MappingStepLemmas.{step_of-built_in, some_or_none}
use Rattle.collate_rules.proofs.lookups.RuleLookupLemmas.{first_found-append}
use Rattle.collate_rules.proofs.offenders.BreachLemmas.{none_together}
use Rattle.collate_rules.proofs.offenders.OffenderPairLemmas.{good_second}

-- a list that isn't some is none
none_left : (ds : List ℕ) → ((ds ≢ []) → ⊥) → ds ≡ []
none_left [] h = refl
none_left (d ∷ ds) h = absurd (h (λ e. omega (arith, ap length e)))

-- a line that composes two characters to c
pub record Composes (a b c : ℕ) (s : Record) : Type 0 where
  pub line : s ≡ mapping c (a ∷ b ∷ []) false
  pub free : is_built_in c ≡ false

composing_by : (t : Bool) (c d : ℕ) → cond t (Some c) None ≡ Some d → (t ≡ true) × (c ≡ d)
composing_by true c d e = (refl, same_Some c d e)
composing_by false c d e = absurd (none-some d e)

pub composed_in-some : (a b c : ℕ) (s : Record) → composed_in a b s ≡ Some c → Composes a b c s
composed_in-some a b c nothing e = absurd (none-some c e)
composed_in-some a b c (class d l) e = absurd (none-some c e)
composed_in-some a b c (mapping f [] x) e = absurd (none-some c e)
composed_in-some a b c (mapping f (d ∷ []) x) e = absurd (none-some c e)
composed_in-some a b c (mapping f (d ∷ g ∷ []) true) e = absurd (none-some c e)
composed_in-some a b c (mapping f (d ∷ g ∷ []) false) e =
    let w = composing_by _ f c e in
    let v = and_parts ((a == d) && (b == g)) (not (is_built_in f)) w.0 in
    let u = and_parts (a == d) (b == g) v.0 in
    let first : a ≡ d = eqb-true a d u.0 in
    let second : b ≡ g = eqb-true b g u.1 in
    let same : f ≡ c = w.1 in
    record {
      line = ap (λ (n : ℕ). mapping n (d ∷ g ∷ []) false) same ∙ ap (λ (n : ℕ). mapping c (n ∷ g ∷ []) false) (sym first) ∙ ap (λ (n : ℕ). mapping c (a ∷ n ∷ []) false) (sym second);
      free = subst (λ (n : ℕ). is_built_in n ≡ false) same (not-true (is_built_in f) v.1);
    }
composed_in-some a b c (mapping f (d ∷ g ∷ h ∷ ds) x) e = absurd (none-some c e)
composed_in-some a b c (compatibility d es) e = absurd (none-some c e)
composed_in-some a b c (weights l p t es) e = absurd (none-some c e)
composed_in-some a b c (range r) e = absurd (none-some c e)
composed_in-some a b c (digit d v) e = absurd (none-some c e)
composed_in-some a b c (setting s) e = absurd (none-some c e)

module _ (records : List Record) where
  -- a pair is a syllable's, or a line composes it
  pub record IsOfLine (a b c : ℕ) : Type 0 where
    pub unbuilt : syllable_of a b ≡ None
    pub i : ℕ
    pub within : i < length records
    pub line : record_at records i ≡ mapping c (a ∷ b ∷ []) false
    pub free : is_built_in c ≡ false

  pair_by : (a b c : ℕ) (o : Option ℕ) → syllable_of a b ≡ o → elim o as (λ _. Option ℕ) [ Some z ↦ Some z | None ↦ first_found (composed_in a b) records ] ≡ Some c
      → (syllable_of a b ≡ Some c) ⊎ IsOfLine a b c
  pair_by a b c (Some z) e h = inl (e ∙ h)
  pair_by a b c None e h =
      let w = found_at (composed_in a b) records c h in
      let s = composed_in-some a b c (record_at records w.0) w.2 in
      inr (record { unbuilt = e; i = w.0; within = w.1; line = s.line; free = s.free })

  pub pair_cases : (a b c : ℕ) → pair_of records a b ≡ Some c → (syllable_of a b ≡ Some c) ⊎ IsOfLine a b c
  pair_cases a b c e = pair_by a b c (syllable_of a b) refl e

  pub not_built_in : (c : ℕ) → is_built_in c ≡ false → built_in_step c ≡ None
  not_built_in c e =
      ⊎_elim (λ w. let some : is_some (built_in_step c) ≡ true = ap is_some w.1 in absurd (false≢true (sym (or_parts (is_some (built_in_step c)) _ e).0 ∙ some))) (λ n. n) (some_or_none (built_in_step c))

  -- the only mapping line of a character is its mapping
  mapped_by_line : NoneOffends V14 records → (i c : ℕ) (ds : List ℕ) (x : Bool) → i < length records → record_at records i ≡ mapping c ds x
      → first_found (mapping_in c) records ≡ Some ds
  mapped_by_line once i c ds x within line =
      let before : list_any (λ t. is_second t (mapping c ds x)) (take i records) ≡ false =
      ap (λ (s : Record). list_any (λ t. is_second t s) (take i records)) (sym line) ∙ false_from_ne_true _ (once i within) in
      let here : get_or records i nothing ≡ mapping c ds x = sym (unwrap_or-slice_get records i nothing) ∙ line in
      let later : drop i records ≡ mapping c ds x ∷ drop (suc i) records =
      drop-cons records i nothing within ∙ ap (λ (s : Record). s ∷ drop (suc i) records) here in
      ap (first_found (mapping_in c)) (sym (take-append-drop i records))
      ∙ first_found-append (mapping_in c) (take i records) (drop i records)
      ∙ ap (λ (o : Option (List ℕ)). option_or o (first_found (mapping_in c) (drop i records))) (mapping-absent c ds x (take i records) before)
      ∙ ap (first_found (mapping_in c)) later
      ∙ first_here c ds x (drop (suc i) records)
    where
      first_here : (d : ℕ) (es : List ℕ) (y : Bool) (rest : List Record) → first_found (mapping_in d) (mapping d es y ∷ rest) ≡ Some es
      first_here d es y rest =
          ap (λ (b : Bool). elim (cond b (Some es) None) as (λ _. Option (List ℕ)) [ Some z ↦ Some z | None ↦ first_found (mapping_in d) rest ]) ((Decides-eqb d d).1 refl)

  mapped : NoneOffends V14 records → (a b c : ℕ) → pair_of records a b ≡ Some c → step_of records c ≡ a ∷ b ∷ []
  mapped once a b c e =
      ⊎_elim
      (λ syllable. step_of-built_in records c (a ∷ b ∷ []) (syllable_pair a b c syllable).step)
      (λ w. rw (w.free, mapped_by_line once w.i c (a ∷ b ∷ []) false w.within w.line) refl)
      (pair_cases a b c e)

  uncomposed : (a b c : ℕ) → pair_of records a b ≡ Some c → singled_out c ≡ None
  uncomposed a b c e =
      ⊎_elim
      (λ syllable. syllable_unsingled c (syllable_pair a b c syllable).syllable)
      (λ w. ⊎_elim (λ s. absurd (none-some s.0 (sym (not_built_in c w.free) ∙ singled_mapped c s.0 s.1))) (λ n. n) (some_or_none (singled_out c)))
      (pair_cases a b c e)

  second_of_line : NoneOffends C6 records → (a b c : ℕ) → IsOfLine a b c → (0x300 ≤ b) × (is_within 0x1161 0x11ff b ≡ false)
  second_of_line keeps a b c w =
      good_second a b (λ bad. keeps w.i w.within
      (subst (λ (s : Record). HasBadSecond (pair_in s)) (sym w.line)
      (subst (λ (t : Bool). HasBadSecond (cond t None (Some (a, b)))) (sym w.free) bad)))

  seconds : NoneOffends C6 records → (a b c : ℕ) → pair_of records a b ≡ Some c → 0x300 ≤ b
  seconds keeps a b c e =
      ⊎_elim
      (λ syllable. (syllable_pair a b c syllable).second)
      (λ w. (second_of_line keeps a b c w).0)
      (pair_cases a b c e)

  letters : NoneOffends C6 records → (a b c : ℕ) → pair_of records a b ≡ Some c → syllable_of a b ≡ None → is_within 0x1161 0x11ff b ≡ false
  letters keeps a b c e none =
      ⊎_elim
      (λ syllable. absurd (none-some c (sym none ∙ syllable)))
      (λ w. (second_of_line keeps a b c w).1)
      (pair_cases a b c e)

  scalars : ((c : ℕ) (ds : List ℕ) (x : Bool) (i : ℕ) → i < length records → record_at records i ≡ mapping c ds x → IsScalar c)
      → (a b c : ℕ) → pair_of records a b ≡ Some c → IsScalar c
  scalars named a b c e =
      ⊎_elim
      (λ syllable. syllable_scalar c (syllable_pair a b c syllable).syllable)
      (λ w. named c (a ∷ b ∷ []) false w.i w.within w.line)
      (pair_cases a b c e)

  syllables : (a b : ℕ) → IfSome (syllable_of a b) (λ c. pair_of records a b ≡ Some c)
  syllables a b =
      elim (syllable_of a b) as (λ o. IfSome o (λ c. elim o as (λ _. Option ℕ) [ Some z ↦ Some z | None ↦ first_found (composed_in a b) records ] ≡ Some c)) [ Some c ↦ refl | None ↦ tt ]

  starters : (HasBadLow records → ⊥) → (c : ℕ) → c < 0x300 → class_of records c ≡ 0
  starters lows c low = ⊎_elim (λ zero. zero) (λ mark. absurd (lows (c, (low, inl mark)))) (cases_eq (class_of records c) 0)

  own : (HasBadLow records → ⊥) → (c : ℕ) → c < 0x300 → composed (canonical_of records) (c ∷ []) ≡ c ∷ []
  own lows c low =
      ⊎_elim
      (λ same. (bytes_eq-Decides (composed (canonical_of records) (c ∷ [])) (c ∷ [])).0 same)
      (λ apart. absurd (lows (c, (low, inr (inl (λ e. false≢true (sym apart ∙ (bytes_eq-Decides (composed (canonical_of records) (c ∷ [])) (c ∷ [])).1 e)))))))
      (cases_Bool (bytes_eq (composed (canonical_of records) (c ∷ [])) (c ∷ [])))

  unmapped : (HasBadLow records → ⊥) → (c : ℕ) → c < 0xc0 → step_of records c ≡ []
  unmapped lows c low = none_left (step_of records c) (λ some. lows (c, (omega arith, inr (inr (inl (low, some))))))

-- lines that keep the rules compose as canonical data do
pub composing : (records : List Record) → ((c : ℕ) (ds : List ℕ) (x : Bool) (i : ℕ) → i < length records → record_at records i ≡ mapping c ds x → IsScalar c)
    → NoneOffends V14 records → NoneOffends C6 records → NoneOffends C7 records → IsComposing (canonical_of records)
composing records named once seconds_kept low_kept =
    let lows = none_together HasBadLow HasBadLow-none records low_kept in
    record {
      syllables = syllables records;
      mapped = mapped records once;
      scalars = scalars records named;
      uncomposed = uncomposed records;
      seconds = seconds records seconds_kept;
      letters = letters records seconds_kept;
      starters = starters records lows;
      own = own records lows;
      unmapped = unmapped records lows;
    }
