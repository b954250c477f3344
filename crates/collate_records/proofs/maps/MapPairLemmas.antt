-- Composed pairs of maps: the line that gives one.
use Rattle.std.proofs.Common.{◌≡◌, ◌≢◌, ℕ, ◌<◌, ◌≤◌, ⊎_elim, Bool, true, false, not, cond, ◌&&◌, ◌==◌, List, [], ◌∷◌, length, All, Option, Some, None, refl, sym, ap, ◌∙◌, arith, subst, get_or, take}
use Rattle.std.specs.Prelude.{flat_map}
use Rattle.std.specs.List.{Contains}
use Rattle.std.proofs.lemmas.Bool.{cases_eq, cases_lt, eqb-true, eq-eqb, and_parts, false≢true, not-true}
use Rattle.std.proofs.lemmas.Option.{unwrap_or-slice_get}
use Rattle.std.proofs.lemmas.List.{get_or-take, length-take}
use Rattle.std.proofs.lemmas.List.Folds.{list_any_at}
use Rattle.std.proofs.lemmas.List.Elements.{All-contains}
use Rattle.icu_normalizer_core.specs.declared.builder.given.GivenMapping.{GivenMapping}
use Rattle.icu_normalizer_core.specs.BuiltIn.{is_within, is_built_in}
use Rattle.icu_normalizer_core.specs.CanonicalMaps.{composes, ComposeAlike}
use Rattle.collate_lines.specs.Record.{Record, nothing, mapping}
use Rattle.collate_records.specs.Maps.{mappings_in}
use Rattle.collate_lines.specs.Repeats.{record_at}
use Rattle.collate_rules.specs.Rules.{IsBadlyComposed, HasBadSecond, RepeatsPair, is_same_pair, pair_in}
use Rattle.collate_lines.specs.Keys.{mapping_key}
use Rattle.collate_records.proofs.maps.MapMeaningLemmas.{IsConsistent, composes_same}
use Rattle.collate_records.proofs.maps.MapRuleLemmas.{all_mappings}
use Rattle.collate_rules.proofs.offenders.OffenderPairLemmas.{good_second}
use Rattle.collate_rules.proofs.offenders.LineRuleLemmas.{each_line}

-- the line of a composed mapping is for the pair
two_pair : (a b c d e : ℕ) (x : Bool) → IsConsistent (mapping c (d ∷ e ∷ []) x)
    → composes a b (record { character = c; first = d; second = Some e; is_composed = not x }) ≡ true → pair_in (mapping c (d ∷ e ∷ []) x) ≡ Some (a, b)
two_pair a b c d e true consistent h = absurd (false≢true h)
two_pair a b c d e false consistent h =
    let w = and_parts ((a == d) && (b == e)) (not (is_built_in c)) (sym (composes_same a b c d e consistent) ∙ h) in
    let u = and_parts (a == d) (b == e) w.0 in
    let first : a ≡ d = eqb-true a d u.0 in
    let second : b ≡ e = eqb-true b e u.1 in
    ap (λ (t : Bool). cond {A = Option (ℕ × ℕ)} t None (Some (d, e))) (not-true (is_built_in c) w.1)
    ∙ ap (λ (n : ℕ). Some (n, e)) (sym first) ∙ ap (λ (n : ℕ). Some (a, n)) (sym second)

-- ---- The second of a pair

pub maps_seconds : (a b : ℕ) (records : List Record) → All (λ r. IsConsistent r × (IsBadlyComposed r → ⊥)) records
    → All (λ g. composes a b g ≡ true → (0x300 ≤ b) × (is_within 0x1161 0x11ff b ≡ false)) (flat_map mappings_in records)
maps_seconds a b =
    all_mappings (λ g. composes a b g ≡ true → (0x300 ≤ b) × (is_within 0x1161 0x11ff b ≡ false)) (λ r. IsConsistent r × (IsBadlyComposed r → ⊥))
    (λ c d x good h. absurd (false≢true h))
    (λ c d e x good h. good_second a b (subst (λ (p : Option (ℕ × ℕ)). HasBadSecond p → ⊥) (two_pair a b c d e x good.0 h) good.1))

-- ---- One pair, one character

-- a line is for the character and its pair
record IsPairOf (a b c : ℕ) (r : Record) : Type 0 where
  pair : pair_in r ≡ Some (a, b)
  key : mapping_key r ≡ c ∷ []

-- some line is
abbrev HasLine : List Record → GivenMapping → Type 0
HasLine records g = (a b : ℕ) → composes a b g ≡ true → (i : ℕ) × (i < length records) × IsPairOf a b g.character (record_at records i)

-- a line stands somewhere
abbrev IsLineOf : List Record → Record → Type 0
IsLineOf records r = IsConsistent r × ((i : ℕ) × (i < length records) × (record_at records i ≡ r))

all_lines : (records : List Record) → All IsConsistent records → All (IsLineOf records) records
all_lines records consistent =
    each_line (IsLineOf records) records (λ i lt. (subst IsConsistent (sym (unwrap_or-slice_get records i nothing)) (consistent i nothing lt), (i, lt, refl)))

mapping_lines : (records : List Record) → All IsConsistent records → All (HasLine records) (flat_map mappings_in records)
mapping_lines records consistent =
    all_mappings (HasLine records) (IsLineOf records)
    (λ c d x line a b h. absurd (false≢true h))
    (λ c d e x line a b h.
    let w = line.1 in
    (w.0, w.1, subst (IsPairOf a b c) (sym w.2) (record { pair = two_pair a b c d e x line.0 h; key = refl })))
    records (all_lines records consistent)

same_pairs : (a b : ℕ) (o p : Option (ℕ × ℕ)) → o ≡ Some (a, b) → p ≡ Some (a, b) → is_same_pair o p ≡ true
same_pairs a b o p e f =
    ap (λ (q : Option (ℕ × ℕ)). is_same_pair q p) e ∙ ap (is_same_pair (Some (a, b))) f
    ∙ ap (λ (t : Bool). t && (b == b)) (eq-eqb a a refl) ∙ eq-eqb b b refl

-- the later of two lines repeats the pair of the earlier
repeated : (records : List Record) (a b i j : ℕ) → i < j → j < length records → pair_in (record_at records i) ≡ Some (a, b)
    → pair_in (record_at records j) ≡ Some (a, b) → RepeatsPair records j
repeated records a b i j before within e f =
    let at : get_or (take j records) i nothing ≡ record_at records i = get_or-take j records i nothing before ∙ sym (unwrap_or-slice_get records i nothing) in
    let first : pair_in (get_or (take j records) i nothing) ≡ Some (a, b) = ap pair_in at ∙ e in
    list_any_at (λ s. is_same_pair (pair_in s) (pair_in (record_at records j))) (take j records) i nothing (omega (arith, length-take j records)) (same_pairs a b _ _ first f)

first_of : (c d : ℕ) → c ∷ [] ≡ d ∷ [] → c ≡ d
first_of c d e = ap (λ (xs : List ℕ). get_or xs 0 0) e

pub maps_pairs : (records : List Record) → All IsConsistent records → ((i : ℕ) → i < length records → RepeatsPair records i → ⊥)
    → (g h : GivenMapping) → Contains (flat_map mappings_in records) g → Contains (flat_map mappings_in records) h → ComposeAlike g h → g.character ≡ h.character
maps_pairs records consistent once g h has_g has_h alike =
    let a = alike.0 in
    let b = alike.1 in
    let lines = mapping_lines records consistent in
    let u = All-contains (HasLine records) (flat_map mappings_in records) g lines has_g a b alike.2 in
    let v = All-contains (HasLine records) (flat_map mappings_in records) h lines has_h a b alike.3 in
    ⊎_elim
    (λ (same : u.0 ≡ v.0).
    let at : record_at records u.0 ≡ record_at records v.0 = ap (record_at records) same in
    first_of g.character h.character (sym u.2.key ∙ ap mapping_key at ∙ v.2.key))
    (λ (apart : u.0 ≢ v.0).
    ⊎_elim
    (λ (before : u.0 < v.0). absurd (once v.0 v.1 (repeated records a b u.0 v.0 before v.1 u.2.pair v.2.pair)))
    (λ (past : v.0 ≤ u.0). absurd (once u.0 u.1 (repeated records a b v.0 u.0 (below_by v.0 u.0 past (λ e. apart (sym e))) u.1 v.2.pair u.2.pair)))
    (cases_lt u.0 v.0))
    (cases_eq u.0 v.0)
  where
    below_by : (m n : ℕ) → m ≤ n → m ≢ n → m < n
    below_by m n h apart = ⊎_elim (λ lt. lt) (λ ge. absurd (apart (omega arith))) (cases_lt m n)
