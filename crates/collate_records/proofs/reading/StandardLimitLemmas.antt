-- 150 code points and 1,000 lines never lack room in tables.
use Rattle.std.proofs.Common.{◌≡◌, ℕ, ◌+◌, ◌*◌, ◌<◌, ◌≤◌, ◌⊎◌, ◌↔◌, inl, inr, ⊎_elim, Bool, true, false, cond, eqb, List, [], ◌∷◌, length, map, take, get_or, All, refl, sym, arith, subst}
use Rattle.std.specs.Prelude.{count_by, flat_map, sum_by}
use Rattle.std.specs.List.{filter, list_any}
use Rattle.std.proofs.lemmas.Bool.{cases_lt, eq-eqb}
use Rattle.std.proofs.lemmas.List.Elements.{All-from_get_or, All-get_or}
use Rattle.std.proofs.lemmas.List.{get_or-take, length-take}
use Rattle.std.proofs.lemmas.List.Sums.{length-filter, sum_by-cons, sum_by-le-sum_by}
use Rattle.std.proofs.lemmas.Option.{unwrap_or-slice_get}
use Rattle.icu_normalizer_core.specs.ListRoom.{is_stated, list_room}
use Rattle.collate_lines.specs.Limits.{standard}
use Rattle.collate_lines.specs.Record.{Record, nothing, class, mapping, compatibility, weights, range, digit, setting}
use Rattle.collate_lines.specs.Repeats.{record_at, says_something}
use Rattle.collate_rules.specs.Accepted.{IsSaid}
use Rattle.icu_normalizer_core.specs.Named.{narrow_block, wide_block}
use Rattle.collate_rules.specs.Rules.{IsLong, IsOverLimit, blocks_in, canonical_room, different, element_room, is_beside, mapping_room, named, names_in}
use Rattle.collate_rules.proofs.offenders.RoomLemmas.{FitTables, fit_room}
use Rattle.collate_records.specs.StandardLimits.{PassesStandard}
use Rattle.collate_records.proofs.maps.AcceptedAllMapsLemmas.{said_few}
use Rattle.collate_records.proofs.maps.MapLineLemmas.{MapsToFew}
use Rattle.collate_records.proofs.maps.RoomMapLemmas.{member_mapped, sum_below}

-- ---- Blocks

picked : (a b : Bool) (n m : ℕ) → n ≤ m → (a ≡ true → b ≡ true) → cond b n (1 + n) ≤ cond a m (1 + m)
picked true true n m le then = le
picked true false n m le then = absurd (cc (then refl))
picked false true n m le then = omega (arith, le)
picked false false n m le then = omega (arith, le)

-- numbers are in no more blocks than there are numbers
fewer_mapped : (f : ℕ → ℕ) (cs : List ℕ) → different (map f cs) ≤ different cs
unfolding different
fewer_mapped f [] = omega arith
fewer_mapped f (c ∷ cs) =
    picked (list_any (λ d. eqb c d) cs) (list_any (λ d. eqb (f c) d) (map f cs)) (different (map f cs)) (different cs) (fewer_mapped f cs)
    (λ is. member_mapped f (f c) c cs (eq-eqb (f c) (f c) refl) is)

few_blocks : (block_of : ℕ → ℕ) (lines : List Record) → names_in lines ≤ 150 → blocks_in block_of lines ≤ 450
few_blocks block_of lines few =
    let fewer = fewer_mapped block_of (flat_map named lines) in omega (arith, fewer, few)

-- ---- What a line takes

-- a line says something of a few characters
abbrev IsSmall : Record → Type 0
IsSmall s = (IsLong s → ⊥) × MapsToFew s

few_listed : (n : ℕ) → (8 < n → ⊥) → n ≤ 8
few_listed n few = ⊎_elim (λ (past : 8 < n). absurd (few past)) (λ (within : n ≤ 8). within) (cases_lt 8 n)

room_by : (a b : Bool) (n : ℕ) → n ≤ 8 → cond a 8 (cond b 0 n) ≤ 9
room_by true b n h = omega arith
room_by false true n h = omega arith
room_by false false n h = omega (arith, h)

list_small : (step : ℕ → List ℕ) (ds : List ℕ) → length ds ≤ 8 → list_room step ds ≤ 9
list_small step ds h = room_by (list_any _ ds) (is_stated ds) (length ds) h

elements_small : (s : Record) → IsSmall s → element_room s ≤ cond (says_something s) 9 0
elements_small nothing small = omega arith
elements_small (class c k) small = omega arith
elements_small (mapping c ds x) small = omega arith
elements_small (compatibility c ds) small = omega arith
elements_small (weights l p t es) small = omega (arith, few_listed (length es) (λ long. small.0 (inr long)))
elements_small (range r) small = omega arith
elements_small (digit c v) small = omega arith
elements_small (setting v) small = omega arith

canonical_small : (records : List Record) (s : Record) → IsSmall s → canonical_room records s ≤ cond (says_something s) 9 0
canonical_small records nothing small = omega arith
canonical_small records (class c k) small = omega arith
canonical_small records (mapping c ds x) small = let few = small.1.0 in list_small _ ds (omega (arith, few))
canonical_small records (compatibility c ds) small = omega arith
canonical_small records (weights l p t es) small = omega arith
canonical_small records (range r) small = omega arith
canonical_small records (digit c v) small = omega arith
canonical_small records (setting v) small = omega arith

mappings_small : (records : List Record) (s : Record) → IsSmall s → mapping_room records s ≤ cond (says_something s) 9 0
mappings_small records nothing small = omega arith
mappings_small records (class c k) small = omega arith
mappings_small records (mapping c ds x) small = let few = small.1.0 in list_small _ ds (omega (arith, few))
mappings_small records (compatibility c ds) small = list_small _ ds (few_listed (length ds) small.0)
mappings_small records (weights l p t es) small = omega arith
mappings_small records (range r) small = omega arith
mappings_small records (digit c v) small = omega arith
mappings_small records (setting v) small = omega arith

one_of : (b : Bool) → cond b 1 0 ≤ 1
one_of true = omega arith
one_of false = omega arith

beside_says : (s : Record) → cond (is_beside s) 1 0 ≤ cond (says_something s) 1 0
beside_says nothing = omega arith
beside_says (class c k) = omega arith
beside_says (mapping c ds x) = omega arith
beside_says (compatibility c ds) = omega arith
beside_says (weights l p t es) = one_of (is_beside (weights l p t es))
beside_says (range r) = omega arith
beside_says (digit c v) = omega arith
beside_says (setting v) = omega arith

-- ---- What lines take

nine_by : (b : Bool) (n m : ℕ) → n ≡ 9 * m → cond b 9 0 + n ≡ 9 * (cond b 1 0 + m)
nine_by true n m e = omega (arith, e)
nine_by false n m e = omega (arith, e)

nine_each : (lines : List Record) → sum_by (λ s. cond (says_something s) 9 0) lines ≡ 9 * count_by says_something lines
nine_each [] = refl
nine_each (s ∷ ss) =
    let step = nine_by (says_something s) (sum_by (λ (r : Record). cond (says_something r) 9 0) ss) (count_by says_something ss) (nine_each ss) in
    omega (arith, step, sum_by-cons (λ (r : Record). cond (says_something r) 9 0) s ss, sum_by-cons (λ (r : Record). cond (says_something r) 1 0) s ss)

few_taken : (f : Record → ℕ) → ((s : Record) → IsSmall s → f s ≤ cond (says_something s) 9 0) → (lines : List Record) → All IsSmall lines
    → length (filter says_something lines) ≤ 1000 → sum_by f lines ≤ 9000
few_taken f each lines small few =
    omega (arith, sum_below f (λ s. cond (says_something s) 9 0) IsSmall each lines small, nine_each lines, length-filter says_something lines, few)

few_fit : (records lines : List Record) → All IsSmall lines → names_in lines ≤ 150 → length (filter says_something lines) ≤ 1000 → FitTables records lines
few_fit records lines small few_names few = record {
  wide = omega (arith, few_blocks wide_block lines few_names);
  narrow = omega (arith, few_blocks narrow_block lines few_names);
  elements = omega (arith, few_taken element_room elements_small lines small few);
  beside = omega (arith, sum_by-le-sum_by (λ s. cond (is_beside s) 1 0) (λ s. cond (says_something s) 1 0) lines beside_says, length-filter says_something lines, few);
  canonical = omega (arith, few_taken (canonical_room records) (canonical_small records) lines small few);
  mappings = omega (arith, few_taken (mapping_room records) (mappings_small records) lines small few);
}

-- ---- The law

long_or : (s : Record) → IsLong s ⊎ (IsLong s → ⊥)
long_or nothing = inr (λ long. long)
long_or (class c k) = inr (λ long. long)
long_or (mapping c ds x) = inr (λ long. long)
long_or (compatibility c ds) =
    ⊎_elim (λ (past : 8 < length ds). inl past) (λ (few : length ds ≤ 8). inr (λ (long : 8 < length ds). omega (arith, few, long))) (cases_lt 8 (length ds))
long_or (weights l p t es) =
    ⊎_elim (λ (past : 8 < length t). inl (inl past))
    (λ (few : length t ≤ 8). ⊎_elim (λ (past : 8 < length es). inl (inr past))
    (λ (few_too : length es ≤ 8). inr (λ long. ⊎_elim (λ (a : 8 < length t). omega (arith, a, few)) (λ (b : 8 < length es). omega (arith, b, few_too)) long))
    (cases_lt 8 (length es)))
    (cases_lt 8 (length t))
long_or (range r) = inr (λ long. long)
long_or (digit c v) = inr (λ long. long)
long_or (setting v) = inr (λ long. long)

module _ (records : List Record) (i : ℕ) (said : All IsSaid records) (lt : i < length records) (before : (j : ℕ) → j < i → PassesStandard records j → ⊥) where
  -- each line up to line i is small, where this one is
  small_front : (IsLong (record_at records i) → ⊥) → All IsSmall (take (i + 1) records)
  small_front short = All-from_get_or IsSmall (take (i + 1) records) nothing each
    where
      short_at : (j : ℕ) → j < i + 1 → IsLong (record_at records j) → ⊥
      short_at j within long =
          ⊎_elim (λ (less : j < i). before j less (inr (inr long)))
          (λ (not_less : i ≤ j). let same : j ≡ i = omega arith in short (subst (λ (k : ℕ). IsLong (record_at records k)) same long))
          (cases_lt j i)

      each : (j : ℕ) → j < length (take (i + 1) records) → IsSmall (get_or (take (i + 1) records) j nothing)
      each j within =
          let below : j < i + 1 = omega (arith, length-take (i + 1) records) in
          let inside : j < length records = omega (arith, length-take (i + 1) records) in
          let at : get_or (take (i + 1) records) j nothing ≡ get_or records j nothing = get_or-take (i + 1) records j nothing below in
          let here : IsSaid (get_or records j nothing) = All-get_or IsSaid records j nothing inside said in
          subst IsSmall (sym at)
          (λ long. short_at j below (subst IsLong (sym (unwrap_or-slice_get records j nothing)) long), said_few (get_or records j nothing) here)

  pub passes_both : IsOverLimit standard records i ↔ PassesStandard records i
  passes_both = (over, passes)
    where
      passes : PassesStandard records i → IsOverLimit standard records i
      passes w = ⊎_elim (λ names. inl names) (λ v. ⊎_elim (λ some. inr (inl some)) (λ long. inr (inr (inr long))) v) w

      over : IsOverLimit standard records i → PassesStandard records i
      over w =
          ⊎_elim (λ (names : 150 < names_in (take (i + 1) records)). inl names)
          (λ (few_names : names_in (take (i + 1) records) ≤ 150).
          ⊎_elim (λ (some : 1000 < length (filter says_something (take (i + 1) records))). inr (inl some))
          (λ (few : length (filter says_something (take (i + 1) records)) ≤ 1000).
          ⊎_elim (λ long. inr (inr long))
          (λ short. absurd (none few_names few short w))
          (long_or (record_at records i)))
          (cases_lt 1000 (length (filter says_something (take (i + 1) records)))))
          (cases_lt 150 (names_in (take (i + 1) records)))
        where
          none : names_in (take (i + 1) records) ≤ 150 → length (filter says_something (take (i + 1) records)) ≤ 1000 → (IsLong (record_at records i) → ⊥) → IsOverLimit standard records i → ⊥
          none few_names few short w =
              ⊎_elim (λ (names : 150 < names_in (take (i + 1) records)). omega (arith, names, few_names))
              (λ v. ⊎_elim (λ (some : 1000 < length (filter says_something (take (i + 1) records))). omega (arith, some, few))
              (λ u. ⊎_elim (λ lacks. fit_room records (take (i + 1) records) (few_fit records (take (i + 1) records) (small_front short) few_names few) lacks) short u) v) w
