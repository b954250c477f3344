-- The limits, of the same lines in another order.
use Rattle.std.proofs.Common.{◌≡◌, ℕ, ◌+◌, ◌<◌, ◌≤◌, inl, inr, ⊎_elim, Bool, true, cond, eqb, List, [], ◌∷◌, ◌++◌, length, map, take, drop, refl, sym, ap, ◌∙◌, subst, arith}
use Rattle.std.specs.Prelude.{flat_map, sum_by}
use Rattle.std.specs.Cmp.{nat_eq_equiv}
use Rattle.std.specs.List.{filter, list_any}
use Rattle.std.specs.List.Sorted.{IsPermutation}
use Rattle.std.specs.Set.{unique_keys}
use Rattle.std.proofs.Math.Path.{fun_ext}
use Rattle.std.proofs.lemmas.Bool.{or_left}
use Rattle.std.proofs.lemmas.Grind.{flat_map-append}
use Rattle.std.proofs.lemmas.List.{map-append, take-append-drop}
use Rattle.std.proofs.lemmas.List.Folds.{list_any-append}
use Rattle.std.proofs.lemmas.List.Sorted.{list_any-IsPermutation, sum_by-IsPermutation}
use Rattle.std.proofs.lemmas.List.Sums.{length-filter, sum_by-take-le}
use Rattle.std.proofs.lemmas.Map.Made.{length-le_from_is_member}
use Rattle.collate_lines.specs.declared.limits.Limits.{Limits}
use Rattle.collate_lines.specs.declared.rule.Rule.TheVariants.{Limit, V14}
use Rattle.collate_lines.specs.Record.{Record, nothing, class, mapping, compatibility, weights, range, digit, setting}
use Rattle.collate_lines.specs.Repeats.{says_something}
use Rattle.collate_rules.specs.Meaning.{any_step, step_of}
use Rattle.collate_rules.specs.Offenders.{NoneOffends, NoneOffendsWithin}
use Rattle.icu_normalizer_core.specs.Named.{narrow_block, wide_block}
use Rattle.collate_rules.specs.Rules.{IsLong, blocks_in, canonical_room, different, element_room, is_beside, is_range, mapping_room, named, names_in}
use Rattle.collate_rules.proofs.offenders.BreachLemmas.{none_over_together}
use Rattle.collate_rules.proofs.offenders.RoomLemmas.{FitTables, all_fit, fit_room}
use Rattle.icu_normalizer_core.specs.ListRoom.{list_room}
use Rattle.collate_records.proofs.lookups.LookedUpKeyLemmas.{different-unique, is_member-unique}
use Rattle.collate_records.proofs.maps.MapNameLemmas.{unique_distinct}
use Rattle.collate_records.proofs.reordering.ReorderedRuleLemmas.{each_moved}
use Rattle.collate_records.proofs.reordering.MovedListLemmas.{flat_map_moved}
use Rattle.collate_records.proofs.reordering.SameSayingLemmas.{any_steps_same, steps_same}

-- numbers that all stand in another list are no more different ones than its
pub different_within : (xs ys : List ℕ) → ((q : ℕ) → list_any (λ d. eqb q d) xs ≡ true → list_any (λ d. eqb q d) ys ≡ true) → different xs ≤ different ys
different_within xs ys within =
    let below = length-le_from_is_member nat_eq_equiv (unique_keys eqb xs) (unique_keys eqb ys) (unique_distinct xs)
    (λ q is. is_member-unique q ys ∙ within q (sym (is_member-unique q xs) ∙ is)) in
    omega (arith, below, different-unique xs, different-unique ys)

-- what is taken from the numbers that lines give
taken_each : (f : ℕ → ℕ) (give : Record → List ℕ) (lines : List Record) → map f (flat_map give lines) ≡ flat_map (λ r. map f (give r)) lines
taken_each f give [] = refl
taken_each f give (r ∷ rs) =
    map-append f (give r) (flat_map give rs) ∙ ap (λ (cs : List ℕ). map f (give r) ++ cs) (taken_each f give rs)

-- how many characters lists take, by the steps
rooms_by : (records others : List Record) → step_of records ≡ step_of others → (r : Record) → canonical_room records r ≡ canonical_room others r
rooms_by records others same nothing = refl
rooms_by records others same (class c k) = refl
rooms_by records others same (mapping c ds x) = ap (λ (step : ℕ → List ℕ). list_room step ds) same
rooms_by records others same (compatibility c ds) = refl
rooms_by records others same (weights l p t es) = refl
rooms_by records others same (range r) = refl
rooms_by records others same (digit c v) = refl
rooms_by records others same (setting s) = refl

all_rooms_by : (records others : List Record) → any_step records ≡ any_step others → (r : Record) → mapping_room records r ≡ mapping_room others r
all_rooms_by records others same nothing = refl
all_rooms_by records others same (class c k) = refl
all_rooms_by records others same (mapping c ds x) = ap (λ (step : ℕ → List ℕ). list_room step ds) same
all_rooms_by records others same (compatibility c ds) = ap (λ (step : ℕ → List ℕ). list_room step ds) same
all_rooms_by records others same (weights l p t es) = refl
all_rooms_by records others same (range r) = refl
all_rooms_by records others same (digit c v) = refl
all_rooms_by records others same (setting s) = refl

no_names : (n : ℕ) → names_in [] ≤ n
unfolding different
no_names n = omega arith

module _ (a b : List Record) (moved : IsPermutation a b) where
  summed_within : (f : Record → ℕ) (i : ℕ) → sum_by f (take i b) ≤ sum_by f a
  summed_within f i = omega (arith, sum_by-take-le f b i, sum_by-IsPermutation f a b moved)

  given_within : (give : Record → List ℕ) (i q : ℕ) → list_any (λ d. eqb q d) (flat_map give (take i b)) ≡ true → list_any (λ d. eqb q d) (flat_map give a) ≡ true
  given_within give i q h =
      let test : ℕ → Bool = λ d. eqb q d in
      list_any-IsPermutation test (flat_map give a) (flat_map give b) (flat_map_moved give a b moved)
      ∙ ap (λ (lines : List Record). list_any test (flat_map give lines)) (sym (take-append-drop i b))
      ∙ ap (list_any test) (flat_map-append give (take i b) (drop i b))
      ∙ list_any-append test (flat_map give (take i b)) (flat_map give (drop i b))
      ∙ or_left (list_any test (flat_map give (take i b))) _ h

  names_within : (i : ℕ) → names_in (take i b) ≤ names_in a
  names_within i =
      omega (arith, different_within (flat_map named (take i b)) (flat_map named a) (given_within named i), summed_within (λ s. cond (is_range s) 1 0) i)

  blocks_within : (block_of : ℕ → ℕ) (i : ℕ) → blocks_in block_of (take i b) ≤ blocks_in block_of a
  blocks_within block_of i =
      let fewer = different_within (flat_map (λ r. map block_of (named r)) (take i b)) (flat_map (λ r. map block_of (named r)) a) (given_within (λ r. map block_of (named r)) i) in
      let front = ap different (taken_each block_of named (take i b)) in
      let whole = ap different (taken_each block_of named a) in
      omega (arith, fewer, front, whole, summed_within (λ s. cond (is_range s) 1 0) i)

  records_within : (i : ℕ) → length (filter says_something (take i b)) ≤ length (filter says_something a)
  records_within i =
      omega (arith, length-filter says_something (take i b), length-filter says_something a, summed_within (λ s. cond (says_something s) 1 0) i)

  module _ (once : NoneOffends V14 a) where
    canonical_within : (i : ℕ) → sum_by (canonical_room b) (take i b) ≤ sum_by (canonical_room a) a
    canonical_within i =
        let same : canonical_room a ≡ canonical_room b = fun_ext (rooms_by a b (steps_same a b moved once)) in
        subst (λ (f : Record → ℕ). sum_by f (take i b) ≤ sum_by (canonical_room a) a) same (summed_within (canonical_room a) i)

    mappings_within : (i : ℕ) → sum_by (mapping_room b) (take i b) ≤ sum_by (mapping_room a) a
    mappings_within i =
        let same : mapping_room a ≡ mapping_room b = fun_ext (all_rooms_by a b (any_steps_same a b moved once)) in
        subst (λ (f : Record → ℕ). sum_by f (take i b) ≤ sum_by (mapping_room a) a) same (summed_within (mapping_room a) i)

    front_fits : (i : ℕ) → FitTables a a → FitTables b (take i b)
    front_fits i fit = record {
      wide = omega (arith, fit.wide, blocks_within wide_block i);
      narrow = omega (arith, fit.narrow, blocks_within narrow_block i);
      elements = omega (arith, fit.elements, summed_within element_room i);
      beside = omega (arith, fit.beside, summed_within (λ s. cond (is_beside s) 1 0) i);
      canonical = omega (arith, fit.canonical, canonical_within i);
      mappings = omega (arith, fit.mappings, mappings_within i);
    }

    -- lines of which none is too large are so in every order,
    pub limit_moved : NoneOffends Limit a → NoneOffends Limit b
    limit_moved keep i lt over =
        ⊎_elim
        (λ lacks. fit_room b (take (i + 1) b) (front_fits (i + 1) (all_fit a keep)) lacks)
        (λ long. each_moved a b moved (λ r. IsLong r → ⊥) (λ j within h. keep j within (inr h)) i lt long)
        over

    -- and those of which none passes limits
    pub limits_moved : (limits : Limits) → NoneOffendsWithin limits Limit a → NoneOffendsWithin limits Limit b
    limits_moved limits keep i lt over =
        let few = none_over_together names_in limits.code_points (no_names limits.code_points) a (λ j within past. keep j within (inl past)) in
        let some = none_over_together (λ lines. length (filter says_something lines)) limits.records (omega arith) a (λ j within past. keep j within (inr (inl past))) in
        ⊎_elim
        (λ (past : limits.code_points < names_in (take (i + 1) b)). omega (arith, past, few, names_within (i + 1)))
        (λ w. ⊎_elim
        (λ (past : limits.records < length (filter says_something (take (i + 1) b))). omega (arith, past, some, records_within (i + 1)))
        (λ large. limit_moved (λ j within h. keep j within (inr (inr h))) i lt large)
        w)
        over
