-- Full lists of compatibility mappings that keep the rules have room among the indices that words name.
use Rattle.std.proofs.Common.{◌≡◌, ℕ, ◌-◌, ◌^◌, ◌<◌, ◌≤◌, ◌==◌, ◌&&◌, ◌||◌, ⊎_elim, Bool, true, false, cond, ltb, not, List, [], ◌∷◌, ◌++◌, length, nat_eq, Option, Some, None, refl, sym, ap, ◌∙◌, arith}
use Rattle.std.specs.Prelude.{sum_by}
use Rattle.std.specs.List.{All, AllByRecursion, IsDistinct, filter}
use Rattle.std.specs.Option.{is_some}
use Rattle.std.specs.Char.{IsScalar}
use Rattle.std.proofs.lemmas.Bool.{and_parts, cases_Bool, cond-false, cond-true, false≢true}
use Rattle.std.proofs.lemmas.List.Elements.{All-cons, All-head, All-nil, All-tail}
use Rattle.std.proofs.lemmas.List.Sums.{sum_by-append, sum_by-cons}
use Rattle.std.proofs.lemmas.Option.{none-some, same_Some}
use Rattle.icu_normalizer_core.specs.declared.builder.mappings.Mappings.{Mappings}
use Rattle.icu_normalizer_core.specs.BuiltIn.{built_in_class, built_in_compatibility_step, built_in_step, is_built_in, singled_out}
use Rattle.icu_normalizer_core.specs.Canonical.{Canonical}
use Rattle.icu_normalizer_core.specs.CanonicalMaps.{CanonicalMaps, AreMeaning}
use Rattle.icu_normalizer_core.specs.CanonicalMeaning.{meaning}
use Rattle.icu_normalizer_core.specs.CharacterWords.{built_in_named}
use Rattle.icu_normalizer_core.specs.CompatibilityMaps.{AllMaps, IsMappedAtAll, KeepEachRule, all_named, all_steps_of}
use Rattle.icu_normalizer_core.specs.ListRoom.{HasRoom, is_stated, list_room}
use Rattle.icu_normalizer_core.specs.ListWords.{slots_of}
use Rattle.icu_normalizer_core.specs.SettledMappings.{IsSound, full_room, steps_in}
use Rattle.icu_normalizer_core.proofs.built.BuiltInFacts.{high_scalar}
use Rattle.icu_normalizer_core.proofs.building.AllStepLemmas.{all_second, cases_step, compatible, unbound}
use Rattle.icu_normalizer_core.proofs.building.AllStepLemmas.{step_fixed as fixed_compatibility}
use Rattle.icu_normalizer_core.proofs.building.CompatibilityRuleLemmas.{fixed_unmapped, same_step, step_scalars}
use Rattle.icu_normalizer_core.proofs.building.FullWordLemmas.{both_marks}
use Rattle.icu_normalizer_core.proofs.building.ListRoomLemmas.{empty_from, room_alike}

mark_stated : (c : ℕ) (ds : List ℕ) → built_in_compatibility_step c ≡ Some ds → (mark : ℕ) → ds ≡ mark ∷ [] → is_stated (mark ∷ []) ≡ true
unfolding built_in_compatibility_step
mark_stated c ds e mark is =
    ⊎_elim
    (λ t. ap is_stated (sym is ∙ sym (same_Some _ ds (sym (cond-true (c == 0xff9e) (Some (0x3099 ∷ [])) _ t) ∙ e))))
    (λ f.
    let rest = sym (cond-false (c == 0xff9e) (Some (0x3099 ∷ [])) _ f) ∙ e in
    ⊎_elim
    (λ t. ap is_stated (sym is ∙ sym (same_Some _ ds (sym (cond-true (c == 0xff9f) (Some (0x309a ∷ [])) None t) ∙ rest))))
    (λ g. absurd (none-some ds (sym (cond-false (c == 0xff9f) (Some (0x309a ∷ [])) None g) ∙ rest)))
    (cases_Bool (c == 0xff9f)))
    (cases_Bool (c == 0xff9e))

not_true : (b : Bool) → not b ≡ true → b ≡ false
not_true true e = let bad : false ≡ true = e in absurd cc
not_true false e = refl

-- what a filter keeps of distinct numbers are distinct ones
filtered_apart : (p : ℕ → Bool) (x : ℕ) (xs : List ℕ) → AllByRecursion (λ y. nat_eq x y ≡ false) xs → AllByRecursion (λ y. nat_eq x y ≡ false) (filter p xs)
filtered_apart p x [] all = tt
filtered_apart p x (y ∷ ys) all = by (p y) (filtered_apart p x ys all.1)
  where
    by : (b : Bool) → AllByRecursion (λ z. nat_eq x z ≡ false) (filter p ys) → AllByRecursion (λ z. nat_eq x z ≡ false) (cond b (y ∷ filter p ys) (filter p ys))
    by true later = (all.0, later)
    by false later = later

distinct_filtered : (p : ℕ → Bool) (xs : List ℕ) → IsDistinct nat_eq xs → IsDistinct nat_eq (filter p xs)
unfolding IsDistinct
distinct_filtered p [] d = tt
distinct_filtered p (x ∷ xs) d = by (p x) (distinct_filtered p xs d.1)
  where
    by : (b : Bool) → IsDistinct nat_eq (filter p xs) → IsDistinct nat_eq (cond b (x ∷ filter p xs) (filter p xs))
    by true later = (filtered_apart p x xs d.0, later)
    by false later = later

first_compatible : is_built_in 0xff9e ≡ true
unfolding built_in_compatibility_step built_in_step singled_out
first_compatible = refl

second_compatible : is_built_in 0xff9f ≡ true
unfolding built_in_compatibility_step built_in_step singled_out
second_compatible = refl

module _ (canonical_maps : CanonicalMaps) (over : Mappings) (sound : IsSound over) (means : AreMeaning canonical_maps (meaning over.tables.now)) where
  abbrev maps : AllMaps
  maps = record { canonical = canonical_maps; compatibilities = over.given.now }

  abbrev base : Canonical
  base = meaning over.tables.now

  abbrev steps : ℕ → List ℕ
  steps = steps_in over

  abbrev AreCharacters : List ℕ → Type 0
  AreCharacters xs = All IsScalar xs

  mark_room : (c k : ℕ) → built_in_class c ≡ Some k → 0 < k → built_in_step c ≡ None → full_room steps c ≡ 0
  mark_room c k e above free = ap (λ (o : Option (List ℕ)). cond (is_some o) 0 (list_room steps (steps c))) free ∙ ap (list_room steps) (both_marks over sound c k e above free)

  -- lists of characters that are scalar values have room by the maps' steps where they have by the tables'
  room_same : (c : ℕ) → IsScalar c → list_room steps (steps c) ≡ list_room (all_steps_of maps) (all_steps_of maps c)
  room_same c s =
      room_alike steps (all_steps_of maps) (steps c) (λ k d h. same_step canonical_maps over sound means _ (step_scalars canonical_maps over sound means c s k d h)) ∙ ap (list_room (all_steps_of maps)) (same_step canonical_maps over sound means c s)

  module _ (rules : KeepEachRule maps) where
    room_built_in : (c : ℕ) → IsScalar c → is_built_in c ≡ true → full_room steps c ≡ 0
    room_built_in c s e =
        ⊎_elim
        (λ free. ⊎_elim
        (λ none. absurd (false≢true (sym (unbound c free none) ∙ e)))
        (λ w.
        let k = compatible c w.0 w.1 in
        let leads : steps c ≡ k.mark ∷ [] = all_second base.step over.given.now c (fixed_unmapped canonical_maps over sound means rules c w.0 s w.1) ∙ fixed_compatibility over.given.now c w.0 w.1 ∙ k.is in
        let none : steps k.mark ≡ [] = both_marks over sound k.mark 8 k.mark_class (omega arith) k.mark_free in
        ap (λ (o : Option (List ℕ)). cond (is_some o) 0 (list_room steps (steps c))) free ∙ ap (list_room steps) leads
        ∙ ap (λ (xs : List ℕ). cond (ltb 0 (length xs) || false) 8 (slots_of (k.mark ∷ []))) none ∙ ap (λ (b : Bool). cond b 0 1) (mark_stated c w.0 w.1 k.mark k.is))
        (cases_step (built_in_compatibility_step c)))
        (λ w. ap (λ (o : Option (List ℕ)). cond (is_some o) 0 (list_room steps (steps c))) w.1)
        (cases_step (built_in_step c))

    takes : ℕ → Bool
    takes c = not (is_built_in c) && ltb 0 (length (steps c))

    room_none : (c : ℕ) → IsScalar c → takes c ≡ false → full_room steps c ≡ 0
    unfolding takes
    room_none c s e =
        ⊎_elim
        (λ t. room_built_in c s t)
        (λ f.
        let none : steps c ≡ [] = empty_from (steps c) (sym (ap (λ (b : Bool). not b && ltb 0 (length (steps c))) f) ∙ e) in
        ⊎_elim
        (λ free. ap (λ (o : Option (List ℕ)). cond (is_some o) 0 (list_room steps (steps c))) free ∙ ap (list_room steps) none)
        (λ w. ap (λ (o : Option (List ℕ)). cond (is_some o) 0 (list_room steps (steps c))) w.1)
        (cases_step (built_in_step c)))
        (cases_Bool (is_built_in c))

    room_some : (c : ℕ) → full_room steps c ≤ list_room steps (steps c)
    room_some c = by (is_some (built_in_step c))
      where
        by : (b : Bool) → cond b 0 (list_room steps (steps c)) ≤ list_room steps (steps c)
        by true = omega arith
        by false = omega arith

    -- those that take slots are mapped, and take what their mapping says at most
    taken : (cs : List ℕ) → AreCharacters cs
        → sum_by (full_room steps) cs ≤ sum_by (λ c. list_room (all_steps_of maps) (all_steps_of maps c)) (filter takes cs)
    taken [] all = omega arith
    taken (c ∷ cs) all = by (takes c) refl (taken cs (All-tail IsScalar c cs all))
      where
        by : (b : Bool) → takes c ≡ b → sum_by (full_room steps) cs ≤ sum_by (λ d. list_room (all_steps_of maps) (all_steps_of maps d)) (filter takes cs)
            → sum_by (full_room steps) (c ∷ cs) ≤ sum_by (λ d. list_room (all_steps_of maps) (all_steps_of maps d)) (cond b (c ∷ filter takes cs) (filter takes cs))
        by true e later =
            omega (
              arith,
              later,
              sum_by-cons (full_room steps) c cs,
              sum_by-cons (λ d. list_room (all_steps_of maps) (all_steps_of maps d)) c (filter takes cs),
              room_some c,
              room_same c (All-head IsScalar c cs all),
            )
        by false e later = omega (arith, later, sum_by-cons (full_room steps) c cs, room_none c (All-head IsScalar c cs all) e)

    takes_mapped : (c : ℕ) → IsScalar c → takes c ≡ true → IsMappedAtAll maps c
    unfolding takes
    takes_mapped c s t =
        let both = and_parts (not (is_built_in c)) (ltb 0 (length (steps c))) t in (
          not_true (is_built_in c) both.0,
          λ none. let empty : steps c ≡ [] = same_step canonical_maps over sound means c s ∙ none in absurd (false≢true (sym (ap (λ (xs : List ℕ). ltb 0 (length xs)) empty) ∙ both.1)),
        )

    all_mapped : (cs : List ℕ) → AreCharacters cs → All (IsMappedAtAll maps) (filter takes cs)
    all_mapped [] all = All-nil (IsMappedAtAll maps)
    all_mapped (c ∷ cs) all = by (takes c) refl (all_mapped cs (All-tail IsScalar c cs all))
      where
        by : (b : Bool) → takes c ≡ b → All (IsMappedAtAll maps) (filter takes cs) → All (IsMappedAtAll maps) (cond b (c ∷ filter takes cs) (filter takes cs))
        by true e later = All-cons (IsMappedAtAll maps) c (filter takes cs) (takes_mapped c (All-head IsScalar c cs all) e) later
        by false e later = later

    -- what is built in takes no slots
    fixed_room : sum_by (full_room steps) (0xff9e ∷ 0xff9f ∷ built_in_named) ≡ 0
    unfolding built_in_class built_in_step singled_out
    fixed_room =
        omega (
          arith,
          room_built_in 0xff9e (high_scalar 0xff9e (omega arith) (omega arith)) first_compatible,
          room_built_in 0xff9f (high_scalar 0xff9f (omega arith) (omega arith)) second_compatible,
          mark_room 0x300 230 refl (omega arith) refl,
          mark_room 0x301 230 refl (omega arith) refl,
          mark_room 0x308 230 refl (omega arith) refl,
          mark_room 0x313 230 refl (omega arith) refl,
          mark_room 0xf71 129 refl (omega arith) refl,
          mark_room 0xf72 130 refl (omega arith) refl,
          mark_room 0xf74 132 refl (omega arith) refl,
          mark_room 0xf80 130 refl (omega arith) refl,
          mark_room 0x3099 8 refl (omega arith) refl,
          mark_room 0x309a 8 refl (omega arith) refl,
        )

    -- full lists of characters, each once, and of those that are built in have room
    pub room_breaks : HasRoom (all_steps_of maps) (IsMappedAtAll maps) (all_named maps) → (list : List ℕ) → IsDistinct nat_eq list → AreCharacters list
        → 2 ^ 14 - 1 ≤ sum_by (full_room steps) ((0xff9e ∷ 0xff9f ∷ []) ++ (built_in_named ++ list)) → ⊥
    room_breaks room list distinct all many =
        omega (
          arith,
          many,
          sum_by-append (full_room steps) (0xff9e ∷ 0xff9f ∷ built_in_named) list,
          fixed_room,
          taken list all,
          room.lists (filter takes list) (distinct_filtered takes list distinct) (all_mapped list all),
        )
