-- What the builder refuses breaks the rules.
use Rattle.std.proofs.Common.{◌≡◌, ℕ, ◌+◌, ◌*◌, ◌/◌, ◌<◌, ⊎_elim, cond, List, [], ◌∷◌, length, Option, Some, None, refl, sym, ap, ◌∙◌, arith}
use Rattle.std.specs.Char.{IsScalar}
use Rattle.std.specs.List.{All}
use Rattle.std.specs.Option.{is_some, unwrap_or}
use Rattle.std.proofs.lemmas.List.Elements.{All-cons, All-nil}
use Rattle.std.proofs.lemmas.List.Sums.{sum_by-le-sum_by}
use Rattle.icu_normalizer_core.specs.declared.builder.given.GivenClass.{GivenClass}
use Rattle.icu_normalizer_core.specs.BuiltIn.{built_in_class, built_in_step}
use Rattle.icu_normalizer_core.specs.CanonicalLists.{AreTriples, listed_step, step_in}
use Rattle.icu_normalizer_core.specs.CanonicalMaps.{CanonicalMaps, KeepCanonicalRules, IsMapped, first_class, given_class, named, step_of, given_step}
use Rattle.icu_normalizer_core.specs.CharacterWords.{AreStarters, HasBadEnd, HasLongLists, class_with, keys_below}
use Rattle.icu_normalizer_core.specs.ListRoom.{HasRoom, list_room}
use Rattle.icu_normalizer_core.specs.Settled.{key_at}
use Rattle.icu_normalizer_core.proofs.built.BuiltInFacts.{small_class}
use Rattle.icu_normalizer_core.proofs.settling.TripleLemmas.{listed_of}
use Rattle.icu_normalizer_core.proofs.building.BuiltMapLemmas.{leaves_along, steps_same}
use Rattle.icu_normalizer_core.proofs.building.ListRoomLemmas.{all_keys, keys_distinct, room_alike}
use Rattle.icu_normalizer_core.proofs.building.MapNumberLemmas.{mapping_some, keys_free}

-- classes are below 255
pub kept_class : (maps : CanonicalMaps) → KeepCanonicalRules maps → (c : ℕ) → class_with maps.classes c < 255
kept_class maps rules c = by (built_in_class c) refl
  where
    given : (o : Option GivenClass) → first_class maps.classes c ≡ o → elim o [ Some g ↦ g.class | None ↦ 0 ] < 255
    given (Some g) e = ⊎_elim (λ within. let top = within.1 in omega arith) (λ fixed. small_class c g.class fixed) (rules.classes c g e)
    given None e = omega arith

    by : (o : Option ℕ) → built_in_class c ≡ o → unwrap_or o (given_class maps.classes c) < 255
    by (Some k) e = small_class c k e
    by None e = given (first_class maps.classes c) refl

pub kept_classes : (maps : CanonicalMaps) → KeepCanonicalRules maps → (list : List ℕ) → All (λ c. class_with maps.classes c < 255) list
kept_classes maps rules [] = All-nil (λ c. class_with maps.classes c < 255)
kept_classes maps rules (c ∷ cs) = All-cons (λ d. class_with maps.classes d < 255) c cs (kept_class maps rules c) (kept_classes maps rules cs)

module _ (maps : CanonicalMaps) (steps : List ℕ) (t : AreTriples steps)
    (listed : (c : ℕ) → listed_step steps c ≡ cond (is_some (built_in_step c)) [] (given_step maps.mappings c)) (rules : KeepCanonicalRules maps) where
  key_mapped : (index : ℕ) → index < length steps / 3 → IsMapped maps (key_at steps index)
  key_mapped index h =
      let free = keys_free maps.mappings steps t listed index h in
      let inside : 3 * index + 2 < length steps = let r = t.whole in omega arith in
      let is = listed_of steps (key_at steps index) index t (inside, refl) in
      let given = listed (key_at steps index) ∙ ap (λ (o : Option (List ℕ)). cond (is_some o) [] (given_step maps.mappings (key_at steps index))) free in
      (free, λ none. mapping_some _ _ (sym is ∙ given ∙ none))

  key_scalar : (index : ℕ) → index < length steps / 3 → IsScalar (key_at steps index)
  key_scalar index h = t.characters index (let r = t.whole in omega arith)

  -- mapped characters are starters
  pub kept_starters : AreStarters maps.classes steps
  kept_starters index h = rules.starters (key_at steps index) (key_scalar index h) (key_mapped index h)

  -- their steps end, in at most eight characters
  pub kept_ends : HasBadEnd steps → ⊥
  kept_ends w =
      let c : ℕ = key_at steps w.0 in
      let end = rules.ends c (key_scalar w.0 w.1) in
      let long = w.2 end.0 (leaves_along (step_of maps) (step_in steps) (c ∷ []) end.0 (λ d. sym (steps_same maps steps listed d)) end.1) in
      let few = (rules.full_lists c end.0 (key_scalar w.0 w.1) (key_mapped w.0 w.1) end.1).0 in
      omega (arith, long, few)

  -- and there is room for their lists
  pub kept_room : HasRoom (step_of maps) (IsMapped maps) (named maps) → HasLongLists steps → ⊥
  kept_room room long =
      let keys : List ℕ = keys_below steps (length steps / 3) in
      let same : (c : ℕ) → list_room (step_in steps) (step_in steps c) ≡ list_room (step_of maps) (step_of maps c) =
      λ c. ap (list_room (step_in steps)) (steps_same maps steps listed c)
      ∙ room_alike (step_in steps) (step_of maps) (step_of maps c) (λ k d h. steps_same maps steps listed _) in
      let all : All (IsMapped maps) keys = all_keys steps t (IsMapped maps) (length steps / 3) (omega arith) key_mapped in
      omega (
        arith,
        long,
        sum_by-le-sum_by (λ c. list_room (step_in steps) (step_in steps c)) (λ c. list_room (step_of maps) (step_of maps c)) keys (λ c. omega (arith, same c)),
        room.lists keys (keys_distinct steps t (length steps / 3) (omega arith)) all,
      )
