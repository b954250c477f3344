-- The compatibility word of a character, over sound mappings.
use Rattle.std.proofs.Common.{◌≡◌, ◌≢◌, ℕ, ◌<◌, ◌≤◌, ⊎_elim, cond, List, [], ◌∷◌, ◌++◌, length, take, Option, Some, None, refl, sym, ap, subst, ◌∙◌, arith}
use Rattle.std.specs.List.{All}
use Rattle.std.specs.Option.{IfSome, is_some, unwrap_or}
use Rattle.std.specs.Char.{IsScalar}
use Rattle.std.proofs.lemmas.Bool.{cases_eq}
use Rattle.std.proofs.lemmas.List.Elements.{All-cons, All-nil}
use Rattle.icu_normalizer_core.specs.declared.builder.mappings.Mappings.{Mappings}
use Rattle.icu_normalizer_core.specs.declared.canonical.check.left.Left.{Left}
use Rattle.icu_normalizer_core.specs.BuiltIn.{built_in_class, built_in_step}
use Rattle.icu_normalizer_core.specs.Canonical.{Canonical, IsFree, Leaves}
use Rattle.icu_normalizer_core.specs.CanonicalLists.{CanonicalLists, step_in}
use Rattle.icu_normalizer_core.specs.CanonicalMeaning.{lists_of, meaning}
use Rattle.icu_normalizer_core.specs.CanonicalWords.{built_in_full, full_of_word}
use Rattle.icu_normalizer_core.specs.CharacterWords.{IsWordOf}
use Rattle.icu_normalizer_core.specs.ListRoom.{list_room}
use Rattle.icu_normalizer_core.specs.ListWords.{KeepsStating, slots_of}
use Rattle.icu_normalizer_core.specs.Settled.{left_items}
use Rattle.icu_normalizer_core.specs.SettledMappings.{IsSound, KeepsFullWord, StartsLeft, full_room, steps_in}
use Rattle.icu_normalizer_core.proofs.built.BuiltInFacts.{built_in_left}
use Rattle.icu_normalizer_core.proofs.decomposed_lists.DecomposedLemmas.{left_one}
use Rattle.icu_normalizer_core.proofs.settling.LeftLemmas.{left_alone}
use Rattle.icu_normalizer_core.proofs.building.AllStepLemmas.{all_scalars, built_on, mark_alone, marks_unmapped, scalars_left}
use Rattle.icu_normalizer_core.proofs.building.CharacterWordLemmas.{form_states, states_class, unlisted_step}
use Rattle.icu_normalizer_core.proofs.building.FullListWordLemmas.{left_some, take_all_of, take_some, take_whole}
use Rattle.icu_normalizer_core.proofs.building.ListRoomLemmas.{room_of_list}
use Rattle.icu_normalizer_core.proofs.building.MappingReadLemmas.{decomposing}

-- what is left, by its first nine characters where these are at most eight
starts_whole : (step : ℕ → List ℕ) (text : List ℕ) (left : Left) → (s : StartsLeft step text left) → length (left_items left) ≤ 8 → left_items left ≡ s.0
starts_whole step text left s few = s.2 ∙ take_whole 9 s.0 (omega (arith, few, ap length s.2))

module _ (over : Mappings) (sound : IsSound over) where
  abbrev base : Canonical
  base = meaning over.tables.now

  abbrev lists : CanonicalLists
  lists = lists_of over.tables.now

  abbrev steps : ℕ → List ℕ
  steps = steps_in over

  pub both_on : (c : ℕ) (ds : List ℕ) → built_in_step c ≡ Some ds → steps c ≡ ds
  both_on = built_on base (decomposing over sound) over.given.now sound.given sound.starters

  pub both_marks : (c k : ℕ) → built_in_class c ≡ Some k → 0 < k → built_in_step c ≡ None → steps c ≡ []
  both_marks = marks_unmapped base (decomposing over sound) over.given.now sound.given sound.starters

  -- steps of both kinds leave what canonical ones leave of a character with a built-in mapping
  pub built_in_same : (c : ℕ) (ds list : List ℕ) → built_in_step c ≡ Some ds → Leaves steps (c ∷ []) list → built_in_full c ≡ Some list
  built_in_same c ds list e leaves =
      let b = built_in_left steps both_on both_marks c ds e in
      b.is ∙ ap (λ (xs : List ℕ). Some xs) (left_one steps (c ∷ []) b.list list b.left leaves)

  -- the class of a character is the built-in one, where it has one
  pub class_kept : (c : ℕ) → unwrap_or (built_in_class c) (base.class c) ≡ base.class c
  class_kept c = by (built_in_class c) ((decomposing over sound).built_in_classes c)
    where
      by : (o : Option ℕ) → IfSome o (λ k. base.class c ≡ k) → unwrap_or o (base.class c) ≡ base.class c
      by None h = refl
      by (Some k) h = sym h

  -- a word that says what is built in, of a character with a built-in mapping
  pub fixed_word : (c word : ℕ) (ds scalars24 : List ℕ) → built_in_step c ≡ Some ds → ((s24 : List ℕ) → IsWordOf (base.class c) [] s24 c word)
      → KeepsFullWord steps (base.class c) scalars24 c word
  fixed_word c word ds scalars24 e says more =
      let w = says (scalars24 ++ more) in
      let b = built_in_left steps both_on both_marks c ds e in
      let is : full_of_word [] (scalars24 ++ more) c word ≡ b.list =
      subst (λ (o : Option (List ℕ)). IfSome o (λ list. full_of_word [] (scalars24 ++ more) c word ≡ list)) b.is w.built_in in
      record { fits = w.fits; form = w.form; inside = w.inside; class = w.class; full = subst (Leaves steps (c ∷ [])) (sym is) b.left }

  left_whole : (c : ℕ) (left : Left) → StartsLeft steps (c ∷ []) left → length (left_items left) ≤ 8 → Leaves steps (c ∷ []) (left_items left)
  left_whole c left starts few = subst (Leaves steps (c ∷ [])) (sym (starts_whole steps (c ∷ []) left starts few)) starts.1

  -- a word that says what is built in, of a character without a mapping
  pub own_word : (c word : ℕ) (scalars24 : List ℕ) (left : Left) → IsFree c → StartsLeft steps (c ∷ []) left → length (left_items left) ≤ 8 → left_items left ≡ c ∷ []
      → ((s24 : List ℕ) → IsWordOf (base.class c) [] s24 c word) → KeepsFullWord steps (base.class c) scalars24 c word
  own_word c word scalars24 left free starts few own says more =
      let w = says (scalars24 ++ more) in
      let is : full_of_word [] (scalars24 ++ more) c word ≡ c ∷ [] =
      left_one (step_in []) (c ∷ []) _ (c ∷ []) (w.full free) (left_alone (step_in []) c (unlisted_step [] c (λ i h. absurd (omega arith)) free)) in
      record {
        fits = w.fits;
        form = w.form;
        inside = w.inside;
        class = w.class;
        full = subst (Leaves steps (c ∷ [])) (own ∙ sym is) (left_whole c left starts few);
      }

  -- a character is a starter where steps leave another list of it
  pub other_starter : (c : ℕ) (left : Left) → IsScalar c → IsFree c → StartsLeft steps (c ∷ []) left → left_items left ≢ c ∷ [] → base.class c ≡ 0
  other_starter c left s free starts other =
      ⊎_elim
      (λ zero. zero)
      (λ mark.
      let none = mark_alone base (decomposing over sound) over.given.now sound.given sound.starters c s mark free in
      absurd (other (starts.2 ∙ ap (take 9) (left_one steps (c ∷ []) starts.0 (c ∷ []) starts.1 (left_alone steps c none)))))
      (cases_eq (base.class c) 0)

  -- the list takes no more slots than its mapping says
  pub list_fits : (c : ℕ) (left : Left) → IsFree c → StartsLeft steps (c ∷ []) left → length (left_items left) ≤ 8 → left_items left ≢ c ∷ []
      → slots_of (left_items left) ≤ full_room steps c
  list_fits c left free starts few other =
      let leaves = left_whole c left starts few in
      subst (λ (n : ℕ). slots_of (left_items left) ≤ n) (sym (ap (λ (o : Option (List ℕ)). cond (is_some o) 0 (list_room steps (steps c))) free))
      (room_of_list steps c (left_items left) (λ none. other (left_one steps (c ∷ []) (left_items left) (c ∷ []) leaves (left_alone steps c none))) leaves few)

  -- a word that states the list, of a character that is a starter
  pub stated_word : (c word : ℕ) (scalars24 : List ℕ) (left : Left) → base.class c ≡ 0 → StartsLeft steps (c ∷ []) left → length (left_items left) ≤ 8
      → KeepsStating [] scalars24 word (left_items left) → KeepsFullWord steps (base.class c) scalars24 c word
  stated_word c word scalars24 left starter starts few keeps more =
      let states = keeps more in
      record {
        fits = states.fits;
        form = form_states c word states.states;
        inside = states.inside;
        class = states_class c word states.states ∙ sym starter;
        full = subst (Leaves steps (c ∷ [])) (sym (states.full c ∙ starts_whole steps (c ∷ []) left starts few)) starts.1;
      }

  pub left_characters : (c : ℕ) (left : Left) → IsScalar c → StartsLeft steps (c ∷ []) left → All IsScalar (left_items left)
  left_characters c left s starts =
      let all = scalars_left steps (c ∷ []) starts.0 (all_scalars base (decomposing over sound) over.given.now sound.given sound.starters) (All-cons IsScalar c [] s (All-nil IsScalar)) starts.1 in
      subst (All IsScalar) (sym starts.2) (take_all_of IsScalar 9 starts.0 all)

  pub left_nonempty : (c : ℕ) (left : Left) → StartsLeft steps (c ∷ []) left → 0 < length (left_items left)
  left_nonempty c left starts = subst (λ (xs : List ℕ). 0 < length xs) (sym starts.2) (take_some starts.0 (left_some steps c [] starts.0 starts.1))
