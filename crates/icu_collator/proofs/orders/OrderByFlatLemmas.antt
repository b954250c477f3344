-- How texts that are read flat compare, by their primaries.
use Rattle.std.proofs.Common.{◌≡◌, ℕ, ◌==◌, ◌/◌, ◌^◌, true, false, List, [], ◌∷◌, ◌++◌, map, filter_map, Option, Some, None, inl, inr, refl, sym, ◌∙◌, ap, subst, append_assoc, append-nil}
use Rattle.std.specs.Prelude.{◌≢◌, All, ltb}
use Rattle.std.specs.Char.{IsScalar}
use Rattle.std.specs.Ordering.{nat_cmp}
use Rattle.std.specs.declared.cmp.Ordering.{Ordering}
use Rattle.std.specs.declared.cmp.Ordering.TheVariants.{Less, Equal, Greater}
use Rattle.std.proofs.lemmas.Bool.{cases_Bool, true≢false}
use Rattle.std.proofs.lemmas.List.{map-append}
use Rattle.icu_normalizer_core.specs.Canonical.{IsDecomposing, decomposed}
use Rattle.icu_normalizer_core.specs.Iter.{Spells}
use Rattle.icu_collator_types.specs.declared.elements.Element.{Element}
use Rattle.icu_collator_types.specs.declared.options.ResolvedCollatorOptions.{ResolvedCollatorOptions}
use Rattle.icu_collator_types.specs.declared.options.Strength.TheVariants.{Identical}
use Rattle.icu_collator_types.specs.Options.{is_at_least, is_shifted}
use Rattle.icu_collator_core.specs.Acceptance.{CollationSource}
use Rattle.icu_collator_core.specs.Collation.{Collation}
use Rattle.icu_collator_core.specs.ElementLists.{unpacked}
use Rattle.icu_collator_core.specs.ElementTexts.{text_elements}
use Rattle.icu_collator_core.specs.FlatSteps.{BeginsWithPrimaries, IsNextPrimary, IsReadUpTo, StepsTo, primaries_in, primary_if_any}
use Rattle.icu_collator_core.specs.Pools.{element_of}
use Rattle.icu_collator_core.specs.ReadSources.{canonical_by}
use Rattle.icu_collator_core.specs.declared.flat.steps.FlatStep.{FlatStep}
use Rattle.icu_collator_core.specs.declared.flat.steps.FlatStep.TheVariants.{Primary, End, Other}
use Rattle.icu_collator_core.proofs.readings.FlatStepLemmas.{end_next, next_primary, nothing_read_to, primaries_on, read_on}
use Rattle.icu_collator.specs.Collators.{source_collation}
use Rattle.icu_collator.specs.FlatOrders.{AreAlikeSoFar, AreSettled, HaveSamePrimaries, IsByPrimaries, IsMeeting, IsMet, IsNextCounted, counted_primaries, does_count, moved_primaries, reordered_by}
use Rattle.icu_collator.specs.LevelLists.{counted_list, variable_end_of}
use Rattle.icu_collator.specs.Levels.{elements_of_text, levels_of, levels_of_text, primary_at}
use Rattle.icu_collator.specs.Order.{collation_order, list_order}
use Rattle.icu_collator.specs.Shifted.{Counted, counted, counted_behind, whole}
use Rattle.icu_collator.specs.TextsRead.{IsReadOf, numeric_by, order_from_secondaries}
use Rattle.icu_collator.specs.declared.compare.flat.ByPrimaries.TheVariants.{Decided, Same}
use Rattle.icu_collator.specs.declared.compare.flat.Meeting.{Meeting}
use Rattle.icu_collator.specs.declared.compare.flat.Meeting.TheVariants.{Alike, BothEnd, Parted, Stopped}
use Rattle.icu_collator.specs.declared.read_texts.texts.ReadText.{ReadText}
use Rattle.icu_collator.proofs.boundaries.DecidingCharacterLemmas.{primaries_decide}
use Rattle.icu_collator.proofs.boundaries.LevelFrontLemmas.{ranks_end, ranks_on}
use Rattle.icu_collator.proofs.lists.CompareLemmas.{equal_primaries, texts_read}
use Rattle.icu_collator.proofs.lists.CountedLemmas.{by_whole, none_below}
use Rattle.icu_collator.proofs.numbers.NumberLevelLemmas.{first_decides}
use Rattle.icu_collator.proofs.orders.CountedPrimaryLemmas.{by_options, counted_by_primaries, counted_ends, counted_without, counts_some, primaries_of, primaries_split}

-- where nothing is shifted, all elements count whole
all_whole : (collation : Collation) (options : ResolvedCollatorOptions) (es : List Element) → is_shifted options.alternate_handling ≡ false
    → counted collation options es ≡ map whole es
unfolding counted_behind
all_whole collation options [] unshifted = refl
all_whole collation options (e ∷ es) unshifted = rw unshifted (ap (λ (cs : List Counted). whole e ∷ cs) (all_whole collation options es unshifted))

-- a primary that comes next counts
pub primary_counts : (end p : ℕ) → does_count end p ≡ true → (q : ℕ) → Primary p ≡ Primary q → does_count end q ≡ true
primary_counts end p counts q is = let same : p ≡ q = cc in subst (λ (n : ℕ). does_count end n ≡ true) same counts

module _ (source : CollationSource) where
  abbrev collation : Collation
  collation = source_collation source

  module _ (numeric : Option ℕ) (options : ResolvedCollatorOptions) (is : numeric ≡ numeric_by source options) (end : ℕ) (at : end ≡ variable_end_of collation options) where
    -- the primaries of a text whose elements begin with these
    pub front_primaries : (text items : List ℕ) (more : List Element) → text_elements source numeric text ≡ unpacked items ++ more
        → (rest : List ℕ) × ((levels_of_text collation options text).primaries ≡ moved_primaries source end items ++ rest)
    unfolding levels_of
    front_primaries text items more are =
        let split = primaries_split source options end at false items more in
        (primaries_of source options end at split.0 more, ap (primaries_of source options end at false) (by_options source numeric options is text ∙ are) ∙ split.1)

    -- those of a text with these elements
    pub whole_of : (text items : List ℕ) → unpacked items ≡ text_elements source numeric text → (levels_of_text collation options text).primaries ≡ moved_primaries source end items
    unfolding levels_of counted_behind
    whole_of text items are =
        ap (primaries_of source options end at false) (by_options source numeric options is text ∙ sym are ∙ sym (append-nil (unpacked items)))
        ∙ (primaries_split source options end at false items []).1
        ∙ append-nil (moved_primaries source end items)

    -- those of a text that begins with the primaries of elements, and one that counts
    front_of : (text items : List ℕ) (p : ℕ) → does_count end p ≡ true → BeginsWithPrimaries source numeric text (primaries_in items ++ p ∷ [])
        → (rest : List ℕ) × ((levels_of_text collation options text).primaries ≡ moved_primaries source end items ++ reordered_by source p ∷ rest)
    front_of text items p counts begins =
        let said = front_primaries text begins.items begins.more begins.elements in (
          said.0,
          said.1
              ∙ ap (λ (ps : List ℕ). map (reordered_by source) ps ++ said.0) (counted_ends end items begins.items p begins.primaries counts)
              ∙ ap (λ (ps : List ℕ). ps ++ said.0) (map-append (reordered_by source) (counted_primaries end items) (p ∷ []))
              ∙ append_assoc (moved_primaries source end items) (reordered_by source p ∷ []) said.0,
        )

    module _ (a b : List ℕ) where
      pub order_by : (xs ys : List ℕ) (o : Ordering) → (levels_of_text collation options a).primaries ≡ xs → (levels_of_text collation options b).primaries ≡ ys
          → list_order (λ w. w) xs ys ≡ o → o ≢ Equal → o ≡ collation_order collation options a b
      order_by xs ys o e f is decided =
          sym (first_decides options (levels_of_text collation options a) (levels_of_text collation options b) o (rw (e, f) is) decided)

      pub parted : (lefts rights : List ℕ) (p q : ℕ) (o : Ordering) → does_count end p ≡ true → does_count end q ≡ true → moved_primaries source end lefts ≡ moved_primaries source end rights
          → BeginsWithPrimaries source numeric a (primaries_in lefts ++ p ∷ []) → BeginsWithPrimaries source numeric b (primaries_in rights ++ q ∷ [])
          → o ≡ nat_cmp (reordered_by source p) (reordered_by source q) → o ≢ Equal → o ≡ collation_order collation options a b
      parted lefts rights p q o counts also same left right is decided =
          let one = front_of a lefts p counts left in
          let two = front_of b rights q also right in
          let front = moved_primaries source end lefts in
          let differ : nat_cmp (reordered_by source p) (reordered_by source q) ≢ Equal = λ e. decided (is ∙ e) in
          order_by (front ++ reordered_by source p ∷ one.0) (front ++ reordered_by source q ∷ two.0) o one.1
          (two.1 ∙ ap (λ (l : List ℕ). l ++ reordered_by source q ∷ two.0) (sym same))
          (primaries_decide front one.0 two.0 (reordered_by source p) (reordered_by source q) differ ∙ sym is) decided

      pub right_ends : (lefts items : List ℕ) (p : ℕ) → does_count end p ≡ true → moved_primaries source end lefts ≡ moved_primaries source end items
          → BeginsWithPrimaries source numeric a (primaries_in lefts ++ p ∷ []) → unpacked items ≡ text_elements source numeric b → Greater ≡ collation_order collation options a b
      right_ends lefts items p counts same left right =
          let one = front_of a lefts p counts left in
          let front = moved_primaries source end lefts in
          order_by (front ++ reordered_by source p ∷ one.0) front Greater one.1 (whole_of b items right ∙ sym same) (ranks_on (λ w. w) front (reordered_by source p) one.0) (λ e. cc)

      pub left_ends : (items rights : List ℕ) (q : ℕ) → does_count end q ≡ true → moved_primaries source end items ≡ moved_primaries source end rights
          → unpacked items ≡ text_elements source numeric a → BeginsWithPrimaries source numeric b (primaries_in rights ++ q ∷ []) → Less ≡ collation_order collation options a b
      left_ends items rights q counts same left right =
          let two = front_of b rights q counts right in
          let front = moved_primaries source end items in
          order_by front (front ++ reordered_by source q ∷ two.0) Less (whole_of a items left)
          (two.1 ∙ ap (λ (l : List ℕ). l ++ reordered_by source q ∷ two.0) (sym same)) (ranks_end (λ w. w) front (reordered_by source q) two.0) (λ e. cc)

  -- ---- what comes next in both texts

  pub alike_left : (first second : FlatStep) → IsMeeting source first second Alike → (p : ℕ) × (first ≡ Primary p)
  alike_left (Primary p) (Primary q) m = (p, refl)
  alike_left (Primary p) End m = absurd m
  alike_left (Primary p) Other m = absurd m
  alike_left End (Primary q) m = absurd m
  alike_left End End m = absurd m
  alike_left End Other m = absurd m
  alike_left Other (Primary q) m = absurd m
  alike_left Other End m = absurd m
  alike_left Other Other m = absurd m

  pub alike_right : (first second : FlatStep) → IsMeeting source first second Alike → (q : ℕ) × (second ≡ Primary q)
  alike_right (Primary p) (Primary q) m = (q, refl)
  alike_right (Primary p) End m = absurd m
  alike_right (Primary p) Other m = absurd m
  alike_right End (Primary q) m = absurd m
  alike_right End End m = absurd m
  alike_right End Other m = absurd m
  alike_right Other (Primary q) m = absurd m
  alike_right Other End m = absurd m
  alike_right Other Other m = absurd m

  -- ---- a text that is read on

  module _ {I : Type 0} (steps : I → Option ℕ → I → Type 0) (end : ℕ) (numeric : Option ℕ) (text old : List ℕ) where
    -- what was read to, with no more primaries that count
    abbrev pub IsReadUncounted : I → ℕ → Type 0
    IsReadUncounted next trail = (new : List ℕ) × (counted_primaries end new ≡ counted_primaries end old) × IsReadUpTo source numeric steps text next trail new

    pub uncounted_next : (now next : I) (last c p trail : ℕ) → IsReadUncounted now last → steps now (Some c) next
        → StepsTo source numeric c last p trail → does_count end p ≡ false → IsReadUncounted next trail
    uncounted_next now next last c p trail h step steps_to test =
        let stepped = steps_to h.0 in (
          stepped.0,
          counted_without end h.0 stepped.0 p (primaries_on source numeric steps text last c p trail h.0 stepped.0 stepped.1) test ∙ h.1,
          read_on source numeric steps text now next last c p trail h.0 stepped.0 h.2 step stepped.1,
        )

    pub counted_next : (now next : I) (last c p trail : ℕ) → IsDecomposing (canonical_by source) → IsReadUncounted now last → steps now (Some c) next
        → StepsTo source numeric c last p trail → does_count end p ≡ true → IsNextCounted source end numeric steps text old (Primary p) next trail
    counted_next now next last c p trail decomposing h step steps_to test =
        (h.0, h.1, next_primary source numeric steps text now next last c p trail h.0 h.0 decomposing h.2 refl step steps_to (counts_some end p test))

    pub none_counted : (now next : I) (last class_then : ℕ) → IsReadUncounted now last → steps now None next
        → IsNextCounted source end numeric steps text old End next class_then
    none_counted now next last class_then h step = (h.0, h.1, end_next source numeric steps text now next last class_then h.0 h.0 h.2 refl step)

  -- ---- both texts

  module _ {I J : Type 0} (left_steps : I → Option ℕ → I → Type 0) (right_steps : J → Option ℕ → J → Type 0) (end : ℕ) (numeric : Option ℕ) (a b : List ℕ) where
    abbrev ReadAlike : I → J → ℕ → ℕ → Type 0
    ReadAlike left right left_class right_class = AreAlikeSoFar source end numeric left_steps right_steps a b left right left_class right_class

    pub begin_alike : (left : I) (right : J) → Spells left_steps left a → Spells right_steps right b → ReadAlike left right 0 0
    begin_alike left right spelled others = (
      [],
      [],
      record {
        left_read = nothing_read_to source numeric left_steps a left [] spelled refl;
        right_read = nothing_read_to source numeric right_steps b right [] others refl;
        same = refl;
      },
    )

    -- both go on with characters of one primary
    pub pass_both : (left next_left : I) (right next_right : J) (c d left_class right_class p left_trail right_trail : ℕ) → ReadAlike left right left_class right_class
        → left_steps left (Some c) next_left → right_steps right (Some d) next_right → StepsTo source numeric c left_class p left_trail → StepsTo source numeric d right_class p right_trail
        → ReadAlike next_left next_right left_trail right_trail
    pass_both left next_left right next_right c d left_class right_class p left_trail right_trail h step other first second =
        let one = first h.0 in
        let two = second h.1 in (
          one.0,
          two.0,
          record {
            left_read = read_on source numeric left_steps a left next_left left_class c p left_trail h.0 one.0 h.2.left_read step one.1;
            right_read = read_on source numeric right_steps b right next_right right_class d p right_trail h.1 two.0 h.2.right_read other two.1;
            same =
                elim (cases_Bool (does_count end p)) [
                  | inl counts ↦
                      let some = no_zero p (counts_some end p counts) in
                      ap (map (reordered_by source)) (counted_ends end h.0 one.0 p (primaries_on source numeric left_steps a left_class c p left_trail h.0 one.0 one.1 ∙ ap (λ (ps : List ℕ). primaries_in h.0 ++ ps) some) counts)
                      ∙ map-append (reordered_by source) (counted_primaries end h.0) (p ∷ [])
                      ∙ ap (λ (ps : List ℕ). ps ++ reordered_by source p ∷ []) h.2.same
                      ∙ sym (map-append (reordered_by source) (counted_primaries end h.1) (p ∷ []))
                      ∙ sym (ap (map (reordered_by source)) (counted_ends end h.1 two.0 p (primaries_on source numeric right_steps b right_class d p right_trail h.1 two.0 two.1 ∙ ap (λ (ps : List ℕ). primaries_in h.1 ++ ps) some) counts))
                  | inr none ↦
                      ap (map (reordered_by source)) (counted_without end h.0 one.0 p (primaries_on source numeric left_steps a left_class c p left_trail h.0 one.0 one.1) none)
                      ∙ h.2.same
                      ∙ sym (ap (map (reordered_by source)) (counted_without end h.1 two.0 p (primaries_on source numeric right_steps b right_class d p right_trail h.1 two.0 two.1) none))
                ];
          },
        )
      where
        no_zero : (q : ℕ) → (q == 0) ≡ false → primary_if_any q ≡ q ∷ []
        no_zero q e = rw e refl

    -- both go on with the same character
    pub pass_alike : (left next_left : I) (right next_right : J) (c class p trail : ℕ) → ReadAlike left right class class
        → left_steps left (Some c) next_left → right_steps right (Some c) next_right → StepsTo source numeric c class p trail → ReadAlike next_left next_right trail trail
    pass_alike left next_left right next_right c class p trail h step other steps_to =
        pass_both left next_left right next_right c c class class p trail trail h step other steps_to steps_to

    module _ (old_lefts old_rights : List ℕ) (same : moved_primaries source end old_lefts ≡ moved_primaries source end old_rights) (left : I) (right : J) (left_class right_class : ℕ) where
      abbrev pub LeftNext : FlatStep → Type 0
      LeftNext first = IsNextPrimary source numeric left_steps a old_lefts first left left_class

      abbrev pub RightNext : FlatStep → Type 0
      RightNext second = IsNextPrimary source numeric right_steps b old_rights second right right_class

      -- what comes next counts
      abbrev pub Counts : FlatStep → Type 0
      Counts step = (p : ℕ) → step ≡ Primary p → does_count end p ≡ true

      pub read_alike : (first second : FlatStep) → IsMeeting source first second Alike → LeftNext first → RightNext second → Counts first → Counts second
          → ReadAlike left right left_class right_class
      read_alike (Primary p) (Primary q) m l r counts also = (
        l.0,
        r.0,
        record {
          left_read = l.1.0;
          right_read = r.1.0;
          same = ap (map (reordered_by source)) (counted_ends end old_lefts l.0 p l.1.1 (counts p refl))
              ∙ map-append (reordered_by source) (counted_primaries end old_lefts) (p ∷ [])
              ∙ ap (λ (x : ℕ). moved_primaries source end old_lefts ++ x ∷ []) m ∙ ap (λ (ps : List ℕ). ps ++ reordered_by source q ∷ []) same
              ∙ sym (ap (map (reordered_by source)) (counted_ends end old_rights r.0 q r.1.1 (also q refl)) ∙ map-append (reordered_by source) (counted_primaries end old_rights) (q ∷ []));
        },
      )
      read_alike (Primary p) End m l r counts also = absurd m
      read_alike (Primary p) Other m l r counts also = absurd m
      read_alike End (Primary q) m l r counts also = absurd m
      read_alike End End m l r counts also = absurd m
      read_alike End Other m l r counts also = absurd m
      read_alike Other (Primary q) m l r counts also = absurd m
      read_alike Other End m l r counts also = absurd m
      read_alike Other Other m l r counts also = absurd m

      ended_same : (old new : List ℕ) → primaries_in new ≡ primaries_in old → moved_primaries source end new ≡ moved_primaries source end old
      ended_same old new e = ap (map (reordered_by source)) (counted_by_primaries end new old e)

      pub both_ended : (first second : FlatStep) → IsMeeting source first second BothEnd → LeftNext first → RightNext second
          → IsByPrimaries source end numeric a b Same
      both_ended End End m l r = λ options at is.
          whole_of numeric options is end at a l.0 l.1.0
          ∙ (ended_same old_lefts l.0 l.1.1 ∙ same ∙ sym (ended_same old_rights r.0 r.1.1))
          ∙ sym (whole_of numeric options is end at b r.0 r.1.0)
      both_ended (Primary p) (Primary q) m l r = absurd m
      both_ended (Primary p) End m l r = absurd m
      both_ended (Primary p) Other m l r = absurd m
      both_ended End (Primary q) m l r = absurd m
      both_ended End Other m l r = absurd m
      both_ended Other (Primary q) m l r = absurd m
      both_ended Other End m l r = absurd m
      both_ended Other Other m l r = absurd m

      pub meeting_decides : (first second : FlatStep) (o : Ordering) → IsMeeting source first second (Parted o) → LeftNext first → RightNext second
          → Counts first → Counts second → AreSettled source numeric a b old_lefts old_rights first second (Parted o) → All IsScalar a → All IsScalar b → IsByPrimaries source end numeric a b (Decided o)
      meeting_decides (Primary p) (Primary q) o m l r one two s ok also = λ options at is.
          parted numeric options is end at a b old_lefts old_rights p q o (one p refl) (two q refl) same (s.0 ok) (s.1 also) m.0 m.1
      meeting_decides (Primary p) End o m l r one two s ok also = λ options at is.
          m ∙ right_ends numeric options is end at a b old_lefts r.0 p (one p refl) (same ∙ sym (ended_same old_rights r.0 r.1.1)) (s.0 ok) r.1.0
      meeting_decides End (Primary q) o m l r one two s ok also = λ options at is.
          m ∙ left_ends numeric options is end at a b l.0 old_rights q (two q refl) (ended_same old_lefts l.0 l.1.1 ∙ same) l.1.0 (s.1 also)
      meeting_decides (Primary p) Other o m l r one two s ok also = absurd m
      meeting_decides End End o m l r one two s ok also = absurd m
      meeting_decides End Other o m l r one two s ok also = absurd m
      meeting_decides Other (Primary q) o m l r one two s ok also = absurd m
      meeting_decides Other End o m l r one two s ok also = absurd m
      meeting_decides Other Other o m l r one two s ok also = absurd m

      -- what they say, with what is left of both
      pub met : (first second : FlatStep) (meeting : Meeting) → IsMeeting source first second meeting → LeftNext first → RightNext second
          → Counts first → Counts second → AreSettled source numeric a b old_lefts old_rights first second meeting → All IsScalar a → All IsScalar b
          → IsMet source end numeric left_steps right_steps a b meeting left right left_class right_class
      met first second Alike m l r one two s ok also = read_alike first second m l r one two
      met first second BothEnd m l r one two s ok also = both_ended first second m l r
      met first second (Parted o) m l r one two s ok also = meeting_decides first second o m l r one two s ok also
      met first second Stopped m l r one two s ok also = tt

    -- both go on with characters whose primaries count
    pub steps_met : (left next_left : I) (right next_right : J) (c d left_class right_class p q left_trail right_trail : ℕ) (meeting : Meeting) → IsDecomposing (canonical_by source)
        → ReadAlike left right left_class right_class → left_steps left (Some c) next_left → right_steps right (Some d) next_right
        → StepsTo source numeric c left_class p left_trail → StepsTo source numeric d right_class q right_trail → does_count end p ≡ true → does_count end q ≡ true
        → IsMeeting source (Primary p) (Primary q) meeting
        → ((lefts rights : List ℕ) → IsNextPrimary source numeric left_steps a lefts (Primary p) next_left left_trail
        → IsNextPrimary source numeric right_steps b rights (Primary q) next_right right_trail → AreSettled source numeric a b lefts rights (Primary p) (Primary q) meeting)
        → All IsScalar a → All IsScalar b → IsMet source end numeric left_steps right_steps a b meeting next_left next_right left_trail right_trail
    steps_met left next_left right next_right c d left_class right_class p q left_trail right_trail meeting decomposing h step other first second counts also says settled ok scalars =
        let one = next_primary source numeric left_steps a left next_left left_class c p left_trail h.0 h.0 decomposing h.2.left_read refl step first (counts_some end p counts) in
        let two = next_primary source numeric right_steps b right next_right right_class d q right_trail h.1 h.1 decomposing h.2.right_read refl other second (counts_some end q also) in
        met h.0 h.1 h.2.same next_left next_right left_trail right_trail (Primary p) (Primary q) meeting says one two
        (primary_counts end p counts) (primary_counts end q also) (settled h.0 h.1 one two) ok scalars

    -- what is left of both counts only where they go on
    pub met_left : (meeting : Meeting) (left next_left : I) (right next_right : J) (left_class right_class : ℕ) → (meeting ≡ Alike → next_left ≡ left) → (meeting ≡ Alike → next_right ≡ right)
        → IsMet source end numeric left_steps right_steps a b meeting left right left_class right_class
        → IsMet source end numeric left_steps right_steps a b meeting next_left next_right left_class right_class
    met_left Alike left next_left right next_right left_class right_class same also h =
        subst (λ (it : I). ReadAlike it next_right left_class right_class) (sym (same refl))
        (subst (λ (it : J). ReadAlike left it left_class right_class) (sym (also refl)) h)
    met_left BothEnd left next_left right next_right left_class right_class same also h = h
    met_left (Parted o) left next_left right next_right left_class right_class same also h = h
    met_left Stopped left next_left right next_right left_class right_class same also h = h

  -- ---- texts with equal primaries

  zero_counted : (items : List ℕ) → counted_list 0 items ≡ map whole (unpacked items)
  zero_counted [] = refl
  zero_counted (bits ∷ items) =
      let none = none_below (bits / 2 ^ 32) (ltb 0x02000000 (bits / 2 ^ 32)) in
      ap (λ (e : Counted). e ∷ counted_list 0 items) (by_whole 0 bits none) ∙ ap (λ (es : List Counted). whole (element_of bits) ∷ es) (zero_counted items)

  module _ (numeric : Option ℕ) (options : ResolvedCollatorOptions) (unshifted : is_shifted options.alternate_handling ≡ false) (is : numeric ≡ numeric_by source options) where
    -- a text with these elements is read so
    pub flat_read : (text items kept : List ℕ) (end : ℕ) → end ≡ 0 → unpacked items ≡ text_elements source numeric text
        → (is_at_least options.strength Identical ≡ true → kept ≡ decomposed collation.canonical text) → IsReadOf collation options text items end kept
    flat_read text items kept end zero are listed =
        record {
          elements = ap (λ (n : ℕ). counted_list n items) zero ∙ zero_counted items ∙ ap (map whole) are
              ∙ ap (map whole) (sym (by_options source numeric options is text)) ∙ sym (all_whole collation options (elements_of_text collation options text) unshifted);
          characters = listed;
        }

    pub same_primaries : (inexact : is_at_least options.strength Identical ≡ false) (a b : List ℕ) (left right : ReadText) → left.variable_end ≡ 0 → right.variable_end ≡ 0
        → unpacked left.elements.now ≡ text_elements source numeric a → unpacked right.elements.now ≡ text_elements source numeric b
        → HaveSamePrimaries collation options a b
        → order_from_secondaries collation options left right ≡ collation_order collation options a b
    unfolding levels_of
    same_primaries inexact a b left right zero also one two primaries =
        let of : List Counted → List ℕ = λ cs. filter_map (primary_at collation) cs in
        let l = flat_read a left.elements.now left.characters.now left.variable_end zero one (λ exact. absurd (true≢false (sym exact ∙ inexact))) in
        let r = flat_read b right.elements.now right.characters.now right.variable_end also two (λ exact. absurd (true≢false (sym exact ∙ inexact))) in
        sym (equal_primaries collation options left right (ap of l.elements ∙ primaries ∙ sym (ap of r.elements)))
        ∙ texts_read collation options a b left right l r
