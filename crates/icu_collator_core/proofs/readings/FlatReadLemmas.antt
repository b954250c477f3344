-- Characters that are read one by one, whatever stands around them, and texts of such characters.
use Rattle.std.proofs.Common.{◌≡◌, ℕ, ◌≤◌, true, List, [], ◌∷◌, ◌++◌, ◌⊎◌, ⊎_elim, inl, flat_map, length, take, Option, Some, None, refl, sym, ◌∙◌, ap, subst, append_assoc, append-nil}
use Rattle.std.specs.Option.{is_some}
use Rattle.std.proofs.lemmas.Bool.{and_from}
use Rattle.std.proofs.lemmas.List.{map-append}
use lib.Utf8.{scalar, scalars}
use Rattle.icu_normalizer_core.specs.Canonical.{decomposed, marks_in_order}
use Rattle.icu_normalizer_core.specs.Iter.{Spells}
use Rattle.icu_normalizer_core.proofs.decomposed_lists.IterLemmas.{Spells-end, Spells-next}
use Rattle.icu_collator_types.specs.declared.elements.Element.{Element}
use Rattle.icu_collator_core.specs.Acceptance.{CollationSource}
use Rattle.icu_collator_core.specs.Boundaries.{after}
use Rattle.icu_collator_core.specs.ElementLists.{unpacked}
use Rattle.icu_collator_core.specs.Elements.{Placed, Reading, elements_within, longest_prefix, placed_behind}
use Rattle.icu_collator_core.specs.ElementTexts.{text_elements}
use Rattle.icu_collator_core.specs.FlatNotes.{AreReadBefore, AreReadFlat, IsBoundaryApart, IsPushed, IsReadInOrder, MayStandBehind, StandInOrder, elements_behind, last_class}
use Rattle.icu_collator_core.specs.Pools.{element_of}
use Rattle.icu_collator_core.specs.ReadSources.{canonical_by, weights_by}
use Rattle.icu_collator_core.proofs.lookups.MatchLemmas.{scalars_front}
use Rattle.icu_collator_core.proofs.lookups.PlacedLemmas.{characters_placed}
use Rattle.icu_collator_core.proofs.lookups.PrefixLemmas.{scalars_join}
use Rattle.icu_collator_core.proofs.readings.AloneReadLemmas.{uncounted_read}
use Rattle.icu_collator_core.proofs.readings.FlatOrderLemmas.{last_appended, order_appended, order_stands}
use Rattle.icu_collator_core.proofs.readings.SplitAtBoundaryLemmas.{after_scalars}

module _ (source : CollationSource) (numeric : Option ℕ) where
  abbrev class : ℕ → ℕ
  class = (canonical_by source).class

  abbrev full : ℕ → List ℕ
  full = (canonical_by source).full

  pub flat_scalars : (list items : List ℕ) → AreReadFlat source numeric list items → scalars list ≡ true
  flat_scalars [] items h = refl
  flat_scalars (c ∷ cs) [] h = absurd h
  flat_scalars (c ∷ cs) (bits ∷ items) h = and_from (scalar c) (scalars cs) h.0.character (flat_scalars cs items h.1)

  -- characters that are read alone have their elements one after another, whatever follows
  pub flat_before : (list items : List ℕ) (last : ℕ) → AreReadFlat source numeric list items → AreReadBefore source numeric list last items
  unfolding elements_within placed_behind
  flat_before [] [] last h before later b s fits = refl
  flat_before [] (bits ∷ items) last h before later b s fits = absurd h
  flat_before (c ∷ cs) [] last h before later b s fits = absurd h
  flat_before (c ∷ cs) (bits ∷ items) last h before later b s fits =
      let canonical = canonical_by source in
      let weights = weights_by numeric source in
      let nearer = take longest_prefix (c ∷ before) in
      let p : Placed = record { character = c; before = before } in
      let ps = placed_behind nearer (cs ++ later) in
      let behind = ap scalars (characters_placed nearer (cs ++ later)) ∙ scalars_join cs later (flat_scalars cs items h.1) s in
      let first = uncounted_read canonical weights c bits h.0.alone (is_some numeric) p ps refl b behind h.0.ordinary h.0.uncounted h.0.undropped in
      ap (λ (r : Reading). r.elements ++ elements_within (length (cs ++ later)) canonical weights (is_some numeric) r.left) first
      ∙ ap (λ (es : List Element). element_of bits ∷ es)
      (flat_before cs items last h.1 nearer later (scalars_front longest_prefix (c ∷ before) (and_from (scalar c) (scalars before) h.0.character b)) s fits)

  -- characters after others
  read_behind : (xs is : List ℕ) (y : ℕ) (ys js : List ℕ) (last trail : ℕ) → scalars xs ≡ true → scalars (y ∷ ys) ≡ true
      → AreReadBefore source numeric xs last is → AreReadBefore source numeric (y ∷ ys) trail js → MayStandBehind source numeric last (y ∷ ys)
      → AreReadBefore source numeric (xs ++ y ∷ ys) trail (is ++ js)
  read_behind xs is y ys js last trail x_ok y_ok x_read y_read follows before later b s fits =
      let here = y ∷ ys in
      let between = after before xs in
      let End : List ℕ → List Element = λ l. elements_behind source numeric l later in
      ap (elements_behind source numeric before) (append_assoc xs here later)
      ∙ x_read before (here ++ later) b (scalars_join here later y_ok s) follows
      ∙ ap (λ (es : List Element). unpacked is ++ es) (y_read between later (after_scalars before xs b x_ok) s fits)
      ∙ sym (append_assoc (unpacked is) (unpacked js) (End (after between here)))
      ∙ ap (λ (es : List Element). es ++ End (after between here)) (sym (map-append element_of is js))
      ∙ ap (λ (l : List ℕ). unpacked (is ++ js) ++ End l) (sym (after_joined before xs here))
    where
      after_joined : (near ps qs : List ℕ) → after near (ps ++ qs) ≡ after (after near ps) qs
      after_joined near [] qs = refl
      after_joined near (p ∷ ps) qs = after_joined (take longest_prefix (p ∷ near)) ps qs

  order_behind : (list : List ℕ) (first : ℕ) (rest : List ℕ) (last : ℕ) → (last ≤ 255 → last_class class 0 list ≡ last)
      → MayStandBehind source numeric last (first ∷ rest) → StandInOrder class last (first ∷ rest) → StandInOrder class (last_class class 0 list) (first ∷ rest)
  order_behind list first rest last is follows order =
      ⊎_elim
      (λ (small : last ≤ 255). subst (λ (k : ℕ). StandInOrder class k (first ∷ rest)) (sym (is small)) order)
      (λ (boundary : IsBoundaryApart source numeric first). (inl boundary.0.starter, order.1))
      follows

  pub nothing_in_order : (items : List ℕ) → items ≡ [] → IsReadInOrder source numeric [] 0 items
  nothing_in_order items none =
      subst (λ (is : List ℕ). IsReadInOrder source numeric [] 0 is) (sym none)
      (record { characters = refl; read = λ before later b s fits. refl; order = tt; last = λ small. refl })

  -- characters that stand after others
  pub block_in_order : (list items : List ℕ) (last first : ℕ) (rest its : List ℕ) (trail : ℕ) → IsReadInOrder source numeric list last items
      → scalars (first ∷ rest) ≡ true → MayStandBehind source numeric last (first ∷ rest) → StandInOrder class last (first ∷ rest)
      → (trail ≤ 255 → last_class class last (first ∷ rest) ≡ trail) → AreReadBefore source numeric (first ∷ rest) trail its
      → IsReadInOrder source numeric (list ++ first ∷ rest) trail (items ++ its)
  block_in_order list items last first rest its trail h ok follows order end read =
      record {
        characters = scalars_join list (first ∷ rest) h.characters ok;
        read = read_behind list items first rest its last trail h.characters ok h.read read follows;
        order = order_appended class 0 list (first ∷ rest) h.order (order_behind list first rest last h.last follows order);
        last = λ small. last_appended class 0 list (first ∷ rest) ∙ end small;
      }

  pub more_in_order : (list items new : List ℕ) (last c trail : ℕ) → IsReadInOrder source numeric list last items
      → IsPushed source numeric c last items trail new → IsReadInOrder source numeric (list ++ full c) trail new
  more_in_order list items new last c trail h pushed =
      let flat = pushed.flat in
      let here = flat.first ∷ flat.rest in
      let joined = block_in_order list items last flat.first flat.rest pushed.items trail h flat.characters flat.follows flat.order flat.last flat.read in
      subst (λ (l : List ℕ). IsReadInOrder source numeric (list ++ l) trail new) (sym flat.full)
      (subst (λ (l : List ℕ). IsReadInOrder source numeric (list ++ here) trail l) (sym pushed.appended) joined)

  -- the elements of a text that is read whole
  pub whole_elements : (text list : List ℕ) (last : ℕ) (items : List ℕ) → IsReadInOrder source numeric list last items → flat_map full text ≡ list
      → unpacked items ≡ text_elements source numeric text
  unfolding decomposed elements_within placed_behind
  whole_elements text list last items h is =
      sym
      (ap (λ (l : List ℕ). elements_behind source numeric [] l) (ap (λ (l : List ℕ). marks_in_order class l) is ∙ order_stands class 0 list h.order ∙ sym (append-nil list))
      ∙ h.read [] [] refl refl tt ∙ append-nil (unpacked items))

  module _ {I : Type 0} (steps : I → Option ℕ → I → Type 0) where
    -- Of what an iterator gave, the full lists one after another are in order and have these elements, where what follows may
    -- stand after this class; the rest is left to the iterator.
    pub record IsReadSoFar (first now : I) (items : List ℕ) (last : ℕ) : Type 0 where
      pub list : List ℕ
      pub left : (cs : List ℕ) → Spells steps first cs → (rest : List ℕ) × (flat_map full cs ≡ list ++ flat_map full rest) × Spells steps now rest
      pub read : IsReadInOrder source numeric list last items

    pub nothing_read : (first now : I) (items : List ℕ) → now ≡ first → items ≡ [] → IsReadSoFar first now items 0
    nothing_read first now items same none =
        record {
          list = [];
          left = λ cs spelled. (cs, refl, subst (λ (it : I). Spells steps it cs) (sym same) spelled);
          read = nothing_in_order items none;
        }

    pub more_read : (first now next : I) (items new : List ℕ) (last is c : ℕ) → IsReadSoFar first now items last → steps now (Some c) next
        → IsPushed source numeric c last items is new → IsReadSoFar first next new is
    more_read first now next items new last is c h step pushed =
        let here = full c in
        record {
          list = h.list ++ here;
          left = λ cs spelled.
              let before = h.left cs spelled in
              let got = Spells-next steps now next c before.0 step before.2 in (
                got.0,
                before.1 ∙ ap (λ (l : List ℕ). h.list ++ flat_map full l) got.1 ∙ sym (append_assoc h.list here (flat_map full got.0)),
                got.2,
              );
          read = more_in_order h.list items new last c is h.read pushed;
        }

    pub all_read : (first now next : I) (items : List ℕ) (last : ℕ) → IsReadSoFar first now items last → steps now None next
        → (cs : List ℕ) → Spells steps first cs → unpacked items ≡ text_elements source numeric cs
    all_read first now next items last h step cs spelled =
        let before = h.left cs spelled in
        let none = Spells-end steps now next before.0 step before.2 in
        whole_elements cs h.list last items h.read (before.1 ∙ ap (λ (l : List ℕ). h.list ++ flat_map full l) none ∙ append-nil h.list)
