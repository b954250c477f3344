-- Texts that are read by stretches: the elements of a text are those of its stretches, one after another.
use Rattle.std.proofs.Common.{◌≡◌, ℕ, zero, suc, ◌+◌, ◌<◌, ◌≤◌, ltb, Bool, true, false, ◌&&◌, List, [], ◌∷◌, ◌++◌, ◌⊎◌, ⊎_elim, inl, inr, flat_map, length, take, Option, Some, None, refl, sym, ◌∙◌, ap, subst, arith, append_assoc, append-nil, length-append}
use Rattle.std.specs.Option.{is_some}
use Rattle.std.specs.Prelude.{slice_index}
use Rattle.std.proofs.lemmas.Bool.{and_from, and_parts, cases_lt, cond_both, lt-ltb, ltb-true, true≢false}
use Rattle.std.proofs.lemmas.Grind.{flat_map-append}
use Rattle.std.proofs.lemmas.List.{length-take-le, take-append-le}
use Rattle.icu_normalizer_core.specs.Canonical.{decomposed, marks_in_order, put_in_order}
use Rattle.icu_normalizer_core.specs.Iter.{Spells}
use Rattle.icu_normalizer_core.proofs.decomposed_lists.DecomposedLemmas.{order_before}
use Rattle.icu_normalizer_core.proofs.decomposed_lists.IterLemmas.{Spells-end, Spells-next}
use Rattle.icu_collator_core.specs.Acceptance.{CollationSource}
use Rattle.icu_collator_core.specs.ElementLists.{unpacked}
use Rattle.icu_collator_core.specs.Elements.{elements_within, placed_behind}
use Rattle.icu_collator_core.specs.ElementTexts.{text_elements}
use Rattle.icu_collator_core.specs.FlatNotes.{AreReadBefore, BeginsApart, IsBoundaryApart, IsFlat, IsPushed, IsReadInOrder, MayFollow, MayStandBehind, StandInOrder, elements_behind, last_class}
use Rattle.icu_collator_core.specs.Pairs.{IsPair}
use Rattle.icu_collator_core.specs.ReadSources.{canonical_by, weights_by}
use Rattle.icu_collator_core.specs.Stretches.{BeginsWithBoundary, HasElements, IsClosed, IsReadUpToStretch}
use Rattle.icu_collator_core.proofs.readings.AlikeLemmas.{elements_alike}
use Rattle.icu_collator_core.proofs.readings.BoundaryReadLemmas.{read_apart}
use Rattle.icu_collator_core.proofs.readings.FlatOrderLemmas.{last_appended, order_stands}
use Rattle.icu_collator_core.proofs.readings.FlatReadLemmas.{block_in_order, more_in_order, nothing_in_order}

-- ---- lists

-- a list of one
pub only_one : (xs : List ℕ) (x : ℕ) → length xs ≡ 1 → x ≡ slice_index xs 0 → xs ≡ x ∷ []
only_one [] x l e = absurd (omega (arith, l))
only_one (a ∷ []) x l e = ap (λ (y : ℕ). y ∷ []) (sym e)
only_one (a ∷ b ∷ more) x l e = absurd (omega (arith, l))

-- ---- marks that were put in order stand in order

module _ (class : ℕ → ℕ) where
  put_stands : (before c : ℕ) (ds : List ℕ) → MayFollow before (class c) → StandInOrder class before ds → StandInOrder class before (put_in_order class c ds)
  unfolding put_in_order
  put_stands before c [] follows h = (follows, tt)
  put_stands before c (d ∷ ds) follows h =
      cond_both (ltb 0 (class d) && ltb (class d) (class c)) (d ∷ put_in_order class c ds) (c ∷ d ∷ ds) (StandInOrder class before)
      (λ is.
      let below : class d < class c = ltb-true (class d) (class c) (and_parts (ltb 0 (class d)) (ltb (class d) (class c)) is).1
      in (h.0, put_stands (class d) c ds (inr (omega arith)) h.1))
      (λ is. (follows, (next is, h.1)))
    where
      next : (ltb 0 (class d) && ltb (class d) (class c)) ≡ false → MayFollow (class c) (class d)
      next is =
          elim (cases_lt 0 (class d)) [
            | inr none ↦ inl (omega arith)
            | inl some ↦
                elim (cases_lt (class d) (class c)) [
                  | inr above ↦ inr above
                  | inl below ↦
                      absurd (true≢false (sym (and_from (ltb 0 (class d)) (ltb (class d) (class c)) (lt-ltb 0 (class d) some) (lt-ltb (class d) (class c) below)) ∙ is))
                ]
          ]

  sorted_stands : (list : List ℕ) → StandInOrder class 0 (marks_in_order class list)
  unfolding marks_in_order
  sorted_stands [] = tt
  sorted_stands (c ∷ cs) = put_stands 0 c (marks_in_order class cs) (inr (omega arith)) (sorted_stands cs)

  pub order_behind_front : (before : ℕ) (xs ys : List ℕ) → StandInOrder class before (xs ++ ys) → StandInOrder class (last_class class before xs) ys
  order_behind_front before [] ys h = h
  order_behind_front before (x ∷ xs) ys h = order_behind_front (class x) xs ys h.1

  -- marks are put in order after a starter as by themselves
  pub starter_first : (d : ℕ) (ms : List ℕ) → class d ≡ 0 → marks_in_order class (d ∷ ms) ≡ d ∷ marks_in_order class ms
  unfolding marks_in_order
  starter_first d ms starter = order_before class d [] ms starter

module _ (source : CollationSource) (numeric : Option ℕ) where
  abbrev class : ℕ → ℕ
  class = (canonical_by source).class

  abbrev full : ℕ → List ℕ
  full = (canonical_by source).full

  abbrev normal : List ℕ → List ℕ
  normal text = decomposed (canonical_by source) text

  -- what may stand after a class may stand after any where a boundary has to follow
  pub before_boundary : (list items : List ℕ) (last : ℕ) → IsReadInOrder source numeric list last items → IsReadInOrder source numeric list 256 items
  before_boundary list items last h =
      record {
        characters = h.characters;
        read = λ before later b s fits. h.read before later b s (weaker later fits);
        order = h.order;
        last = λ (small : 256 ≤ 255). absurd (omega (arith, small));
      }
    where
      weaker : (later : List ℕ) → MayStandBehind source numeric 256 later → MayStandBehind source numeric last later
      weaker [] fits = tt
      weaker (d ∷ ds) fits = ⊎_elim (λ (small : 256 ≤ 255). absurd (omega (arith, small))) (λ (apart : IsBoundaryApart source numeric d). inr apart) fits

  -- what may stand after a boundary alone is one
  pub flat_begins : (c : ℕ) (items : List ℕ) (trail : ℕ) → IsFlat source numeric c 256 items trail → BeginsApart source numeric c
  flat_begins c items trail flat =
      record {
        first = flat.first;
        rest = flat.rest;
        full = flat.full;
        apart = ⊎_elim (λ (small : 256 ≤ 255). absurd (omega (arith, small))) (λ (apart : IsBoundaryApart source numeric flat.first). apart) flat.follows;
      }

  -- ---- a decomposed list by itself

  elements_read : (list items : List ℕ) → HasElements source numeric list items → AreReadBefore source numeric list 256 items
  elements_read list items h =
      read_apart source numeric list items h.characters
      (λ before b.
      elements_alike (canonical_by source) (weights_by numeric source) (is_some numeric) (length list) (placed_behind before list) (placed_behind [] list)
      (h.alone before b)
      ∙ sym h.elements)

  no_elements : (items : List ℕ) → HasElements source numeric [] items → items ≡ []
  unfolding elements_within
  no_elements [] h = refl
  no_elements (x ∷ xs) h = absurd (omega (arith, ap (λ (l : List _). length l) h.elements))

  -- ---- texts

  abbrev IsUpTo : List ℕ → List ℕ → ℕ → ℕ → Bool → List ℕ → Type 0
  IsUpTo = IsReadUpToStretch source numeric

  pub nothing_opened : (chars : List ℕ) (count last : ℕ) (is_rough : Bool) (items : List ℕ) → chars ≡ [] → count ≡ 0 → last ≡ 0 → items ≡ []
      → IsUpTo [] chars count last is_rough items
  nothing_opened chars count last is_rough items no_chars no_count no_class none =
      record {
        done = [];
        before = 0;
        closed = nothing_in_order source numeric (take count items) (ap (λ (n : ℕ). take n items) no_count);
        counted = omega (arith, no_count);
        begins = inl refl;
        same = λ rest. sym (ap (λ (l : List ℕ). normal (l ++ rest)) no_chars);
        flat = λ _.
            subst (λ (l : List ℕ). IsReadInOrder source numeric l last items) (sym (ap (flat_map full) no_chars))
            (subst (λ (k : ℕ). IsReadInOrder source numeric [] k items) (sym no_class) (nothing_in_order source numeric items none));
      }

  split_text : (text chars done : List ℕ) → ((rest : List ℕ) → normal (text ++ rest) ≡ done ++ normal (chars ++ rest)) → normal text ≡ done ++ normal chars
  split_text text chars done same =
      ap normal (sym (append-nil text)) ∙ same [] ∙ ap (λ (l : List ℕ). done ++ normal l) (append-nil chars)

  pub flat_closed : (text chars : List ℕ) (count last : ℕ) (is_rough : Bool) (items : List ℕ) → IsUpTo text chars count last is_rough items → is_rough ≡ false
      → IsClosed source numeric text last items
  unfolding decomposed
  flat_closed text chars count last is_rough items h smooth =
      let read = h.flat smooth in
      let stands = order_stands class (last_class class 0 h.done) (flat_map full chars) (order_behind_front class 0 h.done (flat_map full chars) read.order) in
      subst (λ (l : List ℕ). IsReadInOrder source numeric l last items)
      (sym (split_text text chars h.done h.same ∙ ap (λ (l : List ℕ). h.done ++ l) stands)) read

  pub rough_closed : (text chars : List ℕ) (count last : ℕ) (is_rough : Bool) (items found : List ℕ) → IsUpTo text chars count last is_rough items
      → HasElements source numeric (normal chars) found → IsClosed source numeric text 256 (take count items ++ found)
  unfolding decomposed
  rough_closed text chars count last is_rough items found h has =
      subst (λ (l : List ℕ). IsReadInOrder source numeric l 256 (take count items ++ found)) (sym (split_text text chars h.done h.same)) (by_list (normal chars) refl)
    where
      by_list : (list : List ℕ) → normal chars ≡ list → IsReadInOrder source numeric (h.done ++ list) 256 (take count items ++ found)
      by_list [] is =
          let none : found ≡ [] = no_elements found (subst (λ (l : List ℕ). HasElements source numeric l found) is has) in
          subst (λ (l : List ℕ). IsReadInOrder source numeric l 256 (take count items ++ found)) (sym (append-nil h.done))
          (subst (λ (l : List ℕ). IsReadInOrder source numeric h.done 256 l) (sym (ap (λ (l : List ℕ). take count items ++ l) none ∙ append-nil (take count items)))
          (before_boundary h.done (take count items) h.before h.closed))
      by_list (first ∷ rest) is =
          let own = subst (λ (l : List ℕ). HasElements source numeric l found) is has in
          let order : StandInOrder class 0 (first ∷ rest) = subst (StandInOrder class 0) is (sorted_stands class (flat_map full chars)) in
          let begins : (h.before ≡ 0) ⊎ IsBoundaryApart source numeric first =
          ⊎_elim (λ (start : h.before ≡ 0). inl start)
          (λ (b : BeginsWithBoundary source numeric (flat_map full chars)).
          let list = ap (marks_in_order class) b.list_is ∙ starter_first class b.first b.rest b.apart.0.starter in
          let whole : first ∷ rest ≡ b.first ∷ marks_in_order class b.rest = sym is ∙ list in
          let same : b.first ≡ first = cc in
          inr (subst (IsBoundaryApart source numeric) same b.apart))
          h.begins in
          block_in_order source numeric h.done (take count items) h.before first rest found 256 h.closed own.characters
          (⊎_elim (λ (start : h.before ≡ 0). inl (omega arith)) (λ (b : IsBoundaryApart source numeric first). inr b) begins)
          (⊎_elim (λ (start : h.before ≡ 0). inr (omega arith)) (λ (b : IsBoundaryApart source numeric first). inl b.0.starter) begins, order.1)
          (λ (small : 256 ≤ 255). absurd (omega (arith, small)))
          (elements_read (first ∷ rest) found own)

  -- ---- characters

  pushed_kept : (count : ℕ) (items new more : List ℕ) → count ≤ length items → new ≡ items ++ more → take count new ≡ take count items
  pushed_kept count items new more within is = ap (take count) is ∙ take-append-le count items more within

  pushed_within : (count : ℕ) (items new more : List ℕ) → count ≤ length items → new ≡ items ++ more → count ≤ length new
  pushed_within count items new more within is = omega (arith, ap (λ (l : List ℕ). length l) is, length-append items more)

  -- a boundary begins a stretch
  pub stretch_begun : (text items new : List ℕ) (last c trail : ℕ) → IsClosed source numeric text last items → BeginsApart source numeric c
      → IsPushed source numeric c last items trail new → IsUpTo (text ++ c ∷ []) (c ∷ []) (length items) trail false new
  unfolding decomposed
  stretch_begun text items new last c trail h b pushed =
      let within : length items ≤ length items = omega arith in
      record {
        done = normal text;
        before = 256;
        closed = subst (IsReadInOrder source numeric (normal text) 256) (sym (pushed_kept (length items) items new pushed.items within pushed.appended ∙ whole items))
            (before_boundary (normal text) items last h);
        counted = pushed_within (length items) items new pushed.items within pushed.appended;
        begins = inr (record { first = b.first; rest = b.rest; list_is = append-nil (full c) ∙ b.full; apart = b.apart });
        same = λ rest.
            let behind = b.rest ++ flat_map full rest in
            let here : full c ++ flat_map full rest ≡ b.first ∷ behind = ap (λ (l : List ℕ). l ++ flat_map full rest) b.full in
            ap normal (append_assoc text (c ∷ []) rest)
            ∙ ap (marks_in_order class) (flat_map-append full text (c ∷ rest) ∙ ap (λ (l : List ℕ). flat_map full text ++ l) here)
            ∙ order_before class b.first (flat_map full text) behind b.apart.0.starter
            ∙ ap (λ (l : List ℕ). normal text ++ l) (sym (ap (marks_in_order class) here ∙ starter_first class b.first behind b.apart.0.starter));
        flat = λ _.
            subst (λ (l : List ℕ). IsReadInOrder source numeric (normal text ++ l) trail new) (sym (append-nil (full c)))
            (more_in_order source numeric (normal text) items new last c trail h pushed);
      }
    where
      whole : (xs : List ℕ) → take (length xs) xs ≡ xs
      whole [] = refl
      whole (x ∷ xs) = ap (λ (l : List ℕ). x ∷ l) (whole xs)

  joined_full : (chars : List ℕ) (c : ℕ) → flat_map full (chars ++ c ∷ []) ≡ flat_map full chars ++ full c
  joined_full chars c = flat_map-append full chars (c ∷ []) ∙ ap (λ (l : List ℕ). flat_map full chars ++ l) (append-nil (full c))

  begins_still : (before : ℕ) (chars : List ℕ) (c : ℕ) → (before ≡ 0) ⊎ BeginsWithBoundary source numeric (flat_map full chars)
      → (before ≡ 0) ⊎ BeginsWithBoundary source numeric (flat_map full (chars ++ c ∷ []))
  begins_still before chars c h =
      ⊎_elim (λ (start : before ≡ 0). inl start)
      (λ (b : BeginsWithBoundary source numeric (flat_map full chars)).
      inr (record { first = b.first; rest = b.rest ++ full c; list_is = joined_full chars c ∙ ap (λ (l : List ℕ). l ++ full c) b.list_is; apart = b.apart }))
      h

  same_still : (text chars done : List ℕ) (c : ℕ) → ((rest : List ℕ) → normal (text ++ rest) ≡ done ++ normal (chars ++ rest))
      → (rest : List ℕ) → normal ((text ++ c ∷ []) ++ rest) ≡ done ++ normal ((chars ++ c ∷ []) ++ rest)
  same_still text chars done c same rest =
      ap normal (append_assoc text (c ∷ []) rest) ∙ same (c ∷ rest) ∙ ap (λ (l : List ℕ). done ++ normal l) (sym (append_assoc chars (c ∷ []) rest))

  -- a character that is read flat after a flat stretch
  pub flat_more : (text chars : List ℕ) (count last : ℕ) (is_rough : Bool) (items new : List ℕ) (c trail : ℕ) → IsUpTo text chars count last is_rough items → is_rough ≡ false
      → IsPushed source numeric c last items trail new → IsUpTo (text ++ c ∷ []) (chars ++ c ∷ []) count trail is_rough new
  flat_more text chars count last is_rough items new c trail h smooth pushed =
      record {
        done = h.done;
        before = h.before;
        closed = subst (IsReadInOrder source numeric h.done h.before) (sym (pushed_kept count items new pushed.items h.counted pushed.appended)) h.closed;
        counted = pushed_within count items new pushed.items h.counted pushed.appended;
        begins = begins_still h.before chars c h.begins;
        same = same_still text chars h.done c h.same;
        flat = λ _.
            subst (λ (l : List ℕ). IsReadInOrder source numeric l trail new)
            (append_assoc h.done (flat_map full chars) (full c) ∙ ap (λ (l : List ℕ). h.done ++ l) (sym (joined_full chars c)))
            (more_in_order source numeric (h.done ++ flat_map full chars) items new last c trail (h.flat smooth) pushed);
      }

  -- any character after a stretch, which is rough then
  pub rough_more : (text chars : List ℕ) (count last : ℕ) (is_rough : Bool) (items : List ℕ) (c : ℕ) → IsUpTo text chars count last is_rough items
      → IsUpTo (text ++ c ∷ []) (chars ++ c ∷ []) count last true items
  rough_more text chars count last is_rough items c h =
      record {
        done = h.done;
        before = h.before;
        closed = h.closed;
        counted = h.counted;
        begins = begins_still h.before chars c h.begins;
        same = same_still text chars h.done c h.same;
        flat = λ smooth. absurd (true≢false smooth);
      }

  front_kept : (n : ℕ) (xs ys : List ℕ) → n ≤ length xs → take n (take n xs ++ ys) ≡ take n xs
  front_kept zero xs ys h = refl
  front_kept (suc n) [] ys h = absurd (omega (arith, h))
  front_kept (suc n) (x ∷ xs) ys h = ap (λ (l : List ℕ). x ∷ l) (front_kept n xs ys (omega (arith, h)))

  -- a character that is a pair with the only one of a stretch
  pub pair_more : (text : List ℕ) (c count last : ℕ) (is_rough : Bool) (items its new : List ℕ) (d trail : ℕ) → IsUpTo text (c ∷ []) count last is_rough items
      → IsPair source c d its trail → new ≡ take count items ++ its → IsUpTo (text ++ d ∷ []) (c ∷ d ∷ []) count trail is_rough new
  pair_more text c count last is_rough items its new d trail h pair is =
      let apart = pair.begins numeric in
      let kept : take count new ≡ take count items = ap (take count) is ∙ front_kept count items its h.counted in
      let behind = pair.rest ++ d ∷ [] in
      let both : flat_map full (c ∷ d ∷ []) ≡ pair.head ∷ behind =
      ap (λ (l : List ℕ). l ++ (full d ++ [])) pair.first_full ∙ ap (λ (l : List ℕ). pair.head ∷ (pair.rest ++ (l ++ []))) pair.second_own in
      let joined = block_in_order source numeric h.done (take count items) h.before pair.head behind its trail h.closed pair.characters (inr apart)
      (inl apart.0.starter, subst (λ (k : ℕ). StandInOrder class k behind) (sym apart.0.starter) pair.order)
      (λ small. last_appended class (class pair.head) pair.rest (d ∷ []) ∙ pair.last small) (pair.read numeric) in
      record {
        done = h.done;
        before = h.before;
        closed = subst (IsReadInOrder source numeric h.done h.before) (sym kept) h.closed;
        counted = omega (arith, h.counted, ap (λ (l : List ℕ). length l) is, length-append (take count items) its, length-take-le count items h.counted);
        begins = begins_still h.before (c ∷ []) d h.begins;
        same = same_still text (c ∷ []) h.done d h.same;
        flat = λ _.
            subst (λ (l : List ℕ). IsReadInOrder source numeric (h.done ++ l) trail new) (sym both)
            (subst (λ (l : List ℕ). IsReadInOrder source numeric (h.done ++ pair.head ∷ behind) trail l) (sym is) joined);
      }

  -- a text that is read to its end
  pub closed_elements : (text : List ℕ) (last : ℕ) (items : List ℕ) → IsClosed source numeric text last items → unpacked items ≡ text_elements source numeric text
  unfolding elements_within placed_behind
  closed_elements text last items h =
      sym
      (ap (λ (l : List ℕ). elements_behind source numeric [] l) (sym (append-nil (normal text)))
      ∙ h.read [] [] refl refl tt ∙ append-nil (unpacked items))

  -- ---- what an iterator gives

  module _ {I : Type 0} (steps : I → Option ℕ → I → Type 0) where
    -- these characters came, and the rest is left to the iterator
    pub record HasGiven (first now : I) (text : List ℕ) : Type 0 where
      pub left : (cs : List ℕ) → Spells steps first cs → (rest : List ℕ) × (cs ≡ text ++ rest) × Spells steps now rest

    pub nothing_given : (first now : I) → now ≡ first → HasGiven first now []
    nothing_given first now same = record { left = λ cs spelled. (cs, refl, subst (λ (it : I). Spells steps it cs) (sym same) spelled) }

    pub one_given : (first now next : I) (text : List ℕ) (c : ℕ) → HasGiven first now text → steps now (Some c) next → HasGiven first next (text ++ c ∷ [])
    one_given first now next text c h step =
        record {
          left = λ cs spelled.
              let before = h.left cs spelled in
              let got = Spells-next steps now next c before.0 step before.2 in
              (got.0, before.1 ∙ ap (λ (l : List ℕ). text ++ l) got.1 ∙ sym (append_assoc text (c ∷ []) got.0), got.2);
        }

    pub all_given : (first now next : I) (text : List ℕ) → HasGiven first now text → steps now None next → (cs : List ℕ) → Spells steps first cs → cs ≡ text
    all_given first now next text h step cs spelled =
        let before = h.left cs spelled in
        let none = Spells-end steps now next before.0 step before.2 in
        before.1 ∙ ap (λ (l : List ℕ). text ++ l) none ∙ append-nil text
