-- Texts that are read by stretches as far as is asked: what stands of them, whatever follows.
use Rattle.std.proofs.Common.{◌≡◌, ℕ, zero, suc, ◌+◌, ◌≤◌, Bool, true, false, List, [], ◌∷◌, ◌++◌, ◌⊎◌, ⊎_elim, inl, inr, flat_map, length, take, Option, Some, None, refl, sym, ◌∙◌, ap, subst, arith, append_assoc, append-nil, length-append}
use Rattle.std.specs.Char.{IsScalar}
use Rattle.std.specs.Prelude.{All}
use Rattle.std.proofs.lemmas.Bool.{true≢false}
use Rattle.std.proofs.lemmas.Grind.{flat_map-append}
use Rattle.std.proofs.Math.Seq.{take-length}
use Rattle.std.proofs.lemmas.List.{length-take}
use Rattle.std.proofs.lemmas.List.Elements.{All-tail}
use lib.Utf8.{scalars}
use Rattle.icu_normalizer_core.specs.Canonical.{IsDecomposing, decomposed, marks_in_order}
use Rattle.icu_normalizer_core.specs.Iter.{Spells}
use Rattle.icu_normalizer_core.proofs.decomposed_lists.DecomposedLemmas.{order_before}
use Rattle.icu_normalizer_core.proofs.decomposed_lists.ScalarLemmas.{decomposed_characters, scalars_parts}
use Rattle.icu_normalizer_core.proofs.decomposed_lists.IterLemmas.{Spells-end, Spells-next}
use Rattle.icu_collator_types.specs.declared.elements.Element.{Element}
use Rattle.icu_collator_core.specs.Acceptance.{CollationSource}
use Rattle.icu_collator_core.specs.Boundaries.{after}
use Rattle.icu_collator_core.specs.ElementLists.{unpacked}
use Rattle.icu_collator_core.specs.Elements.{elements_within, placed_behind}
use Rattle.icu_collator_core.specs.ElementTexts.{text_elements}
use Rattle.icu_collator_core.specs.FlatNotes.{IsBoundaryApart, MayStandBehind, elements_behind, last_class}
use Rattle.icu_collator_core.specs.Pools.{element_of}
use Rattle.icu_collator_core.specs.ReadSources.{canonical_by}
use Rattle.icu_collator_core.specs.Stretched.{BeginsTextApart, BeginsWithElements, EndsApart, EndsWithElements, IsReadInto, IsStretched, IsUnread, settled_in}
use Rattle.icu_collator_core.specs.Stretches.{BeginsWithBoundary, IsClosed, IsOpen, IsReadUpToStretch}
use Rattle.icu_collator_core.specs.declared.flat.stretched.StretchedElements.{StretchedElements}
use Rattle.icu_collator_core.proofs.readings.BoundaryReadLemmas.{behind_boundary}
use Rattle.icu_collator_core.proofs.readings.FlatOrderLemmas.{last_appended, order_closed}
use Rattle.icu_collator_core.proofs.readings.SplitAtBoundaryLemmas.{after_scalars}
use Rattle.icu_collator_core.proofs.readings.StretchLemmas.{nothing_opened, order_behind_front, starter_first}

-- ---- lists that begin alike

-- what begins the same elements is the same
pub same_front : (k : ℕ) (xs ys : List ℕ) (more others : List Element) → unpacked xs ++ more ≡ unpacked ys ++ others → k ≤ length xs → k ≤ length ys
    → unpacked (take k xs) ≡ unpacked (take k ys)
same_front zero xs ys more others e h g = refl
same_front (suc k) [] ys more others e h g = absurd (omega (arith, h))
same_front (suc k) (x ∷ xs) [] more others e h g = absurd (omega (arith, g))
same_front (suc k) (x ∷ xs) (y ∷ ys) more others e h g =
    let whole : element_of x ∷ (unpacked xs ++ more) ≡ element_of y ∷ (unpacked ys ++ others) = e in
    let first : element_of x ≡ element_of y = cc in
    let rest : unpacked xs ++ more ≡ unpacked ys ++ others = cc in
    let left : unpacked (take k xs) ≡ unpacked (take k ys) = same_front k xs ys more others rest (omega (arith, h)) (omega (arith, g)) in
    ap (λ (z : Element). z ∷ unpacked (take k xs)) first ∙ ap (λ (zs : List Element). element_of y ∷ zs) left

unpacked_length : (xs : List ℕ) → length (unpacked xs) ≡ length xs
unpacked_length [] = refl
unpacked_length (x ∷ xs) = ap suc (unpacked_length xs)

behind_all : (xs ys : List ℕ) → All IsScalar (xs ++ ys) → All IsScalar ys
behind_all [] ys h = h
behind_all (x ∷ xs) ys h = behind_all xs ys (All-tail IsScalar x (xs ++ ys) h)

module _ (source : CollationSource) (numeric : Option ℕ) where
  abbrev class : ℕ → ℕ
  class = (canonical_by source).class

  abbrev full : ℕ → List ℕ
  full = (canonical_by source).full

  abbrev normal : List ℕ → List ℕ
  normal text = decomposed (canonical_by source) text

  abbrev given : List ℕ → List Element
  given text = text_elements source numeric text

  -- no text has no elements
  pub no_elements : given [] ≡ []
  unfolding decomposed marks_in_order elements_within placed_behind
  no_elements = refl

  -- ---- texts after fronts

  -- the elements of a front and a text after it are those of the front, and those of the text after some characters
  abbrev IsFoundBehind : List ℕ → List ℕ → Type 0
  IsFoundBehind front text =
      (before : List ℕ) × (scalars before ≡ true) × (given (front ++ text) ≡ given front ++ elements_behind source numeric before (normal text))

  -- what stands of a text by itself
  pub by_itself : (text items : List ℕ) → (begins : BeginsWithElements source numeric [] text items) → given text ≡ unpacked items ++ begins.0
  by_itself text items begins = begins.1 ∙ ap (λ (es : List Element). es ++ (unpacked items ++ begins.0)) no_elements

  pub all_itself : (text items : List ℕ) → EndsWithElements source numeric [] text items → unpacked items ≡ given text
  all_itself text items ends = sym (ends ∙ ap (λ (es : List Element). es ++ unpacked items) no_elements)

  -- all that stands is the beginning of it
  pub whole_stands : (front text items : List ℕ) → EndsWithElements source numeric front text items → BeginsWithElements source numeric front text items
  whole_stands front text items ends = ([], ends ∙ ap (λ (es : List Element). given front ++ es) (sym (append-nil (unpacked items))))

  -- what stood stands at the beginning of what stands
  pub kept_front : (text xs ys : List ℕ) → BeginsWithElements source numeric [] text xs → BeginsWithElements source numeric [] text ys
      → (k : ℕ) → k ≤ length xs → k ≤ length ys → unpacked (take k ys) ≡ unpacked (take k xs)
  kept_front text xs ys one two k h g = same_front k ys xs two.0 one.0 (sym (by_itself text ys two) ∙ by_itself text xs one) g h

  pub whole_within : (text xs ys : List ℕ) → BeginsWithElements source numeric [] text xs → EndsWithElements source numeric [] text ys → length xs ≤ length ys
  whole_within text xs ys one two =
      let same : length (unpacked ys) ≡ length (unpacked xs ++ one.0) = ap (λ (l : List Element). length l) (all_itself text ys two ∙ by_itself text xs one) in
      let left : length (unpacked xs ++ one.0) ≡ length (unpacked xs) + length one.0 = length-append (unpacked xs) one.0 in
      omega (arith, same, left, unpacked_length xs, unpacked_length ys)

  module _ (decomposing : IsDecomposing (canonical_by source)) where
    whole_scalars : (text : List ℕ) → All IsScalar text → scalars (normal text) ≡ true
    whole_scalars text ok = decomposed_characters (canonical_by source) text decomposing ok

    -- so it is of a text after such a front
    pub behind_front : (front text : List ℕ) → EndsApart source numeric front text → All IsScalar (front ++ text) → IsFoundBehind front text
    unfolding decomposed
    behind_front front text apart ok = ⊎_elim at_beginning before_boundary apart
      where
        at_beginning : front ≡ [] → IsFoundBehind front text
        at_beginning none = (
          [],
          refl,
          subst (λ (l : List ℕ). given (l ++ text) ≡ given l ++ elements_behind source numeric [] (normal text)) (sym none)
              (sym (ap (λ (es : List Element). es ++ elements_behind source numeric [] (normal text)) no_elements)),
        )

        before_boundary : BeginsTextApart source numeric text → IsFoundBehind front text
        before_boundary b =
            let first = b.apart.first in
            let behind = b.apart.rest ++ flat_map full b.rest in
            let left = marks_in_order class behind in
            let starter = b.apart.apart.0.starter in
            let spelled : flat_map full text ≡ first ∷ behind =
            ap (λ (l : List ℕ). flat_map full l) b.text_is ∙ ap (λ (l : List ℕ). l ++ flat_map full b.rest) b.apart.full in
            let here : normal text ≡ first ∷ left = ap (marks_in_order class) spelled ∙ starter_first class first behind starter in
            let whole : normal (front ++ text) ≡ normal front ++ first ∷ left =
            ap (marks_in_order class) (flat_map-append full front text ∙ ap (λ (l : List ℕ). flat_map full front ++ l) spelled)
            ∙ order_before class first (flat_map full front) behind starter in
            let characters : scalars (normal front ++ first ∷ left) ≡ true = sym (ap scalars whole) ∙ whole_scalars (front ++ text) ok in
            let own = (scalars_parts (normal front) (first ∷ left) characters).0 in (
              after [] (normal front),
              after_scalars [] (normal front) refl own,
              ap (elements_behind source numeric []) whole
                  ∙ behind_boundary source numeric [] (normal front) first left b.apart.apart own (scalars_parts (normal front) (first ∷ left) characters).1
                  ∙ ap (λ (l : List ℕ). given front ++ elements_behind source numeric (after [] (normal front)) l) (sym here),
            )

    -- what is read whatever stands before it is read so after a front
    pub closed_stands : (front text items : List ℕ) (last : ℕ) → EndsApart source numeric front text → All IsScalar (front ++ text)
        → IsClosed source numeric text last items → EndsWithElements source numeric front text items
    unfolding elements_within placed_behind
    closed_stands front text items last apart ok h =
        let led = behind_front front text apart ok in
        led.2
        ∙ ap (λ (es : List Element). given front ++ es)
        (ap (elements_behind source numeric led.0) (sym (append-nil (normal text))) ∙ h.read led.0 [] led.1 refl tt ∙ append-nil (unpacked items))

    module _ (text chars : List ℕ) (count last : ℕ) (is_rough : Bool) (items rest : List ℕ) (h : IsReadUpToStretch source numeric text chars count last is_rough items)
        (front : List ℕ) (apart : EndsApart source numeric front (text ++ rest)) (ok : All IsScalar (front ++ (text ++ rest))) where
      text_scalars : scalars (normal (text ++ rest)) ≡ true
      text_scalars = whole_scalars (text ++ rest) (behind_all front (text ++ rest) ok)

      -- what stands before the last stretch
      pub front_stands : BeginsWithElements source numeric front (text ++ rest) (take count items)
      unfolding decomposed
      front_stands =
          let led = behind_front front (text ++ rest) apart ok in
          let behind = normal (chars ++ rest) in
          let whole = h.same rest in (
            elements_behind source numeric (after led.0 h.done) behind,
            led.2
                ∙ ap (λ (es : List Element). given front ++ es)
                (ap (elements_behind source numeric led.0) whole
                ∙ h.closed.read led.0 behind led.1 (scalars_parts h.done behind (sym (ap scalars whole) ∙ text_scalars)).1 (fits behind refl)),
          )
        where
          boundary : (b : BeginsWithBoundary source numeric (flat_map full chars)) → normal (chars ++ rest) ≡ b.first ∷ marks_in_order class (b.rest ++ flat_map full rest)
          boundary b =
              ap (marks_in_order class) (flat_map-append full chars rest ∙ ap (λ (l : List ℕ). l ++ flat_map full rest) b.list_is)
              ∙ starter_first class b.first (b.rest ++ flat_map full rest) b.apart.0.starter

          fits : (list : List ℕ) → normal (chars ++ rest) ≡ list → MayStandBehind source numeric h.before list
          fits [] is = tt
          fits (x ∷ xs) is =
              ⊎_elim (λ (start : h.before ≡ 0). inl (omega (arith, start)))
              (λ (b : BeginsWithBoundary source numeric (flat_map full chars)).
              let cons : b.first ∷ marks_in_order class (b.rest ++ flat_map full rest) ≡ x ∷ xs = sym (boundary b) ∙ is in
              let same : b.first ≡ x = cc in
              inr (subst (IsBoundaryApart source numeric) same b.apart))
              h.begins

      -- all, where the last stretch is flat and ends with a starter
      pub flat_stands : is_rough ≡ false → last ≡ 0 → BeginsWithElements source numeric front (text ++ rest) items
      unfolding decomposed
      flat_stands smooth zero_class =
          let led = behind_front front (text ++ rest) apart ok in
          let read = h.flat smooth in
          let here = flat_map full chars in
          let behind = marks_in_order class (flat_map full rest) in
          let end : last_class class (last_class class 0 h.done) here ≡ 0 =
          sym (last_appended class 0 h.done here) ∙ read.last (omega (arith, zero_class)) ∙ zero_class in
          let whole : normal (text ++ rest) ≡ (h.done ++ here) ++ behind =
          h.same rest
          ∙ ap (λ (l : List ℕ). h.done ++ marks_in_order class l) (flat_map-append full chars rest)
          ∙ ap (λ (l : List ℕ). h.done ++ l) (order_closed class (last_class class 0 h.done) here (flat_map full rest) (order_behind_front class 0 h.done here read.order) end)
          ∙ sym (append_assoc h.done here behind) in (
            elements_behind source numeric (after led.0 (h.done ++ here)) behind,
            led.2
                ∙ ap (λ (es : List Element). given front ++ es)
                (ap (elements_behind source numeric led.0) whole
                ∙ read.read led.0 behind led.1 (scalars_parts (h.done ++ here) behind (sym (ap scalars whole) ∙ text_scalars)).1 (anything behind)),
          )
        where
          anything : (l : List ℕ) → MayStandBehind source numeric last l
          anything [] = tt
          anything (d ∷ ds) = inl (omega (arith, zero_class))

  -- ---- reading on

  module _ {I : Type 0} (steps : I → Option ℕ → I → Type 0) (text : List ℕ) where
    -- nothing was read
    pub unread_stretched : IsDecomposing (canonical_by source) → (chars : I) (s : StretchedElements) → IsUnread s → Spells steps chars text
        → IsStretched source numeric steps text chars s
    unread_stretched decomposing chars s h spelled =
        record {
          stands = λ front apart ok.
              let led = behind_front decomposing front text apart ok in
              let more = elements_behind source numeric led.0 (normal text) in
              (more, led.2 ∙ ap (λ (l : List ℕ). given front ++ (unpacked l ++ more)) none);
          whole = λ (e : s.is_ended ≡ true). absurd (true≢false (sym e ∙ h.unended));
          left = λ _. record {
            read = [];
            rest = text;
            text_is = refl;
            left = spelled;
            opened = nothing_opened source numeric s.stretch.chars.items s.stretch.count s.stretch.class s.stretch.is_rough s.elements.items h.chars h.count h.class h.items;
          };
        }
      where
        none : [] ≡ settled_in s
        none = sym (ap (λ (n : ℕ). take n s.elements.items) h.settled)

    -- one more character was read
    pub one_more : (now next : I) (c : ℕ) (read rest : List ℕ) → text ≡ read ++ rest → Spells steps now rest → steps now (Some c) next
        → (left : List ℕ) × (text ≡ (read ++ c ∷ []) ++ left) × Spells steps next left
    one_more now next c read rest is spelled step =
        let got = Spells-next steps now next c rest step spelled in
        (got.0, is ∙ ap (λ (l : List ℕ). read ++ l) got.1 ∙ sym (append_assoc read (c ∷ []) got.0), got.2)

    -- all was
    pub no_more : (now next : I) (read rest : List ℕ) → text ≡ read ++ rest → Spells steps now rest → steps now None next → text ≡ read
    no_more now next read rest is spelled step =
        is ∙ ap (λ (l : List ℕ). read ++ l) (Spells-end steps now next rest step spelled) ∙ append-nil read

    pub read_more : (now next : I) (c : ℕ) (old new : StretchedElements) → IsReadInto source numeric steps text now old → steps now (Some c) next
        → ((read : List ℕ) → IsOpen source numeric read old.stretch old.elements.items → IsOpen source numeric (read ++ c ∷ []) new.stretch new.elements.items)
        → IsReadInto source numeric steps text next new
    read_more now next c old new h step on =
        let more = one_more now next c h.read h.rest h.text_is h.left step in
        record { read = h.read ++ c ∷ []; rest = more.0; text_is = more.1; left = more.2; opened = on h.read h.opened }

    -- more stands
    pub stretched_on : (chars : I) (s : StretchedElements) → s.is_ended ≡ false → IsReadInto source numeric steps text chars s
        → ((read rest front : List ℕ) → IsOpen source numeric read s.stretch s.elements.items → EndsApart source numeric front (read ++ rest)
        → All IsScalar (front ++ (read ++ rest)) → BeginsWithElements source numeric front (read ++ rest) (settled_in s))
        → IsStretched source numeric steps text chars s
    stretched_on chars s unended h begins =
        record {
          stands =
              subst
              (λ (l : List ℕ). (front : List ℕ) → EndsApart source numeric front l → All IsScalar (front ++ l) → BeginsWithElements source numeric front l (settled_in s))
              (sym h.text_is) (λ front apart ok. begins h.read h.rest front h.opened apart ok);
          whole = λ (e : s.is_ended ≡ true). absurd (true≢false (sym e ∙ unended));
          left = λ _. h;
        }

    -- all stands
    pub stretched_whole : IsDecomposing (canonical_by source) → (chars : I) (s : StretchedElements) (last : ℕ) → s.is_ended ≡ true → s.settled ≡ length s.elements.items
        → IsClosed source numeric text last s.elements.items → IsStretched source numeric steps text chars s
    stretched_whole decomposing chars s last ended all closed =
        let whole : settled_in s ≡ s.elements.items = ap (λ (n : ℕ). take n s.elements.items) all ∙ take-length s.elements.items in
        let read = subst (λ (l : List ℕ). IsClosed source numeric text last l) (sym whole) closed in
        record {
          stands = λ front apart ok. whole_stands front text (settled_in s) (closed_stands decomposing front text (settled_in s) last apart ok read);
          whole = λ _ front apart ok. closed_stands decomposing front text (settled_in s) last apart ok read;
          left = λ (e : s.is_ended ≡ false). absurd (true≢false (sym ended ∙ e));
        }

    -- what stood stands at the beginning
    pub same_settled : (chars next : I) (old new : StretchedElements) → All IsScalar text → IsStretched source numeric steps text chars old → IsStretched source numeric steps text next new
        → length (settled_in old) ≤ length (settled_in new) → (k : ℕ) → k ≤ length (settled_in old)
        → unpacked (take k (settled_in new)) ≡ unpacked (take k (settled_in old))
    same_settled chars next old new ok before after_it longer k within =
        kept_front text (settled_in old) (settled_in new) (before.stands [] (inl refl) ok) (after_it.stands [] (inl refl) ok) k within (omega (arith, within, longer))

    pub same_whole : (chars next : I) (old new : StretchedElements) → All IsScalar text → IsStretched source numeric steps text chars old → IsStretched source numeric steps text next new
        → new.is_ended ≡ true → (k : ℕ) → k ≤ length (settled_in old) → unpacked (take k (settled_in new)) ≡ unpacked (take k (settled_in old))
    same_whole chars next old new ok before after_it ended =
        same_settled chars next old new ok before after_it
        (whole_within text (settled_in old) (settled_in new) (before.stands [] (inl refl) ok) (after_it.whole ended [] (inl refl) ok))

-- more stand where more are counted
pub longer_settled : (old new : StretchedElements) → old.settled ≤ new.settled → new.settled ≤ length new.elements.items → length (settled_in old) ≤ length (settled_in new)
longer_settled old new more within =
    omega (arith, more, within, length-take old.settled old.elements.items, length-take new.settled new.elements.items)
