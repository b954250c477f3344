-- Texts that are read flat, one primary after another.
use Rattle.std.proofs.Common.{◌≡◌, ℕ, ◌+◌, ◌<◌, ◌≤◌, ◌==◌, true, false, cond, List, [], ◌∷◌, ◌++◌, flat_map, Option, Some, None, ◌⊎◌, ⊎_elim, inl, inr, refl, sym, ◌∙◌, ap, subst, arith, append_assoc, append-nil}
use Rattle.std.specs.Char.{IsScalar}
use Rattle.std.specs.Prelude.{All, IfSome}
use Rattle.std.specs.Option.{is_some}
use Rattle.std.proofs.lemmas.Bool.{and_parts, cases_Bool, false≢true}
use Rattle.std.proofs.lemmas.List.{map-append}
use Rattle.std.proofs.lemmas.List.Elements.{filter_map-append}
use lib.Utf8.{scalar, scalars}
use Rattle.icu_normalizer_core.specs.Canonical.{IsDecomposing, decomposed, marks_in_order}
use Rattle.icu_normalizer_core.specs.Iter.{Spells}
use Rattle.icu_normalizer_core.proofs.decomposed_lists.DecomposedLemmas.{order_before}
use Rattle.icu_normalizer_core.proofs.decomposed_lists.ScalarLemmas.{decomposed_characters, scalars_parts}
use Rattle.icu_normalizer_core.proofs.decomposed_lists.IterLemmas.{Spells-end, Spells-next}
use Rattle.icu_collator_types.specs.declared.elements.Element.{Element}
use Rattle.icu_collator_core.specs.Acceptance.{CollationSource}
use Rattle.icu_collator_core.specs.Boundaries.{after}
use Rattle.icu_collator_core.specs.ElementLists.{unpacked}
use Rattle.icu_collator_core.specs.ElementTexts.{text_elements}
use Rattle.icu_collator_core.specs.FlatNotes.{AreReadFlat, IsBoundaryApart, IsFlat, IsFlatUpTo, IsReadFlat, IsReadInOrder, MayFollow, MayStandBehind, elements_behind, last_class}
use Rattle.icu_collator_core.specs.FlatSteps.{BeginsWithPrimaries, IsFollowed, IsNextPrimary, IsReadUpTo, IsSettled, IsStep, StepsTo, primaries_in, primary_if_any, primary_in}
use Rattle.icu_collator_core.specs.declared.flat.steps.FlatStep.{FlatStep}
use Rattle.icu_collator_core.specs.declared.flat.steps.FlatStep.TheVariants.{Primary, End, Other}
use Rattle.icu_collator_core.specs.Pools.{element_of}
use Rattle.icu_collator_core.specs.ReadSources.{canonical_by}
use Rattle.icu_collator_core.proofs.readings.FlatOrderLemmas.{order_stands}
use Rattle.icu_collator_core.proofs.readings.FlatReadLemmas.{flat_before, more_in_order, nothing_in_order, whole_elements}
use Rattle.icu_collator_core.proofs.readings.SplitAtBoundaryLemmas.{after_scalars}

-- ---- primaries

primary_here : (bits : ℕ) → primaries_in (bits ∷ []) ≡ primary_if_any (element_of bits).primary
primary_here bits =
    elim (cases_Bool ((element_of bits).primary == 0)) [
      | inl e ↦ rw e refl
      | inr e ↦ rw e refl
    ]

pub one_primary : (bits p : ℕ) → (element_of bits).primary ≡ p → primaries_in (bits ∷ []) ≡ primary_if_any p
one_primary bits p e = primary_here bits ∙ ap primary_if_any e

two_primaries : (bits other p : ℕ) → (element_of bits).primary ≡ p → (element_of other).primary ≡ 0 → primaries_in (bits ∷ other ∷ []) ≡ primary_if_any p
two_primaries bits other p e none =
    filter_map-append primary_in (bits ∷ []) (other ∷ [])
    ∙ ap (λ (ps : List ℕ). primaries_in (bits ∷ []) ++ ps) (one_primary other 0 none)
    ∙ append-nil (primaries_in (bits ∷ []))
    ∙ one_primary bits p e

has_primary : (bits p : ℕ) → (element_of bits).primary ≡ p → (p == 0) ≡ false → primary_in bits ≡ Some p
has_primary bits p e some =
    let test : ((element_of bits).primary == 0) ≡ false = ap (λ q. q == 0) e ∙ some in
    ap (λ b. cond b None (Some (element_of bits).primary)) test ∙ ap Some e

-- ---- one character

module _ (source : CollationSource) (numeric : Option ℕ) where
  abbrev class : ℕ → ℕ
  class = (canonical_by source).class

  abbrev full : ℕ → List ℕ
  full = (canonical_by source).full

  -- characters with one element that are read alone are one
  single : (x : ℕ) (xs : List ℕ) (bits : ℕ) → AreReadFlat source numeric (x ∷ xs) (bits ∷ []) → xs ≡ []
  single x [] bits h = refl
  single x (y ∷ ys) bits h = absurd h.1

  -- a character that may stand after any class is a starter
  starts : (x : ℕ) → IsDecomposing (canonical_by source) → scalar x ≡ true → MayFollow 255 (class x) → class x ≡ 0
  starts x decomposing ok follows =
      ⊎_elim (λ (e : class x ≡ 0). e) (λ (e : 255 ≤ class x). let bound = decomposing.classes x ok in absurd (omega (arith, e, bound))) follows

  -- one whose elements have a primary has that of a starter, which is read alone where anything may follow
  pub step_by : (c bits : ℕ) (others : List ℕ) (trail before : ℕ) (old new : List ℕ) (p : ℕ) (flat : IsFlat source numeric c before (bits ∷ others) trail)
      → (element_of bits).primary ≡ p → primaries_in (bits ∷ others) ≡ primary_if_any p → ((p == 0) ≡ false → trail ≤ 255 → class flat.first ≡ 0)
      → new ≡ old ++ bits ∷ others → IsStep source numeric c before old p trail new
  step_by c bits others trail before old new p flat is only starter appended =
      record {
        pushed = record { items = bits ∷ others; flat = flat; appended = appended };
        primaries = only;
        begins = λ some small. record {
          starter = starter some small;
          bits = bits;
          others = others;
          items_are = refl;
          read = (flat.alone small).0;
          primary = has_primary bits p is some;
        };
      }

  -- one that may stand after any class begins with a starter
  first_starts : (c before : ℕ) (items : List ℕ) (lead trail : ℕ) → IsDecomposing (canonical_by source) → (note : IsFlatUpTo source numeric c items lead trail)
      → (least : before ≤ lead) → 255 ≤ lead → class (note before least).first ≡ 0
  first_starts c before items lead trail decomposing note least above =
      let flat = note before least in
      let any = note 255 above in
      let same : any.first ∷ any.rest ≡ flat.first ∷ flat.rest = sym any.full ∙ flat.full in
      let first : any.first ≡ flat.first = cc in
      subst (λ (x : ℕ). class x ≡ 0) first (starts any.first decomposing (and_parts (scalar any.first) (scalars any.rest) any.characters).0 any.order.0)

  pub one_step : (c bits lead trail before : ℕ) (old new : List ℕ) (p : ℕ) → IsDecomposing (canonical_by source)
      → IsFlatUpTo source numeric c (bits ∷ []) lead trail → before ≤ lead → (element_of bits).primary ≡ p → ((p == 0) ≡ false → 255 ≤ lead)
      → new ≡ old ++ bits ∷ [] → IsStep source numeric c before old p trail new
  one_step c bits lead trail before old new p decomposing note least is above appended =
      step_by c bits [] trail before old new p (note before least) is (one_primary bits p is)
      (λ some _. first_starts c before (bits ∷ []) lead trail decomposing note least (above some)) appended

  -- the same of one element after which any mark may stand
  pub boundary_step : (c bits before : ℕ) (old new : List ℕ) (p : ℕ) → IsFlat source numeric c before (bits ∷ []) 0
      → (element_of bits).primary ≡ p → new ≡ old ++ bits ∷ [] → IsStep source numeric c before old p 0 new
  boundary_step c bits before old new p flat is appended =
      let one = single flat.first flat.rest bits (flat.alone (omega arith)) in
      step_by c bits [] 0 before old new p flat is (one_primary bits p is)
      (λ _ small. ap (λ (l : List ℕ). last_class class (class flat.first) l) (sym one) ∙ flat.last small) appended

  pub two_step : (c bits other lead trail before : ℕ) (old new : List ℕ) (p : ℕ) → IsDecomposing (canonical_by source)
      → IsFlatUpTo source numeric c (bits ∷ other ∷ []) lead trail → before ≤ lead → (element_of bits).primary ≡ p → ((p == 0) ≡ false → 255 ≤ lead)
      → (element_of other).primary ≡ 0 → new ≡ old ++ bits ∷ other ∷ [] → IsStep source numeric c before old p trail new
  two_step c bits other lead trail before old new p decomposing note least is above none appended =
      step_by c bits (other ∷ []) trail before old new p (note before least) is (two_primaries bits other p is none)
      (λ some _. first_starts c before (bits ∷ other ∷ []) lead trail decomposing note least (above some)) appended

  -- ---- a text

  module _ {I : Type 0} (steps : I → Option ℕ → I → Type 0) (text : List ℕ) where
    abbrev ReadTo : I → ℕ → List ℕ → Type 0
    ReadTo chars trail items = IsReadUpTo source numeric steps text chars trail items

    pub nothing_read_to : (chars : I) (items : List ℕ) → Spells steps chars text → items ≡ [] → ReadTo chars 0 items
    nothing_read_to chars items spelled none =
        record { list = []; rest = text; text_is = refl; left = spelled; read = nothing_in_order source numeric items none }

    pub read_on : (now next : I) (last c p trail : ℕ) (items new : List ℕ) → ReadTo now last items → steps now (Some c) next
        → IsStep source numeric c last items p trail new → ReadTo next trail new
    read_on now next last c p trail items new h step stepped =
        let here = full c in
        let got = Spells-next steps now next c h.rest step h.left in
        record {
          list = h.list ++ here;
          rest = got.0;
          text_is = h.text_is ∙ ap (λ (l : List ℕ). h.list ++ flat_map full l) got.1 ∙ sym (append_assoc h.list here (flat_map full got.0));
          left = got.2;
          read = more_in_order source numeric h.list items new last c trail h.read stepped.pushed;
        }

    pub primaries_on : (last c p trail : ℕ) (items new : List ℕ) → IsStep source numeric c last items p trail new
        → primaries_in new ≡ primaries_in items ++ primary_if_any p
    primaries_on last c p trail items new stepped =
        ap primaries_in stepped.pushed.appended ∙ filter_map-append primary_in items stepped.pushed.items
        ∙ ap (λ (ps : List ℕ). primaries_in items ++ ps) stepped.primaries

    pub read_whole : (now next : I) (last : ℕ) (items : List ℕ) → ReadTo now last items → steps now None next → unpacked items ≡ text_elements source numeric text
    read_whole now next last items h step =
        let none = Spells-end steps now next h.rest step h.left in
        whole_elements source numeric text h.list last items h.read (h.text_is ∙ ap (λ (l : List ℕ). h.list ++ flat_map full l) none ∙ append-nil h.list)

    -- the elements of a text that goes on with a starter after what was read
    module _ (list : List ℕ) (last x : ℕ) (behind items : List ℕ) (decomposing : IsDecomposing (canonical_by source)) (ok : All IsScalar text)
        (read : IsReadInOrder source numeric list last items) (whole : flat_map full text ≡ list ++ x ∷ behind) (starter : class x ≡ 0)
        (follows : MayStandBehind source numeric last (x ∷ behind)) where
      abbrev left : List ℕ
      left = marks_in_order class behind

      list_is : decomposed (canonical_by source) text ≡ list ++ x ∷ left
      unfolding decomposed
      list_is =
          ap (marks_in_order class) whole ∙ order_before class x list behind starter
          ∙ ap (λ (l : List ℕ). l ++ x ∷ left) (order_stands class 0 list read.order)

      left_scalars : scalars (x ∷ left) ≡ true
      left_scalars =
          (scalars_parts list (x ∷ left) (ap scalars (sym list_is) ∙ decomposed_characters (canonical_by source) text decomposing ok)).1

      on_elements : text_elements source numeric text ≡ unpacked items ++ elements_behind source numeric (after [] list) (x ∷ left)
      on_elements = ap (elements_behind source numeric []) list_is ∙ read.read [] (x ∷ left) refl left_scalars follows

      -- its primaries are those of what was read
      begins_on : BeginsWithPrimaries source numeric text (primaries_in items)
      begins_on = record { items = items; more = elements_behind source numeric (after [] list) (x ∷ left); elements = on_elements; primaries = refl }

      -- and that of the starter, where it is read alone
      begins_with : (bits p : ℕ) → IsReadFlat source numeric x bits → primary_in bits ≡ Some p → BeginsWithPrimaries source numeric text (primaries_in items ++ p ∷ [])
      begins_with bits p alone primary =
          let near = after [] list in
          let rest = elements_behind source numeric (after near (x ∷ [])) left in
          let parts = and_parts (scalar x) (scalars left) left_scalars in
          let one = flat_before source numeric (x ∷ []) (bits ∷ []) 0 (alone, tt) near left (after_scalars [] list refl read.characters) parts.1 (anything left) in
          record {
            items = items ++ bits ∷ [];
            more = rest;
            elements = on_elements ∙ ap (λ (es : List Element). unpacked items ++ es) one
                ∙ sym (append_assoc (unpacked items) (unpacked (bits ∷ [])) rest) ∙ ap (λ (es : List Element). es ++ rest) (sym (map-append element_of items (bits ∷ [])));
            primaries = filter_map-append primary_in items (bits ∷ []) ∙ ap (λ (ps : List ℕ). primaries_in items ++ ps) (primary_of_one bits primary);
          }
        where
          anything : (l : List ℕ) → MayStandBehind source numeric 0 l
          anything [] = tt
          anything (d ∷ ds) = inl (omega arith)

          primary_of_one : (b : ℕ) → primary_in b ≡ Some p → primaries_in (b ∷ []) ≡ p ∷ []
          primary_of_one b e = rw e refl

    next_is : (list rest more : List ℕ) (c first : ℕ) (others : List ℕ) → flat_map full text ≡ list ++ flat_map full rest → rest ≡ c ∷ more → full c ≡ first ∷ others
        → flat_map full text ≡ list ++ first ∷ (others ++ flat_map full more)
    next_is list rest more c first others is left here =
        is ∙ ap (λ (l : List ℕ). list ++ flat_map full l) left ∙ ap (λ (l : List ℕ). list ++ (l ++ flat_map full more)) here

    -- the elements of a text up to a starter after what was read
    pub primary_reached : (now next : I) (last c p trail : ℕ) (items new : List ℕ) → IsDecomposing (canonical_by source) → All IsScalar text
        → ReadTo now last items → steps now (Some c) next → IsStep source numeric c last items p trail new → (p == 0) ≡ false → trail ≤ 255
        → BeginsWithPrimaries source numeric text (primaries_in items ++ p ∷ [])
    primary_reached now next last c p trail items new decomposing ok h step stepped some small =
        let begins = stepped.begins some small in
        let flat = stepped.pushed.flat in
        let got = Spells-next steps now next c h.rest step h.left in
        begins_with h.list last flat.first (flat.rest ++ flat_map full got.0) items decomposing ok h.read (next_is h.list h.rest got.0 c flat.first flat.rest h.text_is got.1 flat.full)
        begins.starter flat.follows begins.bits p begins.read begins.primary

    -- What was read stands, where after it the text ends, or a character may stand that asks for a boundary there.
    pub settled_end : (now next : I) (last : ℕ) (items : List ℕ) → ReadTo now last items → steps now None next → BeginsWithPrimaries source numeric text (primaries_in items)
    settled_end now next last items h step =
        record { items = items; more = []; elements = sym (read_whole now next last items h step) ∙ sym (append-nil (unpacked items)); primaries = refl }

    pub settled_on : (now next : I) (last c p trail : ℕ) (items : List ℕ) → IsDecomposing (canonical_by source) → All IsScalar text → 255 < last
        → ReadTo now last items → steps now (Some c) next → StepsTo source numeric c last p trail → BeginsWithPrimaries source numeric text (primaries_in items)
    settled_on now next last c p trail items decomposing ok above h step steps_to =
        let flat = (steps_to items).1.pushed.flat in
        let got = Spells-next steps now next c h.rest step h.left in
        begins_on h.list last flat.first (flat.rest ++ flat_map full got.0) items decomposing ok h.read (next_is h.list h.rest got.0 c flat.first flat.rest h.text_is got.1 flat.full)
        (⊎_elim (λ (small : last ≤ 255). absurd (omega (arith, small, above))) (λ (boundary : IsBoundaryApart source numeric flat.first). boundary.0.starter) flat.follows)
        flat.follows

    -- ---- what comes next

    some_primary : (p : ℕ) → (p == 0) ≡ false → primary_if_any p ≡ p ∷ []
    some_primary p e = rw e refl

    no_primary : (p : ℕ) → (p == 0) ≡ true → primary_if_any p ≡ []
    no_primary p e = rw e refl

    pub next_primary : (now next : I) (last c p trail : ℕ) (items old : List ℕ) → IsDecomposing (canonical_by source) → ReadTo now last items → primaries_in items ≡ primaries_in old
        → steps now (Some c) next → StepsTo source numeric c last p trail → (p == 0) ≡ false → IsNextPrimary source numeric steps text old (Primary p) next trail
    next_primary now next last c p trail items old decomposing h same step steps_to some =
        let stepped = steps_to items in
        let new = stepped.0 in (
          new,
          (
            read_on now next last c p trail items new h step stepped.1,
            primaries_on last c p trail items new stepped.1
                ∙ ap (λ (ps : List ℕ). primaries_in items ++ ps) (some_primary p some) ∙ ap (λ (ps : List ℕ). ps ++ p ∷ []) same,
            λ small ok. subst (λ (ps : List ℕ). BeginsWithPrimaries source numeric text (ps ++ p ∷ [])) same
                (primary_reached now next last c p trail items new decomposing ok h step stepped.1 some small),
          ),
        )

    -- what was read to, with no more primaries
    abbrev pub IsReadWithout : List ℕ → I → ℕ → Type 0
    IsReadWithout old next trail = (new : List ℕ) × IsReadUpTo source numeric steps text next trail new × (primaries_in new ≡ primaries_in old)

    pub none_next : (now next : I) (last c p trail : ℕ) (items old : List ℕ) → ReadTo now last items → primaries_in items ≡ primaries_in old
        → steps now (Some c) next → StepsTo source numeric c last p trail → (p == 0) ≡ true → IsReadWithout old next trail
    none_next now next last c p trail items old h same step steps_to none =
        let stepped = steps_to items in
        let new = stepped.0 in (
          new,
          read_on now next last c p trail items new h step stepped.1,
          primaries_on last c p trail items new stepped.1
              ∙ ap (λ (ps : List ℕ). primaries_in items ++ ps) (no_primary p none) ∙ append-nil (primaries_in items) ∙ same,
        )

    pub end_next : (now next : I) (last class_then : ℕ) (items old : List ℕ) → ReadTo now last items → primaries_in items ≡ primaries_in old
        → steps now None next → IsNextPrimary source numeric steps text old End next class_then
    end_next now next last class_then items old h same step = (items, (read_whole now next last items h step, same))

    -- ---- what stands, whatever else the text holds

    pub settled_next : (now next : I) (last : ℕ) (items : List ℕ) (found : Option ℕ) → IsDecomposing (canonical_by source) → All IsScalar text → 255 < last
        → ReadTo now last items → steps now found next → IsFollowed source numeric last found → BeginsWithPrimaries source numeric text (primaries_in items)
    settled_next now next last items None decomposing ok above h step follows = settled_end now next last items h step
    settled_next now next last items (Some c) decomposing ok above h step follows =
        settled_on now next last c follows.0 follows.1 items decomposing ok above h step follows.2

    pub settled_small : (chars : I) (last : ℕ) (old : List ℕ) (result : FlatStep) → last ≤ 255
        → IsNextPrimary source numeric steps text old result chars last → IsSettled source numeric text old result
    settled_small chars last old (Primary p) small h = h.1.2 small
    settled_small chars last old End small h = tt
    settled_small chars last old Other small h = tt

    -- what was read to is so where what was read stands
    pub settled_by : (chars : I) (last p : ℕ) (old : List ℕ) → IsNextPrimary source numeric steps text old (Primary p) chars last
        → ((items : List ℕ) → ReadTo chars last items → All IsScalar text → BeginsWithPrimaries source numeric text (primaries_in items))
        → IsSettled source numeric text old (Primary p)
    settled_by chars last p old h stands = λ ok. subst (λ (ps : List ℕ). BeginsWithPrimaries source numeric text ps) h.1.1 (stands h.0 h.1.0 ok)

-- a character may stand after a class where its step there was told
pub followed_told : (source : CollationSource) (numeric : Option ℕ) (last c : ℕ) (step : Option (ℕ × ℕ)) → IfSome step (λ s. StepsTo source numeric c last s.0 s.1)
    → is_some step ≡ true → IsFollowed source numeric last (Some c)
followed_told source numeric last c None steps_to told = absurd (false≢true told)
followed_told source numeric last c (Some s) steps_to told = (s.0, s.1, steps_to)
