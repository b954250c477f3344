-- Texts that are read with a look at the next character: what was read of them, and whether it stands.
use Rattle.std.proofs.Common.{◌≡◌, ℕ, ◌+◌, ◌==◌, true, false, cond, List, [], ◌∷◌, ◌++◌, flat_map, Option, Some, None, inl, inr, refl, sym, ◌∙◌, ap, subst, arith, append_assoc, append-nil}
use Rattle.std.specs.Char.{IsScalar}
use Rattle.std.specs.Prelude.{All, IfSome, MatchOption, OnSome}
use Rattle.std.proofs.lemmas.Bool.{cases_Bool}
use Rattle.std.proofs.lemmas.List.Elements.{filter_map-append}
use lib.Utf8.{scalars}
use Rattle.icu_normalizer_core.specs.Canonical.{IsDecomposing, decomposed, marks_in_order}
use Rattle.icu_normalizer_core.specs.Iter.{Spells}
use Rattle.icu_normalizer_core.proofs.decomposed_lists.DecomposedLemmas.{order_before}
use Rattle.icu_normalizer_core.proofs.decomposed_lists.ScalarLemmas.{decomposed_characters, scalars_parts}
use Rattle.icu_normalizer_core.proofs.decomposed_lists.IterLemmas.{Spells-end, Spells-next}
use Rattle.icu_collator_core.specs.Acceptance.{CollationSource}
use Rattle.icu_collator_core.specs.Boundaries.{after}
use Rattle.icu_collator_core.specs.ElementLists.{unpacked}
use Rattle.icu_collator_core.specs.ElementTexts.{text_elements}
use Rattle.icu_collator_core.specs.FlatNotes.{MayStandBehind, StandInOrder, elements_behind}
use Rattle.icu_collator_core.specs.FlatSteps.{BeginsWithPrimaries, primaries_in, primary_if_any}
use Rattle.icu_collator_core.specs.NextPrimaries.{IsPushedWith, StartsBehind, primaries_listed}
use Rattle.icu_collator_core.specs.Pairs.{IsPair}
use Rattle.icu_collator_core.specs.ReadSources.{canonical_by}
use Rattle.icu_collator_core.specs.declared.flat.primaries.NextPrimaries.{NextPrimaries}
use Rattle.icu_collator_core.proofs.readings.FlatOrderLemmas.{last_appended, order_closed, order_stands}
use Rattle.icu_collator_core.proofs.readings.FlatReadLemmas.{block_in_order, more_in_order, nothing_in_order, whole_elements}
use Rattle.icu_collator.specs.Aheads.{HasPrimary, IsLeft, IsMetAhead, IsReadAhead, counted_if, counted_three, without_first}
use Rattle.icu_collator.specs.FlatOrders.{counted_primaries, does_count}
use Rattle.icu_collator.proofs.orders.CountedPrimaryLemmas.{counted_among, counting}

-- ---- what is left of a text

module _ {I : Type 0} (steps : I → Option ℕ → I → Type 0) where
  -- the next character is taken from an iterator
  pub taken_next : (chars next : I) (c : ℕ) (rest : List ℕ) → IsLeft steps None chars rest → steps chars (Some c) next → IsLeft steps (Some c) next rest
  taken_next chars next c rest left step =
      let got = Spells-next steps chars next c rest step left in
      (got.0, got.1, got.2)

  pub taken_none : (chars next : I) (rest : List ℕ) → IsLeft steps None chars rest → steps chars None next → rest ≡ []
  taken_none chars next rest left step = Spells-end steps chars next rest step left

  -- whatever was taken
  pub taken_told : (chars next : I) (found : Option ℕ) (rest : List ℕ) → IsLeft steps None chars rest → steps chars found next
      → MatchOption found (rest ≡ []) (λ c. IsLeft steps (Some c) next rest)
  taken_told chars next None rest left step = taken_none chars next rest left step
  taken_told chars next (Some c) rest left step = taken_next chars next c rest left step

-- what goes on when something was taken
pub when_taken : (A : Type 0) (found : Option ℕ) → OnSome found A → IfSome found (λ _. A)
when_taken A None h = tt
when_taken A (Some c) h = h

-- ---- what was read

module _ (source : CollationSource) (numeric : Option ℕ) where
  abbrev class : ℕ → ℕ
  class = (canonical_by source).class

  abbrev full : ℕ → List ℕ
  full = (canonical_by source).full

  module _ {I : Type 0} (steps : I → Option ℕ → I → Type 0) (text : List ℕ) where
    abbrev ReadTo : Option ℕ → I → ℕ → List ℕ → Type 0
    ReadTo held chars last items = IsReadAhead source numeric steps text held chars last items

    pub nothing_ahead : (chars : I) → Spells steps chars text → ReadTo None chars 0 []
    nothing_ahead chars spelled =
        record { list = []; rest = text; text_is = refl; left = spelled; read = nothing_in_order source numeric [] refl }

    -- the same is left otherwise
    pub left_otherwise : (held other : Option ℕ) (chars next : I) (last : ℕ) (items : List ℕ) (h : ReadTo held chars last items) → IsLeft steps other next h.rest
        → ReadTo other next last items
    left_otherwise held other chars next last items h left = record { list = h.list; rest = h.rest; text_is = h.text_is; left = left; read = h.read }

    -- a character is read after
    pub read_more : (chars : I) (c last : ℕ) (items new : List ℕ) (next : NextPrimaries) → ReadTo (Some c) chars last items
        → IsPushedWith source numeric c last items next new → ReadTo None chars next.class new
    read_more chars c last items new next h pushed =
        let left = h.left in
        record {
          list = h.list ++ full c;
          rest = left.0;
          text_is = h.text_is ∙ ap (λ (l : List ℕ). h.list ++ flat_map full l) left.1 ∙ sym (append_assoc h.list (full c) (flat_map full left.0));
          left = left.2;
          read = more_in_order source numeric h.list items new last c next.class h.read pushed.pushed;
        }

    -- the next one is held
    pub hold : (chars next : I) (d last : ℕ) (items : List ℕ) → ReadTo None chars last items → steps chars (Some d) next → ReadTo (Some d) next last items
    hold chars next d last items h step = left_otherwise None (Some d) chars next last items h (taken_next steps chars next d h.rest h.left step)

    -- two are read together
    pub read_both : (chars next : I) (c d last : ℕ) (items its : List ℕ) (trail : ℕ) → ReadTo (Some c) chars last items → steps chars (Some d) next
        → IsPair source c d its trail → ReadTo None next trail (items ++ its)
    read_both chars next c d last items its trail h step pair =
        let left = h.left in
        let got = Spells-next steps chars next d left.0 step left.2 in
        let more = flat_map full got.0 in
        let behind = pair.rest ++ d ∷ [] in
        let apart = pair.begins numeric in
        let both : full c ++ (full d ++ more) ≡ (pair.head ∷ behind) ++ more =
        ap (λ (l : List ℕ). l ++ (full d ++ more)) pair.first_full ∙ ap (λ (l : List ℕ). pair.head ∷ (pair.rest ++ (l ++ more))) pair.second_own
        ∙ ap (λ (l : List ℕ). pair.head ∷ l) (sym (append_assoc pair.rest (d ∷ []) more)) in
        record {
          list = h.list ++ pair.head ∷ behind;
          rest = got.0;
          text_is = h.text_is ∙ ap (λ (l : List ℕ). h.list ++ flat_map full l) (left.1 ∙ ap (λ (l : List ℕ). c ∷ l) got.1)
              ∙ ap (λ (l : List ℕ). h.list ++ l) both ∙ sym (append_assoc h.list (pair.head ∷ behind) more);
          left = got.2;
          read = block_in_order source numeric h.list items last pair.head behind its trail h.read pair.characters (inr apart)
              (inl apart.0.starter, subst (λ (k : ℕ). StandInOrder class k behind) (sym apart.0.starter) pair.order)
              (λ small. last_appended class (class pair.head) pair.rest (d ∷ []) ∙ pair.last small) (pair.read numeric);
        }

    -- the text is read to its end
    pub read_out : (held : Option ℕ) (chars : I) (last : ℕ) (items : List ℕ) (h : ReadTo held chars last items) → h.rest ≡ [] → unpacked items ≡ text_elements source numeric text
    read_out held chars last items h none =
        whole_elements source numeric text h.list last items h.read (h.text_is ∙ ap (λ (l : List ℕ). h.list ++ flat_map full l) none ∙ append-nil h.list)

    -- ---- what stands of a text

    pub stands_out : (held : Option ℕ) (chars : I) (last : ℕ) (items : List ℕ) (h : ReadTo held chars last items) → h.rest ≡ []
        → BeginsWithPrimaries source numeric text (primaries_in items)
    stands_out held chars last items h none =
        record { items = items; more = []; elements = sym (read_out held chars last items h none) ∙ sym (append-nil (unpacked items)); primaries = refl }

    module _ (decomposing : IsDecomposing (canonical_by source)) (ok : All IsScalar text) where
      whole_scalars : scalars (decomposed (canonical_by source) text) ≡ true
      whole_scalars = decomposed_characters (canonical_by source) text decomposing ok

      anything : (l : List ℕ) → MayStandBehind source numeric 0 l
      anything [] = tt
      anything (d ∷ ds) = inl (omega arith)

      -- nothing that follows can stand before a starter that was read last
      pub stands_closed : (held : Option ℕ) (chars : I) (items : List ℕ) → ReadTo held chars 0 items → BeginsWithPrimaries source numeric text (primaries_in items)
      unfolding decomposed
      stands_closed held chars items h =
          let left = marks_in_order class (flat_map full h.rest) in
          let list_is : decomposed (canonical_by source) text ≡ h.list ++ left =
          ap (marks_in_order class) h.text_is ∙ order_closed class 0 h.list (flat_map full h.rest) h.read.order (h.read.last (omega arith)) in
          let fine : scalars left ≡ true = (scalars_parts h.list left (ap scalars (sym list_is) ∙ whole_scalars)).1 in
          record {
            items = items;
            more = elements_behind source numeric (after [] h.list) left;
            elements = ap (elements_behind source numeric []) list_is ∙ h.read.read [] left refl fine (anything left);
            primaries = refl;
          }

      -- next comes a starter that may stand there
      pub stands_before : (chars : I) (c last : ℕ) (items : List ℕ) → ReadTo (Some c) chars last items → StartsBehind source numeric c last
          → BeginsWithPrimaries source numeric text (primaries_in items)
      unfolding decomposed
      stands_before chars c last items h starts =
          let more = flat_map full h.left.0 in
          let behind = starts.rest ++ more in
          let left = marks_in_order class behind in
          let whole : flat_map full text ≡ h.list ++ starts.first ∷ behind =
          h.text_is ∙ ap (λ (l : List ℕ). h.list ++ flat_map full l) h.left.1 ∙ ap (λ (l : List ℕ). h.list ++ (l ++ more)) starts.full in
          let list_is : decomposed (canonical_by source) text ≡ h.list ++ starts.first ∷ left =
          ap (marks_in_order class) whole ∙ order_before class starts.first h.list behind starts.starter
          ∙ ap (λ (l : List ℕ). l ++ starts.first ∷ left) (order_stands class 0 h.list h.read.order) in
          let fine : scalars (starts.first ∷ left) ≡ true = (scalars_parts h.list (starts.first ∷ left) (ap scalars (sym list_is) ∙ whole_scalars)).1 in
          record {
            items = items;
            more = elements_behind source numeric (after [] h.list) (starts.first ∷ left);
            elements = ap (elements_behind source numeric []) list_is ∙ h.read.read [] (starts.first ∷ left) refl fine starts.follows;
            primaries = refl;
          }

-- ---- the primaries that count of those that were read last

one_counting : (end p : ℕ) → counting end (primary_if_any p) ≡ counted_if end p
one_counting end p =
    elim (cases_Bool (p == 0)) [
      | inl none ↦
          let nothing : primary_if_any p ≡ [] = rw none refl in
          let here : counted_if end p ≡ [] = rw none refl in
          ap (counting end) nothing ∙ sym here
      | inr some ↦
          let one : primary_if_any p ≡ p ∷ [] = rw some refl in
          elim (cases_Bool (does_count end p)) [
            | inl counts ↦
                let there : counting end (p ∷ []) ≡ p ∷ [] = rw counts refl in
                let here : counted_if end p ≡ p ∷ [] = rw counts refl in
                ap (counting end) one ∙ there ∙ sym here
            | inr lacks ↦
                let there : counting end (p ∷ []) ≡ [] = rw lacks refl in
                let here : counted_if end p ≡ [] = rw lacks refl in
                ap (counting end) one ∙ there ∙ sym here
          ]
    ]

three_counting : (end : ℕ) (next : NextPrimaries) → counting end (primaries_listed next) ≡ counted_three end next
three_counting end next =
    let f : ℕ → Option ℕ = λ (q : ℕ). cond (does_count end q) (Some q) None in
    filter_map-append f (primary_if_any next.first) (primary_if_any next.second ++ primary_if_any next.third)
    ∙ ap (λ (ps : List ℕ). counting end (primary_if_any next.first) ++ ps) (filter_map-append f (primary_if_any next.second) (primary_if_any next.third))
    ∙ ap (λ (ps : List ℕ). ps ++ (counting end (primary_if_any next.second) ++ counting end (primary_if_any next.third))) (one_counting end next.first)
    ∙ ap (λ (ps : List ℕ). counted_if end next.first ++ (ps ++ counting end (primary_if_any next.third))) (one_counting end next.second)
    ∙ ap (λ (ps : List ℕ). counted_if end next.first ++ (counted_if end next.second ++ ps)) (one_counting end next.third)

pub counted_on : (end : ℕ) (items new : List ℕ) (next : NextPrimaries) → primaries_in new ≡ primaries_in items ++ primaries_listed next
    → counted_primaries end new ≡ counted_primaries end items ++ counted_three end next
counted_on end items new next e =
    counted_among end new ∙ ap (counting end) e
    ∙ filter_map-append (λ (q : ℕ). cond (does_count end q) (Some q) None) (primaries_in items) (primaries_listed next)
    ∙ ap (λ (ps : List ℕ). counting end (primaries_in items) ++ ps) (three_counting end next)
    ∙ ap (λ (ps : List ℕ). ps ++ counted_three end next) (sym (counted_among end items))

-- those after the first
three_popped : (end : ℕ) (read : NextPrimaries) → counted_three end read ≡ counted_if end read.first ++ counted_three end (without_first read)
three_popped end read =
    ap (λ (ps : List ℕ). counted_if end read.first ++ (counted_if end read.second ++ ps)) (sym (append-nil (counted_if end read.third)))

none_counted : (end : ℕ) (read : NextPrimaries) → HasPrimary read false → counted_three end read ≡ []
none_counted end read h =
    ap (λ (p : ℕ). counted_if end p ++ (counted_if end read.second ++ counted_if end read.third)) h.0
    ∙ ap (λ (p : ℕ). counted_if end p ++ counted_if end read.third) h.1
    ∙ ap (counted_if end) h.2

module _ (source : CollationSource) (end : ℕ) (numeric : Option ℕ) {I : Type 0} (steps : I → Option ℕ → I → Type 0) (text ps : List ℕ) where
  abbrev Met : Option ℕ → I → NextPrimaries → List ℕ → Type 0
  Met held chars read qs = IsMetAhead source end numeric steps text held chars read qs

  pub nothing_met : (chars : I) (read : NextPrimaries) → Spells steps chars text → read ≡ record { first = 0; second = 0; third = 0; class = 0 }
      → Met None chars read []
  nothing_met chars read spelled is =
      subst (λ (r : NextPrimaries). Met None chars r []) (sym is) (record { items = []; ahead = nothing_ahead source numeric steps text chars spelled; met = refl })

  -- the first of those that were read is passed, as it doesn't count, or is met
  pub first_passed : (held : Option ℕ) (chars : I) (read : NextPrimaries) → Met held chars read ps → does_count end read.first ≡ false → Met held chars (without_first read) ps
  first_passed held chars read h lacks =
      let none : counted_if end read.first ≡ [] = rw lacks refl in
      record {
        items = h.items;
        ahead = h.ahead;
        met = h.met ∙ ap (λ (qs : List ℕ). ps ++ qs) (three_popped end read) ∙ ap (λ (qs : List ℕ). ps ++ (qs ++ counted_three end (without_first read))) none;
      }

  pub first_met : (held : Option ℕ) (chars : I) (read : NextPrimaries) → Met held chars read ps → does_count end read.first ≡ true
      → Met held chars (without_first read) (ps ++ read.first ∷ [])
  first_met held chars read h counts =
      let one : counted_if end read.first ≡ read.first ∷ [] = rw counts refl in
      record {
        items = h.items;
        ahead = h.ahead;
        met = h.met ∙ ap (λ (qs : List ℕ). ps ++ qs) (three_popped end read) ∙ ap (λ (qs : List ℕ). ps ++ (qs ++ counted_three end (without_first read))) one
            ∙ sym (append_assoc ps (read.first ∷ []) (counted_three end (without_first read)));
      }

  -- none is left of those that were read
  pub all_met : (held : Option ℕ) (chars : I) (read : NextPrimaries) → (h : Met held chars read ps) → HasPrimary read false → counted_primaries end h.items ≡ ps
  all_met held chars read h none = h.met ∙ ap (λ (qs : List ℕ). ps ++ qs) (none_counted end read none) ∙ append-nil ps

  -- more is read then
  pub read_then : (held then : Option ℕ) (chars next : I) (read : NextPrimaries) (more : NextPrimaries) → (h : Met held chars read ps) → HasPrimary read false
      → (new : List ℕ) × IsReadAhead source numeric steps text then next more.class new × (primaries_in new ≡ primaries_in h.items ++ primaries_listed more)
      → Met then next more ps
  read_then held then chars next read more h none behind =
      record {
        items = behind.0;
        ahead = behind.1;
        met = counted_on end h.items behind.0 more behind.2 ∙ ap (λ (qs : List ℕ). qs ++ counted_three end more) (all_met held chars read h none);
      }
