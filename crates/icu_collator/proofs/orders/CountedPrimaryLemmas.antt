-- The primaries that count of elements one after another, and those of a text, as they are reordered.
use Rattle.std.proofs.Common.{◌≡◌, ℕ, ◌+◌, ◌<◌, ◌==◌, ◌&&◌, Bool, true, false, cond, not, List, [], ◌∷◌, ◌++◌, filter_map, get_or, length, map, take, Option, Some, None, inl, inr, refl, sym, ◌∙◌, ap, append_assoc, append-nil}
use Rattle.std.specs.Prelude.{ltb}
use Rattle.std.specs.Option.{is_some}
use Rattle.std.proofs.lemmas.Bool.{and_right, cases_Bool, false≢true}
use Rattle.std.proofs.lemmas.List.{map-append, take_more}
use Rattle.std.proofs.lemmas.List.Elements.{filter_map-append}
use Rattle.icu_normalizer_core.specs.Canonical.{decomposed}
use Rattle.icu_collator_types.specs.declared.elements.Element.{Element}
use Rattle.icu_collator_types.specs.declared.options.ResolvedCollatorOptions.{ResolvedCollatorOptions}
use Rattle.icu_collator_types.specs.Options.{is_numeric}
use Rattle.icu_collator_core.specs.Acceptance.{CollationSource}
use Rattle.icu_collator_core.specs.Collation.{Collation}
use Rattle.icu_collator_core.specs.ElementLists.{unpacked}
use Rattle.icu_collator_core.specs.Elements.{elements_of_list}
use Rattle.icu_collator_core.specs.ElementTexts.{text_elements}
use Rattle.icu_collator_core.specs.FlatSteps.{primaries_in, primary_if_any}
use Rattle.icu_collator_core.specs.Pools.{element_of}
use Rattle.icu_collator_core.specs.ReadSources.{canonical_by, weights_by}
use Rattle.icu_collator.specs.Collators.{source_collation}
use Rattle.icu_collator.specs.FlatOrders.{counted_primaries, counted_primary, does_count, primary_that_counts, reordered_by}
use Rattle.icu_collator.specs.LevelLists.{variable_end_of}
use Rattle.icu_collator.specs.Levels.{elements_of_text, primary_at}
use Rattle.icu_collator.specs.Shifted.{Counted, counted_behind, whole}
use Rattle.icu_collator.specs.TextsRead.{numeric_by}
use Rattle.icu_collator.proofs.lists.CountedLemmas.{first_ignored, first_variable, first_whole}
use Rattle.icu_collator.proofs.numbers.NumberLevelLemmas.{behind_after, counted_append}

-- the elements of a text, as the options read numbers
pub elements_by_options : (source : CollationSource) (options : ResolvedCollatorOptions) (text : List ℕ)
    → text_elements source (numeric_by source options) text ≡ elements_of_text (source_collation source) options text
elements_by_options source options text =
    by_test (is_numeric options.numeric)
  where
    by_test : (b : Bool) → elements_of_list (canonical_by source) (weights_by (cond b (Some source.tables.special_primaries.numeric_primary) None) source) (is_some (cond {A = Option ℕ} b (Some source.tables.special_primaries.numeric_primary) None)) (decomposed (canonical_by source) text)
        ≡ elements_of_list (canonical_by source) (source_collation source).weights b (decomposed (canonical_by source) text)
    by_test true = refl
    by_test false = refl

pub by_options : (source : CollationSource) (numeric : Option ℕ) (options : ResolvedCollatorOptions) → numeric ≡ numeric_by source options
    → (text : List ℕ) → elements_of_text (source_collation source) options text ≡ text_elements source numeric text
by_options source numeric options is text = sym (ap (λ (n : Option ℕ). text_elements source n text) is ∙ elements_by_options source options text)

-- ---- one element after another

no_and : (b : Bool) → (b && false) ≡ false
no_and true = refl
no_and false = refl

pub one_uncounted : (end bits : ℕ) → does_count end (element_of bits).primary ≡ false → counted_primaries end (bits ∷ []) ≡ []
one_uncounted end bits e = rw e refl

pub one_counted : (end bits : ℕ) → does_count end (element_of bits).primary ≡ true → counted_primaries end (bits ∷ []) ≡ (element_of bits).primary ∷ []
one_counted end bits e = rw e refl

one_longer : (end : ℕ) (xs : List ℕ) (k x : ℕ) → k < length xs → x ≡ get_or xs k x → counted_primaries end (take (k + 1) xs) ≡ counted_primaries end (take k xs) ++ counted_primaries end (x ∷ [])
one_longer end xs k x within is =
    ap (counted_primaries end) (take_more xs k x within ∙ ap (λ (y : ℕ). take k xs ++ y ∷ []) (sym is))
    ∙ filter_map-append (counted_primary end) (take k xs) (x ∷ [])

pub counted_more : (end : ℕ) (xs : List ℕ) (k x p : ℕ) → k < length xs → x ≡ get_or xs k x → p ≡ (element_of x).primary
    → does_count end p ≡ true → counted_primaries end (take (k + 1) xs) ≡ counted_primaries end (take k xs) ++ p ∷ []
counted_more end xs k x p within is primary test =
    one_longer end xs k x within is
    ∙ ap (λ (l : List ℕ). counted_primaries end (take k xs) ++ l)
    (one_counted end x (ap (does_count end) (sym primary) ∙ test) ∙ ap (λ (q : ℕ). q ∷ []) (sym primary))

pub uncounted_more : (end : ℕ) (xs : List ℕ) (k x p : ℕ) → k < length xs → x ≡ get_or xs k x → p ≡ (element_of x).primary
    → does_count end p ≡ false → counted_primaries end (take (k + 1) xs) ≡ counted_primaries end (take k xs)
uncounted_more end xs k x p within is primary test =
    one_longer end xs k x within is
    ∙ ap (λ (l : List ℕ). counted_primaries end (take k xs) ++ l) (one_uncounted end x (ap (does_count end) (sym primary) ∙ test))
    ∙ append-nil (counted_primaries end (take k xs))

counted_of_elements : (end : ℕ) (xs : List ℕ) → counted_primaries end xs ≡ filter_map (primary_that_counts end) (unpacked xs)
counted_of_elements end [] = refl
counted_of_elements end (x ∷ xs) =
    filter_map-append (counted_primary end) (x ∷ []) xs
    ∙ ap (λ (l : List ℕ). counted_primaries end (x ∷ []) ++ l) (counted_of_elements end xs)
    ∙ sym (filter_map-append (primary_that_counts end) (element_of x ∷ []) (unpacked xs))

-- the same elements have the same
pub counted_same : (end : ℕ) (xs ys : List ℕ) → unpacked xs ≡ unpacked ys → counted_primaries end xs ≡ counted_primaries end ys
counted_same end xs ys e = counted_of_elements end xs ∙ ap (filter_map (primary_that_counts end)) e ∙ sym (counted_of_elements end ys)

-- ---- among all primaries

abbrev pub counting : ℕ → List ℕ → List ℕ
counting end ps = filter_map (λ (p : ℕ). cond (does_count end p) (Some p) None) ps

one_among : (end bits : ℕ) → counted_primaries end (bits ∷ []) ≡ counting end (primaries_in (bits ∷ []))
one_among end bits =
    elim (cases_Bool ((element_of bits).primary == 0)) [
      | inl none ↦
          let nothing : primaries_in (bits ∷ []) ≡ [] = rw none refl in
          one_uncounted end bits (rw none refl) ∙ sym (ap (counting end) nothing)
      | inr some ↦
          let one : primaries_in (bits ∷ []) ≡ (element_of bits).primary ∷ [] = rw some refl in
          sym (ap (counting end) one)
    ]

pub counted_among : (end : ℕ) (items : List ℕ) → counted_primaries end items ≡ counting end (primaries_in items)
counted_among end [] = refl
counted_among end (bits ∷ items) =
    filter_map-append (counted_primary end) (bits ∷ []) items
    ∙ ap (λ (ps : List ℕ). counted_primaries end (bits ∷ []) ++ ps) (counted_among end items)
    ∙ ap (λ (ps : List ℕ). ps ++ counting end (primaries_in items)) (one_among end bits)
    ∙ sym (filter_map-append (λ (p : ℕ). cond (does_count end p) (Some p) None) (primaries_in (bits ∷ [])) (primaries_in items))
    ∙ ap (counting end) (sym (filter_map-append (λ (b : ℕ). cond ((element_of b).primary == 0) None (Some (element_of b).primary)) (bits ∷ []) items))

-- elements with the same primaries
pub counted_by_primaries : (end : ℕ) (xs ys : List ℕ) → primaries_in xs ≡ primaries_in ys → counted_primaries end xs ≡ counted_primaries end ys
counted_by_primaries end xs ys e = counted_among end xs ∙ ap (counting end) e ∙ sym (counted_among end ys)

-- elements with one primary more, which counts, or doesn't
pub counted_ends : (end : ℕ) (old new : List ℕ) (p : ℕ) → primaries_in new ≡ primaries_in old ++ p ∷ [] → does_count end p ≡ true
    → counted_primaries end new ≡ counted_primaries end old ++ p ∷ []
counted_ends end old new p e test =
    counted_among end new ∙ ap (counting end) e
    ∙ filter_map-append (λ (q : ℕ). cond (does_count end q) (Some q) None) (primaries_in old) (p ∷ [])
    ∙ ap (λ (ps : List ℕ). counting end (primaries_in old) ++ ps) (rw test refl)
    ∙ ap (λ (ps : List ℕ). ps ++ p ∷ []) (sym (counted_among end old))

pub counted_without : (end : ℕ) (old new : List ℕ) (p : ℕ) → primaries_in new ≡ primaries_in old ++ primary_if_any p → does_count end p ≡ false
    → counted_primaries end new ≡ counted_primaries end old
counted_without end old new p e test =
    counted_among end new ∙ ap (counting end) e
    ∙ filter_map-append (λ (q : ℕ). cond (does_count end q) (Some q) None) (primaries_in old) (primary_if_any p)
    ∙ ap (λ (ps : List ℕ). counting end (primaries_in old) ++ ps) none
    ∙ append-nil (counting end (primaries_in old))
    ∙ sym (counted_among end old)
  where
    none : counting end (primary_if_any p) ≡ []
    none =
        elim (cases_Bool (p == 0)) [
          | inl nothing ↦ rw nothing refl
          | inr some ↦ rw some (rw test refl)
        ]

-- a primary that counts isn't 0
pub counts_some : (end p : ℕ) → does_count end p ≡ true → (p == 0) ≡ false
counts_some end p test =
    elim (cases_Bool (p == 0)) [
      | inl none ↦ absurd (false≢true (rw none at test))
      | inr some ↦ some
    ]

-- ---- the primaries of a text

module _ (source : CollationSource) (options : ResolvedCollatorOptions) (end : ℕ) (at : end ≡ variable_end_of (source_collation source) options) where
  abbrev collation : Collation
  collation = source_collation source

  abbrev pub Reordered : List ℕ → List ℕ
  Reordered ps = map (reordered_by source) ps

  abbrev pub primaries_of : Bool → List Element → List ℕ
  primaries_of behind es = filter_map (primary_at collation) (counted_behind collation options behind es)

  abbrev Given : List Counted → List ℕ
  Given cs = filter_map (primary_at collation) cs

  module _ (bits : ℕ) (es : List Element) where
    abbrev e : Element
    e = element_of bits

    none_here : does_count end e.primary ≡ false → (then : Bool) → primaries_of then es ≡ Reordered (counted_primaries end (bits ∷ [])) ++ primaries_of then es
    none_here test then = sym (ap (λ (ps : List ℕ). Reordered ps ++ primaries_of then es) (one_uncounted end bits test))

    at_variable : (b : Bool) → (ltb 0x02000000 e.primary && ltb e.primary end) ≡ true → primaries_of b (e ∷ es) ≡ Reordered (counted_primaries end (bits ∷ [])) ++ primaries_of true es
    at_variable b variable = ap Given (first_variable collation options end at b e es variable) ∙ none_here (rw variable (no_and (not (e.primary == 0)))) true

    whole_none : (cs : List Counted) → (e.primary == 0) ≡ true → Given (whole e ∷ cs) ≡ Given cs
    whole_none cs none = rw none refl

    whole_one : (cs : List Counted) → (e.primary == 0) ≡ false → Given (whole e ∷ cs) ≡ reordered_by source e.primary ∷ Given cs
    whole_one cs some = rw some refl

    without : (b : Bool) → (ltb 0x02000000 e.primary && ltb e.primary end) ≡ false → (e.primary == 0) ≡ true
        → (then : Bool) × (primaries_of b (e ∷ es) ≡ Reordered (counted_primaries end (bits ∷ [])) ++ primaries_of then es)
    without true fixed none = (true, ap Given (first_ignored collation options end at true e es fixed none) ∙ none_here (rw none refl) true)
    without false fixed none =
        (false, ap Given (first_whole collation options end at false e es fixed refl) ∙ whole_none (counted_behind collation options false es) none ∙ none_here (rw none refl) false)

    with_one : (b : Bool) → (ltb 0x02000000 e.primary && ltb e.primary end) ≡ false → (e.primary == 0) ≡ false
        → primaries_of b (e ∷ es) ≡ Reordered (counted_primaries end (bits ∷ [])) ++ primaries_of false es
    with_one b fixed some =
        ap Given (first_whole collation options end at b e es fixed (and_right b (e.primary == 0) some))
        ∙ whole_one (counted_behind collation options false es) some
        ∙ sym (ap (λ (ps : List ℕ). Reordered ps ++ primaries_of false es) (one_counted end bits (rw (some, fixed) refl)))

    -- that of an element, after others, and of more after it
    one_split : (behind : Bool) → (then : Bool) × (primaries_of behind (element_of bits ∷ es) ≡ Reordered (counted_primaries end (bits ∷ [])) ++ primaries_of then es)
    one_split behind =
        elim (cases_Bool (ltb 0x02000000 e.primary && ltb e.primary end)) [
          | inl variable ↦ (true, at_variable behind variable)
          | inr fixed ↦
              elim (cases_Bool (e.primary == 0)) [
                | inl none ↦ without behind fixed none
                | inr some ↦ (false, with_one behind fixed some)
              ]
        ]

  -- those of elements, after others, and of more after them
  pub primaries_split : (behind : Bool) (items : List ℕ) (more : List Element)
      → (then : Bool) × (primaries_of behind (unpacked items ++ more) ≡ Reordered (counted_primaries end items) ++ primaries_of then more)
  primaries_split behind [] more = (behind, refl)
  primaries_split behind (bits ∷ items) more =
      let one = one_split bits (unpacked items ++ more) behind in
      let left = primaries_split one.0 items more in
      let here = counted_primaries end (bits ∷ []) in
      let rest = counted_primaries end items in (
        left.0,
        one.1
            ∙ ap (λ (ps : List ℕ). Reordered here ++ ps) left.1
            ∙ sym (append_assoc (Reordered here) (Reordered rest) (primaries_of left.0 more))
            ∙ ap (λ (ps : List ℕ). ps ++ primaries_of left.0 more)
            (sym (map-append (reordered_by source) here rest) ∙ ap Reordered (sym (filter_map-append (counted_primary end) (bits ∷ []) items))),
      )

  -- those of elements after others
  pub behind_those : (es fs : List Element) → primaries_of false (es ++ fs) ≡ primaries_of false es ++ primaries_of (behind_after collation options false es) fs
  behind_those es fs =
      ap Given (counted_append collation options false es fs)
      ∙ filter_map-append (primary_at collation) (counted_behind collation options false es) (counted_behind collation options (behind_after collation options false es) fs)
