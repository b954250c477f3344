-- How texts that are read by stretches side by side compare, by their primaries.
use Rattle.std.proofs.Common.{◌≡◌, ℕ, zero, suc, ◌≤◌, Bool, false, List, [], ◌∷◌, ◌++◌, length, map, take, drop, Option, refl, sym, ◌∙◌, ap, subst, append_assoc, append-nil, arith}
use Rattle.std.specs.Prelude.{◌≢◌, All}
use Rattle.std.specs.Char.{IsScalar}
use Rattle.std.specs.Ordering.{nat_cmp}
use Rattle.std.specs.declared.cmp.Ordering.{Ordering}
use Rattle.std.specs.declared.cmp.Ordering.TheVariants.{Less, Equal, Greater}
use Rattle.std.proofs.lemmas.List.{map-append}
use Rattle.icu_normalizer_core.specs.Iter.{Spells}
use Rattle.icu_collator_types.specs.declared.elements.Element.{Element}
use Rattle.icu_collator_types.specs.declared.options.ResolvedCollatorOptions.{ResolvedCollatorOptions}
use Rattle.icu_collator_core.specs.Acceptance.{CollationSource}
use Rattle.icu_collator_core.specs.Collation.{Collation}
use Rattle.icu_collator_core.specs.ElementLists.{unpacked}
use Rattle.icu_collator_core.specs.ElementTexts.{text_elements}
use Rattle.icu_collator_core.specs.Pools.{element_of}
use Rattle.icu_collator_core.specs.Stretched.{BeginsWithElements, EndsApart, EndsWithElements, settled_in}
use Rattle.icu_collator_core.specs.declared.flat.steps.FlatStep.{FlatStep}
use Rattle.icu_collator_core.specs.declared.flat.steps.FlatStep.TheVariants.{Primary, End, Other}
use Rattle.icu_collator_core.specs.declared.flat.stretched.StretchedElements.{StretchedElements}
use Rattle.icu_collator.specs.Collators.{source_collation}
use Rattle.icu_collator.specs.CommonBoundaries.{AreElementsBehind, BeginAt}
use Rattle.icu_collator.specs.FlatOrders.{IsMeeting, counted_primaries, reordered_by}
use Rattle.icu_collator.specs.LevelLists.{variable_end_of}
use Rattle.icu_collator.specs.Levels.{levels_of, levels_of_text}
use Rattle.icu_collator.specs.Order.{collation_order, list_order}
use Rattle.icu_collator.specs.Shifted.{counted_behind}
use Rattle.icu_collator.specs.StretchedOrders.{AreMetAlike, IsRun, IsSettledStep}
use Rattle.icu_collator.specs.TextsRead.{numeric_by}
use Rattle.icu_collator.specs.declared.compare.flat.Meeting.{Meeting}
use Rattle.icu_collator.specs.declared.compare.flat.Meeting.TheVariants.{Alike, BothEnd, Parted, Stopped}
use Rattle.icu_collator.proofs.boundaries.DecidingCharacterLemmas.{primaries_decide}
use Rattle.icu_collator.proofs.boundaries.LevelFrontLemmas.{ranks_end, ranks_on}
use Rattle.icu_collator.proofs.numbers.NumberLevelLemmas.{behind_after, first_decides}
use Rattle.icu_collator.proofs.orders.CountedPrimaryLemmas.{behind_those, by_options, primaries_of, primaries_split}

-- as many elements are there
pub as_many : (k : ℕ) (xs ys : List ℕ) → unpacked (take k ys) ≡ unpacked (take k xs) → k ≤ length xs → k ≤ length ys
as_many zero xs ys e h = omega arith
as_many (suc k) [] ys e h = absurd (omega (arith, h))
as_many (suc k) (x ∷ xs) [] e h = absurd (omega (arith, ap (λ (l : List Element). length l) e))
as_many (suc k) (x ∷ xs) (y ∷ ys) e h =
    let whole : element_of y ∷ unpacked (take k ys) ≡ element_of x ∷ unpacked (take k xs) = e in
    let rest : unpacked (take k ys) ≡ unpacked (take k xs) = cc in
    let left = as_many k xs ys rest (omega (arith, h)) in
    omega (arith, left)

-- ---- the primaries of a text

split_at : (k : ℕ) (xs : List ℕ) → xs ≡ take k xs ++ drop k xs
split_at zero xs = refl
split_at (suc k) [] = refl
split_at (suc k) (x ∷ xs) = ap (λ (l : List ℕ). x ∷ l) (split_at k xs)

module _ (source : CollationSource) (options : ResolvedCollatorOptions) (end : ℕ) (at : end ≡ variable_end_of (source_collation source) options) where
  abbrev collation : Collation
  collation = source_collation source

  abbrev Reordered : List ℕ → List ℕ
  Reordered ps = map (reordered_by source) ps

  abbrev primaries_from : Bool → List Element → List ℕ
  primaries_from behind es = primaries_of source options end at behind es

  module _ (numeric : Option ℕ) (is : numeric ≡ numeric_by source options) (front : List ℕ) where
    abbrev elements : List ℕ → List Element
    elements text = text_elements source numeric text

    -- the primaries of the front
    abbrev before_all : List ℕ
    before_all = primaries_from false (elements front)

    -- those of a text after the front whose elements there begin with these
    front_primaries : (text items : List ℕ) → BeginsWithElements source numeric front text items
        → (rest : List ℕ) × ((levels_of_text collation options (front ++ text)).primaries ≡ before_all ++ (Reordered (counted_primaries end items) ++ rest))
    unfolding levels_of
    front_primaries text items begins =
        let split = primaries_split source options end at (behind_after collation options false (elements front)) items begins.0 in (
          primaries_from split.0 begins.0,
          ap (primaries_from false) (by_options source numeric options is (front ++ text) ∙ begins.1)
              ∙ behind_those source options end at (elements front) (unpacked items ++ begins.0)
              ∙ ap (λ (ps : List ℕ). before_all ++ ps) split.1,
        )

    -- those of a text that has these elements there
    whole_primaries : (text items : List ℕ) → EndsWithElements source numeric front text items
        → (levels_of_text collation options (front ++ text)).primaries ≡ before_all ++ Reordered (counted_primaries end items)
    unfolding levels_of counted_behind
    whole_primaries text items are =
        let split = primaries_split source options end at (behind_after collation options false (elements front)) items [] in
        ap (primaries_from false)
        (by_options source numeric options is (front ++ text) ∙ are ∙ ap (λ (es : List Element). elements front ++ es) (sym (append-nil (unpacked items))))
        ∙ behind_those source options end at (elements front) (unpacked items ++ [])
        ∙ ap (λ (ps : List ℕ). before_all ++ ps) (split.1 ∙ append-nil (Reordered (counted_primaries end items)))

    -- of which so many were met, up to one
    reached : (text items : List ℕ) (met p : ℕ) (before : List ℕ) → BeginsWithElements source numeric front text items
        → counted_primaries end (take met items) ≡ before ++ p ∷ []
        → (rest : List ℕ) × ((levels_of_text collation options (front ++ text)).primaries ≡ (before_all ++ Reordered before) ++ reordered_by source p ∷ rest)
    reached text items met p before begins are =
        let begun : BeginsWithElements source numeric front text (take met items) = (
          unpacked (drop met items) ++ begins.0,
          begins.1
              ∙ ap (λ (es : List Element). elements front ++ es)
              (ap (λ (l : List ℕ). unpacked l ++ begins.0) (split_at met items)
              ∙ ap (λ (es : List Element). es ++ begins.0) (map-append element_of (take met items) (drop met items))
              ∙ append_assoc (unpacked (take met items)) (unpacked (drop met items)) begins.0),
        ) in
        let said = front_primaries text (take met items) begun in (
          said.0,
          said.1
              ∙ ap (λ (ps : List ℕ). before_all ++ (Reordered ps ++ said.0)) are
              ∙ ap (λ (ps : List ℕ). before_all ++ (ps ++ said.0)) (map-append (reordered_by source) before (p ∷ []))
              ∙ ap (λ (ps : List ℕ). before_all ++ ps) (append_assoc (Reordered before) (reordered_by source p ∷ []) said.0)
              ∙ sym (append_assoc before_all (Reordered before) (reordered_by source p ∷ said.0)),
        )

    -- the elements of a text, as the options read numbers
    pub ends_behind : (text items : List ℕ) → EndsWithElements source numeric front text items → AreElementsBehind collation options front (front ++ text) items
    ends_behind text items e =
        by_options source numeric options is (front ++ text) ∙ e
        ∙ ap (λ (es : List Element). es ++ unpacked items) (sym (by_options source numeric options is front))

    module _ (a b : List ℕ) where
      abbrev order : Ordering
      order = collation_order collation options (front ++ a) (front ++ b)

      order_by : (xs ys : List ℕ) (o : Ordering) → (levels_of_text collation options (front ++ a)).primaries ≡ xs
          → (levels_of_text collation options (front ++ b)).primaries ≡ ys → list_order (λ w. w) xs ys ≡ o → o ≢ Equal → o ≡ order
      order_by xs ys o e f are decided =
          sym (first_decides options (levels_of_text collation options (front ++ a)) (levels_of_text collation options (front ++ b)) o (rw (e, f) are) decided)

      parted : (xs ys : List ℕ) (met other p q : ℕ) (lefts rights : List ℕ) (o : Ordering) → Reordered lefts ≡ Reordered rights
          → BeginsWithElements source numeric front a xs → counted_primaries end (take met xs) ≡ lefts ++ p ∷ []
          → BeginsWithElements source numeric front b ys → counted_primaries end (take other ys) ≡ rights ++ q ∷ []
          → o ≡ nat_cmp (reordered_by source p) (reordered_by source q) → o ≢ Equal → o ≡ order
      parted xs ys met other p q lefts rights o same one left two right are decided =
          let first = reached a xs met p lefts one left in
          let second = reached b ys other q rights two right in
          let common = before_all ++ Reordered lefts in
          let differ : nat_cmp (reordered_by source p) (reordered_by source q) ≢ Equal = λ e. decided (are ∙ e) in
          order_by (common ++ reordered_by source p ∷ first.0) (common ++ reordered_by source q ∷ second.0) o first.1
          (second.1 ∙ ap (λ (l : List ℕ). (before_all ++ l) ++ reordered_by source q ∷ second.0) (sym same))
          (primaries_decide common first.0 second.0 (reordered_by source p) (reordered_by source q) differ ∙ sym are) decided

      right_ends : (xs ys : List ℕ) (met p : ℕ) (lefts rights : List ℕ) → Reordered lefts ≡ Reordered rights
          → BeginsWithElements source numeric front a xs → counted_primaries end (take met xs) ≡ lefts ++ p ∷ []
          → EndsWithElements source numeric front b ys → counted_primaries end ys ≡ rights → Greater ≡ order
      right_ends xs ys met p lefts rights same one left two right =
          let first = reached a xs met p lefts one left in
          let common = before_all ++ Reordered lefts in
          order_by (common ++ reordered_by source p ∷ first.0) common Greater first.1
          (whole_primaries b ys two ∙ ap (λ (l : List ℕ). before_all ++ l) (ap Reordered right ∙ sym same))
          (ranks_on (λ w. w) common (reordered_by source p) first.0) (λ e. cc)

      left_ends : (xs ys : List ℕ) (other q : ℕ) (lefts rights : List ℕ) → Reordered lefts ≡ Reordered rights
          → EndsWithElements source numeric front a xs → counted_primaries end xs ≡ lefts
          → BeginsWithElements source numeric front b ys → counted_primaries end (take other ys) ≡ rights ++ q ∷ [] → Less ≡ order
      left_ends xs ys other q lefts rights same one left two right =
          let second = reached b ys other q rights two right in
          let common = before_all ++ Reordered lefts in
          order_by common (common ++ reordered_by source q ∷ second.0) Less
          (whole_primaries a xs one ∙ ap (λ (l : List ℕ). before_all ++ Reordered l) left)
          (second.1 ∙ ap (λ (l : List ℕ). (before_all ++ l) ++ reordered_by source q ∷ second.0) (sym same))
          (ranks_end (λ w. w) common (reordered_by source q) second.0) (λ e. cc)

      -- ---- two texts that were read side by side

      module _ {I J : Type 0} (left_steps : I → Option ℕ → I → Type 0) (right_steps : J → Option ℕ → J → Type 0)
          (lefts rights : List ℕ) (same : Reordered lefts ≡ Reordered rights) (left : I) (right : J) (s t : StretchedElements) (met other : ℕ) where
        abbrev pub LeftStep : FlatStep → Type 0
        LeftStep first = IsSettledStep source numeric left_steps end a lefts first left s met

        abbrev pub RightStep : FlatStep → Type 0
        RightStep second = IsSettledStep source numeric right_steps end b rights second right t other

        pub met_alike : (first second : FlatStep) → IsMeeting source first second Alike → LeftStep first → RightStep second
            → AreMetAlike source numeric end left_steps right_steps a b left right s t met other
        met_alike (Primary p) (Primary q) m l r =
            record {
              left_read = l.0;
              right_read = r.0;
              left_within = l.1;
              right_within = r.1;
              same = ap Reordered l.2 ∙ map-append (reordered_by source) lefts (p ∷ [])
                  ∙ ap (λ (x : ℕ). Reordered lefts ++ x ∷ []) m ∙ ap (λ (ps : List ℕ). ps ++ reordered_by source q ∷ []) same
                  ∙ sym (ap Reordered r.2 ∙ map-append (reordered_by source) rights (q ∷ []));
            }
        met_alike (Primary p) End m l r = absurd m
        met_alike (Primary p) Other m l r = absurd m
        met_alike End (Primary q) m l r = absurd m
        met_alike End End m l r = absurd m
        met_alike End Other m l r = absurd m
        met_alike Other (Primary q) m l r = absurd m
        met_alike Other End m l r = absurd m
        met_alike Other Other m l r = absurd m

        module _ (left_apart : EndsApart source numeric front a) (right_apart : EndsApart source numeric front b) (ok : All IsScalar (front ++ a)) (also : All IsScalar (front ++ b)) where
          run_parted : (first second : FlatStep) (o : Ordering) → IsMeeting source first second (Parted o) → LeftStep first → RightStep second → o ≡ order
          run_parted (Primary p) (Primary q) o m l r =
              parted (settled_in s) (settled_in t) met other p q lefts rights o same (l.0.stands front left_apart ok) l.2 (r.0.stands front right_apart also) r.2 m.0 m.1
          run_parted (Primary p) End o m l r =
              m ∙ right_ends (settled_in s) (settled_in t) met p lefts rights same (l.0.stands front left_apart ok) l.2 (r.0.whole r.1 front right_apart also) r.2
          run_parted End (Primary q) o m l r =
              m ∙ left_ends (settled_in s) (settled_in t) other q lefts rights same (l.0.whole l.1 front left_apart ok) l.2 (r.0.stands front right_apart also) r.2
          run_parted (Primary p) Other o m l r = absurd m
          run_parted End End o m l r = absurd m
          run_parted End Other o m l r = absurd m
          run_parted Other (Primary q) o m l r = absurd m
          run_parted Other End o m l r = absurd m
          run_parted Other Other o m l r = absurd m

          run_ended : (first second : FlatStep) → IsMeeting source first second BothEnd → LeftStep first → RightStep second → IsRun source options front a b s t BothEnd
          run_ended End End m l r =
              (ends_behind a (settled_in s) (l.0.whole l.1 front left_apart ok), ends_behind b (settled_in t) (r.0.whole r.1 front right_apart also))
          run_ended (Primary p) (Primary q) m l r = absurd m
          run_ended (Primary p) End m l r = absurd m
          run_ended (Primary p) Other m l r = absurd m
          run_ended End (Primary q) m l r = absurd m
          run_ended End Other m l r = absurd m
          run_ended Other (Primary q) m l r = absurd m
          run_ended Other End m l r = absurd m
          run_ended Other Other m l r = absurd m

          -- what both say there
          pub run : (first second : FlatStep) (meeting : Meeting) → IsMeeting source first second meeting → LeftStep first → RightStep second
              → IsRun source options front a b s t meeting
          run first second Alike m l r = tt
          run first second BothEnd m l r = run_ended first second m l r
          run first second (Parted o) m l r = run_parted first second o m l r
          run first second Stopped m l r = tt

-- ---- two texts from a boundary on that they have in common

module _ (source : CollationSource) (options : ResolvedCollatorOptions) {I J : Type 0} (left_steps : I → Option ℕ → I → Type 0) (right_steps : J → Option ℕ → J → Type 0)
    (left : I) (right : J) (s t : StretchedElements) where
  -- what they say that are left to these iterators, after any front
  abbrev pub Runs : Meeting → Type 0
  Runs meeting =
      (front a b : List ℕ) → All IsScalar (front ++ a) → All IsScalar (front ++ b)
      → EndsApart source (numeric_by source options) front a → EndsApart source (numeric_by source options) front b
      → Spells left_steps left a → Spells right_steps right b → IsRun source options front a b s t meeting

  module _ (a b : List ℕ) (index : ℕ) (ok : All IsScalar a) (also : All IsScalar b) (h : BeginAt source left_steps right_steps a b index left right) where
    from_there : (meeting : Meeting) → Runs meeting → IsRun source options h.front h.left_rest h.right_rest s t meeting
    from_there meeting runs =
        runs h.front h.left_rest h.right_rest (subst (λ (l : List ℕ). All IsScalar l) h.left_is ok) (subst (λ (l : List ℕ). All IsScalar l) h.right_is also)
        (h.left_apart (numeric_by source options)) (h.right_apart (numeric_by source options)) h.left_spells h.right_spells

    pub run_decides : (order : Ordering) → Runs (Parted order) → order ≡ collation_order (source_collation source) options a b
    run_decides order runs =
        from_there (Parted order) runs
        ∙ ap (λ (l : List ℕ). collation_order (source_collation source) options l (h.front ++ h.right_rest)) (sym h.left_is)
        ∙ ap (λ (l : List ℕ). collation_order (source_collation source) options a l) (sym h.right_is)

    pub run_left : Runs BothEnd → AreElementsBehind (source_collation source) options h.front a (settled_in s)
    run_left runs =
        subst (λ (l : List ℕ). AreElementsBehind (source_collation source) options h.front l (settled_in s)) (sym h.left_is) (from_there BothEnd runs).0

    pub run_right : Runs BothEnd → AreElementsBehind (source_collation source) options h.front b (settled_in t)
    run_right runs =
        subst (λ (l : List ℕ). AreElementsBehind (source_collation source) options h.front l (settled_in t)) (sym h.right_is) (from_there BothEnd runs).1
