-- How texts that are read with a look at the next character compare, by their primaries.
use Rattle.std.proofs.Common.{◌≡◌, ℕ, List, [], ◌∷◌, ◌++◌, map, Option, refl, sym, ◌∙◌, ap, append_assoc}
use Rattle.std.specs.Prelude.{◌≢◌, All}
use Rattle.std.specs.Char.{IsScalar}
use Rattle.std.specs.Ordering.{nat_cmp}
use Rattle.std.specs.declared.cmp.Ordering.{Ordering}
use Rattle.std.specs.declared.cmp.Ordering.TheVariants.{Less, Equal, Greater}
use Rattle.std.proofs.lemmas.List.{map-append}
use Rattle.icu_collator_types.specs.declared.options.ResolvedCollatorOptions.{ResolvedCollatorOptions}
use Rattle.icu_collator_core.specs.Acceptance.{CollationSource}
use Rattle.icu_collator_core.specs.Collation.{Collation}
use Rattle.icu_collator_core.specs.ElementLists.{unpacked}
use Rattle.icu_collator_core.specs.ElementTexts.{text_elements}
use Rattle.icu_collator_core.specs.FlatSteps.{BeginsWithPrimaries, primaries_in}
use Rattle.icu_collator_core.specs.declared.flat.primaries.NextPrimaries.{NextPrimaries}
use Rattle.icu_collator_core.specs.declared.flat.steps.FlatStep.{FlatStep}
use Rattle.icu_collator_core.specs.declared.flat.steps.FlatStep.TheVariants.{Primary, End, Other}
use Rattle.icu_collator.specs.Aheads.{IsMetAhead, IsNextAhead, IsReadAhead, counted_three}
use Rattle.icu_collator.specs.Collators.{source_collation}
use Rattle.icu_collator.specs.FlatOrders.{IsByPrimaries, IsMeeting, counted_primaries, reordered_by}
use Rattle.icu_collator.specs.LevelLists.{variable_end_of}
use Rattle.icu_collator.specs.Levels.{levels_of_text}
use Rattle.icu_collator.specs.Order.{collation_order}
use Rattle.icu_collator.specs.TextsRead.{numeric_by}
use Rattle.icu_collator.specs.declared.compare.flat.ByPrimaries.TheVariants.{Decided, Same}
use Rattle.icu_collator.specs.declared.compare.flat.Meeting.TheVariants.{Alike, BothEnd, Parted}
use Rattle.icu_collator.proofs.boundaries.DecidingCharacterLemmas.{primaries_decide}
use Rattle.icu_collator.proofs.boundaries.LevelFrontLemmas.{ranks_end, ranks_on}
use Rattle.icu_collator.proofs.orders.CountedPrimaryLemmas.{counted_by_primaries}
use Rattle.icu_collator.proofs.orders.OrderByFlatLemmas.{front_primaries, order_by, whole_of}

module _ (source : CollationSource) (end : ℕ) (numeric : Option ℕ) where
  abbrev Moved : List ℕ → List ℕ
  Moved ps = map (reordered_by source) ps

  abbrev collation : Collation
  collation = source_collation source

  module _ (options : ResolvedCollatorOptions) (is : numeric ≡ numeric_by source options) (at : end ≡ variable_end_of collation options) where
    -- the primaries of a text that begins with those of elements, of which some were met, then one more
    front_ahead : (text ps items : List ℕ) (p : ℕ) (more : List ℕ) → counted_primaries end items ≡ (ps ++ p ∷ []) ++ more
        → BeginsWithPrimaries source numeric text (primaries_in items)
        → (rest : List ℕ) × ((levels_of_text collation options text).primaries ≡ Moved ps ++ reordered_by source p ∷ rest)
    front_ahead text ps items p more met begins =
        let said = front_primaries source numeric options is end at text begins.items begins.more begins.elements in
        let moved : Moved (counted_primaries end begins.items) ≡ (Moved ps ++ reordered_by source p ∷ []) ++ Moved more =
        ap Moved (counted_by_primaries end begins.items items begins.primaries ∙ met) ∙ map-append (reordered_by source) (ps ++ p ∷ []) more
        ∙ ap (λ (l : List ℕ). l ++ Moved more) (map-append (reordered_by source) ps (p ∷ [])) in (
          Moved more ++ said.0,
          said.1 ∙ ap (λ (l : List ℕ). l ++ said.0) moved ∙ append_assoc (Moved ps ++ reordered_by source p ∷ []) (Moved more) said.0
              ∙ append_assoc (Moved ps) (reordered_by source p ∷ []) (Moved more ++ said.0),
        )

    whole_ahead : (text ps items : List ℕ) → unpacked items ≡ text_elements source numeric text → counted_primaries end items ≡ ps
        → (levels_of_text collation options text).primaries ≡ Moved ps
    whole_ahead text ps items are met = whole_of source numeric options is end at text items are ∙ ap Moved met

    module _ (a b ps qs : List ℕ) (same : Moved ps ≡ Moved qs) where
      parted_ahead : (lefts rights : List ℕ) (p q : ℕ) (more others : List ℕ) (o : Ordering)
          → counted_primaries end lefts ≡ (ps ++ p ∷ []) ++ more → BeginsWithPrimaries source numeric a (primaries_in lefts)
          → counted_primaries end rights ≡ (qs ++ q ∷ []) ++ others → BeginsWithPrimaries source numeric b (primaries_in rights)
          → o ≡ nat_cmp (reordered_by source p) (reordered_by source q) → o ≢ Equal → o ≡ collation_order collation options a b
      parted_ahead lefts rights p q more others o met left also right says decided =
          let one = front_ahead a ps lefts p more met left in
          let two = front_ahead b qs rights q others also right in
          let differ : nat_cmp (reordered_by source p) (reordered_by source q) ≢ Equal = λ e. decided (says ∙ e) in
          order_by source numeric options is end at a b (Moved ps ++ reordered_by source p ∷ one.0) (Moved ps ++ reordered_by source q ∷ two.0) o one.1
          (two.1 ∙ ap (λ (l : List ℕ). l ++ reordered_by source q ∷ two.0) (sym same))
          (primaries_decide (Moved ps) one.0 two.0 (reordered_by source p) (reordered_by source q) differ ∙ sym says) decided

      right_out : (lefts : List ℕ) (p : ℕ) (more items : List ℕ) → counted_primaries end lefts ≡ (ps ++ p ∷ []) ++ more → BeginsWithPrimaries source numeric a (primaries_in lefts)
          → unpacked items ≡ text_elements source numeric b → counted_primaries end items ≡ qs → Greater ≡ collation_order collation options a b
      right_out lefts p more items met left are also =
          let one = front_ahead a ps lefts p more met left in
          order_by source numeric options is end at a b (Moved ps ++ reordered_by source p ∷ one.0) (Moved ps) Greater one.1 (whole_ahead b qs items are also ∙ sym same)
          (ranks_on (λ w. w) (Moved ps) (reordered_by source p) one.0) (λ e. cc)

      left_out : (rights : List ℕ) (q : ℕ) (others items : List ℕ) → counted_primaries end rights ≡ (qs ++ q ∷ []) ++ others → BeginsWithPrimaries source numeric b (primaries_in rights)
          → unpacked items ≡ text_elements source numeric a → counted_primaries end items ≡ ps → Less ≡ collation_order collation options a b
      left_out rights q others items also right are met =
          let two = front_ahead b qs rights q others also right in
          order_by source numeric options is end at a b (Moved ps) (Moved ps ++ reordered_by source q ∷ two.0) Less (whole_ahead a ps items are met)
          (two.1 ∙ ap (λ (l : List ℕ). l ++ reordered_by source q ∷ two.0) (sym same)) (ranks_end (λ w. w) (Moved ps) (reordered_by source q) two.0) (λ e. cc)

  -- ---- both texts

  module _ {I J : Type 0} (left_steps : I → Option ℕ → I → Type 0) (right_steps : J → Option ℕ → J → Type 0) (a b : List ℕ) where
    -- both are read so that the primaries that were met are alike, as they are reordered
    pub record AreMet (left_held : Option ℕ) (left : I) (left_read : NextPrimaries) (right_held : Option ℕ) (right : J) (right_read : NextPrimaries) : Type 0 where
      pub ps : List ℕ
      pub qs : List ℕ
      pub same : Moved ps ≡ Moved qs
      pub lefts : IsMetAhead source end numeric left_steps a left_held left left_read ps
      pub rights : IsMetAhead source end numeric right_steps b right_held right right_read qs

    module _ (ps qs : List ℕ) (same : Moved ps ≡ Moved qs) (left_held : Option ℕ) (left : I) (left_read : NextPrimaries) (right_held : Option ℕ) (right : J) (right_read : NextPrimaries) where
      abbrev LeftNext : FlatStep → Type 0
      LeftNext first = IsNextAhead source end numeric left_steps a ps first left_held left left_read

      abbrev RightNext : FlatStep → Type 0
      RightNext second = IsNextAhead source end numeric right_steps b qs second right_held right right_read

      -- what was read stands, where a primary comes next
      abbrev LeftStands : FlatStep → Type 0
      LeftStands first = (p : ℕ) → first ≡ Primary p → (t items : List ℕ) → All IsScalar t
          → IsReadAhead source numeric left_steps t left_held left left_read.class items → BeginsWithPrimaries source numeric t (primaries_in items)

      abbrev RightStands : FlatStep → Type 0
      RightStands second = (p : ℕ) → second ≡ Primary p → (t items : List ℕ) → All IsScalar t
          → IsReadAhead source numeric right_steps t right_held right right_read.class items → BeginsWithPrimaries source numeric t (primaries_in items)

      pub alike_on : (first second : FlatStep) → IsMeeting source first second Alike → LeftNext first → RightNext second
          → AreMet left_held left left_read right_held right right_read
      alike_on (Primary p) (Primary q) m l r =
          record {
            ps = ps ++ p ∷ [];
            qs = qs ++ q ∷ [];
            same = map-append (reordered_by source) ps (p ∷ []) ∙ ap (λ (x : ℕ). Moved ps ++ x ∷ []) m ∙ ap (λ (l : List ℕ). l ++ reordered_by source q ∷ []) same
                ∙ sym (map-append (reordered_by source) qs (q ∷ []));
            lefts = l.1;
            rights = r.1;
          }
      alike_on (Primary p) End m l r = absurd m
      alike_on (Primary p) Other m l r = absurd m
      alike_on End (Primary q) m l r = absurd m
      alike_on End End m l r = absurd m
      alike_on End Other m l r = absurd m
      alike_on Other (Primary q) m l r = absurd m
      alike_on Other End m l r = absurd m
      alike_on Other Other m l r = absurd m

      pub both_out : (first second : FlatStep) → IsMeeting source first second BothEnd → LeftNext first → RightNext second → IsByPrimaries source end numeric a b Same
      both_out End End m l r = λ options at is.
          whole_ahead options is at a ps l.0 l.1 l.2 ∙ same ∙ sym (whole_ahead options is at b qs r.0 r.1 r.2)
      both_out (Primary p) (Primary q) m l r = absurd m
      both_out (Primary p) End m l r = absurd m
      both_out (Primary p) Other m l r = absurd m
      both_out End (Primary q) m l r = absurd m
      both_out End Other m l r = absurd m
      both_out Other (Primary q) m l r = absurd m
      both_out Other End m l r = absurd m
      both_out Other Other m l r = absurd m

      pub parting_decides : (first second : FlatStep) (o : Ordering) → IsMeeting source first second (Parted o) → LeftNext first → RightNext second
          → LeftStands first → RightStands second → All IsScalar a → All IsScalar b → IsByPrimaries source end numeric a b (Decided o)
      parting_decides (Primary p) (Primary q) o m l r one two ok also = λ options at is.
          parted_ahead options is at a b ps qs same l.1.items r.1.items p q (counted_three end left_read) (counted_three end right_read) o
          l.1.met (one p refl a l.1.items ok l.1.ahead) r.1.met (two q refl b r.1.items also r.1.ahead) m.0 m.1
      parting_decides (Primary p) End o m l r one two ok also = λ options at is.
          m ∙ right_out options is at a b ps qs same l.1.items p (counted_three end left_read) r.0 l.1.met (one p refl a l.1.items ok l.1.ahead) r.1 r.2
      parting_decides End (Primary q) o m l r one two ok also = λ options at is.
          m ∙ left_out options is at a b ps qs same r.1.items q (counted_three end right_read) l.0 r.1.met (two q refl b r.1.items also r.1.ahead) l.1 l.2
      parting_decides (Primary p) Other o m l r one two ok also = absurd m
      parting_decides End End o m l r one two ok also = absurd m
      parting_decides End Other o m l r one two ok also = absurd m
      parting_decides Other (Primary q) o m l r one two ok also = absurd m
      parting_decides Other End o m l r one two ok also = absurd m
      parting_decides Other Other o m l r one two ok also = absurd m
