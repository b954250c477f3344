-- How texts that were read compare: as their collation order says.
use Rattle.std.proofs.Common.{◌≡◌, ℕ, Bool, true, false, List, [], ◌∷◌, map, filter_map, refl, sym, ap, ◌∙◌, append-nil}
use Rattle.std.specs.Ordering.{nat_cmp, ordering_then}
use Rattle.std.specs.declared.cmp.Ordering.{Ordering}
use Rattle.std.specs.declared.cmp.Ordering.TheVariants.{Equal}
use Rattle.icu_normalizer_core.specs.Canonical.{decomposed}
use Rattle.icu_collator_types.specs.declared.elements.Element.{Element}
use Rattle.icu_collator_types.specs.declared.options.ResolvedCollatorOptions.{ResolvedCollatorOptions}
use Rattle.icu_collator_types.specs.declared.options.Strength.TheVariants.{Identical}
use Rattle.icu_collator_types.specs.Options.{is_at_least}
use Rattle.icu_collator_core.specs.Collation.{Collation}
use Rattle.icu_collator.specs.declared.read_texts.texts.ReadText.{ReadText}
use Rattle.icu_collator.specs.LevelLists.{primaries_by}
use Rattle.icu_collator.specs.Levels.{elements_of_text, levels_of, quaternary_at, secondaries_of}
use Rattle.icu_collator.specs.Order.{character_rank, collation_order, levels_order, list_order, quaternary_rank, secondary_rank, where_in_force}
use Rattle.icu_collator.specs.Shifted.{Counted, counted}
use Rattle.icu_collator.specs.TextsRead.{IsReadOf, counted_in, lists_order, order_from_cases, order_from_quaternaries, order_from_secondaries, order_from_tertiaries, read_order}
use Rattle.icu_collator.proofs.boundaries.LevelFrontLemmas.{ranks_behind}

-- lists compare by ranks as the lists of the ranks do
ranked_order : {A : Type 0} (rank : A → ℕ) (xs ys : List A) → lists_order (map rank xs) (map rank ys) ≡ list_order rank xs ys
ranked_order rank [] [] = refl
ranked_order rank [] (y ∷ ys) = refl
ranked_order rank (x ∷ xs) [] = refl
ranked_order rank (x ∷ xs) (y ∷ ys) = ap (ordering_then (nat_cmp (rank x) (rank y))) (ranked_order rank xs ys)

in_force_alike : (in_force : Bool) (x y : Ordering) → (in_force ≡ true → x ≡ y) → where_in_force in_force x ≡ where_in_force in_force y
in_force_alike true x y e = e refl
in_force_alike false x y e = refl

-- a level of two texts, where the elements that count are said in another way
alike : (of : List Counted → List ℕ) (xs xs' ys ys' : List Counted) → xs ≡ xs' → ys ≡ ys' → lists_order (of xs) (of ys) ≡ lists_order (of xs') (of ys')
alike of xs xs' ys ys' e f = rw (e, f) refl

-- what was read of two lists of elements, and of two lists of characters where these count
module _ (collation : Collation) (options : ResolvedCollatorOptions) (es fs : List Element) (firsts others : List ℕ) (a b : ReadText)
    (left : counted_in a ≡ counted collation options es) (right : counted_in b ≡ counted collation options fs)
    (left_characters : is_at_least options.strength Identical ≡ true → a.characters.now ≡ firsts)
    (right_characters : is_at_least options.strength Identical ≡ true → b.characters.now ≡ others) where
  characters_alike : where_in_force (is_at_least options.strength Identical) (lists_order (map character_rank a.characters.now) (map character_rank b.characters.now))
      ≡ where_in_force (is_at_least options.strength Identical) (list_order character_rank firsts others)
  characters_alike =
      in_force_alike _ _ _ (λ in_force. ap (λ cs. lists_order (map character_rank cs) (map character_rank b.characters.now)) (left_characters in_force)
      ∙ ap (λ cs. lists_order (map character_rank firsts) (map character_rank cs)) (right_characters in_force)
      ∙ ranked_order character_rank firsts others)

  pub elements_read : read_order collation options a b ≡ levels_order options (levels_of collation options es firsts) (levels_of collation options fs others)
  unfolding read_order order_from_secondaries order_from_cases order_from_tertiaries order_from_quaternaries levels_order levels_of
  elements_read =
      rw (
        characters_alike,
        left,
        right,
        ranked_order secondary_rank (secondaries_of collation (counted collation options es)) (secondaries_of collation (counted collation options fs)),
        ranked_order quaternary_rank (filter_map (quaternary_at collation) (counted collation options es)) (filter_map (quaternary_at collation) (counted collation options fs)),
      ) refl

-- texts that were read compare as the texts do
pub texts_read : (collation : Collation) (options : ResolvedCollatorOptions) (firsts others : List ℕ) (a b : ReadText)
    → IsReadOf collation options firsts a.elements.now a.variable_end a.characters.now → IsReadOf collation options others b.elements.now b.variable_end b.characters.now → read_order collation options a b ≡ collation_order collation options firsts others
texts_read collation options firsts others a b left right =
    elements_read collation options (elements_of_text collation options firsts) (elements_of_text collation options others)
    (decomposed collation.canonical firsts) (decomposed collation.canonical others) a b left.elements right.elements left.characters right.characters

-- two texts with equal primaries compare by the levels after these
pub equal_primaries : (collation : Collation) (options : ResolvedCollatorOptions) (a b : ReadText) → primaries_by collation (counted_in a) ≡ primaries_by collation (counted_in b)
    → read_order collation options a b ≡ order_from_secondaries collation options a b
unfolding read_order
equal_primaries collation options a b same =
    ap (λ (o : Ordering). ordering_then o (order_from_secondaries collation options a b))
    (ap (λ (ps : List ℕ). lists_order ps (primaries_by collation (counted_in b))) same ∙ equal_lists (primaries_by collation (counted_in b)))
  where
    equal_lists : (xs : List ℕ) → lists_order xs xs ≡ Equal
    equal_lists xs = ap (λ (l : List ℕ). lists_order l l) (sym (append-nil xs)) ∙ ranks_behind (λ w. w) xs [] []
