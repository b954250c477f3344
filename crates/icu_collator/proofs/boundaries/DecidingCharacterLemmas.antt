-- Texts whose first difference is one of two plain characters compare as the primaries of those do.
use Rattle.std.proofs.Common.{◌≡◌, ℕ, suc, ◌==◌, Bool, true, false, List, [], ◌∷◌, ◌++◌, length, take, refl, sym, ap, ◌∙◌, filter_map, Option}
use Rattle.std.specs.Prelude.{◌≢◌, All}
use Rattle.std.specs.Char.{IsScalar}
use Rattle.std.specs.Option.{is_some}
use Rattle.std.specs.Ordering.{nat_cmp}
use Rattle.std.specs.declared.cmp.Ordering.TheVariants.{Less, Equal, Greater}
use Rattle.std.proofs.lemmas.Bool.{and_parts, and_right}
use Rattle.std.proofs.lemmas.List.Elements.{filter_map-append}
use lib.Utf8.{scalar, scalars}
use Rattle.icu_normalizer_core.specs.Canonical.{IsDecomposing, decomposed, marks_in_order}
use Rattle.icu_collator_types.specs.declared.elements.Element.{Element}
use Rattle.icu_collator_types.specs.declared.options.ResolvedCollatorOptions.{ResolvedCollatorOptions}
use Rattle.icu_collator_types.specs.Options.{is_numeric}
use Rattle.icu_collator_core.specs.Collation.{Collation}
use Rattle.icu_collator_core.specs.Elements.{Placed, Reading, characters_of, elements_of_list, elements_within, placed_behind}
use Rattle.icu_collator_core.specs.Pools.{element_of}
use Rattle.icu_collator_core.proofs.readings.AloneReadLemmas.{alone_read}
use Rattle.icu_collator_core.specs.Boundaries.{IsApart, after}
use Rattle.icu_collator.specs.Boundaries.{CountsWhole, IsPlain, reordered_primary}
use Rattle.icu_collator.specs.Levels.{elements_of_text, levels_of, levels_of_text, primary_at}
use Rattle.icu_collator.specs.NumbersInTexts.{is_digit}
use Rattle.icu_collator.specs.Order.{collation_order, list_order}
use Rattle.icu_collator.specs.Shifted.{Counted, counted, counted_behind, whole}
use Rattle.icu_collator_core.proofs.readings.SplitAtBoundaryLemmas.{after_scalars}
use Rattle.icu_collator.proofs.boundaries.DecomposedAtLemmas.{behind_first, decomposed_at}
use Rattle.icu_collator.proofs.boundaries.LevelFrontLemmas.{ranks_behind, ranks_end, ranks_on}
use Rattle.icu_normalizer_core.proofs.decomposed_lists.ScalarLemmas.{decomposed_characters, scalars_parts}
use Rattle.icu_collator.proofs.boundaries.SkippingLemmas.{list_from}
use Rattle.icu_collator.proofs.numbers.NumberLevelLemmas.{behind_after, counted_append, decided, first_decides}
use Rattle.icu_collator_core.proofs.lookups.PlacedLemmas.{characters_placed}

module _ (collation : Collation) (options : ResolvedCollatorOptions) (decomposing : IsDecomposing collation.canonical) (c bits : ℕ) (plain : IsPlain collation c bits) where
  abbrev numeric : Bool
  numeric = is_numeric options.numeric

  -- a plain character is no digit, and no dot above is dropped before it
  pub plain_apart : IsApart collation.weights numeric plain.first
  plain_apart =
      record {
        number = and_right numeric (is_digit collation.weights plain.first) (ap (λ (o : Option ℕ). is_some o) plain.alone.digit);
        accent = plain.accent;
      }

  -- what is read after it in a list
  unfoldable pub read_behind : List ℕ → List ℕ → List Element
  read_behind list ds =
      elements_within (length ds) collation.canonical collation.weights numeric (placed_behind (take 3 (plain.first ∷ after [] list)) ds)

  read_first : (before ds : List ℕ) → scalars before ≡ true → scalars ds ≡ true
      → elements_within (suc (length ds)) collation.canonical collation.weights numeric (placed_behind before (plain.first ∷ ds))
      ≡ element_of bits ∷ elements_within (length ds) collation.canonical collation.weights numeric (placed_behind (take 3 (plain.first ∷ before)) ds)
  unfolding elements_within placed_behind
  read_first before ds s t =
      let p : Placed = record { character = plain.first; before = before }
      in let ps = placed_behind (take 3 (plain.first ∷ before)) ds
      in let ok : scalars (characters_of ps) ≡ true = ap scalars (characters_placed (take 3 (plain.first ∷ before)) ds) ∙ t
      in ap (λ (r : Reading). r.elements ++ elements_within (length ds) collation.canonical collation.weights numeric r.left)
      (alone_read collation.canonical collation.weights plain.first bits plain.alone numeric p ps refl s ok plain.ordinary plain.undotted)

  -- the elements of a text in which it stands
  text_elements : (x y : List ℕ) → All IsScalar (x ++ c ∷ y)
      → elements_of_text collation options (x ++ c ∷ y)
      ≡ elements_of_list collation.canonical collation.weights numeric (decomposed collation.canonical x)
      ++ element_of bits ∷ read_behind (decomposed collation.canonical x) (behind_first collation.canonical plain.others y)
  unfolding read_behind
  text_elements x y h =
      let canonical = collation.canonical
      in let list = decomposed canonical x
      in let rest = behind_first canonical plain.others y
      in let split = decomposed_at canonical x y c plain.first plain.others plain.full plain.boundary.starter
      in let ok : scalars (list ++ plain.first ∷ rest) ≡ true = ap scalars (sym split) ∙ decomposed_characters canonical (x ++ c ∷ y) decomposing h
      in let parts = scalars_parts list (plain.first ∷ rest) ok
      in let behind = and_parts (scalar plain.first) (scalars rest) parts.1
      in ap (λ (l : List ℕ). elements_of_list canonical collation.weights numeric l) split
      ∙ list_from canonical collation.weights numeric list plain.first rest plain.boundary plain_apart parts.0 parts.1
      ∙ ap (λ (es : List Element). elements_of_list canonical collation.weights numeric list ++ es) (read_first (after [] list) rest (after_scalars [] list refl parts.0) behind.1)

  -- those of a text that begins with it
  pub text_begins : (y : List ℕ) → All IsScalar (c ∷ y)
      → elements_of_text collation options (c ∷ y) ≡ element_of bits ∷ read_behind [] (behind_first collation.canonical plain.others y)
  unfolding decomposed marks_in_order elements_within placed_behind
  text_begins y h = text_elements [] y h

-- an element that counts whole, after others
module _ (collation : Collation) (options : ResolvedCollatorOptions) (bits : ℕ) (counts : CountsWhole collation options bits) where
  counted_whole : (b : Bool) (es : List Element)
      → counted_behind collation options b (element_of bits ∷ es) ≡ whole (element_of bits) ∷ counted_behind collation options false es
  unfolding counted_behind
  counted_whole b es = rw (counts.fixed, and_right b ((element_of bits).primary == 0) counts.filled) refl

  primary_counts : (cs : List Counted)
      → filter_map (primary_at collation) (whole (element_of bits) ∷ cs) ≡ reordered_primary collation bits ∷ filter_map (primary_at collation) cs
  primary_counts cs = rw counts.filled refl

  primaries_at : (es fs : List Element) (list : List ℕ)
      → (levels_of collation options (es ++ element_of bits ∷ fs) list).primaries
      ≡ filter_map (primary_at collation) (counted collation options es)
      ++ reordered_primary collation bits ∷ filter_map (primary_at collation) (counted_behind collation options false fs)
  unfolding levels_of
  primaries_at es fs list =
      let b = behind_after collation options false es
      in let weights : List Counted → List ℕ = λ cs. filter_map (primary_at collation) cs
      in ap weights (counted_append collation options false es (element_of bits ∷ fs))
      ∙ filter_map-append (primary_at collation) (counted collation options es) (counted_behind collation options b (element_of bits ∷ fs))
      ∙ ap (λ (cs : List Counted). weights (counted collation options es) ++ weights cs) (counted_whole b fs)
      ∙ ap (λ (ws : List ℕ). weights (counted collation options es) ++ ws) (primary_counts (counted_behind collation options false fs))

-- the first of two primaries that differ decide
pub primaries_decide : (front ps qs : List ℕ) (p q : ℕ) → nat_cmp p q ≢ Equal → list_order (λ w. w) (front ++ p ∷ ps) (front ++ q ∷ qs) ≡ nat_cmp p q
primaries_decide front ps qs p q differ =
    ranks_behind (λ w. w) front (p ∷ ps) (q ∷ qs) ∙ decided (nat_cmp p q) (list_order (λ w. w) ps qs) differ

pub plain_characters_decide : (collation : Collation) (options : ResolvedCollatorOptions) (common : List ℕ) (a b : ℕ) (xs ys : List ℕ) (bits other : ℕ)
    → IsDecomposing collation.canonical → All IsScalar (common ++ a ∷ xs) → All IsScalar (common ++ b ∷ ys)
    → IsPlain collation a bits → IsPlain collation b other → CountsWhole collation options bits → CountsWhole collation options other
    → nat_cmp (reordered_primary collation bits) (reordered_primary collation other) ≢ Equal
    → collation_order collation options (common ++ a ∷ xs) (common ++ b ∷ ys) ≡ nat_cmp (reordered_primary collation bits) (reordered_primary collation other)
plain_characters_decide collation options common a b xs ys bits other d h g first second counts also differ =
    let canonical = collation.canonical
    in let list = decomposed canonical common
    in let es = elements_of_list canonical collation.weights (is_numeric options.numeric) list
    in let fs = read_behind collation options d a bits first list (behind_first canonical first.others xs)
    in let gs = read_behind collation options d b other second list (behind_first canonical second.others ys)
    in let one : (levels_of_text collation options (common ++ a ∷ xs)).primaries ≡ (levels_of collation options (es ++ element_of bits ∷ fs) (decomposed canonical (common ++ a ∷ xs))).primaries =
    ap (λ (w : List Element). (levels_of collation options w (decomposed canonical (common ++ a ∷ xs))).primaries) (text_elements collation options d a bits first common xs h)
    in let two : (levels_of_text collation options (common ++ b ∷ ys)).primaries ≡ (levels_of collation options (es ++ element_of other ∷ gs) (decomposed canonical (common ++ b ∷ ys))).primaries =
    ap (λ (w : List Element). (levels_of collation options w (decomposed canonical (common ++ b ∷ ys))).primaries) (text_elements collation options d b other second common ys g)
    in let p = one ∙ primaries_at collation options bits counts es fs (decomposed canonical (common ++ a ∷ xs))
    in let q = two ∙ primaries_at collation options other also es gs (decomposed canonical (common ++ b ∷ ys))
    in first_decides options (levels_of_text collation options (common ++ a ∷ xs)) (levels_of_text collation options (common ++ b ∷ ys)) (nat_cmp (reordered_primary collation bits) (reordered_primary collation other))
    (rw (p, q) (primaries_decide (filter_map (primary_at collation) (counted collation options es)) _ _ (reordered_primary collation bits) (reordered_primary collation other) differ)) differ

-- a text that goes on with a plain character is after the text that ends
module _ (collation : Collation) (options : ResolvedCollatorOptions) (common : List ℕ) (c : ℕ) (xs : List ℕ) (bits : ℕ) (d : IsDecomposing collation.canonical) (h : All IsScalar (common ++ c ∷ xs)) (plain : IsPlain collation c bits) (counts : CountsWhole collation options bits) where
  abbrev front : List ℕ
  front = (levels_of_text collation options common).primaries

  goes_on : (rest : List ℕ) × ((levels_of_text collation options (common ++ c ∷ xs)).primaries ≡ front ++ reordered_primary collation bits ∷ rest)
  unfolding levels_of
  goes_on =
      let list = decomposed collation.canonical common
      in let es = elements_of_list collation.canonical collation.weights (is_numeric options.numeric) list
      in let fs = read_behind collation options d c bits plain list (behind_first collation.canonical plain.others xs)
      in let whole_list = decomposed collation.canonical (common ++ c ∷ xs)
      in (
        filter_map (primary_at collation) (counted_behind collation options false fs),
        ap (λ (w : List Element). (levels_of collation options w whole_list).primaries) (text_elements collation options d c bits plain common xs h)
            ∙ primaries_at collation options bits counts es fs whole_list,
      )

  pub end_first : collation_order collation options common (common ++ c ∷ xs) ≡ Less
  end_first =
      first_decides options (levels_of_text collation options common) (levels_of_text collation options (common ++ c ∷ xs)) Less
      (ap (λ (w : List ℕ). list_order (λ w. w) front w) goes_on.1 ∙ ranks_end (λ w. w) front (reordered_primary collation bits) goes_on.0) (λ e. cc)

  pub end_behind : collation_order collation options (common ++ c ∷ xs) common ≡ Greater
  end_behind =
      first_decides options (levels_of_text collation options (common ++ c ∷ xs)) (levels_of_text collation options common) Greater
      (ap (λ (w : List ℕ). list_order (λ w. w) w front) goes_on.1 ∙ ranks_on (λ w. w) front (reordered_primary collation bits) goes_on.0) (λ e. cc)
