-- How elements that count whole compare by their secondaries and tertiaries.
use Rattle.std.proofs.Common.{◌≡◌, ℕ, ◌/◌, ◌^◌, Bool, true, false, List, [], ◌∷◌, map, filter_map, Option, refl, sym, ◌∙◌, ap}
use Rattle.std.specs.Prelude.{ltb, option_map}
use Rattle.std.specs.List.{cons_option}
use Rattle.std.specs.Ordering.{ordering_then}
use Rattle.std.specs.declared.cmp.Ordering.{Ordering}
use Rattle.std.specs.declared.cmp.Ordering.TheVariants.{Less, Equal, Greater}
use Rattle.icu_collator_types.specs.declared.options.ResolvedCollatorOptions.{ResolvedCollatorOptions}
use Rattle.icu_collator_types.specs.declared.options.Strength.{Strength}
use Rattle.icu_collator_types.specs.declared.options.Strength.TheVariants.{Primary, Secondary, Tertiary, Quaternary, Identical}
use Rattle.icu_collator_types.specs.Options.{has_case_level, is_at_least}
use Rattle.icu_collator_core.specs.Collation.{Collation}
use Rattle.icu_collator_core.specs.Pools.{element_of}
use Rattle.icu_collator.specs.FlatOrders.{HasTwoLevels, secondary_in, tertiary_in, weights_order}
use Rattle.icu_collator.specs.LevelLists.{counted_list, secondary_ranks, tertiaries_by}
use Rattle.icu_collator.specs.Levels.{secondary_at, tertiary_at}
use Rattle.icu_collator.specs.Order.{secondary_rank, where_in_force}
use Rattle.icu_collator.specs.Shifted.{Counted, whole}
use Rattle.icu_collator.specs.TextsRead.{counted_in, lists_order, order_from_cases, order_from_quaternaries, order_from_secondaries, order_from_tertiaries}
use Rattle.icu_collator.specs.declared.read_texts.texts.ReadText.{ReadText}
use Rattle.icu_collator.proofs.lists.CountedLemmas.{by_whole, none_below}
use Rattle.icu_collator.proofs.lists.CollatorListLemmas.{ranks_by}

then_equal : (o : Ordering) → ordering_then o Equal ≡ o
then_equal Less = refl
then_equal Equal = refl
then_equal Greater = refl

-- what elements give that count whole
given_whole : {A : Type 0} (at : Counted → Option A) (items : List ℕ) → filter_map at (counted_list 0 items) ≡ filter_map (λ bits. at (whole (element_of bits))) items
given_whole at [] = refl
given_whole at (bits ∷ items) =
    ap (λ (e : Counted). cons_option (at e) (filter_map at (counted_list 0 items))) (by_whole 0 bits (none_below (bits / 2 ^ 32) (ltb 0x02000000 (bits / 2 ^ 32))))
    ∙ ap (cons_option (at (whole (element_of bits)))) (given_whole at items)

ranks_whole : (items : List ℕ) → map secondary_rank (filter_map secondary_at (counted_list 0 items)) ≡ filter_map secondary_in items
ranks_whole items =
    sym (ranks_by secondary_rank secondary_at (counted_list 0 items)) ∙ given_whole (λ e. option_map secondary_rank (secondary_at e)) items

at_secondary : (s : Strength) → is_at_least s Tertiary ≡ true → is_at_least s Secondary ≡ true
at_secondary Primary e = e
at_secondary Secondary e = refl
at_secondary Tertiary e = refl
at_secondary Quaternary e = refl
at_secondary Identical e = refl

below_identical : (s : Strength) → is_at_least s Quaternary ≡ false → is_at_least s Identical ≡ false
below_identical Primary e = refl
below_identical Secondary e = refl
below_identical Tertiary e = refl
below_identical Quaternary e = refl
below_identical Identical e = e

two_in_force : (second cased third fourth last : Bool) (s c t q l : Ordering) → second ≡ true → cased ≡ false → third ≡ true → fourth ≡ false → last ≡ false
    → ordering_then (where_in_force second s) (ordering_then (where_in_force cased c) (ordering_then (where_in_force third t) (ordering_then (where_in_force fourth q) (where_in_force last l)))) ≡ ordering_then s t
two_in_force second cased third fourth last s c t q l d e f g h = rw (d, e, f, g, h) (ap (ordering_then s) (then_equal t))

alike_lists : (xs xs' ys ys' : List ℕ) → xs ≡ xs' → ys ≡ ys' → lists_order xs ys ≡ lists_order xs' ys'
alike_lists xs xs' ys ys' e f = rw (e, f) refl

secondaries_whole : (collation : Collation) (end : ℕ) (items : List ℕ) → collation.backward ≡ false → end ≡ 0 → secondary_ranks collation (counted_list end items) ≡ filter_map secondary_in items
secondaries_whole collation end items forward none = rw (forward, none) (ranks_whole items)

tertiaries_whole : (options : ResolvedCollatorOptions) (end : ℕ) (items : List ℕ) → end ≡ 0 → tertiaries_by options (counted_list end items) ≡ filter_map (tertiary_in options) items
tertiaries_whole options end items none = rw none (given_whole (tertiary_at options) items)

-- where two levels count
pub two_levels : (collation : Collation) (options : ResolvedCollatorOptions) (a b : ReadText) → HasTwoLevels collation options → a.variable_end ≡ 0 → b.variable_end ≡ 0
    → order_from_secondaries collation options a b ≡ weights_order options Equal a.elements.now b.elements.now
unfolding order_from_secondaries order_from_cases order_from_tertiaries order_from_quaternaries
two_levels collation options a b two left right =
    two_in_force (is_at_least options.strength Secondary) (has_case_level options.case_level) (is_at_least options.strength Tertiary) (is_at_least options.strength Quaternary) (is_at_least options.strength Identical)
    _ _ _ _ _ (at_secondary options.strength two.tertiary) two.uncased two.tertiary two.no_more (below_identical options.strength two.no_more)
    ∙ ap (λ (o : Ordering). ordering_then o (lists_order (tertiaries_by options (counted_in a)) (tertiaries_by options (counted_in b))))
    (alike_lists _ _ _ _ (secondaries_whole collation a.variable_end a.elements.now two.forward left) (secondaries_whole collation b.variable_end b.elements.now two.forward right))
    ∙ ap (λ (o : Ordering). ordering_then (lists_order (filter_map secondary_in a.elements.now) (filter_map secondary_in b.elements.now)) o)
    (alike_lists _ _ _ _ (tertiaries_whole options a.variable_end a.elements.now left) (tertiaries_whole options b.variable_end b.elements.now right))
