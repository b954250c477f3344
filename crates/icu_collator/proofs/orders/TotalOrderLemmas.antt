-- The collation order is a total preorder, at every strength and option.
use Rattle.std.proofs.Common.{ℕ, Bool, true, false, List}
use Rattle.std.specs.Cmp.{IsTotalOrder}
use Rattle.std.specs.declared.cmp.Ordering.{Ordering}
use Rattle.std.specs.Cmp.Derive.{point_total}
use Rattle.std.proofs.lemmas.Cmp.{lists_total, nat_cmp_total, on_total, then_total}
use Rattle.icu_collator_types.specs.declared.options.ResolvedCollatorOptions.{ResolvedCollatorOptions}
use Rattle.icu_collator_core.specs.Collation.{Collation}
use Rattle.icu_collator.specs.Levels.{Levels, levels_of_text}
use Rattle.icu_collator.specs.Order.{levels_order, list_order, where_in_force, collation_order, secondary_rank, quaternary_rank, character_rank}

total_where : {K : Type 0} (b : Bool) (R : K → K → Ordering) → IsTotalOrder R → IsTotalOrder (λ x y. where_in_force b (R x y))
total_where true R h = h
total_where false R h = point_total

ranked_total : {A : Type 0} (rank : A → ℕ) → IsTotalOrder (list_order rank)
ranked_total rank = lists_total (on_total rank nat_cmp_total)

-- one level of two texts compared, where it is in force
level_total : {A : Type 0} (b : Bool) (level : Levels → List A) (rank : A → ℕ) → IsTotalOrder (λ (x y : Levels). where_in_force b (list_order rank (level x) (level y)))
level_total b level rank = total_where b (λ x y. list_order rank (level x) (level y)) (on_total level (ranked_total rank))

-- levels compare as a total preorder
pub levels_total : (options : ResolvedCollatorOptions) → IsTotalOrder (levels_order options)
unfolding levels_order
levels_total options =
    then_total (level_total true (λ l. l.primaries) (λ w. w))
    (then_total (level_total _ (λ l. l.secondaries) secondary_rank)
    (then_total (level_total _ (λ l. l.cases) (λ w. w))
    (then_total (level_total _ (λ l. l.tertiaries) (λ w. w))
    (then_total (level_total _ (λ l. l.quaternaries) quaternary_rank)
    (level_total _ (λ l. l.characters) character_rank)))))

-- texts compare as a total preorder
pub collation_order_total : (collation : Collation) (options : ResolvedCollatorOptions) → IsTotalOrder (collation_order collation options)
collation_order_total collation options = on_total (levels_of_text collation options) (levels_total options)
