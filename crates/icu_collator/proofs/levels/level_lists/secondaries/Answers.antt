use Rattle.std.proofs.Common.{sym, subst, List, ℕ, ◌≤◌, ◌^◌}
use Rattle.std.specs.List.{All}
use Rattle.icu_collator.specs.Collators.{source_collation}
use Rattle.icu_collator.proofs.lists.BoundLemmas.{secondaries_small}
use Rattle.icu_collator.proofs.levels.level_lists.secondaries.Goals as goal

pub returns-clause-bound : goal.returns-clause-bound
returns-clause-bound c =
    subst (λ (ws : List ℕ). All (λ rank. rank ≤ 2 ^ 16) ws) (sym c.in_ok-list.ensures) (secondaries_small (source_collation c.args.checked.now) c.args.variable_end c.args.elements.now)
