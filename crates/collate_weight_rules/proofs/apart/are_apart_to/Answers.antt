use Rattle.std.proofs.Common.{ℕ, List, ap, ◌∙◌}
use Rattle.std.specs.List.{list_all}
use Rattle.icu_collator_core.specs.WeightRules.{are_apart, primary_bytes}
use Rattle.collate_rules.proofs.given.GivenListLemmas.{list_all_from, list_all_tells, same_answer}
use Rattle.collate_weight_rules.specs.PlacedWeights.{are_weights_apart}
use Rattle.collate_weight_rules.proofs.apart.are_apart_to.Goals as goal

pub returns : goal.returns
returns c =
    let ws : List ℕ = c.in_ok-weights_to.field-0.items in
    same_answer c.in_ok-apart.apart (are_weights_apart ws)
    (λ t. list_all_from (λ u. list_all (are_apart primary_bytes u) ws) ws (λ v h. list_all_from (are_apart primary_bytes v) ws (λ w k. c.in_ok-apart.ensures.0 t v w h k)))
    (λ t. c.in_ok-apart.ensures.1
    (λ v w h k. list_all_tells (are_apart primary_bytes v) ws (list_all_tells (λ u. list_all (are_apart primary_bytes u) ws) ws t v h) w k))
    ∙ ap are_weights_apart c.in_ok-weights_to.ensures
