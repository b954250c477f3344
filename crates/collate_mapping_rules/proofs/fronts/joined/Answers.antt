use Rattle.std.proofs.Common.{ℕ, min, ap, ◌∙◌}
use Rattle.collate_mapping_rules.proofs.lists.FrontLemmas.{front_of_two}
use Rattle.collate_mapping_rules.proofs.fronts.joined.Goals as goal

pub returns : goal.returns
returns c = λ xs ys h k.
    front_of_two c.args.front c.args.more _ xs ys c.or.ensures (c.min.ensures ∙ ap (λ (n : ℕ). min n 9) c.saturating_add.ensures) h k
