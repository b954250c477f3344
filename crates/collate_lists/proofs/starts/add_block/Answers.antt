use Rattle.std.proofs.Common.{ℕ, List, ap, ◌∙◌, get_or}
use Rattle.collate_lists.proofs.Ranks.{zero_more}
use Rattle.collate_lists.proofs.starts.add_block.Goals as goal

pub returns-in_ok-push-clause-same : goal.returns-in_ok-push-clause-same
returns-in_ok-push-clause-same c = λ k. ap (λ (xs : List ℕ). get_or xs k 0) c.in_ok-push.ensures.items ∙ zero_more c.args.bases.now.items k
