use Rattle.std.proofs.Common.{◌∙◌, rules}
use Rattle.std.proofs.lemmas.Fn.{filter_same}
use Rattle.collate_name_list.proofs.room.drop_empty.Goals as goal

pub returns : goal.returns
returns c = c.shrink_to_fit.ensures.items ∙ filter_same _ _ _ (λ x b f' k. search rules) _ _ c.retain.ensures.filtered
