use Rattle.collate_mapping_rules.proofs.full_lists.has_bad_list.Goals as goal

pub returns : goal.returns
returns c = c.is_bad.ensures _ c.in_ok-front.ensures
