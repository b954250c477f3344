use Rattle.icu_collator.proofs.boundaries.DifferenceOrderLemmas.{both_end, first_characters_decide, left_ends, right_ends}
use Rattle.icu_collator.proofs.laws.boundaries.first_differences_decide.Goals as goal

pub returns-clause-characters : goal.returns-clause-characters
returns-clause-characters c = first_characters_decide

pub returns-clause-left_ends : goal.returns-clause-left_ends
returns-clause-left_ends c = left_ends

pub returns-clause-right_ends : goal.returns-clause-right_ends
returns-clause-right_ends c = right_ends

pub returns-clause-both_end : goal.returns-clause-both_end
returns-clause-both_end c = both_end
