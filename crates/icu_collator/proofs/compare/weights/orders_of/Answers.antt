use Rattle.std.proofs.Common.{rules}
use Rattle.icu_collator.proofs.compare.weights.orders_of.Goals as goal

pub returns : goal.returns
returns c = record {
  secondary = c.in_ok-secondary.secondary;
  other = c.in_ok-other.other;
  tertiary = c.in_ok-tertiary.tertiary;
  further = c.in_ok-further.further;
  first_secondary = search rules;
  second_secondary = search rules;
  first_tertiary = search rules;
  second_tertiary = search rules;
  by_secondaries = search rules;
  by_tertiaries = search rules;
}
