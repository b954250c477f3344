use Rattle.collate_laws.proofs.LawKeyLemmas.{equivalent_alike, equivalent_keys, identical_alike, identical_keys}
use Rattle.collate_laws.proofs.keys.equal_by_a_file_at_identical_is_equivalence.Goals as goal

pub returns : goal.returns
returns c = record {
  equal = λ records options preferences collator x y accepted is scalars too equivalent. equivalent_alike records options preferences collator accepted is x y scalars too equivalent;
  one_key = λ records options preferences collator x y accepted is scalars too equivalent. equivalent_keys records options preferences collator accepted is x y scalars too equivalent;
  identical = λ records options preferences collator x y accepted is identical scalars too. identical_alike records options preferences collator accepted is identical x y scalars too;
  keys = λ records options preferences collator x y accepted is plain identical scalars too. identical_keys records options preferences collator accepted is plain identical x y scalars too;
}
