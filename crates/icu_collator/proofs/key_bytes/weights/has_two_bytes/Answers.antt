use Rattle.std.proofs.lemmas.Bool.{eqb-true}
use Rattle.icu_collator.proofs.key_writing.WeightWrittenLemmas.{one_behind}
use Rattle.icu_collator.proofs.key_bytes.weights.has_two_bytes.Goals as goal

pub returns : goal.returns
returns c = λ two. one_behind c.args.primary c.if-primary-eq0.false (eqb-true _ _ two)
