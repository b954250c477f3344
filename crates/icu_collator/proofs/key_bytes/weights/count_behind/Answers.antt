use Rattle.std.proofs.Common.{sym}
use Rattle.icu_collator.proofs.key_writing.WeightWrittenLemmas.{none_behind, one_behind, two_behind, three_behind}
use Rattle.icu_collator.proofs.key_bytes.weights.count_behind.Goals as goal

pub returns-then-primary-eq0-clause-rest : goal.returns-then-primary-eq0-clause-rest
returns-then-primary-eq0-clause-rest c = sym (none_behind c.args.primary c.if-primary-eq0.true)

pub returns-then-primary-eq0-clause-padded : goal.returns-then-primary-eq0-clause-padded
returns-then-primary-eq0-clause-padded c = sym (none_behind c.args.primary c.if-primary-eq0.true)

pub returns-then-primary-eq0-2-clause-rest : goal.returns-then-primary-eq0-2-clause-rest
returns-then-primary-eq0-2-clause-rest c = sym (one_behind c.args.primary c.if-primary-eq0.false c.if-primary-eq0-2.true)

pub returns-then-primary-eq0-2-clause-padded : goal.returns-then-primary-eq0-2-clause-padded
returns-then-primary-eq0-2-clause-padded c = sym (one_behind c.args.primary c.if-primary-eq0.false c.if-primary-eq0-2.true)

pub returns-then-primary-eq0-3-clause-rest : goal.returns-then-primary-eq0-3-clause-rest
returns-then-primary-eq0-3-clause-rest c = sym (two_behind c.args.primary c.if-primary-eq0-2.false c.if-primary-eq0-3.true)

pub returns-then-primary-eq0-3-clause-padded : goal.returns-then-primary-eq0-3-clause-padded
returns-then-primary-eq0-3-clause-padded c = sym (two_behind c.args.primary c.if-primary-eq0-2.false c.if-primary-eq0-3.true)

pub returns-else-primary-eq0-3-clause-rest : goal.returns-else-primary-eq0-3-clause-rest
returns-else-primary-eq0-3-clause-rest c = sym (three_behind c.args.primary c.if-primary-eq0-3.false)

pub returns-else-primary-eq0-3-clause-padded : goal.returns-else-primary-eq0-3-clause-padded
returns-else-primary-eq0-3-clause-padded c = sym (three_behind c.args.primary c.if-primary-eq0-3.false)
