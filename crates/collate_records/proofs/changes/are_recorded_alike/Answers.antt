use Rattle.std.proofs.Common.{map}
use Rattle.std.proofs.lemmas.Bool.{both_ways}
use Rattle.collate_lines.specs.Record.{said}
use Rattle.collate_records.proofs.comparing.ChangeLemmas.{recorded_alike, all_given_alike}
use Rattle.collate_records.proofs.changes.are_recorded_alike.Goals as goal

pub returns-then-all_give_same : goal.returns-then-all_give_same
returns-then-all_give_same c = (
  λ is. recorded_alike c.args.a.now c.args.b.now c.args.c (c.all_give_same.ensures.0 c.if-all_give_same.true) (c.all_give_same-then-all_give_same.ensures.0 is),
  λ same. c.all_give_same-then-all_give_same.ensures.1 (all_given_alike (map said c.args.a.now) (map said c.args.b.now) c.args.c c.args.b.now same),
)

pub returns-else-all_give_same : goal.returns-else-all_give_same
returns-else-all_give_same c = (
  λ is. absurd (both_ways _ c.if-all_give_same.false is),
  λ same. c.all_give_same.ensures.1 (all_given_alike (map said c.args.a.now) (map said c.args.b.now) c.args.c c.args.a.now same),
)
