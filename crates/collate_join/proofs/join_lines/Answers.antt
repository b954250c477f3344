use Rattle.std.proofs.Common.{sym, ◌∙◌}
use Rattle.collate_join.proofs.JoinLemmas.{fault_is, join_is, texts_of}
use Rattle.collate_join.proofs.join_lines.Goals as goal

pub returns-in-Some : goal.returns-in-Some
returns-in-Some c = λ file rooted tailored.
    fault_is file c.args.tailoring.now (texts_of c.args.root.now) (texts_of c.args.lines.now) c.in-Some.line rooted tailored (sym c.in-Some.is ∙ c.in_ok-found.ensures)

pub returns : goal.returns
returns c = λ file rooted tailored.
    join_is file c.args.tailoring.now (texts_of c.args.root.now) (texts_of c.args.lines.now) c.in_ok-joined.joined rooted tailored
    (sym c.in-None.is ∙ c.in_ok-found.ensures) c.in_ok-joined.ensures.bytes c.in_ok-joined.ensures.kept
