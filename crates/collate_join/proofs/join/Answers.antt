use Rattle.std.proofs.Common.{ap, ◌∙◌}
use Rattle.collate_join.proofs.JoinLemmas.{texts_of}
use Rattle.collate_join.proofs.join.Goals as goal

pub returns : goal.returns
returns c =
    c.join_lines.ensures c.args.root.now (ap texts_of c.deref.ensures.value ∙ c.in_ok-root_lines.ensures) (ap texts_of c.deref-2.ensures.value ∙ c.in_ok-lines.ensures)
