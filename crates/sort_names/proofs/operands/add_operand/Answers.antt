use Rattle.std.proofs.Common.{refl}
use Rattle.sort_names.proofs.operands.add_operand.Goals as goal

pub returns-in_ok-add_lines-in-Ok : goal.returns-in_ok-add_lines-in-Ok
returns-in_ok-add_lines-in-Ok g c = (
  c.in_ok-text-in-Ok.text.items,
  record {
    file = c.in-Ok.file;
    opened = record { shown = c.args.path; shows = refl; says = record { met = rw c.in-Ok.is at c.opener.ensures } };
    holds = c.in_ok-text-in-Ok.ensures;
  },
  rw c.deref.ensures.value at c.in_ok-add_lines-in-Ok.ensures,
)
