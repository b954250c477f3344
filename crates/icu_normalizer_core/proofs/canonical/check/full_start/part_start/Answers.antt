use Rattle.std.proofs.Common.{sym, ap, ◌∙◌}
use Rattle.icu_normalizer_core.specs.FullLists.{source_items}
use Rattle.icu_normalizer_core.specs.Settled.{left_items}
use Rattle.icu_normalizer_core.proofs.full_lists.FullStartLemmas.{start_more, start_past}
use Rattle.icu_normalizer_core.proofs.canonical.check.full_start.part_start.Goals as goal
use Rattle.icu_normalizer_core.proofs.canonical.check.full_start.part_start.Goals.{in-Some, in_default}

pub loop-i-preserved : goal.loop-i-preserved
loop-i-preserved c =
    elim c.match-number_at.branch [
      | in-Some w ↦
          start_more (source_items c.args.words c.args.source) c.args.index c.loop-i.i w.in-Some.number (left_items c.loop-i.left) (left_items c.match-number_at.left)
          c.loop-i.invariant (sym c.number_at.ensures ∙ w.in-Some.is) (ap left_items w.left-is ∙ w.with-left.ensures)
      | in_default w ↦
          ap left_items w.left-is
          ∙ start_past (source_items c.args.words c.args.source) c.args.index c.loop-i.i (left_items c.loop-i.left) c.loop-i.invariant (sym c.number_at.ensures ∙ w.in_default.is)
    ]
