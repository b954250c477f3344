use Rattle.std.proofs.Common.{ap, ◌∙◌}
use Rattle.std.specs.List.{dedup}
use Rattle.collate_keyed_lines.specs.KeyedLines.{is_same, key_order}
use Rattle.collate_keyed_lines.proofs.KeptLemmas.{first_in_order}
use Rattle.collate_keyed_lines.proofs.lines.KeyedLines.sort_unique.Goals as goal

pub returns-clause-sorted : goal.returns-clause-sorted
returns-clause-sorted c = c.keep_first.ensures ∙ ap (dedup (is_same key_order)) c.in_ok-sort.ensures.sorted ∙ first_in_order c.args.direction c.args.self.now
