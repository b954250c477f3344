use Rattle.std.proofs.Common.{take}
use Rattle.collate_lines.specs.Record.{layer_of}
use Rattle.collate_records.proofs.comparing.NotedElementLemmas.{HasLayer}
use Rattle.collate_records.proofs.noted_file.note_layer.Given as goal

abbrev pub invariant-loop-line : goal.invariant-loop-line
invariant-loop-line l = HasLayer l.initial.noted l.noted (layer_of l.layer) (take l.line-index l.lines)
