use Rattle.collate_lines.specs.Record.{layer_of}
use Rattle.collate_records.proofs.comparing.NotedElementLemmas.{line_more}
use Rattle.collate_records.proofs.noted_file.note_layer.Goals as goal

pub loop-line-preserved : goal.loop-line-preserved
loop-line-preserved c =
    line_more c.args.noted.now c.loop-line.noted c.note_elements.new.noted (layer_of c.args.layer) c.args.lines.now c.loop-line.line-index
    c.line-item.result c.loop-line-test.true c.line-item.is c.loop-line.invariant c.in_ok-note_elements.ensures
