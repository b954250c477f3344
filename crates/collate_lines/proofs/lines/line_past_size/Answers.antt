use Rattle.collate_lines.proofs.reading.ReadingSplitLemmas.{many_taken}
use Rattle.collate_lines.proofs.lines.line_past_size.Goals as goal

pub slice_bounds-iter-end : goal.slice_bounds-iter-end
slice_bounds-iter-end c = many_taken c.args.limit c.args.bytes.now c.if-bytes-limit.false
