use Rattle.std.proofs.Common.{[], map}
use Rattle.collate_lines.specs.Record.{said}
use Rattle.collate_records.proofs.comparing.DifferenceLemmas.{none_differing}
use Rattle.collate_records.proofs.differences.differing.Goals as goal

pub returns : goal.returns
returns c =
    let a = map said c.args.before.now.lines.now in
    let b = map said c.args.after.now.lines.now in
    c.in_ok-note_lines-2.ensures a (c.in_ok-note_lines.ensures [] (none_differing a b c.new-differing.result c.new-differing.ensures.empty))
