use Rattle.std.proofs.Common.{ℕ, List, Bor, option_map}
use Rattle.collate_join.proofs.PartLemmas.{part_noted}
use Rattle.collate_join.proofs.keys.note_line.Goals as goal

pub returns : goal.returns
returns c = λ lines has.
    part_noted c.args.parts.now c.note.new.parts c.args.part lines c.args.line.now (option_map (λ (p : Bor (List ℕ)). p.now) c.part_of.result)
    c.part_of.ensures has c.in_ok-note.ensures
