use Rattle.std.proofs.Common.{◌∙◌, ◌+◌, ◌-◌, ◌∷◌, ℕ, List, length, take, drop, ap, sym, arith, take_all, length-drop}
use Rattle.collate_lines.specs.Lines.{lines_of}
use Rattle.collate_lines.proofs.reading.ReadingSplitLemmas.{split_at, split_none}
use Rattle.collate_lines.proofs.lines.split_line.Goals as goal

pub returns-in-Some : goal.returns-in-Some
returns-in-Some c =
    let bytes = c.args.bytes.now in
    let end = c.in-Some.end in
    split_at bytes end c.in-Some.ensures
    ∙ ap (λ (rest : List ℕ). take end bytes ∷ lines_of rest)
    (sym (take_all (length bytes - (end + 1)) (drop (end + 1) bytes) (omega (arith, length-drop (end + 1) bytes))))

pub returns-in-None : goal.returns-in-None
returns-in-None c = split_none c.args.bytes.now c.in-None.ensures
