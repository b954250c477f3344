use Rattle.std.proofs.Common.{◌≡◌, ◌++◌, ℕ, List, flat_map, take}
use Rattle.std.specs.Io.KnownBytes.{Appends}
use Rattle.sort_names.specs.Texts.{written}
use Rattle.sort_names.proofs.output.write_lines.Given as goal

abbrev pub invariant-loop-index : goal.invariant-loop-index
invariant-loop-index g l =
    (sent : List ℕ)
    × Appends (g.W.Write.contents l.fn.writer) (g.W.Write.contents l.writer) sent
    × (sent ++ l.gathered.items ≡ flat_map (written l.end l.keys l.list.rule) (take l.index l.list.lines))
