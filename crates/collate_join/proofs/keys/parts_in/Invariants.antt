use Rattle.std.proofs.Common.{map, take}
use Rattle.collate_join.specs.Kept.{HasParts}
use Rattle.collate_join.proofs.keys.parts_in.Given as goal

abbrev pub invariant-loop-line : goal.invariant-loop-line
invariant-loop-line l = HasParts l.parts l.part (map (λ line. line.now) (take l.line-index l.lines))
