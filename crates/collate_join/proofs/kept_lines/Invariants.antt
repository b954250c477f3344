use Rattle.std.proofs.Common.{map, take}
use Rattle.collate_join.specs.Join.{stays}
use Rattle.collate_join.specs.Kept.{HasKept}
use Rattle.collate_join.proofs.kept_lines.Given as goal

abbrev pub invariant-loop-i : goal.invariant-loop-i
invariant-loop-i l = HasKept l.kept (stays (map (λ line. line.now) l.tailoring)) (map (λ line. line.now) (take l.i l.root))
