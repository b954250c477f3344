use Rattle.std.proofs.Common.{flat_map, take}
use Rattle.std.specs.Io.KnownBytes.{Appends}
use Rattle.collate_run.proofs.serve.tell.Given as goal

abbrev pub invariant-loop-part : goal.invariant-loop-part
invariant-loop-part g l =
    Appends (g.E.Write.contents l.fn.errors) (g.E.Write.contents l.errors) (flat_map (λ part. part.now) (take l.part-index l.parts))
