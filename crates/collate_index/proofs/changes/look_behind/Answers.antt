use Rattle.std.proofs.Common.{Bool, subst}
use Rattle.collate_index.specs.Changes.{Tells}
use Rattle.collate_index.proofs.reloading.KnownLemmas.{told_second}
use Rattle.collate_index.proofs.changes.look_behind.Goals as goal

pub returns-in-Some-true : goal.returns-in-Some-true
returns-in-Some-true c =
    told_second c.args.differences.now c.args.c c.args.d c.args.e c.requires.mapped
    (subst (λ (is : Bool). Tells c.args.differences.now c.args.e is) c.in-Some-true.field-0-test c.in-Some-true.ensures.tells)
