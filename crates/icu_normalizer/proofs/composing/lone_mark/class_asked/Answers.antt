use Rattle.std.proofs.Common.{arith}
use Rattle.icu_normalizer.proofs.composing.lone_mark.class_asked.Goals as goal

pub returns : goal.returns
returns c =
    let told = rw c.in-Itself.is at c.reading.ensures in
    (told.0, told.1, omega arith)
