use Rattle.std.proofs.Common.{arith}
use Rattle.icu_collections_sets.specs.CodePoints.{holds}
use Rattle.icu_collections_sets.proofs.sets.InversionListLemmas.{count_below_least}
use Rattle.icu_collections_sets.proofs.codepointinvliststringlist.CodePointInversionListAndStringList.size.Goals as goal

pub overflow_add-result : goal.overflow_add-result
overflow_add-result c =
    let v = c.self.inside.strings in
    let most = count_below_least (holds c.self.inside.code_points) 1114112 in
    omega (arith, v.ok, v.small, c.size.ensures, c.len.ensures)
