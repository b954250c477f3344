use Rattle.std.proofs.Common.{arith, ap, length}
use Rattle.icu_collections_sets.proofs.sets.InversionListLemmas.{length-ranges_of}
use Rattle.icu_collections_sets.proofs.codepointinvlist.inversion_list.CodePointInversionList.get_range_count.Goals as goal

pub returns : goal.returns
returns c = omega (arith, length-ranges_of c.args.self.now, ap length c.self.view_is)
