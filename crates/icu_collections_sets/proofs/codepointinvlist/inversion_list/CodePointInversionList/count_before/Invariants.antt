use Rattle.std.proofs.Common.{◌≤◌}
use Rattle.icu_collections_sets.proofs.sets.InversionListLemmas.{CountsUpTo}
use Rattle.icu_collections_sets.proofs.codepointinvlist.inversion_list.CodePointInversionList.count_before.Given as goal

abbrev pub invariant-loop-edge : goal.invariant-loop-edge
invariant-loop-edge l = record {
  counts : CountsUpTo l.self l.code_point l.edge-iterator l.inside l.last l.count;
  small : l.count ≤ l.last;
  in_code_points : l.last ≤ 0x110000;
}
