use Rattle.std.proofs.Common.{◌≡◌, ◌%◌, length}
use Rattle.icu_collections_sets.specs.CodePoints.{Rises}
use Rattle.icu_collections_sets.proofs.codepointinvlist.inversion_list.is_inversion_list.Given as goal

abbrev pub invariant-loop-edge : goal.invariant-loop-edge
invariant-loop-edge l =
    (length l.edges % 2 ≡ 0) × (Rises 0 l.edges → Rises l.least l.edge-iterator) × (Rises l.least l.edge-iterator → Rises 0 l.edges)
