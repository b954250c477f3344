use Rattle.std.proofs.Common.{◌≡◌, fold}
use Rattle.std.specs.List.{flat_map}
use Rattle.std.specs.Hash as fed
use Rattle.icu_collections_sets.proofs.codepointinvlist.inversion_list.CodePointInversionListHash.hash.Given as goal

abbrev pub invariant-loop-edge : goal.invariant-loop-edge
invariant-loop-edge g l =
    fold g.H.Hasher.write l.state (flat_map fed.u32 l.edge-iterator) ≡ fold g.H.Hasher.write l.fn.state (fed.slice fed.u32 l.self)
