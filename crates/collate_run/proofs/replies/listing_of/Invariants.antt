use Rattle.std.proofs.Common.{◌≡◌, ◌++◌, ◌∷◌, [], ◌-◌, slice_range, codes, decimal, flat_map}
use Rattle.collate_index.specs.Catalogue.{sorted_names}
use Rattle.collate_run.specs.Replies.{ended}
use Rattle.collate_run.proofs.replies.listing_of.Given as goal

abbrev pub invariant-loop-rank : goal.invariant-loop-rank
invariant-loop-rank l =
    l.text.items ≡ codes "names " ++ decimal (l.fn.ranks.end - l.fn.ranks.start) ++ 10 ∷ [] ++ flat_map ended (slice_range (sorted_names l.index) l.fn.ranks.start l.rank)
