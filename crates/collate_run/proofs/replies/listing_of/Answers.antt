use Rattle.std.proofs.Common.{sym, codes, decimal, ◌≡◌, ◌∙◌, ◌++◌, arith, ◌-◌, ◌∷◌, []}
use Rattle.collate_index.specs.Catalogue.{sorted_names}
use Rattle.collate_run.proofs.commands.CommandListingLemmas.{listing-more, listing-done, slice_get-some}
use Rattle.collate_run.proofs.replies.listing_of.Goals as goal
use Rattle.collate_run.proofs.replies.listing_of.Goals.{in-Some+in_ok-extend_from_slice+in_ok-push, in_default}

pub loop-rank-preserved : goal.loop-rank-preserved
loop-rank-preserved c = elim c.match-get.branch [
  | in-Some+in_ok-extend_from_slice+in_ok-push w ↦
      let last : c.match-get.text.items ≡ (c.loop-rank.text.items ++ w.in-Some.name.now) ++ 10 ∷ [] = rw (w.text-is, w.in_ok-push.ensures.items, w.in_ok-extend_from_slice.ensures.items) in
      last ∙ listing-more (codes "names " ++ decimal (c.args.ranks.end - c.args.ranks.start) ++ 10 ∷ []) (sorted_names c.args.index.now) c.args.ranks.start c.loop-rank.rank w.in-Some.name.now c.loop-rank.text.items (omega arith) (sym w.in-Some.ensures) c.loop-rank.invariant
  | in_default w ↦ absurd (slice_get-some (sorted_names c.args.index.now) c.loop-rank.rank (omega (arith, c.requires.bound)) (sym w.in_default.ensures))
]

pub returns : goal.returns
returns c = listing-done (sorted_names c.args.index.now) c.args.ranks.start c.args.ranks.end c.loop-rank.rank c.loop-rank.text.items c.requires.bound (omega arith) c.loop-rank.invariant
