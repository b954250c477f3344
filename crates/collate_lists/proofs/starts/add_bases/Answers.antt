use Rattle.std.proofs.Common.{◌≡◌, ◌<◌, ◌∙◌, sym, arith, length}
use Rattle.std.proofs.lemmas.Grind.{same_number_lists}
use Rattle.collate_lists.specs.Starts.{ranks_from}
use Rattle.collate_lists.proofs.Ranks.{length-ranks, rank_at}
use Rattle.collate_lists.proofs.starts.add_bases.Goals as goal

pub returns-clause-ranks : goal.returns-clause-ranks
returns-clause-ranks c =
    let old = c.args.offsets.now.items in
    let bases = c.args.bases.now in
    let ends : c.offsets.index ≡ length old = omega (arith, c.len-index-end.ensures, c.args.offsets.now.ok.0) in
    same_number_lists c.offsets.offsets.items (ranks_from bases 0 old) (c.offsets.invariant.count ∙ sym (length-ranks bases 0 old))
    (λ k l.
    let within : k < length old = omega (arith, c.offsets.invariant.count) in
    c.offsets.invariant.before k (omega (arith, ends)) ∙ sym (rank_at bases old k within))
