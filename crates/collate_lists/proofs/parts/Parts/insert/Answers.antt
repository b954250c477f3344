use Rattle.std.proofs.Common.{ℕ, sym, subst, arith}
use Rattle.collate_lists.specs.Parts.{IsFreeFor}
use Rattle.collate_lists.proofs.parts.Parts.insert.Goals as goal

pub put_at-requires-clause-free : goal.put_at-requires-clause-free
put_at-requires-clause-free c =
    let free = c.free_index-part.ensures.free in
    subst (λ (rank : ℕ). IsFreeFor c.free_index-part.new.self.lists.items rank c.free_index-part.result.0 c.free_index-part.result.1) (sym free.at.ranked) free

pub put_at-requires-clause-rank : goal.put_at-requires-clause-rank
put_at-requires-clause-rank c = omega (arith, c.free_index-part.ensures.free.at.ranked, c.requires.rank, c.free_index-part.ensures.count)
