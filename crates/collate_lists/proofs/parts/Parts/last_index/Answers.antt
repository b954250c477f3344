use Rattle.std.proofs.Common.{◌≡◌, ◌-◌, ℕ, length, sym, subst, arith}
use Rattle.collate_lists.specs.Parts.{IsFreeFor}
use Rattle.collate_lists.proofs.PartIndices.{free_last}
use Rattle.collate_lists.proofs.parts.Parts.last_index.Goals as goal

pub returns-then-index-lt-FULL-clause-free : goal.returns-then-index-lt-FULL-clause-free
returns-then-index-lt-FULL-clause-free c =
    let lists = c.args.self.now.lists in
    let list = c.index.result.now in
    let part = c.len-lists.result - 1 in
    let long : c.len-index.result ≡ length list.items = omega (arith, c.len-index.ensures, list.ok.0) in
    subst (λ (index : ℕ). IsFreeFor lists.items c.args.self.now.count part index) (sym long)
    (free_last lists.items part list c.args.self.now.count (omega (arith, c.len-lists.ensures, lists.ok.0)) c.index.ensures (omega (arith, long)) c.requires.sound.count)
