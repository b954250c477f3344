use Rattle.std.proofs.Common.{◌≡◌, length, refl, arith}
use Rattle.collate_lists.specs.declared.starts.Starts.{Starts}
use Rattle.collate_lists.proofs.Ranks.{length-ranks, shifted_count, shifted_before, shifted_added}
use Rattle.collate_lists.proofs.starts.Starts.shift.Goals as goal

pub block_end-end-requires : goal.block_end-end-requires
block_end-end-requires c = omega (arith, c.requires.index, c.len.ensures, c.args.self.now.offsets.ok.0, length-ranks c.args.self.now.bases.items 0 c.args.self.now.offsets.items)

pub returns-then-block-len-clause-count : goal.returns-then-block-len-clause-count
returns-then-block-len-clause-count c =
    let old : Starts = c.args.self.now in
    let new : Starts = record { bases = c.add_to-then-block-len.new.values; offsets = c.add_to.new.values } in
    let many : c.len.result ≡ length old.offsets.items = omega (arith, c.len.ensures, old.offsets.ok.0) in
    shifted_count c.args.index c.args.amount old new c.requires.based c.add_to.ensures.count c.block_end-end.result c.block_end-end.ensures.from
    (omega (arith, c.block_end-end.ensures.upto, many)) c.block_end-end.ensures.inside (λ k e l. c.block_end-end.ensures.behind k e (omega (arith, l, many)))
    c.add_to.ensures.before c.add_to.ensures.added c.add_to.ensures.behind
    (λ b l. c.add_to-then-block-len.ensures.before b l)
    (λ b h l. c.add_to-then-block-len.ensures.added b h (omega (arith, l, c.len-blocks.ensures, c.args.self.now.bases.ok.0)))

pub returns-then-block-len-clause-before : goal.returns-then-block-len-clause-before
returns-then-block-len-clause-before c =
    let old : Starts = c.args.self.now in
    let new : Starts = record { bases = c.add_to-then-block-len.new.values; offsets = c.add_to.new.values } in
    let many : c.len.result ≡ length old.offsets.items = omega (arith, c.len.ensures, old.offsets.ok.0) in
    shifted_before c.args.index c.args.amount old new c.requires.based c.add_to.ensures.count c.block_end-end.result c.block_end-end.ensures.from
    (omega (arith, c.block_end-end.ensures.upto, many)) c.block_end-end.ensures.inside (λ k e l. c.block_end-end.ensures.behind k e (omega (arith, l, many)))
    c.add_to.ensures.before c.add_to.ensures.added c.add_to.ensures.behind
    (λ b l. c.add_to-then-block-len.ensures.before b l)
    (λ b h l. c.add_to-then-block-len.ensures.added b h (omega (arith, l, c.len-blocks.ensures, c.args.self.now.bases.ok.0)))

pub returns-then-block-len-clause-added : goal.returns-then-block-len-clause-added
returns-then-block-len-clause-added c =
    let old : Starts = c.args.self.now in
    let new : Starts = record { bases = c.add_to-then-block-len.new.values; offsets = c.add_to.new.values } in
    let many : c.len.result ≡ length old.offsets.items = omega (arith, c.len.ensures, old.offsets.ok.0) in
    shifted_added c.args.index c.args.amount old new c.requires.based c.add_to.ensures.count c.block_end-end.result c.block_end-end.ensures.from
    (omega (arith, c.block_end-end.ensures.upto, many)) c.block_end-end.ensures.inside (λ k e l. c.block_end-end.ensures.behind k e (omega (arith, l, many)))
    c.add_to.ensures.before c.add_to.ensures.added c.add_to.ensures.behind
    (λ b l. c.add_to-then-block-len.ensures.before b l)
    (λ b h l. c.add_to-then-block-len.ensures.added b h (omega (arith, l, c.len-blocks.ensures, c.args.self.now.bases.ok.0)))

pub returns-else-block-len-clause-count : goal.returns-else-block-len-clause-count
returns-else-block-len-clause-count c =
    let old : Starts = c.args.self.now in
    let new : Starts = record { bases = c.args.self.now.bases; offsets = c.add_to.new.values } in
    let many : c.len.result ≡ length old.offsets.items = omega (arith, c.len.ensures, old.offsets.ok.0) in
    shifted_count c.args.index c.args.amount old new c.requires.based c.add_to.ensures.count c.block_end-end.result c.block_end-end.ensures.from
    (omega (arith, c.block_end-end.ensures.upto, many)) c.block_end-end.ensures.inside (λ k e l. c.block_end-end.ensures.behind k e (omega (arith, l, many)))
    c.add_to.ensures.before c.add_to.ensures.added c.add_to.ensures.behind
    (λ b l. refl)
    (λ b h l. absurd (omega (arith, h, l, c.if-block-len.false, c.len-2.ensures, c.args.self.now.bases.ok.0)))

pub returns-else-block-len-clause-before : goal.returns-else-block-len-clause-before
returns-else-block-len-clause-before c =
    let old : Starts = c.args.self.now in
    let new : Starts = record { bases = c.args.self.now.bases; offsets = c.add_to.new.values } in
    let many : c.len.result ≡ length old.offsets.items = omega (arith, c.len.ensures, old.offsets.ok.0) in
    shifted_before c.args.index c.args.amount old new c.requires.based c.add_to.ensures.count c.block_end-end.result c.block_end-end.ensures.from
    (omega (arith, c.block_end-end.ensures.upto, many)) c.block_end-end.ensures.inside (λ k e l. c.block_end-end.ensures.behind k e (omega (arith, l, many)))
    c.add_to.ensures.before c.add_to.ensures.added c.add_to.ensures.behind
    (λ b l. refl)
    (λ b h l. absurd (omega (arith, h, l, c.if-block-len.false, c.len-2.ensures, c.args.self.now.bases.ok.0)))

pub returns-else-block-len-clause-added : goal.returns-else-block-len-clause-added
returns-else-block-len-clause-added c =
    let old : Starts = c.args.self.now in
    let new : Starts = record { bases = c.args.self.now.bases; offsets = c.add_to.new.values } in
    let many : c.len.result ≡ length old.offsets.items = omega (arith, c.len.ensures, old.offsets.ok.0) in
    shifted_added c.args.index c.args.amount old new c.requires.based c.add_to.ensures.count c.block_end-end.result c.block_end-end.ensures.from
    (omega (arith, c.block_end-end.ensures.upto, many)) c.block_end-end.ensures.inside (λ k e l. c.block_end-end.ensures.behind k e (omega (arith, l, many)))
    c.add_to.ensures.before c.add_to.ensures.added c.add_to.ensures.behind
    (λ b l. refl)
    (λ b h l. absurd (omega (arith, h, l, c.if-block-len.false, c.len-2.ensures, c.args.self.now.bases.ok.0)))
