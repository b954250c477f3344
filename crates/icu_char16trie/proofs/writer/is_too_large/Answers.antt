use Rattle.std.proofs.Common.{◌+◌, ℕ, ℤ, List, [], Bor, pos, refl, arith}
use Rattle.icu_char16trie.proofs.Writing.KeyFaultLemmas.{total_more, total_least}
use Rattle.icu_char16trie.proofs.writer.is_too_large.Goals as goal

-- what stands at no index
abbrev no_key : Bor (List ℕ) × ℤ
no_key = (record { ref_ptr = (0, 0); now = [] }, pos 0)

pub returns-then-key-left : goal.returns-then-key-left
returns-then-key-left c =
    let so_far = c.loop-key.invariant in
    let more = total_more c.args.pairs.now c.loop-key.key-index no_key c.loop-key-test.true in
    let least = total_least c.args.pairs.now (c.loop-key.key-index + 1) in
    let longer = c.if-key-left.true in
    ((λ h. omega (arith, so_far, more, least, longer)), (λ h. refl))

pub loop-key-preserved : goal.loop-key-preserved
loop-key-preserved c =
    let so_far = c.loop-key.invariant in
    let more = total_more c.args.pairs.now c.loop-key.key-index no_key c.loop-key-test.true in
    let short = c.if-key-left.false in
    omega (arith, so_far, more, short)
