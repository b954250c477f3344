use Rattle.std.proofs.Common.{◌∙◌, ◌+◌, ◌*◌, ◌<◌, ap, arith}
use Rattle.icu_collator_core.proofs.numbers.PairIndexLemmas.{first_byte, past_byte, last_byte, inner_byte}
use Rattle.icu_collator_core.proofs.reading.numbers.byte_at.Goals as goal

pub returns-then-index-eq0 : goal.returns-then-index-eq0
returns-then-index-eq0 c = ap (λ n. 128 + n) c.pair_count.ensures ∙ first_byte c.args.digits.now c.args.index c.if-index-eq0.true

pub returns-then-index-kept : goal.returns-then-index-kept
returns-then-index-kept c =
    past_byte c.args.digits.now c.args.kept c.args.index (record { pairs = c.requires.kept; within = c.requires.within }) c.if-index-kept.true

pub returns-then-index-kept-2 : goal.returns-then-index-kept-2
returns-then-index-kept-2 c =
    let some : 0 < c.args.index = let other = c.if-index-eq0.false in omega (arith, other) in
    ap (λ p. 10 + 2 * p) c.pair_at-pair.ensures.pair
    ∙ last_byte c.args.digits.now c.args.kept c.args.index (record { pairs = c.requires.kept; within = c.requires.within }) some c.if-index-kept-2.true

pub returns-else-index-kept-2 : goal.returns-else-index-kept-2
returns-else-index-kept-2 c =
    let some : 0 < c.args.index = let other = c.if-index-eq0.false in omega (arith, other) in
    let less : c.args.index < c.args.kept = let within = c.if-index-kept.false in let other = c.if-index-kept-2.false in omega (arith, within, other) in
    ap (λ p. 11 + 2 * p) c.pair_at-pair.ensures.pair
    ∙ inner_byte c.args.digits.now c.args.kept c.args.index (record { pairs = c.requires.kept; within = c.requires.within }) some less
