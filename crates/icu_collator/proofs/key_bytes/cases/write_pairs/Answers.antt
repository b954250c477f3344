use Rattle.std.proofs.Common.{◌≡◌, ◌++◌, ◌+◌, ◌<◌, length, arith}
use Rattle.icu_collator.specs.KeyBytes.{paired_halves}
use Rattle.icu_collator.proofs.key_writing.CaseWrittenLemmas.{half_written, pair_written, pairs_end}
use Rattle.icu_collator.proofs.key_bytes.cases.write_pairs.Goals as goal

pub pairs-preserved : goal.pairs-preserved
pairs-preserved c =
    let halves = c.args.halves.now in
    let index = c.pairs.index in
    let more = c.pairs-test.true in
    let inside : index + 1 < length halves = omega (arith, more) in
    record {
      within = omega (arith, inside);
      level = pair_written halves index (c.args.key.now.items ++ paired_halves halves) c.pairs.key.items c.push.new.self.items inside
          c.pairs.invariant.level c.in_ok-push.ensures.ok;
    }

pub returns-in_ok-push-2 : goal.returns-in_ok-push-2
returns-in_ok-push-2 c =
    let halves = c.args.halves.now in
    let index = c.pairs.index in
    let few = c.pairs-test.false in
    let some = c.if-index-halves.true in
    let last : index + 1 ≡ length halves = omega (arith, few, some) in
    half_written halves index (c.args.key.now.items ++ paired_halves halves) c.pairs.key.items c.push-then-index-halves.new.self.items last
    c.pairs.invariant.level c.in_ok-push-2.ensures.ok

pub returns-else-index-halves : goal.returns-else-index-halves
returns-else-index-halves c =
    let halves = c.args.halves.now in
    let none = c.if-index-halves.false in
    pairs_end halves c.pairs.index (c.args.key.now.items ++ paired_halves halves) c.pairs.key.items (omega (arith, none)) c.pairs.invariant.level
