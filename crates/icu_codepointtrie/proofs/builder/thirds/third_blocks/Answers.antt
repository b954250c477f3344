use Rattle.std.proofs.Common.{arith, rules}
use Rattle.icu_codepointtrie.proofs.built.IndexBlockLemmas.{gives_push}
use Rattle.icu_codepointtrie.proofs.builder.thirds.third_blocks.Goals as goal

pub loop-block-preserved : goal.loop-block-preserved
loop-block-preserved c =
    let grown = c.in_ok-entry.ensures.grown in
    record {
      count = search rules;
      gives = rw c.in_ok-push.ensures.items (gives_push c.args.start c.loop-block.cells.items c.put_third.new.cells.items c.loop-block.entries.items c.args.slots.now c.args.kept.now c.args.first c.loop-block.block-index c.in_ok-entry.entry 36 c.loop-block.invariant.count grown c.loop-block.invariant.gives c.in_ok-entry.ensures.gives);
      few = omega (arith, grown.few);
    }
