use Rattle.std.proofs.Common.{◌≡◌, length, arith}
use Rattle.icu_codepointtrie.proofs.built.IndexBlockLemmas.{Gives-wide}
use Rattle.icu_codepointtrie.proofs.builder.thirds.put_third.Goals as goal

pub returns-in_ok-put_wide-clause-gives : goal.returns-in_ok-put_wide-clause-gives
returns-in_ok-put_wide-clause-gives c =
    let count : c.len.result ≡ length c.args.cells.now.items = omega arith in
    rw count (Gives-wide c.args.start c.args.cells.now.items c.put_wide.new.cells.items c.args.slots.now c.args.first c.requires.slots c.requires.small c.requires.room c.in_ok-put_wide.ensures)
