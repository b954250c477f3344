use Rattle.std.proofs.Common.{◌<◌, length, rules, subst, sym}
use Rattle.icu_collator_core.specs.Pairs.{IsPairNote}
use Rattle.icu_collator_core.proofs.notes.pairs.PairNotes.placed.Goals as goal

pub loop-pair-preserved : goal.loop-pair-preserved
loop-pair-preserved c = λ source all.
    let pair = c.pair-item.result in
    let slot = c.loop-pair.pair-index in
    let within : slot < length c.args.pairs.now = search rules in
    c.put.ensures source (subst (IsPairNote source) (sym c.pair-item.is) (all slot pair within)) (c.loop-pair.invariant source all)
