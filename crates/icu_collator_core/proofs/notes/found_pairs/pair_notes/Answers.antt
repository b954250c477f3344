use Rattle.std.proofs.Common.{All, List, subst, sym}
use Rattle.icu_collator_core.specs.Pairs.{IsPairNote}
use Rattle.icu_collator_core.specs.declared.notes.pairs.PairNote.{PairNote}
use Rattle.icu_collator_core.proofs.notes.found_pairs.pair_notes.Goals as goal

pub loop-code-preserved : goal.loop-code-preserved
loop-code-preserved c = c.in_ok-more.ensures

pub returns : goal.returns
returns c =
    c.in_ok-notes.ensures c.args.sound.now
    (subst (λ (notes : List PairNote). All (IsPairNote c.args.sound.now) notes) (sym c.as_slice-2.ensures.value) c.loop-code.invariant)
