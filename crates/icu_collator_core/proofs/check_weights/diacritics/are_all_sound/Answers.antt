use Rattle.std.proofs.Common.{◌<◌, length, sym, ◌∙◌, ap, arith}
use Rattle.std.proofs.lemmas.Bool.{and_from}
use Rattle.std.proofs.lemmas.List.Folds.{list_all_at, list_all_more}
use Rattle.icu_collator_core.specs.WeightFaults.{is_sound_diacritic}
use Rattle.icu_collator_core.proofs.check_weights.diacritics.are_all_sound.Goals as goal

pub returns-then-not-is_sound_diacritic : goal.returns-then-not-is_sound_diacritic
returns-then-not-is_sound_diacritic c =
    let inside : c.loop-index.index < length c.args.secondaries.now = omega (arith, c.loop-index-test.true, c.len-index-end.ensures)
    in sym (list_all_at is_sound_diacritic c.args.secondaries.now c.loop-index.index 0 inside
    (ap is_sound_diacritic (sym (c.at.ensures.item 0)) ∙ sym c.if-not-is_sound_diacritic.ensures))

pub loop-index-preserved : goal.loop-index-preserved
loop-index-preserved c =
    let inside : c.loop-index.index < length c.args.secondaries.now = omega (arith, c.loop-index-test.true, c.len-index-end.ensures)
    in list_all_more is_sound_diacritic c.args.secondaries.now c.loop-index.index 0 inside
    ∙ and_from _ _ c.loop-index.invariant (ap is_sound_diacritic (sym (c.at.ensures.item 0)) ∙ sym c.if-not-is_sound_diacritic.ensures)
