use Rattle.std.proofs.Common.{◌∙◌, ap, take, drop}
use Rattle.std.specs.Prelude.{fold}
use Rattle.icu_collator_core.specs.SpelledTests.{if_any, nothing_read, with_word}
use Rattle.icu_collator_core.proofs.weights.SpelledLemmas.{one_more}
use Rattle.icu_collator_core.proofs.check_weights.word_weights.read_words.Goals as goal

pub loop-i-preserved : goal.loop-i-preserved
loop-i-preserved c =
    c.with_word-seen.ensures
    ∙ ap (λ seen. if_any (with_word c.args.special.now c.args.own) seen c.get.result) c.loop-i.invariant
    ∙ ap (if_any (with_word c.args.special.now c.args.own) (fold (with_word c.args.special.now c.args.own) nothing_read (take c.loop-i.i (drop c.args.index c.args.ce32s.now)))) c.get.ensures.item
    ∙ one_more (with_word c.args.special.now c.args.own) nothing_read c.args.ce32s.now c.args.index c.loop-i.i
