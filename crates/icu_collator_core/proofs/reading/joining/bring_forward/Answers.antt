use Rattle.icu_collator_core.proofs.lookups.MovedLemmas.{rotated_is}
use Rattle.icu_collator_core.proofs.reading.joining.bring_forward.Goals as goal

pub returns : goal.returns
returns c = rotated_is c.args.list.now c.args.from c.args.index c.requires.order c.requires.inside c.rotate_right.new.self c.rotate_right.ensures.after
