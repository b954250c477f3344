use Rattle.std.proofs.Common.{◌∙◌, sym}
use Rattle.collate_name_list.specs.Slots.{compared, slots_of}
use Rattle.collate_name_list.proofs.FrontedLemmas.{length_fronted}
use Rattle.collate_name_list.proofs.SpanLemmas.{span_whole}
use Rattle.collate_name_list.proofs.slots.rank_of_sought.Goals as goal

pub rank_within-requires-clause-span : goal.rank_within-requires-clause-span
rank_within-requires-clause-span c =
    span_whole (compared c.args.slots.now c.args.sought.now) (slots_of c.args.ranked.now) c.args.past_equal c.whole.result.low c.whole.result.high
    c.whole.ensures.low (c.whole.ensures.high ∙ sym (length_fronted c.args.ranked.now))
