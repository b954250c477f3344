use Rattle.icu_collator.proofs.key_writing.PlainLevelLemmas.{plain_up_to}
use Rattle.icu_collator.proofs.key_bytes.primaries.write_plain.Goals as goal

pub returns : goal.returns
returns c =
    let put = c.put_short_primaries.ensures in
    plain_up_to c.args.checked.now c.plain_lead-plain.result c.args.variable_end c.keep_promise.ensures c.plain_lead-plain.ensures c.args.elements.now c.args.from
    c.put_short_primaries.result c.args.key.now.items c.put_short_primaries.new.self.items put.onward put.plain put.put
