use Rattle.std.proofs.Common.{◌≡◌, ◌∙◌, true, ap, rules}
use Rattle.icu_collator_core.specs.ElementLists.{unpacked}
use Rattle.icu_collator.specs.Collators.{source_collation}
use Rattle.icu_collator.specs.Shifted.{counted}
use Rattle.icu_collator.proofs.orders.FlatListLemmas.{listed_elements}
use Rattle.icu_collator.proofs.key_bytes.text_keys.write_noted_key.Goals as goal

pub write_counted_key-requires-clause-elements : goal.write_counted_key-requires-clause-elements
write_counted_key-requires-clause-elements g c =
    let source = c.args.checked.now in
    let collation = source_collation source in
    let options = c.args.options.now in
    let text = g.T.Characters.characters c.args.text in
    let end = c.variable_end-end.result in
    let whole : c.in_ok-is_read.is_read ≡ true = search rules in
    let are = listed_elements source options c.numeric_lead-numeric.result text c.read_elements.new.elements.items c.numeric_lead-numeric.ensures (c.in_ok-is_read.ensures.elements whole) in
    c.do_all_count.ensures c.if-do_all_count.true collation options c.variable_end-end.ensures
    ∙ ap (λ items. counted collation options (unpacked items)) c.as_slice-elements.ensures ∙ ap (counted collation options) are

pub write_kept_key-requires-clause-elements : goal.write_kept_key-requires-clause-elements
write_kept_key-requires-clause-elements g c =
    let source = c.args.checked.now in
    let text = g.T.Characters.characters c.args.text in
    let whole : c.in_ok-is_read.is_read ≡ true = search rules in
    ap unpacked c.as_slice-elements.ensures
    ∙ listed_elements source c.args.options.now c.numeric_lead-numeric.result text c.read_elements.new.elements.items c.numeric_lead-numeric.ensures (c.in_ok-is_read.ensures.elements whole)
