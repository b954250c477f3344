use Rattle.std.proofs.Common.{◌∙◌, ap, sym}
use Rattle.icu_collator_core.specs.ElementLists.{unpacked}
use Rattle.icu_collator.specs.Collators.{source_collation}
use Rattle.icu_collator.specs.LevelLists.{counted_list}
use Rattle.icu_collator.proofs.lists.CountedLemmas.{all_whole}
use Rattle.icu_collator.proofs.compare.listed.compare_elements.Goals as goal

pub returns-then-end-eq0 : goal.returns-then-end-eq0
returns-then-end-eq0 c =
    let collation = source_collation c.args.checked.now in
    let options = c.args.options.now in
    let none = sym c.if-end-eq0.true ∙ c.variable_end-end.ensures in
    c.in_ok-order.ensures (unpacked c.args.lefts.now) (unpacked c.args.rights.now)
    (all_whole collation options c.args.lefts.now none) (all_whole collation options c.args.rights.now none)

pub returns : goal.returns
returns c =
    let collation = source_collation c.args.checked.now in
    let options = c.args.options.now in
    let end = c.variable_end-end.result in
    let at = c.variable_end-end.ensures in
    c.in_ok-order-2.ensures (unpacked c.args.lefts.now) (unpacked c.args.rights.now)
    (ap (counted_list end) c.deref.ensures ∙ c.in_ok-lefts.ensures collation options at)
    (ap (counted_list end) c.deref-2.ensures ∙ c.in_ok-rights.ensures collation options at)
