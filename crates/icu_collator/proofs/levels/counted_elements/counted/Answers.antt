use Rattle.std.proofs.Common.{ap, sym, ◌∙◌}
use Rattle.icu_collator_core.specs.ElementLists.{unpacked}
use Rattle.icu_collator.specs.LevelLists.{counted_list}
use Rattle.icu_collator.specs.Shifted.{counted}
use Rattle.icu_collator.proofs.lists.CountedLemmas.{all_whole}
use Rattle.icu_collator.proofs.levels.counted_elements.counted.Goals as goal

pub returns-then-variable_end-eq0 : goal.returns-then-variable_end-eq0
returns-then-variable_end-eq0 c = λ collation options at.
    let none = c.if-variable_end-eq0.true in
    ap (λ end. counted_list end c.args.elements.items) none ∙ all_whole collation options c.args.elements.items (sym none ∙ at)

pub returns : goal.returns
returns c = λ collation options at.
    c.in_ok-list.ensures collation options at ∙ ap (λ items. counted collation options (unpacked items)) c.deref.ensures
