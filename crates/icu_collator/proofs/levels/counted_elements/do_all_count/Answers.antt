use Rattle.std.proofs.Common.{◌≡◌, ◌++◌, ◌+◌, ◌∷◌, ◌∙◌, [], ap, sym, take}
use Rattle.std.proofs.lemmas.List.{take_all, take_more}
use Rattle.icu_collator.specs.LevelLists.{counted_list}
use Rattle.icu_collator.proofs.lists.CountedLemmas.{all_whole, listed_all, variable_more, whole_more}
use Rattle.icu_collator.proofs.levels.counted_elements.do_all_count.Goals.{then-is_variable, else-is_variable+else-is_ignored}
use Rattle.icu_collator.proofs.levels.counted_elements.do_all_count.Goals as goal

pub returns-then-variable_end-eq0 : goal.returns-then-variable_end-eq0
returns-then-variable_end-eq0 c = λ _ collation options at.
    let none = c.if-variable_end-eq0.true in
    ap (λ end. counted_list end c.args.elements.now) none ∙ all_whole collation options c.args.elements.now (sym none ∙ at)

pub loop-element-preserved : goal.loop-element-preserved
loop-element-preserved c = λ collation options end.
    let xs = c.args.elements.now in
    let i = c.loop-element.element-index in
    let x = c.element-item.result in
    let so_far = c.loop-element.invariant collation options end in
    let more : take (i + 1) xs ≡ take i xs ++ x ∷ [] = take_more xs i x c.loop-element-test.true ∙ ap (λ y. take i xs ++ y ∷ []) (sym c.element-item.is) in
    elim c.if-is_variable.branch [
      | then-is_variable w ↦ rw w.is_behind-is
          (variable_more collation options _ end xs i x c.primary-primary.result c.loop-element-test.true c.element-item.is c.primary-primary.ensures
          (take i xs) (take (i + 1) xs) c.loop-element.is_behind _ so_far (sym c.is_variable.ensures ∙ w.if-is_variable.true) more)
      | else-is_variable+else-is_ignored w ↦ rw w.is_behind-is
          (whole_more collation options _ end xs i x c.primary-primary.result c.loop-element-test.true c.element-item.is c.primary-primary.ensures
          (take i xs) (take (i + 1) xs) c.loop-element.is_behind _ so_far (sym c.is_variable.ensures ∙ w.if-is_variable.false)
          (sym w.is_ignored.ensures ∙ w.if-is_ignored.false) more)
    ]

pub returns : goal.returns
returns c = λ _ collation options end.
    let xs = c.args.elements.now in
    let i = c.loop-element.element-index in
    sym (ap (counted_list c.args.variable_end) (take_all i xs c.loop-element-test.false))
    ∙ listed_all collation options _ xs i (take i xs) c.loop-element.is_behind _ c.loop-element-test.false (c.loop-element.invariant collation options end)
