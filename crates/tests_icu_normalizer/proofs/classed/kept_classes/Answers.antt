-- The characters that were pushed, and those that are left, are the whole list.
use Rattle.std.proofs.Common.{[], ◌∷◌, ◌++◌, sym, ap, ◌∙◌, append_assoc, append-nil}
use Rattle.icu_normalizer_core.specs.BorrowedMeaning.{borrowed_meaning}
use Rattle.icu_normalizer_core.specs.Canonical.{decomposed}
use Rattle.icu_normalizer_core.specs.Classes.{with_classes}
use Rattle.icu_normalizer_core.proofs.decoded.DecodedLemmas.{list_gives}
use Rattle.tests_icu_normalizer.proofs.classed.kept_classes.Goals as goal

pub loop-item-init : goal.loop-item-init
loop-item-init c =
    let is = c.into_iter-item-iterator.ensures.into_iter_gives in
    let canonical = borrowed_meaning c.args.canonical in
    let left = with_classes canonical (decomposed canonical c.decode_utf8.result) in (
      rw is (c.classed-item-items.ensures.ready tt tt),
      (
        left,
        rw is (c.classed-item-items.ensures.text c.decode_utf8.result (list_gives c.decode_utf8.result)),
        ap (λ cs. with_classes canonical (decomposed canonical cs)) (sym c.decode_utf8.ensures.chars) ∙ ap (λ l. l ++ left) (sym c.new-list.ensures.items),
      ),
    )

pub loop-item-preserved : goal.loop-item-preserved
loop-item-preserved c =
    let now = c.loop-item.invariant.1 in
    let step = rw c.in_ok-item.was at c.in-Some.ensures.steps in
    let next = step.first.at now.0 now.1 in (
      step.again,
      (
        next.0,
        next.2,
        rw c.in_ok-push.ensures.items (now.2 ∙ ap (λ l. c.loop-item.list.items ++ l) next.1 ∙ sym (append_assoc c.loop-item.list.items (_ ∷ []) next.0)),
      ),
    )

pub returns : goal.returns
returns c =
    let now = c.loop-item.invariant.1 in
    sym (now.2 ∙ ap (λ l. c.loop-item.list.items ++ l) (c.in-None.ensures.steps.first.at now.0 now.1).0 ∙ append-nil c.loop-item.list.items)
