use Rattle.std.proofs.Common.{◌≡◌, ◌++◌, take, ap, ◌∙◌}
use Rattle.icu_normalizer.specs.Writer.{writer_data}
use Rattle.icu_normalizer.proofs.writing.InsertLemmas.{order_from}
use Rattle.icu_normalizer.proofs.decomposing.writer.Writer.sorted.Goals as goal

pub returns : goal.returns
returns c =
    let b = c.args.self.now in
    let xs = take b.count b.few in
    let few : c.extend_from_slice.new.self.items ≡ xs = c.in_ok-extend_from_slice.ensures.ok ∙ ap (λ l. l ++ xs) c.new-marks.ensures.items in
    let all : c.extend_from_slice-2.new.self.items ≡ xs ++ b.more.items =
    c.in_ok-extend_from_slice-2.ensures.ok ∙ ap (λ l. l ++ c.deref.result.now) few ∙ ap (λ l. xs ++ l) c.deref.ensures.value in
    order_from (writer_data b).class b.last c.index_for-from.result xs b.more.items _ _ c.index_for-from.ensures.within b.order c.index_for-from.ensures.behind all c.in_ok-sort_marks.ensures.ok
