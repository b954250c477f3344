use Rattle.std.proofs.Common.{ap, sym, ◌∙◌, ◌*◌, ◌+◌, ◌-◌, length, Some, slice_get, slice_index_or, arith}
use Rattle.std.specs.Range.{range_inclusive_start}
use Rattle.icu_collections_sets.specs.CodePoints.{ranges_of}
use Rattle.icu_collections_sets.proofs.sets.InversionListLemmas.{length-ranges_of, slice_get-ranges_of, Rises_below}
use Rattle.icu_collections_sets.proofs.codepointinvlist.inversion_list.CodePointInversionList.get_nth_range.Goals as goal

pub returns-then-index-len : goal.returns-then-index-len
returns-then-index-len c = omega (arith, length-ranges_of c.args.self.now, ap length c.self.view_is)

pub overflow_sub-end : goal.overflow_sub-end
overflow_sub-end c =
    let rise = Rises_below 0 c.self.inside.edges (2 * c.args.index) (2 * c.args.index + 1) 0 c.self.invariant.rises (omega arith) (omega arith) in
    omega (arith, rise, c.at-end.ensures.item 0)

pub returns : goal.returns
returns c =
    let range = slice_get-ranges_of c.self.inside.edges c.args.index 0 (omega arith) in (
      ap (λ xs. slice_get (ranges_of xs) c.args.index) (sym c.self.view_is) ∙ range
          ∙ ap (λ start. Some (start, slice_index_or c.self.inside.edges (2 * c.args.index + 1) 0 - 1)) (sym (c.new.ensures.start ∙ c.at-start.ensures.item 0))
          ∙ ap (λ end. Some (range_inclusive_start c.new.result, end)) (sym (c.new.ensures.end ∙ ap (λ end. end - 1) (c.at-end.ensures.item 0))),
      c.new.ensures.exhausted,
    )
