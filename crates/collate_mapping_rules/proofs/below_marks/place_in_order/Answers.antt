use Rattle.std.proofs.Common.{map, sym, ap, ◌∙◌, arith, true, false}
use Rattle.std.proofs.lemmas.List.{get_or_read}
use Rattle.collate_rules.specs.CanonicalParts.{in_full}
use Rattle.collate_rules.specs.Meaning.{class_of}
use Rattle.collate_mapping_rules.proofs.mappings.MappingOrderLemmas.{passes_as, index_further, index_here, index_last}
use Rattle.collate_mapping_rules.proofs.below_marks.place_in_order.Goals as goal

pub loop-index-preserved : goal.loop-index-preserved
loop-index-preserved c = (
  omega arith,
  index_further (class_of (map in_full c.args.parts.now.list.items)) c.args.c c.args.list.now c.loop-index.index (omega arith)
      (passes_as (class_of (map in_full c.args.parts.now.list.items)) c.args.c _ _ _ _ true (c.class_of.ensures ∙ ap (class_of (map in_full c.args.parts.now.list.items)) (get_or_read c.args.list.now c.loop-index.index _ (omega arith) c.index-list-index.is 0)) c.class_of-class.ensures c.is_mark_below.ensures c.if-is_mark_below.true)
      ∙ c.loop-index.invariant.1,
)

pub returns-else-is_mark_below-clause-index : goal.returns-else-is_mark_below-clause-index
returns-else-is_mark_below-clause-index c =
    sym c.loop-index.invariant.1
    ∙ index_here (class_of (map in_full c.args.parts.now.list.items)) c.args.c c.args.list.now c.loop-index.index (omega arith)
    (passes_as (class_of (map in_full c.args.parts.now.list.items)) c.args.c _ _ _ _ false (c.class_of.ensures ∙ ap (class_of (map in_full c.args.parts.now.list.items)) (get_or_read c.args.list.now c.loop-index.index _ (omega arith) c.index-list-index.is 0)) c.class_of-class.ensures c.is_mark_below.ensures c.if-is_mark_below.false)

pub returns-after-loop-index-clause-index : goal.returns-after-loop-index-clause-index
returns-after-loop-index-clause-index c =
    sym c.loop-index.invariant.1
    ∙ index_last (class_of (map in_full c.args.parts.now.list.items)) c.args.c c.args.list.now c.loop-index.index (omega arith)
