use Rattle.std.proofs.Common.{◌+◌, true, subst, arith}
use Rattle.icu_codepointtrie.specs.MappedRanges.{IsAlike}
use Rattle.icu_codepointtrie.proofs.walks.MappedRangeLemmas.{alike_further}
use Rattle.icu_codepointtrie.proofs.trie.CodePointTrie.end_of_mapped.Goals as goal

-- the code points of the range after the end are mapped alike too
pub loop-end-preserved : goal.loop-end-preserved
loop-end-preserved g c =
    let alike = IsAlike c.args.self.now (λ v w. g.F.Fn.post c.args.map.now (v, tt) w) g.U.PartialEq.eq in
    let last : alike (c.loop-end.end + 1) c.args.mapped.now true = subst (alike (c.loop-end.end + 1) c.args.mapped.now) c.if-not-is_mapped_alike.false c.is_mapped_alike.ensures in
    record {
      callable = c.loop-end.invariant.callable;
      from = omega (arith, c.end_of_range-end.ensures.not_empty);
      to = c.end_of_range-end.ensures.in_range;
      alike = alike_further c.args.self.now (λ v w. g.F.Fn.post c.args.map.now (v, tt) w) g.U.PartialEq.eq c.args.start c.loop-end.end c.end_of_range-end.result c.args.mapped.now c.get32.result
          c.loop-end.invariant.alike last c.end_of_range-end.ensures;
    }
