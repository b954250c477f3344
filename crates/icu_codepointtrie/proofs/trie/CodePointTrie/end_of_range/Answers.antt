use Rattle.std.proofs.Common.{◌≡◌, ◌+◌, sym, ap, subst, ◌∙◌, arith, rules}
use Rattle.std.specs.Prelude.{not, nat_eq, false}
use Rattle.std.specs.Option.{option_eq}
use Rattle.icu_codepointtrie.specs.Ranges.{IsConstant}
use Rattle.icu_codepointtrie.specs.SharedBlocks.{key_width}
use Rattle.icu_codepointtrie.proofs.walks.SharedBlockLemmas.{skipped, known_key}
use Rattle.icu_codepointtrie.proofs.trie.CodePointTrie.end_of_range.Goals.{in-Some, in-None}
use Rattle.icu_codepointtrie.proofs.trie.CodePointTrie.end_of_range.Goals as goal

-- a block whose key is that of one that was read is not read
pub loop-next-preserved : goal.loop-next-preserved
loop-next-preserved g c = elim c.match-key.branch [
  | in-Some w ↦ (
      let key = w.in-Some.key in
      let ends : c.match-key.end ≡ c.loop-next.next + key_width key = w.end-is ∙ ap (λ width. c.loop-next.next + width) w.key_width.ensures in
      let known = known_key key c.loop-next.uniform (subst (λ k. false ≡ not (option_eq nat_eq k c.loop-next.uniform)) w.key-is c.if-ne.ensures) in
      record {
        from = omega (arith, ends);
        to = omega (arith, ends, w.in-Some.ensures.inside);
        constant = subst (λ end. IsConstant c.args.self.now c.args.start end c.args.value) (sym ends)
            (skipped c.args.self.now c.args.start c.loop-next.next key c.args.value c.loop-next.uniform c.loop-next.invariant.constant w.in-Some.ensures c.loop-next.invariant.uniform known);
        uniform = c.loop-next.invariant.uniform;
      })
  | in-None w ↦ absurd (search rules)
]
