use Rattle.icu_codepointtrie.proofs.built.MapBlockLemmas.{different_blocks-set}
use Rattle.icu_codepointtrie.proofs.builder.CodePointTrieBuilder.set_value.Goals as goal

pub returns-then-not-is_default-clause-blocks : goal.returns-then-not-is_default-clause-blocks
returns-then-not-is_default-clause-blocks g c width =
    rw (← c.self.view_is) (different_blocks-set g.T.TrieValue.number width c.self.inside.values.items c.args.code_point c.args.value)
