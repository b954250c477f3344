use Rattle.std.proofs.Common.{rules}
use Rattle.icu_codepointtrie.proofs.built.MapBlockLemmas.{different_blocks-constant}
use Rattle.icu_codepointtrie.proofs.builder.CodePointTrieBuilder.new.Goals as goal

pub returns-clause-blocks : goal.returns-clause-blocks
returns-clause-blocks g c width =
    different_blocks-constant g.T.TrieValue.number width c.resize.new.self.items c.args.default_value (λ k h. search rules)
