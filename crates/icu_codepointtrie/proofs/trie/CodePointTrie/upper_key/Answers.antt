use Rattle.std.proofs.Common.{arith, rules}
use Rattle.icu_codepointtrie.proofs.walks.SharedBlockLemmas.{upper_is_key}
use Rattle.icu_codepointtrie.proofs.trie.CodePointTrie.upper_key.Goals as goal

pub returns : goal.returns
returns g c =
    upper_is_key c.args.self.now c.args.code_point c.in_ok-second.second c.in_ok-block.block c.requires.from (search rules) c.requires.to (omega arith)
    (search rules) (search rules)
