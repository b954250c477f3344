use Rattle.icu_codepointtrie.proofs.tables.FastSlotLemmas.{value_at_fast}
use Rattle.icu_codepointtrie.proofs.trie.CodePointTrie.fast_value.Goals as goal

pub returns-clause-value : goal.returns-clause-value
returns-clause-value g c =
    value_at_fast (record { header = c.self.inside.header; index = c.self.inside.index; cells = c.self.inside.cells }) c.args.self.now
    c.args.code_point c.at-start.result c.at.result c.self.view_is c.self.invariant c.requires (c.at-start.ensures.item 0) (c.at.ensures.item c.at.result)
