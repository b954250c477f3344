use Rattle.std.proofs.Common.{◌≡◌, ap, ◌∙◌, arith}
use Rattle.toml.specs.Data.{array, no_members}
use Rattle.toml.specs.View.{view, table_view, members_view}
use Rattle.toml.specs.declared.value.Value.{Array}
use Rattle.toml.proofs.Views.{view-Array}
use Rattle.icu_codepointtrie.specs.TomlTables.{integers_of}
use Rattle.icu_codepointtrie.proofs.tables.TomlTableLemmas.{IsHeader, tables_back}
use Rattle.icu_codepointtrie.proofs.trie.CodePointTrie.to_table.Goals as goal

pub returns-clause-table : goal.returns-clause-table
returns-clause-table g c =
    let empty : table_view c.new-table.result ≡ no_members = ap members_view c.new-table.ensures.empty in
    let header = c.header.ensures in
    let index : view (Array c.in_ok-index.index) ≡ array (integers_of (λ n. n) c.args.self.now.index) =
    view-Array c.in_ok-index.index ∙ ap array (c.in_ok-index.ensures.integers ∙ ap (integers_of (λ n. n)) c.index.ensures) in
    let cells : view (Array c.in_ok-cells.cells) ≡ array (integers_of g.T.TrieValue.number c.args.self.now.cells) =
    view-Array c.in_ok-cells.cells ∙ ap array (c.in_ok-cells.ensures.integers ∙ ap (integers_of g.T.TrieValue.number) c.cells.ensures) in
    rw (← header) (c.in_ok-put-2.ensures ∙ simp (c.in_ok-put.ensures, c.in_ok-put_header.ensures, index, cells))

pub returns-clause-reads_back : goal.returns-clause-reads_back
returns-clause-reads_back g c =
    let fits : IsHeader c.header.result = record {
      high_start = omega arith;
      shifted12_high_start = omega arith;
      index3_null_offset = omega arith;
      data_null_offset = omega arith;
      null_value = omega arith;
    } in
    let index = rw (c.in_ok-index.ensures.integers, c.index.ensures) at c.in_ok-index.ensures.reads_back in
    let cells = rw (c.in_ok-cells.ensures.integers, c.cells.ensures) at c.in_ok-cells.ensures.reads_back in
    rw (returns-clause-table g c) (tables_back g.T.TrieValue.number g.T.TrieValue.of_number c.args.self.now (rw c.header.ensures at fits) index cells)
