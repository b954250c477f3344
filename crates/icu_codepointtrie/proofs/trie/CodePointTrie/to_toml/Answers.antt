use Rattle.std.proofs.Common.{◌≡◌, ◌≤◌, true, Some, Err, string_bytes, sym, ap, ◌∙◌}
use Rattle.std.proofs.lemmas.Bool.{false≢true}
use Rattle.toml.specs.Data.{members_depth, members_have_valid_dates}
use Rattle.toml.specs.Parse.{parse_document}
use Rattle.toml.specs.View.{table_view}
use Rattle.icu_codepointtrie.proofs.tables.TomlTableLemmas.{table_depth, table_dates}
use Rattle.icu_codepointtrie.proofs.trie.CodePointTrie.to_toml.Goals as goal

pub returns-in-Ok-clause-table : goal.returns-in-Ok-clause-table
returns-in-Ok-clause-table g c =
    let shallow : members_depth (table_view c.in_ok-table.table) ≤ 80 = rw c.in_ok-table.ensures.table (table_depth g.T.TrieValue.number c.args.self.now) in
    c.in-Ok.ensures.reads_back shallow ∙ ap Some c.in_ok-table.ensures.table

pub returns-in-Ok-clause-reads_back : goal.returns-in-Ok-clause-reads_back
returns-in-Ok-clause-reads_back g c =
    let shallow : members_depth (table_view c.in_ok-table.table) ≤ 80 = rw c.in_ok-table.ensures.table (table_depth g.T.TrieValue.number c.args.self.now) in
    let parsed : parse_document (string_bytes c.in-Ok.text) ≡ Some (table_view c.in_ok-table.table) = c.in-Ok.ensures.reads_back shallow in
    rw parsed c.in_ok-table.ensures.reads_back

-- a trie's table has no date-time
pub unreachable-requires : goal.unreachable-requires
unreachable-requires g c =
    let dates : members_have_valid_dates (table_view c.in_ok-table.table) ≡ true = rw c.in_ok-table.ensures.table (table_dates g.T.TrieValue.number c.args.self.now) in
    false≢true (sym (c.in-Err-DateInvalid.ensures.dates.0 (ap Err c.in-Err-DateInvalid.field-0-is)) ∙ dates)
