use Rattle.std.proofs.Common.{◌≡◌, pos, ap, ◌∙◌, rules}
use Rattle.toml.specs.Data.{integer, string}
use Rattle.toml.specs.View.{view}
use Rattle.icu_codepointtrie.specs.TomlTables.{name_of}
use Rattle.icu_codepointtrie.proofs.toml_text.write.put_header.Goals as goal

pub returns : goal.returns
returns c =
    let high_start : view c.into.result ≡ integer (pos c.args.header.high_start) = search (rules, c.into.ensures) in
    let shifted : view c.into-2.result ≡ integer (pos c.args.header.shifted12_high_start) = search (rules, c.into-2.ensures, c.from-shifted12_high_start.ensures) in
    let index3 : view c.into-3.result ≡ integer (pos c.args.header.index3_null_offset) = search (rules, c.into-3.ensures, c.from-index3_null_offset.ensures) in
    let data_null : view c.into-4.result ≡ integer (pos c.args.header.data_null_offset) = search (rules, c.into-4.ensures) in
    let null : view c.into-5.result ≡ integer (pos c.args.header.null_value) = search (rules, c.into-5.ensures) in
    let trie_type : view c.in_ok-trie_type.trie_type ≡ string (name_of c.args.header.trie_type) = c.in_ok-trie_type.ensures ∙ ap string c.name.ensures in
    simp (c.in_ok-put-5.ensures, c.in_ok-put-4.ensures, c.in_ok-put-3.ensures, c.in_ok-put-2.ensures, c.in_ok-put.ensures, c.requires, high_start, shifted, index3, data_null, null, trie_type) at c.put-6.ensures
