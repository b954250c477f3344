use Rattle.std.proofs.Common.{List, map, subst, sym}
use Rattle.icu_normalizer_core.specs.CanonicalFaults.{IsAccepted as IsAcceptedCanonical}
use Rattle.icu_normalizer_core.specs.CanonicalMaps.{AreMeaning}
use Rattle.icu_normalizer_core.specs.CanonicalMeaning.{lists_of, meaning}
use Rattle.icu_normalizer_core.specs.CompatibilityMaps.{AreAcceptedOver}
use Rattle.icu_normalizer_core.specs.CompatibilityMeaning.{nfkd_lists}
use Rattle.icu_normalizer_core.specs.declared.canonical.tables.CanonicalTables.{CanonicalTables}
use Rattle.icu_normalizer_core.specs.declared.compatibility.tables.NfkdTables.{NfkdTables}
use Rattle.collate_lines.specs.Record.{Record, said}
use Rattle.collate_rules.specs.Accepted.{AreAccepted}
use Rattle.collate_compile.specs.Compiled.{AreCompiledFrom, HaveTrieType}
use Rattle.collate_records.specs.Maps.{AreWordsOf, maps_of}
use Rattle.collate_records.proofs.compiled.CompiledOfLemmas.{compiled_of}
use Rattle.collate_records.proofs.reading.ReadingSoundSettingLemmas.{accepted_soundly_set}
use Rattle.collate_records.proofs.compile.compile.Goals as goal

pub compile_tables-requires-clause-settings : goal.compile_tables-requires-clause-settings
compile_tables-requires-clause-settings c = accepted_soundly_set (map said c.lines-2.result.now) c.lines-2.ensures.accepted

pub returns-clause-compiled : goal.returns-clause-compiled
returns-clause-compiled c =
    let lines = c.args.records.now.lines in
    let given = c.of_tables.ensures in
    compiled_of lines c.of_tables.result
    (subst AreAccepted c.lines.ensures.same c.lines.ensures.accepted)
    (subst (λ (tables : CanonicalTables). IsAcceptedCanonical (lists_of tables)) (sym given.canonical) c.in_ok-canonical.ensures.accepted)
    (subst (λ (tables : CanonicalTables). AreMeaning (maps_of lines) (meaning tables)) (sym given.canonical) c.in_ok-canonical.ensures.means)
    (subst (λ (tables : NfkdTables). AreWordsOf lines (nfkd_lists tables)) (sym given.compatibility)
    (subst (λ (ls : List Record). AreWordsOf ls (nfkd_lists c.in_ok-compatibility.compatibility)) c.lines.ensures.same c.in_ok-compatibility.ensures.means))
    (subst (λ (tables : NfkdTables). AreAcceptedOver (maps_of lines) (nfkd_lists tables)) (sym given.compatibility)
    (subst (λ (ls : List Record). AreAcceptedOver (maps_of ls) (nfkd_lists c.in_ok-compatibility.compatibility)) c.lines.ensures.same c.in_ok-compatibility.ensures.accepted))
    (subst (AreCompiledFrom lines) (sym given.collation)
    (subst (λ (ls : List Record). AreCompiledFrom ls c.in_ok-collation.collation) c.lines-2.ensures.same c.in_ok-collation.ensures.compiled))

pub returns-clause-trie_type : goal.returns-clause-trie_type
returns-clause-trie_type c =
    subst (HaveTrieType c.args.trie_type) (sym c.of_tables.ensures.collation) c.in_ok-collation.ensures.trie_type
