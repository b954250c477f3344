use Rattle.std.proofs.Common.{rules}
use Rattle.std.specs.Char.{IsScalar}
use Rattle.icu_normalizer_core.specs.Canonical.{IsCanonical}
use Rattle.icu_collator_core.specs.ReadSources.{canonical_by}
use Rattle.icu_collator_core.proofs.readings.SyllablePartLemmas.{syllable_begins}
use Rattle.icu_collator_core.proofs.checked.CheckedTables.begins_with_boundary.Goals as goal

pub returns-in-Some : goal.returns-in-Some
returns-in-Some c = λ told numeric.
    let source = c.args.self.now in
    let ok : IsCanonical (canonical_by source) = search rules in
    let scalar : IsScalar c.args.c = search rules in
    syllable_begins source numeric c.args.c c.letter-leading.result ok scalar c.requires c.letter-leading.ensures
    (c.is_boundary.ensures told source numeric c.letter-leading.result c.in-Some.ensures)
