use Rattle.std.proofs.Common.{refl, sym, subst, ap, ◌∙◌}
use Rattle.icu_normalizer_core.specs.declared.compatibility.tables.NfkdTables.{NfkdTables}
use Rattle.icu_normalizer_core.specs.CanonicalMeaning.{lists_of}
use Rattle.icu_normalizer_core.specs.Compatibility.{compatibility_of}
use Rattle.icu_normalizer_core.specs.CompatibilityMeaning.{nfkd_lists}
use Rattle.icu_normalizer_core.specs.Readings.{IsToldBy}
use Rattle.icu_normalizer_core.specs.Words.{WordLists}
use Rattle.icu_normalizer_core.proofs.accepted.AcceptedWords.{class_same}
use Rattle.icu_normalizer_core.proofs.composed.ReadingLemmas.{told}
use Rattle.icu_normalizer_core.proofs.compatibility.borrowed.CompatibilityBorrowed.reading.Goals as goal

pub returns : goal.returns
returns c =
    let lists = lists_of c.args.self.now.checked.now.canonical in
    let words = nfkd_lists c.args.self.now.checked.now.nfkd in
    told (compatibility_of lists words) words c.args.c refl
    (sym (class_same lists words c.tables.ensures.canonical c.tables.ensures.accepted c.args.c c.ranges.c.0)) c.reading.result
    (subst (λ (ws : WordLists). IsToldBy ws c.args.c c.reading.result) (c.words.ensures ∙ ap (λ (t : NfkdTables). nfkd_lists t) c.tables.ensures.same) c.reading.ensures)
