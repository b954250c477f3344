use Rattle.std.proofs.Common.{subst}
use Rattle.icu_normalizer_core.specs.CanonicalMeaning.{lists_of, meaning}
use Rattle.icu_normalizer_core.specs.Readings.{IsToldBy}
use Rattle.icu_normalizer_core.specs.Words.{WordLists, words_of}
use Rattle.icu_normalizer_core.proofs.composed.ReadingLemmas.{told}
use Rattle.icu_normalizer_core.proofs.accepted.TableMeanings.{class_is, full_is}
use Rattle.icu_normalizer_core.proofs.canonical.character_data.read_character.Goals as goal

pub returns : goal.returns
returns c =
    told (meaning c.args.tables.now) (words_of (lists_of c.args.tables.now)) c.args.c (full_is (lists_of c.args.tables.now) c.args.c)
    (class_is (lists_of c.args.tables.now) c.args.c) c.reading.result
    (subst (λ (words : WordLists). IsToldBy words c.args.c c.reading.result) c.words.ensures c.reading.ensures)
