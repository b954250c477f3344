use Rattle.std.proofs.Common.{sym, ◌∙◌}
use Rattle.icu_normalizer_core.specs.CanonicalMeaning.{lists_of}
use Rattle.icu_normalizer_core.proofs.accepted.AcceptedForms.{accepted_pairs}
use Rattle.icu_normalizer_core.proofs.accepted.TableMeanings.{pair_syllable, pair_listed}
use Rattle.icu_normalizer_core.proofs.canonical.borrowed.CanonicalBorrowed.compose.Goals as goal

pub listed_pair-requires-clause-pairs : goal.listed_pair-requires-clause-pairs
listed_pair-requires-clause-pairs c = accepted_pairs (lists_of c.tables.result.now) c.tables.ensures.accepted

pub returns-in-Some : goal.returns-in-Some
returns-in-Some c = sym (pair_syllable (lists_of c.args.self.now.checked.now) c.args.first c.args.second c.in-Some.syllable (sym c.syllable_of.ensures ∙ c.in-Some.is))

pub returns-in-None : goal.returns-in-None
returns-in-None c =
    rw (← c.tables.ensures.same)
    (c.listed_pair.ensures ∙ sym (pair_listed (lists_of c.tables.result.now) c.args.first c.args.second (sym c.syllable_of.ensures ∙ c.in-None.is)))
