use Rattle.icu_normalizer_core.specs.CanonicalMeaning.{lists_of}
use Rattle.icu_normalizer_core.specs.CompatibilityMeaning.{nfkd_lists}
use Rattle.icu_normalizer_core.proofs.accepted.AcceptedPairs.{canonical}
use Rattle.icu_normalizer_core.proofs.accepted.AcceptedWords.{compatible}
use Rattle.icu_normalizer_core.proofs.compatibility.borrowed.CompatibilityBorrowed.keep_promise.Goals as goal

pub returns-clause-canonical : goal.returns-clause-canonical
returns-clause-canonical c = canonical (lists_of c.args.self.now.checked.now.canonical) c.tables-tables.ensures.canonical

pub returns-clause-compatibility : goal.returns-clause-compatibility
returns-clause-compatibility c =
    compatible (lists_of c.args.self.now.checked.now.canonical) (nfkd_lists c.args.self.now.checked.now.nfkd) c.tables-tables.ensures.canonical
    c.tables-tables.ensures.accepted
