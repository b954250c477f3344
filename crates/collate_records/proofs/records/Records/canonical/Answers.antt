use Rattle.std.proofs.Common.{subst, sym, ◌∙◌}
use Rattle.icu_normalizer_core.specs.declared.canonical.tables.CanonicalTables.{CanonicalTables}
use Rattle.icu_normalizer_core.specs.BorrowedMeaning.{borrowed_meaning}
use Rattle.icu_normalizer_core.specs.CanonicalMaps.{AreMeaning}
use Rattle.icu_normalizer_core.specs.CanonicalMeaning.{meaning}
use Rattle.collate_rules.specs.Accepted.{AreAccepted}
use Rattle.collate_records.specs.Maps.{maps_of}
use Rattle.collate_records.specs.Files.{FileRecords}
use Rattle.collate_records.proofs.maps.AcceptedAllMapsLemmas.{accepted_same, accepted_steps, accepted_pairs}
use Rattle.collate_records.proofs.records.Records.canonical.Goals as goal

accepted : (c : goal.After-as_borrowed) → AreAccepted c.args.self.now.lines
accepted c = subst (λ (file : FileRecords). AreAccepted file.lines) c.self.view_is c.self.invariant.accepted

means : (c : goal.After-as_borrowed) → AreMeaning (maps_of c.args.self.now.lines) (borrowed_meaning c.as_borrowed.result)
means c =
    subst (λ (tables : CanonicalTables). AreMeaning (maps_of c.args.self.now.lines) (meaning tables)) (sym (c.as_borrowed.ensures.same ∙ c.self.invariant.canonical))
    (subst (λ (file : FileRecords). AreMeaning (maps_of file.lines) (meaning c.self.inside.tables)) c.self.view_is c.self.invariant.means)

pub returns-clause-same : goal.returns-clause-same
returns-clause-same c = accepted_same c.args.self.now.lines (borrowed_meaning c.as_borrowed.result) (accepted c) (means c)

pub returns-clause-steps : goal.returns-clause-steps
returns-clause-steps c = accepted_steps c.args.self.now.lines (borrowed_meaning c.as_borrowed.result) (accepted c) (means c)

pub returns-clause-pairs : goal.returns-clause-pairs
returns-clause-pairs c = accepted_pairs c.args.self.now.lines (borrowed_meaning c.as_borrowed.result) (accepted c) (means c)
