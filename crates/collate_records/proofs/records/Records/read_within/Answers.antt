use Rattle.std.proofs.Common.{◌≤◌, map, List, subst, sym, ap, ◌∙◌}
use Rattle.collate_lines.specs.declared.record.Record.{Record as Line}
use Rattle.collate_records.specs.Maps.{maps_of}
use Rattle.collate_lines.specs.Record.{Record, said}
use Rattle.collate_rules.specs.Accepted.{AreAccepted}
use Rattle.collate_rules.specs.Rules.{names_in}
use Rattle.icu_normalizer_core.specs.CanonicalMaps.{AreMeaning}
use Rattle.icu_normalizer_core.specs.CanonicalMeaning.{meaning}
use Rattle.collate_records.proofs.reading.ReadingAcceptedLemmas.{few_within, lines_within}
use Rattle.collate_records.proofs.records.Records.read_within.Goals as goal

pub canonical_tables-requires : goal.canonical_tables-requires
canonical_tables-requires c =
    let read = c.in_ok-records.ensures in
    let same = ap (λ (lines : List Line). map said lines) c.deref.ensures.value ∙ read.1 in
    record {
      accepted = subst AreAccepted (sym same) (lines_within c.args.limits c.args.bytes.now read.0);
      few = subst (λ (lines : List Record). names_in lines ≤ c.args.limits.code_points) (sym same) (few_within c.args.limits c.args.bytes.now read.0);
    }

pub invariant_of-result : goal.invariant_of-result
invariant_of-result c =
    let read = c.in_ok-records.ensures in
    record {
      accepted = subst AreAccepted (sym read.1) (lines_within c.args.limits c.args.bytes.now read.0);
      few = subst (λ (lines : List Record). names_in lines ≤ c.args.limits.code_points) (sym read.1) (few_within c.args.limits c.args.bytes.now read.0);
      means = subst (λ (lines : List Line). AreMeaning (maps_of (map said lines)) (meaning c.in_ok-tables.tables)) c.deref.ensures.value c.in_ok-tables.ensures.means;
      checked = c.in_ok-tables.ensures.accepted;
      canonical = c.in_ok-canonical.ensures;
    }
