use Rattle.std.proofs.Common.{sym, ap, ◌∙◌}
use Rattle.std.specs.Option.{is_some}
use Rattle.icu_normalizer_core.specs.Properties.{mapped_to}
use Rattle.collate_rules.proofs.mappings.CanonicalPartLemmas.{is_some-map}
use Rattle.collate_rules.proofs.canonical_parts.CanonicalParts.is_mapped_canonically.Goals as goal

pub returns : goal.returns
returns c = c.is_some.ensures ∙ sym (is_some-map mapped_to c.said_mapping.result) ∙ ap is_some c.said_mapping.ensures
