use Rattle.std.proofs.Common.{sym, ap, ◌∙◌}
use Rattle.std.specs.Option.{is_some}
use Rattle.collate_rules.specs.CanonicalParts.{step_items}
use Rattle.collate_rules.proofs.mappings.CanonicalPartLemmas.{is_some-map}
use Rattle.collate_rules.proofs.canonical_parts.CanonicalParts.is_mapped_compatibly.Goals as goal

pub returns : goal.returns
returns c = c.is_some.ensures ∙ sym (is_some-map step_items c.said_compatibility.result) ∙ ap is_some c.said_compatibility.ensures
