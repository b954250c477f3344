use Rattle.std.proofs.Common.{◌∙◌}
use Rattle.collate_rules.proofs.canonical_parts.CanonicalParts.said_pair.Goals as goal

pub returns : goal.returns
returns c = c.copied.ensures ∙ c.get.ensures.value ∙ c.args.self.now.has_pairs c.args.first c.args.second
