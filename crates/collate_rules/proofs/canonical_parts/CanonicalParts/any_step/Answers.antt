use Rattle.std.proofs.Common.{map, sym, ◌∙◌}
use Rattle.icu_normalizer_core.specs.Properties.{mapped_to}
use Rattle.collate_rules.specs.CanonicalParts.{in_full}
use Rattle.collate_rules.proofs.mappings.CanonicalPartLemmas.{any_step-built_in, any_step-free}
use Rattle.collate_rules.proofs.canonical_parts.CanonicalParts.any_step.Goals as goal

pub returns-in-Some : goal.returns-in-Some
returns-in-Some c = c.of.ensures ∙ sym (any_step-built_in (map in_full c.args.self.now.list.items) c.args.c (mapped_to c.in-Some.step) (sym c.in-Some.ensures))

pub returns-in-None : goal.returns-in-None
returns-in-None c = c.given_step.ensures ∙ sym (any_step-free (map in_full c.args.self.now.list.items) c.args.c (sym c.in-None.ensures))
