use Rattle.std.proofs.Common.{map}
use Rattle.collate_rules.specs.CanonicalParts.{in_full}
use Rattle.collate_rules.specs.Meaning.{any_step}
use Rattle.collate_mapping_rules.proofs.loops.lead_in_loop.Goals as goal

pub returns : goal.returns
returns c = c.is_loop.ensures (any_step (map in_full c.args.parts.now.list.items)) c.args.starts.now c.in_ok-walk.ensures.walked
