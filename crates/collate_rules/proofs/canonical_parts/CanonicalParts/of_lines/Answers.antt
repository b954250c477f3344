use Rattle.std.proofs.Common.{map, refl, take}
use Rattle.collate_lines.specs.Record.{said}
use Rattle.collate_rules.specs.CanonicalParts.{IsShort}
use Rattle.collate_rules.proofs.lookups.RuleLookupLemmas.{All-map_at}
use Rattle.collate_rules.proofs.mappings.PartsOfLinesLemmas.{AreOf-none, AreOf-to}
use Rattle.collate_rules.proofs.canonical_parts.CanonicalParts.of_lines.Goals as goal

pub with_line-requires : goal.with_line-requires
with_line-requires c =
    All-map_at IsShort said c.args.lines.now c.args.lines.now c.loop-line.line-index c.line-item.result refl c.loop-line-test.true c.line-item.is c.requires

pub loop-line-init : goal.loop-line-init
loop-line-init c = AreOf-none c.new-parts.result.list.items c.new-parts.ensures

pub loop-line-preserved : goal.loop-line-preserved
loop-line-preserved c =
    AreOf-to c.in_ok-more.more.list.items c.args.lines.now c.loop-line.line-index c.line-item.result c.loop-line-test.true c.line-item.is
    (c.in_ok-more.ensures (map said (take c.loop-line.line-index c.args.lines.now)) c.loop-line.invariant)
