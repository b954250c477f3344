use Rattle.std.proofs.Common.{map, replicate}
use Rattle.collate_lines.specs.Record.{said}
use Rattle.collate_rules.specs.Meaning.{groups_in, set_to}
use Rattle.collate_compile.proofs.setting.LeadBitLemmas.{AreParts}
use Rattle.collate_compile.proofs.special_primaries.special_primaries.Given as goal

abbrev pub invariant-loop-part : goal.invariant-loop-part
invariant-loop-part l = AreParts (map said l.lines) (set_to groups_in (replicate 4 0x300) (map said l.lines))
    l.values.items l.part
