use Rattle.std.proofs.Common.{map}
use Rattle.collate_lines.specs.Record.{said}
use Rattle.collate_rules.specs.Meaning.{is_compressible_in}
use Rattle.collate_compile.proofs.setting.LeadBitLemmas.{AreHighest}
use Rattle.collate_compile.proofs.special_primaries.compressible_bits.Given as goal

abbrev pub invariant-loop-i : goal.invariant-loop-i
invariant-loop-i l = AreHighest (is_compressible_in (map said l.lines)) l.part l.i l.bits
