use Rattle.std.proofs.Common.{◌-◌, ◌*◌, drop, length, map}
use Rattle.std.specs.Prelude.{count_by}
use Rattle.collate_lines.specs.Record.{said}
use Rattle.collate_rules.specs.Rules.{is_range}
use Rattle.collate_compile.specs.LayerBuilds.{AreRangesWritten, GrowsBy}
use Rattle.collate_compile.proofs.layers.write_ranges.Given as goal

abbrev pub invariant-loop-i : goal.invariant-loop-i
invariant-loop-i l = record {
  written : AreRangesWritten (map said l.lines) (drop (length l.lines - l.i) (map said l.lines)) l.layer;
  size : GrowsBy (count_by is_range (drop (length l.lines - l.i) (map said l.lines)))
      (3 * count_by is_range (drop (length l.lines - l.i) (map said l.lines))) l.initial.layer l.layer;
}
