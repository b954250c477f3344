use Rattle.std.proofs.Common.{◌+◌, ◌-◌, ◌*◌, ◌<◌, ◌≤◌, List, drop, length, map, subst, sym, arith, cond}
use Rattle.std.specs.Prelude.{count_by}
use Rattle.collate_lines.specs.Record.{Record, said}
use Rattle.collate_rules.specs.Rules.{is_range}
use Rattle.collate_compile.specs.LayerBuilds.{AreRangesWritten, GrowsBy}
use Rattle.collate_compile.proofs.building.BuildingGrowthLemmas.{grown_more, grown_none, room_left}
use Rattle.collate_compile.proofs.building.LineLemmas.{from_line, lines_all, lines_none, ranges_few, ranges_from}
use Rattle.collate_compile.proofs.layers.write_ranges.Goals as goal

pub loop-i-init : goal.loop-i-init
loop-i-init c =
    let layer = c.args.layer.now in
    let none = lines_none c.args.noted.now.lines.now in
    record {
      written = subst (λ (ls : List Record). AreRangesWritten (map said c.args.noted.now.lines.now) ls layer) (sym none)
          c.requires.none;
      size = subst (λ (ls : List Record). GrowsBy (count_by is_range ls) (3 * count_by is_range ls) layer layer)
          (sym none) (grown_none layer);
    }

pub write_range-requires : goal.write_range-requires
write_range-requires c =
    let lines = c.args.noted.now.lines.now in
    let i = c.loop-i.i in
    let x = c.index-lines-lines.result in
    let within : i < length lines = omega arith in
    room_left (count_by is_range (map said lines)) 0 (count_by is_range (drop (length lines - i) (map said lines))) 0
    (cond (is_range (said x)) 1 0) 0 c.args.layer.now.pools c.loop-i.layer.pools
    c.requires.room c.loop-i.invariant.size.pools
    (omega (
      arith,
      ranges_from lines i x within c.index-lines-lines.is,
      ranges_few (map said lines)
          (length lines - (i + 1)),
    )) (omega arith)

pub loop-i-preserved : goal.loop-i-preserved
loop-i-preserved c =
    let lines = c.args.noted.now.lines.now in
    let i = c.loop-i.i in
    let x = c.index-lines-lines.result in
    let within : i < length lines = omega arith in
    let more = ranges_from lines i x within c.index-lines-lines.is in
    record {
      written = subst (λ (ls : List Record). AreRangesWritten (map said lines) ls c.write_range.new.layer)
          (sym (from_line lines i x within c.index-lines-lines.is))
          (c.in_ok-write_range.ensures.written (drop (length lines - i) (map said lines)) c.loop-i.invariant.written);
      size = grown_more _ _ _ _ _ _ c.args.layer.now c.loop-i.layer c.write_range.new.layer c.loop-i.invariant.size
          c.in_ok-write_range.ensures.size (sym more) (omega (arith, more));
    }

pub returns-clause-written : goal.returns-clause-written
returns-clause-written c =
    let lines = c.args.noted.now.lines.now in
    let past : length lines ≤ c.loop-i.i = omega arith in
    subst (λ (ls : List Record). AreRangesWritten (map said lines) ls c.loop-i.layer)
    (lines_all lines c.loop-i.i past) c.loop-i.invariant.written

pub returns-clause-size : goal.returns-clause-size
returns-clause-size c =
    let lines = c.args.noted.now.lines.now in
    let past : length lines ≤ c.loop-i.i = omega arith in
    subst (λ (ls : List Record). GrowsBy (count_by is_range ls) (3 * count_by is_range ls) c.args.layer.now
    c.loop-i.layer) (lines_all lines c.loop-i.i past) c.loop-i.invariant.size
