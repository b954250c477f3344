use Rattle.std.proofs.Common.{ℕ, ap, arith, cond, map}
use Rattle.collate_lines.specs.Record.{Record, said}
use Rattle.collate_rules.specs.Rules.{is_range}
use Rattle.collate_words.specs.Sayings.{element_count, text_count}
use Rattle.collate_compile.proofs.building.BuildingGrowthLemmas.{room_within}
use Rattle.collate_compile.proofs.building.LayerLemmas.{range_grown, range_written}
use Rattle.collate_compile.proofs.layers.write_range.Goals as goal

pub returns-in-Range-clause-written : goal.returns-in-Range-clause-written
returns-in-Range-clause-written c = λ some written.
    range_written c.words_say_the_same_in_longer_lists.ensures (map said c.args.noted.now.lines.now) some c.args.layer.now
    c.write_range.new.self c.in-Range.range (said c.args.line.now) _ c.offset_bits.result c.write_range.result
    (ap said c.in-Range.is) c.ranged_entry-entry.ensures.says c.offset_bits.ensures c.write_range.ensures.word written

pub write_range-requires-clause-room : goal.write_range-requires-clause-room
write_range-requires-clause-room c =
    let size : Record → ℕ = λ s. cond (is_range s) 1 0 in
    let one = ap size (ap said c.in-Range.is) in
    let elements = ap element_count c.ranged_entry-entry.ensures.says in
    let texts = ap text_count c.ranged_entry-entry.ensures.says in
    room_within (cond (is_range (said c.args.line.now)) 1 0) 0 _ _ c.args.layer.now.pools c.requires
    (omega (arith, one, elements)) (omega (arith, texts))

pub returns-in-Range-clause-size : goal.returns-in-Range-clause-size
returns-in-Range-clause-size c =
    range_grown c.args.layer.now c.write_range.new.self _ c.in-Range.range (said c.args.line.now) _
    c.offset_bits.result c.write_range.result (ap said c.in-Range.is) c.ranged_entry-entry.ensures.says
    c.write_range.ensures.size c.write_range.ensures.blocks c.write_range.ensures.word
