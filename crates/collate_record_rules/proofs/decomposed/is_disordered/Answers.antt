use Rattle.std.proofs.Common.{◌∙◌, drop, map, sym, arith}
use Rattle.std.proofs.lemmas.List.{length-drop}
use Rattle.collate_lines.specs.Record.{said}
use Rattle.collate_rules.specs.Meaning.{class_of}
use Rattle.collate_record_rules.proofs.records.DropLemmas.{disordered_hit, disordered_miss}
use Rattle.collate_record_rules.proofs.records.OrderedLemmas.{disordered_short}
use Rattle.collate_record_rules.proofs.decomposed.is_disordered.Goals as goal

pub returns : goal.returns
returns c =
    disordered_short (class_of (map said c.args.given.now.lines.now)) (drop c.loop-index.index c.args.list.now) (omega (arith, length-drop c.loop-index.index c.args.list.now, c.loop-index-test.false))
    ∙ c.loop-index.invariant.same

pub returns-then-are_disordered : goal.returns-then-are_disordered
returns-then-are_disordered c =
    disordered_hit (class_of (map said c.args.given.now.lines.now)) c.args.list.now c.loop-index.index c.index-list-index.result c.index-list-index-in-loop-index.result
    c.loop-index-test.true c.index-list-index.is c.index-list-index-in-loop-index.is (sym c.are_disordered.ensures ∙ c.if-are_disordered.true) c.loop-index.invariant.same

pub loop-index-preserved : goal.loop-index-preserved
loop-index-preserved c = record {
  within = omega arith;
  same =
      disordered_miss (class_of (map said c.args.given.now.lines.now)) c.args.list.now c.loop-index.index c.index-list-index.result c.index-list-index-in-loop-index.result
      c.loop-index-test.true c.index-list-index.is c.index-list-index-in-loop-index.is (sym c.are_disordered.ensures ∙ c.if-are_disordered.false) c.loop-index.invariant.same;
}
