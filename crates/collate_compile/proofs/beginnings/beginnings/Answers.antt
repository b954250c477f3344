use Rattle.std.proofs.Common.{List, ℕ, map, subst, sym}
use Rattle.collate_lines.specs.Record.{layer_of, said}
use Rattle.collate_compile.specs.Beginnings.{AreBeginnings, AreFew, is_begun}
use Rattle.collate_compile.proofs.gathering.GatheringBeginningLemmas.{beginnings_begin, beginnings_few, begun_all}
use Rattle.collate_compile.proofs.beginnings.beginnings.Goals as goal

pub returns : goal.returns
returns c =
    let lines = map said c.args.noted.now.lines.now in
    let layer = layer_of c.args.layer in
    let whole = begun_all (is_begun layer lines) c.args.noted.now.lines.now c.loop-line.line-index c.loop-line.characters.items _
    c.loop-line-test.false c.loop-line.invariant.begun in
    record {
      characters = subst (λ (cs : List ℕ). AreBeginnings layer lines cs) (sym whole) (beginnings_begin layer lines);
      few = subst (λ (cs : List ℕ). AreFew lines cs) (sym whole) (beginnings_few layer lines c.requires.accepted);
    }
