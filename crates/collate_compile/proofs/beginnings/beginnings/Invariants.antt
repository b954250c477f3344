use Rattle.std.proofs.Common.{◌≡◌, [], drop, map}
use Rattle.collate_lines.specs.Record.{layer_of, said}
use Rattle.collate_compile.specs.Beginnings.{AreAsked, begun_by, is_begun}
use Rattle.collate_compile.proofs.beginnings.beginnings.Given as goal

abbrev pub invariant-loop-line : goal.invariant-loop-line
invariant-loop-line l = record {
  asked : AreAsked (is_begun (layer_of l.layer) (map said l.noted.lines.now)) l.asked l.characters.items;
  begun : begun_by (is_begun (layer_of l.layer) (map said l.noted.lines.now)) (map said (drop l.line-index l.noted.lines.now))
      l.characters.items
      ≡ begun_by (is_begun (layer_of l.layer) (map said l.noted.lines.now)) (map said l.noted.lines.now) [];
}
