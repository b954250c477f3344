use Rattle.std.proofs.Common.{◌+◌, [], map, take}
use Rattle.std.specs.Prelude.{sum_by}
use Rattle.collate_lines.specs.Record.{Layer, said}
use Rattle.collate_compile.specs.Beginnings.{elements_begun, texts_begun}
use Rattle.collate_compile.specs.LayerBuilds.{AreWritten, KeepsOthers}
use Rattle.collate_compile.proofs.layers.write_characters.Given as goal

abbrev pub invariant-loop-character : goal.invariant-loop-character
invariant-loop-character l = record {
  written : (which : Layer) → AreWritten which (map said l.noted.lines.now) [] l.initial.layer
      → AreWritten which (map said l.noted.lines.now) (take l.character-index l.characters) l.layer;
  size : KeepsOthers (sum_by (λ c. 1 + elements_begun (map said l.noted.lines.now) c) (take l.character-index l.characters))
      (sum_by (texts_begun (map said l.noted.lines.now)) (take l.character-index l.characters))
      (take l.character-index l.characters) l.initial.layer l.layer;
}
