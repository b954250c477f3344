use Rattle.std.proofs.Common.{map, take}
use Rattle.collate_lines.specs.Record.{layer_of, said}
use Rattle.collate_rules.specs.RecordedTexts.{HasTexts}
use Rattle.collate_rules.proofs.texts.Texts.of_layer.Given as goal

abbrev pub invariant-loop-line : goal.invariant-loop-line
invariant-loop-line l = HasTexts (layer_of l.layer) l.texts (map said (take l.line-index l.lines))
