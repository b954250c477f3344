use Rattle.std.proofs.Common.{◌≡◌, drop, map}
use Rattle.collate_lines.specs.Record.{layer_of}
use Rattle.collate_words.specs.Entries.{said_beside}
use Rattle.collate_compile.specs.BesideLines.{HasTexts, gathered, prefix_in}
use Rattle.collate_compile.specs.NotedLines.{said_by}
use Rattle.collate_compile.proofs.gather.add_prefixes.Given as goal

abbrev pub invariant-loop-line : goal.invariant-loop-line
invariant-loop-line l = record {
  texts : HasTexts l.texts (map said_beside l.prefixes.items);
  gathered : gathered (prefix_in (layer_of l.layer) l.c) (map said_by (drop l.line-index l.own)) (map said_beside l.prefixes.items)
      ≡ gathered (prefix_in (layer_of l.layer) l.c) (map said_by l.own) (map said_beside l.initial.prefixes.items);
}
