use Rattle.std.proofs.Common.{map, List, ap, ◌∙◌, sym}
use Rattle.std.specs.List.{list_any}
use Rattle.collate_lines.specs.declared.record.Record.{Record as Line}
use Rattle.collate_lines.specs.Record.{said}
use Rattle.collate_lines.specs.Repeats.{is_second}
use Rattle.collate_records.proofs.reader.Reading.new.Goals as goal

pub returns : goal.returns
returns c = λ file. record {
  records = ap (map said) c.new.ensures.items;
  numbers = c.new-2.ensures.items;
  seen = λ other. c.new-3.ensures other ∙ sym (ap (λ (lines : List Line). list_any (λ s. is_second s other) (map said lines)) c.new.ensures.items);
}
