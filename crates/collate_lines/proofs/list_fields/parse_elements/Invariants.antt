use Rattle.std.proofs.Common.{◌≡◌, ◌++◌, drop, option_map}
use Rattle.collate_lines.specs.Grammar.{element, listed}
use Rattle.collate_lines.proofs.reading.FormLemmas.{bytes_of}
use Rattle.collate_lines.proofs.list_fields.parse_elements.Given as goal

-- What the fields that are left list joins the list so far.
abbrev pub invariant-loop-field : goal.invariant-loop-field
invariant-loop-field l =
    listed element (bytes_of l.fields) ≡ option_map (λ rest. l.list.items ++ rest) (listed element (bytes_of (drop l.field-index l.fields)))
