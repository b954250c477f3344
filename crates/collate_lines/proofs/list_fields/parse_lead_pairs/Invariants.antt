use Rattle.std.proofs.Common.{◌≡◌, ◌++◌, length, option_map}
use Rattle.collate_lines.specs.Grammar.{lead_pairs}
use Rattle.collate_lines.proofs.reading.FormLemmas.{bytes_of}
use Rattle.collate_lines.proofs.list_fields.parse_lead_pairs.Given as goal

-- The pairs that the fields which are left list join those so far.
abbrev pub invariant-loop-rest : goal.invariant-loop-rest
invariant-loop-rest l =
    lead_pairs (bytes_of l.fields) ≡ option_map (λ more. l.pairs.items ++ more) (lead_pairs (bytes_of l.rest))

abbrev pub decreases-loop-rest : goal.decreases-loop-rest
decreases-loop-rest l = length l.rest
