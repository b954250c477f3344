use Rattle.std.proofs.Common.{◌≡◌, drop}
use Rattle.collate_rules.specs.Meaning.{place_among}
use Rattle.collate_compile.proofs.set_lines.place_among.Given as goal

abbrev pub invariant-loop-pair : goal.invariant-loop-pair
invariant-loop-pair l = place_among (drop l.pair-index l.pairs) l.lead ≡ place_among l.pairs l.lead
