use Rattle.icu_collator.specs.Collators.{source_collation}
use Rattle.icu_collator.specs.KeyCodes.{IsWrittenOn}
use Rattle.icu_collator.proofs.key_bytes.primaries.write_changing.Given as goal

abbrev pub invariant-loop-index : goal.invariant-loop-index
invariant-loop-index l =
    IsWrittenOn (source_collation l.checked) l.variable_end l.elements l.fn.before l.from l.fn.key.items l.run l.index l.key.items
