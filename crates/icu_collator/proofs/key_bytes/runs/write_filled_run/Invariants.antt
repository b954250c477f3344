use Rattle.std.proofs.Common.{◌≡◌, ◌++◌, replicate}
use Rattle.icu_collator.proofs.key_bytes.runs.write_filled_run.Given as goal

abbrev pub invariant-loop : goal.invariant-loop
invariant-loop l = l.key.items ≡ l.initial.key.items ++ replicate l.counter l.bytes.middle
