use Rattle.std.proofs.Common.{◌≡◌, ◌≤◌, ◌++◌, drop}
use Rattle.icu_collator.specs.KeyBytes.{behind_run, with_runs}
use Rattle.icu_collator.specs.KeyCodes.{code_of}
use Rattle.icu_collator.proofs.key_bytes.runs.write_wide_runs.Given as goal

abbrev pub invariant-loop-rank : goal.invariant-loop-rank
invariant-loop-rank l = record {
  count : l.pending ≤ l.rank-index;
  level : l.key.items ++ behind_run (code_of l.level) l.pending (drop l.rank-index l.ranks) ≡ l.initial.key.items ++ with_runs (code_of l.level) l.ranks;
}
