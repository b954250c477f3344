-- a reader or a writer that notes whether a call of it failed, and whether all that was written was flushed
use Rattle.std.specs.Prelude.{ℕ, Bool, true, ◌==◌, Result, Ok, Err}
use Rattle.collate_run.specs.declared.watched.Watched.{Watched}

-- the reader or writer itself
abbrev pub watched_inner : {T : Type 0} → Watched T → T
watched_inner watched = watched.inner

-- whether a call of it failed
abbrev pub watched_failed : {T : Type 0} → Watched T → Bool
watched_failed watched = watched.failed

-- whether no byte was written to it since it was flushed, or since it was made
abbrev pub watched_flushed : {T : Type 0} → Watched T → Bool
watched_flushed watched = watched.flushed

-- a write that failed or took no byte
abbrev pub took_none : {E : Type 0} → Result ℕ E → Bool
took_none (Ok n) = n == 0
took_none (Err e) = true
