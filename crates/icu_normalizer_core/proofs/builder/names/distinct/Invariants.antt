use Rattle.std.proofs.Common.{◌≤◌, All, length, take}
use Rattle.std.specs.Char.{IsScalar}
use Rattle.icu_normalizer_core.specs.Named.{AreDistinctOf, HasThese}
use Rattle.icu_normalizer_core.proofs.builder.names.distinct.Given as goal

abbrev pub invariant-loop-c : goal.invariant-loop-c
invariant-loop-c l = AreDistinctOf (take l.c-index l.all) l.list.items × (length l.list.items ≤ l.limit) × All IsScalar l.list.items × HasThese l.seen l.list.items
