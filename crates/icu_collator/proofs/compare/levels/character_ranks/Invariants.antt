use Rattle.std.proofs.Common.{◌≡◌, map, take}
use Rattle.icu_collator.specs.Order.{character_rank}
use Rattle.icu_collator.proofs.compare.levels.character_ranks.Given as goal

abbrev pub invariant-loop-c : goal.invariant-loop-c
invariant-loop-c l = l.ranks.items ≡ map character_rank (take l.c-index l.list)
