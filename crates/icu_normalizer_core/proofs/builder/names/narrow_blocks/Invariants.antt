use Rattle.std.proofs.Common.{◌≡◌, map, take}
use Rattle.icu_normalizer_core.specs.Named.{narrow_block}
use Rattle.icu_normalizer_core.proofs.builder.names.narrow_blocks.Given as goal

abbrev pub invariant-loop-c : goal.invariant-loop-c
invariant-loop-c l = l.numbers.items ≡ map narrow_block (take l.c-index l.characters)
