use Rattle.std.proofs.Common.{◌≡◌, ◌++◌, take}
use Rattle.icu_normalizer_core.proofs.builder.full_list_words.append.Given as goal

abbrev pub invariant-loop-c : goal.invariant-loop-c
invariant-loop-c l = l.scalars24.items ≡ l.initial.scalars24.items ++ take l.c-index l.list
