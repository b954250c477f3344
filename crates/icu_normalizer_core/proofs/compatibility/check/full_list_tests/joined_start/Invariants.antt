use Rattle.std.proofs.Common.{◌≡◌, ◌++◌, take, flat_map}
use Rattle.icu_normalizer_core.specs.Settled.{left_items}
use Rattle.icu_normalizer_core.specs.Words.{word_lists, full_in}
use Rattle.icu_normalizer_core.proofs.compatibility.check.full_list_tests.joined_start.Given as goal

abbrev pub invariant-loop-c : goal.invariant-loop-c
invariant-loop-c l =
    take 9 (left_items l.left ++ flat_map (full_in (word_lists l.words)) l.c-iterator) ≡ take 9 (flat_map (full_in (word_lists l.words)) l.fn.list)
