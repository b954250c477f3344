use Rattle.std.proofs.Common.{ℕ, ◌<◌, slice_index_or}
use Rattle.icu_normalizer_core.specs.CompatibilityFaults.{IsOwnItem}
use Rattle.icu_normalizer_core.specs.Words.{word_lists}
use Rattle.icu_normalizer_core.proofs.compatibility.check.full_list_tests.are_own_items.Given as goal

abbrev pub invariant-loop-item : goal.invariant-loop-item
invariant-loop-item l = (i d : ℕ) → i < l.item-index → IsOwnItem (word_lists l.words) (slice_index_or l.items i d)
