use Rattle.std.proofs.Common.{◌≡◌, ℕ, ◌<◌, slice_index_or}
use Rattle.std.specs.Prelude.{option_copied}
use Rattle.std.specs.BTreeMap.{get}
use Rattle.std.specs.Ordering.{nat_cmp}
use Rattle.icu_normalizer_core.specs.declared.builder.given.GivenCompatibility.{GivenCompatibility}
use Rattle.icu_normalizer_core.specs.FirstMappings.{mapping_of}
use Rattle.icu_normalizer_core.proofs.builder.one_mapping.are_alike.Given as goal

abbrev pub invariant-loop-one : goal.invariant-loop-one
invariant-loop-one l =
    (k : ℕ) (d : GivenCompatibility) → k < l.one-index
    → mapping_of (option_copied (get nat_cmp l.firsts (slice_index_or l.given k d).character)) ≡ (slice_index_or l.given k d).mapping.items
