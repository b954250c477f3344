use Rattle.std.proofs.Common.{◌≡◌, ℕ, ◌<◌, Some, slice_index_or}
use Rattle.std.specs.BTreeMap.{get}
use Rattle.std.specs.Ordering.{nat_cmp}
use Rattle.icu_normalizer_core.specs.declared.builder.given.GivenMapping.{GivenMapping}
use Rattle.icu_normalizer_core.proofs.builder.one_mapping.are_noted.Given as goal

abbrev pub invariant-loop-given : goal.invariant-loop-given
invariant-loop-given l = (k : ℕ) (d : GivenMapping) → k < l.given-index → get nat_cmp l.firsts (slice_index_or l.mappings k d).character ≡ Some (slice_index_or l.mappings k d)
