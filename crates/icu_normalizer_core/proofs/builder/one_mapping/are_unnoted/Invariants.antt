use Rattle.std.proofs.Common.{◌≡◌, ℕ, ◌<◌, false, None, slice_index_or}
use Rattle.std.specs.BTreeMap.{get}
use Rattle.std.specs.Ordering.{nat_cmp}
use Rattle.icu_normalizer_core.specs.declared.builder.given.GivenCompatibility.{GivenCompatibility}
use Rattle.icu_normalizer_core.specs.BuiltIn.{is_built_in}
use Rattle.icu_normalizer_core.proofs.builder.one_mapping.are_unnoted.Given as goal

abbrev pub invariant-loop-one : goal.invariant-loop-one
invariant-loop-one l =
    (k : ℕ) (d : GivenCompatibility) → k < l.one-index → is_built_in (slice_index_or l.given k d).character ≡ false
    → get nat_cmp l.firsts (slice_index_or l.given k d).character ≡ None
