use Rattle.std.proofs.Common.{◌≡◌}
use Rattle.std.specs.Str.Iter.{char_indices_offset, char_indices_rest}
use Rattle.icu_collections_sets.specs.CodePoints.{holds}
use Rattle.icu_collections_sets.proofs.sets.SpanLemmas.{UpTo}
use Rattle.icu_collections_sets.proofs.codepointinvlist.inversion_list.CodePointInversionList.span.Given as goal

abbrev pub invariant-loop-index : goal.invariant-loop-index
invariant-loop-index l = UpTo (λ c. holds l.self c ≡ l.held) l.text (char_indices_rest l.index-iterator) (char_indices_offset l.index-iterator)
