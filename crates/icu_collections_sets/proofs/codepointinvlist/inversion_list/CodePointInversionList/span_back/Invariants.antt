use Rattle.std.proofs.Common.{◌≡◌, length}
use Rattle.std.specs.Str.Iter.{char_indices_offset, char_indices_rest}
use Rattle.std.specs.Iterator.Adapters.{rev_source}
use Rattle.icu_collections_sets.specs.CodePoints.{holds}
use Rattle.icu_collections_sets.proofs.sets.SpanLemmas.{Behind}
use Rattle.icu_collections_sets.proofs.codepointinvlist.inversion_list.CodePointInversionList.span_back.Given as goal

abbrev pub invariant-loop-index : goal.invariant-loop-index
invariant-loop-index l =
    (char_indices_offset (rev_source l.index-iterator) ≡ 0)
    × (l.start ≡ length (char_indices_rest (rev_source l.index-iterator)))
    × Behind (λ c. holds l.self c ≡ l.held) l.text (char_indices_rest (rev_source l.index-iterator))
