-- Bad pairs by their causes: an entry, or a character below U+0300 that is not its own composed list.
use Rattle.std.specs.Prelude.{◌≡◌, ◌≢◌, ℕ, ◌<◌, Bool, not, cond, ◌||◌, ltb, [], ◌∷◌, slice_index, SomeIndex, Option, Some, None, nat_eq}
use Rattle.std.specs.Option.{is_some}
use Rattle.std.specs.Cmp.Lexicographic.{pointwise}
use Rattle.icu_normalizer_core.specs.BuiltIn.{is_within, built_in_step}
use Rattle.icu_normalizer_core.specs.Canonical.{composed}
use Rattle.icu_normalizer_core.specs.CanonicalLists.{CanonicalLists, canonical_of, listed_step, pair_first, pair_second, pair_composed}
use Rattle.icu_normalizer_core.specs.CanonicalFaults.{IsBadPair}

-- a bad entry composes the character
abbrev pub IsBadlyComposed : CanonicalLists → ℕ → Type 0
IsBadlyComposed lists c = SomeIndex lists.pairs (λ i. (pair_composed (slice_index lists.pairs i) ≡ c) × IsBadPair lists (slice_index lists.pairs i))

-- the character is below U+0300 and not its own composed list
abbrev pub IsNotOwn : CanonicalLists → ℕ → Type 0
IsNotOwn lists c = (c < 0x300) × (composed (canonical_of lists) (c ∷ []) ≢ c ∷ [])

-- whether an entry is bad
unfoldable pub is_bad_pair : CanonicalLists → ℕ → Bool
is_bad_pair lists pair =
    let mapped = pointwise nat_eq (listed_step lists.steps (pair_composed pair)) (pair_first pair ∷ pair_second pair ∷ [])
    in is_some (built_in_step (pair_composed pair)) || (not mapped || (ltb (pair_second pair) 0x300 || is_within 0x1161 0x11ff (pair_second pair)))

-- the lower of two characters, of as many as there are
abbrev pub least : Option ℕ → Option ℕ → Option ℕ
least None b = b
least (Some x) None = Some x
least (Some x) (Some y) = cond (ltb y x) (Some y) (Some x)
