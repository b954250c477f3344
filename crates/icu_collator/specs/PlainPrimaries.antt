-- Primaries whose bytes follow one another in a key: those with one lead byte, where no run goes on, or the run of that lead.
use Rattle.std.specs.Prelude.{◌≡◌, ◌≢◌, ℕ, ◌-◌, ◌/◌, ◌^◌, ◌<◌, ◌≤◌, ◌==◌, cond, false, List, [], drop, take, None}
use Rattle.icu_collator_core.specs.Acceptance.{CollationSource}
use Rattle.icu_collator_core.specs.TableSettings.{is_compressible_in}
use Rattle.icu_collator_core.specs.WeightRules.{primary_bytes}

-- no primary with this lead byte begins a run, and none is reordered
abbrev pub IsWrittenWhole : CollationSource → ℕ → Type 0
IsWrittenWhole source lead =
    (is_compressible_in source.tables.special_primaries.last_primaries lead ≡ false) × (source.tables.reordering ≡ None)

-- it has this lead byte, and variable primaries end below it
pub record IsPlain (lead end primary : ℕ) : Type 0 where
  pub byte : lead < 256
  pub led : lead ≡ primary / 2 ^ 24
  pub counts : end ≤ primary

-- an element of 64 bits has no primary, or a plain one
abbrev pub GivesPlain : ℕ → ℕ → ℕ → Type 0
GivesPlain lead end bits = bits / 2 ^ 32 ≢ 0 → IsPlain lead end (bits / 2 ^ 32)

-- the bytes of an element's primary after so many that are left out; none where it has no primary
unfoldable pub own_bytes : ℕ → ℕ → List ℕ
own_bytes left_out bits = cond (bits / 2 ^ 32 == 0) [] (drop left_out (primary_bytes (bits / 2 ^ 32)))

-- the elements from an index up to another
abbrev pub between : ℕ → ℕ → List ℕ → List ℕ
between from behind items = take (behind - from) (drop from items)
