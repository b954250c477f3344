-- The test of the elements that a word spells, read one after another.
use Rattle.std.specs.Prelude.{ℕ, Bool, true, false, ◌&&◌, ◌||◌, Option, Some, None}
use Rattle.icu_collator_types.specs.declared.elements.Element.{Element}
use Rattle.icu_collator_core.specs.declared.check_weights.spelled.Spelled.{Spelled}
use Rattle.icu_collator_core.specs.declared.tables.special_primaries.CollationSpecialPrimaries.{CollationSpecialPrimaries}
use Rattle.icu_collator_core.specs.Pools.{element_of, stated_element}
use Rattle.icu_collator_core.specs.WeightFaults.{is_own_element, is_sound_spelled}

abbrev pub nothing_read : Spelled
nothing_read = record { is_empty = true; is_own = false; is_sound = true }

-- one element more was read
abbrev pub with_element : CollationSpecialPrimaries → Option ℕ → Spelled → Element → Spelled
with_element special_primaries own seen e =
    record {
      is_empty = false;
      is_own = seen.is_empty && is_own_element own e;
      is_sound = seen.is_sound && is_sound_spelled special_primaries e;
    }

-- what a word states was read, if it states an element
abbrev pub with_word : CollationSpecialPrimaries → Option ℕ → Spelled → ℕ → Spelled
with_word special_primaries own seen word =
    elim (stated_element word) [ Some e ↦ with_element special_primaries own seen e | None ↦ seen ]

-- an element of 64 bits was read
abbrev pub with_bits : CollationSpecialPrimaries → Option ℕ → Spelled → ℕ → Spelled
with_bits special_primaries own seen bits = with_element special_primaries own seen (element_of bits)

-- the same where there may be nothing to read
abbrev pub if_any : (Spelled → ℕ → Spelled) → Spelled → Option ℕ → Spelled
if_any step seen None = seen
if_any step seen (Some number) = step seen number

abbrev pub passes : Spelled → Bool
passes seen = seen.is_own || seen.is_sound
