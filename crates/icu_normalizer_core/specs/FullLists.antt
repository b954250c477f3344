-- The characters of a full list, where they stand.
use Rattle.std.specs.Prelude.{ℕ, ◌-◌, ◌≤◌, List, length}
use Rattle.std.specs.List.{All}
use Rattle.std.specs.Char.{IsScalar}
use Rattle.icu_normalizer_core.specs.declared.canonical.canonical_words.Words.{Words}
use Rattle.icu_normalizer_core.specs.declared.canonical.full_list.Source.{Source}
use Rattle.icu_normalizer_core.specs.declared.canonical.full_list.Source.TheVariants.{Few, In16, In24}
use Rattle.icu_normalizer_core.specs.CanonicalWords.{items_at}

-- the characters among which the list stands
abbrev pub source_items : Words → Source → List ℕ
source_items words (Few characters) = characters
source_items words In16 = words.scalars16.now
source_items words In24 = words.scalars24.now

-- the list goes from one index to before another, and each character is a scalar value
pub record IsPart (items : List ℕ) (next end : ℕ) : Type 0 where
  pub order : next ≤ end
  pub inside : end ≤ length items
  pub scalars : All IsScalar (items_at items next (end - next))
