-- What the data of a normal form say of characters.
use Rattle.std.specs.Prelude.{ℕ}
use Rattle.icu_normalizer_core.specs.BorrowedCompatibility.{borrowed_compatibility, canonical_beneath}
use Rattle.icu_normalizer_core.specs.BorrowedMeaning.{borrowed_meaning}
use Rattle.icu_normalizer_core.specs.Canonical.{Canonical}
use Rattle.icu_normalizer_core.specs.declared.decomposition.form_data.FormData.{FormData}
use Rattle.icu_normalizer_core.specs.declared.decomposition.form_data.FormData.TheVariants.{Canonical as OfCanonical, Compatibility as OfBoth}

-- what they say; the decomposed and the composed lists by it are the normal forms
abbrev pub form_meaning : FormData → Canonical
form_meaning (OfCanonical canonical) = borrowed_meaning canonical
form_meaning (OfBoth both) = borrowed_compatibility both

-- what the canonical data beneath say
abbrev pub form_canonical : FormData → Canonical
form_canonical (OfCanonical canonical) = borrowed_meaning canonical
form_canonical (OfBoth both) = canonical_beneath both

-- a bound below which each character stands for itself
abbrev pub low_bound : FormData → ℕ
low_bound (OfCanonical canonical) = 0xc0
low_bound (OfBoth both) = 0xa0
