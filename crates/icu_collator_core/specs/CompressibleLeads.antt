-- Lists of all lead bytes, by which it is looked up whether one is compressible.
use Rattle.std.specs.Prelude.{◌≡◌, ℕ, ◌<◌, Bool, false, List, slice_index_or}
use Rattle.icu_collator_core.specs.TableSettings.{is_compressible_in}

-- the index of each lead byte says whether it is compressible
abbrev pub AreCompressibleLeads : List ℕ → List Bool → Type 0
AreCompressibleLeads last_primaries leads = (lead : ℕ) → lead < 256 → slice_index_or leads lead false ≡ is_compressible_in last_primaries lead
