-- Why there are no canonical data.
use Rattle.icu_normalizer_core.specs.declared.canonical.data.CanonicalDataError.{CanonicalDataError}
use Rattle.icu_normalizer_core.specs.declared.canonical.data.CanonicalDataError.TheVariants.{Fault, Memory}
use Rattle.icu_normalizer_core.specs.CanonicalFaults.{IsFirstFault}
use Rattle.icu_normalizer_core.specs.CanonicalLists.{CanonicalLists}

-- tables are refused for their first fault; refused memory can come with any
abbrev pub IsRefusal : CanonicalLists → CanonicalDataError → Type 0
IsRefusal lists (Fault fault) = IsFirstFault lists fault
IsRefusal lists Memory = Unit {0}
