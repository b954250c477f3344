-- Why data can't be had, as it is printed.
use Rattle.std.specs.Prelude.{ℕ, true, List, ◌++◌, codes}
use Rattle.std.specs.Fmt.{digits}
use Rattle.icu_normalizer_core.specs.declared.canonical.tables.CanonicalFault.{CanonicalFault}
use Rattle.icu_normalizer_core.specs.declared.canonical.tables.CanonicalFault.TheVariants.{BadValue, BadList, Loop, BuiltIn, BadPair}
use Rattle.icu_normalizer_core.specs.declared.provider.error.TableName.{TableName}
use Rattle.icu_normalizer_core.specs.declared.provider.error.TableName.TheVariants.{Nfd, NfdTables, Nfkd, NfkdTables, Pairs, Uts46, Root, Jamo, SpecialPrimaries, Tailoring, Diacritics, Metadata, Reordering}
use Rattle.icu_normalizer_core.specs.declared.provider.error.DataError.{DataError}
use Rattle.icu_normalizer_core.specs.declared.provider.error.DataError.TheVariants.{Missing, Invalid, Canonical, Memory}

abbrev pub table_text : TableName → List ℕ
table_text Nfd = codes "nfd"
table_text NfdTables = codes "nfd_tables"
table_text Nfkd = codes "nfkd"
table_text NfkdTables = codes "nfkd_tables"
table_text Pairs = codes "pairs"
table_text Uts46 = codes "uts46"
table_text Root = codes "root"
table_text Jamo = codes "jamo"
table_text SpecialPrimaries = codes "special_primaries"
table_text Tailoring = codes "tailoring"
table_text Diacritics = codes "diacritics"
table_text Metadata = codes "metadata"
table_text Reordering = codes "reordering"

-- the kind of a fault, and its character's code in hexadecimal digits
abbrev pub fault_text : CanonicalFault → List ℕ
fault_text (BadValue c) = codes "bad value at " ++ digits 16 true c
fault_text (BadList c) = codes "bad list at " ++ digits 16 true c
fault_text (Loop c) = codes "loop at " ++ digits 16 true c
fault_text (BuiltIn c) = codes "bad built-in at " ++ digits 16 true c
fault_text (BadPair c) = codes "bad pair at " ++ digits 16 true c

abbrev pub data_error_text : DataError → List ℕ
data_error_text (Missing name) = codes "no table " ++ table_text name
data_error_text (Invalid name) = codes "damaged table " ++ table_text name
data_error_text (Canonical fault) = fault_text fault
data_error_text Memory = codes "out of memory"
