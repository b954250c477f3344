-- Why a collator can't be made, and how that is printed.
use Rattle.std.specs.Prelude.{ℕ, List, codes}
use Rattle.icu_normalizer_core.specs.DataErrors.{data_error_text}
use Rattle.icu_normalizer_core.specs.declared.provider.error.DataError.{DataError}
use Rattle.icu_normalizer_core.specs.declared.provider.error.DataError.TheVariants.{Missing, Invalid, Canonical, Memory as NoMemory}
use Rattle.icu_collator_core.specs.TableFaults.{fault_text}
use Rattle.icu_collator_core.specs.declared.check.TableFault.{TableFault}
use Rattle.icu_collator_core.specs.declared.check.TableFault.TheVariants.{Trie, Word, Index, Context, Weight, PrefixOfWeight, Diacritics, Jamo, Reordering, SpecialPrimaries, Memory as NoRoom}
use Rattle.icu_collator.specs.declared.comparison.error.CollatorError.{CollatorError}
use Rattle.icu_collator.specs.declared.comparison.error.CollatorError.TheVariants.{Data, Table, Memory}

-- a refused load, or refused canonical tables; every refused memory is one error
abbrev pub of_data : DataError → CollatorError
of_data (Missing name) = Data (Missing name)
of_data (Invalid name) = Data (Invalid name)
of_data (Canonical fault) = Data (Canonical fault)
of_data NoMemory = Memory

-- refused tables of a collation
abbrev pub of_fault : TableFault → CollatorError
of_fault (Trie c) = Table (Trie c)
of_fault (Word c) = Table (Word c)
of_fault (Index c) = Table (Index c)
of_fault (Context c) = Table (Context c)
of_fault (Weight c) = Table (Weight c)
of_fault PrefixOfWeight = Table PrefixOfWeight
of_fault Diacritics = Table Diacritics
of_fault (Jamo index) = Table (Jamo index)
of_fault Reordering = Table Reordering
of_fault SpecialPrimaries = Table SpecialPrimaries
of_fault NoRoom = Memory

abbrev pub collator_error_text : CollatorError → List ℕ
collator_error_text (Data error) = data_error_text error
collator_error_text (Table fault) = fault_text fault
collator_error_text Memory = codes "out of memory"
