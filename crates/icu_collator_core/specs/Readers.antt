-- What a text that is being read has still to give.
use Rattle.std.specs.Prelude.{◌≡◌, ℕ, List, ◌++◌, drop, Option}
use Rattle.std.specs.Option.{is_some}
use Rattle.smallvec.specs.SmallVec.{small_vec_len}
use Rattle.icu_collator_types.specs.declared.elements.Element.{Element}
use Rattle.icu_collator_core.specs.declared.elements.reader.Reader.{Reader}
use Rattle.icu_collator_core.specs.Acceptance.{CollationSource}
use Rattle.icu_collator_core.specs.ElementLists.{unpacked}
use Rattle.icu_collator_core.specs.ReadSources.{canonical_by, weights_by}
use Rattle.icu_collator_core.specs.ReadSteps.{elements_from}

-- the tables that it is read by
abbrev pub source_of : Reader → CollationSource
source_of reader = reader.checked.now

-- the lead byte of numbers, where digits count
abbrev pub numeric_of : Reader → Option ℕ
numeric_of reader = reader.numeric

-- the elements that are left: those that are ready and not given, and those of the characters that weren't read
abbrev pub elements_left : Reader → List Element
elements_left reader =
    drop reader.given (unpacked reader.ready.items)
    ++ elements_from (canonical_by reader.checked.now) (weights_by reader.numeric reader.checked.now) (is_some reader.numeric) reader.list.items reader.index

-- the whole list is read, and each element that was ready is given
pub record HasEnded (reader : Reader) : Type 0 where
  pub given : reader.given ≡ small_vec_len reader.ready
  pub read : reader.index ≡ small_vec_len reader.list

-- another text was read on by the same tables
pub record ReadsOn (old new : Reader) : Type 0 where
  pub source : source_of new ≡ source_of old
  pub numeric : numeric_of new ≡ numeric_of old
