-- how an index keeps its names: in a list with their keys, by a collator over the tables of its records
use Rattle.std.specs.Prelude.{All}
use Rattle.collate_rules.specs.Accepted.{AreAccepted}
use Rattle.collate_laws.specs.OverRecords.{IsCollatorOf}
use Rattle.collate_index.specs.Keys.{IsKeyed, catalogue}
use Rattle.collate_index.specs.Catalogue.{Catalogue, meaning_in, preferences_of}
use Rattle.collate_index.specs.declared.index.Index.TheInside.{Inside}

-- what an index is to its callers
abbrev pub catalogue_of : Inside → Catalogue
catalogue_of s = catalogue s.records s.asked s.names

-- the lines of the records keep the rules, the collator is theirs, by what was asked, and the names are stored with their keys
pub record IsKept (s : Inside) : Type 0 where
  pub accepted : AreAccepted s.records.lines
  pub collator : IsCollatorOf s.records.lines s.asked.options (preferences_of s.asked) s.collator
  pub keyed : All (IsKeyed (meaning_in (catalogue_of s))) s.names
