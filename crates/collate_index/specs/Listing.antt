-- the names that a walk over an index has still to give
use Rattle.std.specs.Prelude.{ℕ, List, drop}
use Rattle.collate_index.specs.Catalogue.{sorted_names}
use Rattle.collate_index.specs.declared.names.Names.TheInside.{Inside}

abbrev pub names_left : Inside → List (List ℕ)
names_left s = drop s.next (sorted_names s.index.now)
