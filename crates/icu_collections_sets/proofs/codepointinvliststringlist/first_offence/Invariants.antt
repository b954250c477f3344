use Rattle.std.proofs.Common.{map, string_bytes}
use Rattle.icu_collections_sets.specs.StringList.{AreStringsUpTo}
use Rattle.icu_collections_sets.proofs.codepointinvliststringlist.first_offence.Given as goal

abbrev pub invariant-loop-index : goal.invariant-loop-index
invariant-loop-index l = AreStringsUpTo (map string_bytes l.strings) l.index
