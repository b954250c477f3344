-- Sets of code points and strings that are equal feed a hasher alike.
use Rattle.std.specs.Prelude.{◌&&◌, ◌++◌, nat_eq}
use Rattle.std.specs.Hash.{u32, str, slice, Alike, same_Alike, on_Alike, items_Alike, and-Alike}
use Rattle.std.specs.Cmp.Lexicographic.{pointwise}
use Rattle.std.proofs.lemmas.Bool.Decides.{Decides-eqb}
use Rattle.std.proofs.lemmas.Slice.Eq.{bytes_eq-Decides}
use Rattle.icu_collections_sets.specs.StringList.{CodePointsAndStrings}

pub fed_alike : Alike (λ (a b : CodePointsAndStrings). pointwise nat_eq a.code_points b.code_points && pointwise (pointwise nat_eq) a.strings b.strings) (λ set. slice u32 set.code_points ++ slice str set.strings)
fed_alike = and-Alike (on_Alike (λ (set : CodePointsAndStrings). set.code_points) (items_Alike (same_Alike u32 (λ x y. Decides-eqb x y)))) (on_Alike (λ (set : CodePointsAndStrings). set.strings) (items_Alike (same_Alike str bytes_eq-Decides)))
