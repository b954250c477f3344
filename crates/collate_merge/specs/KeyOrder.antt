-- keys, byte by byte
use Rattle.std.specs.Prelude.{ℕ, List}
use Rattle.std.specs.Cmp.Lexicographic.{slice_cmp}
use Rattle.std.specs.Ordering.{nat_cmp}
use Rattle.std.specs.declared.cmp.Ordering.{Ordering}

-- how two keys compare
abbrev pub byte_order : List ℕ → List ℕ → Ordering
byte_order key other = slice_cmp nat_cmp key other
