-- When settings that are kept in two ways say the same.
use Rattle.std.specs.Prelude.{◌≡◌, ℕ}
use Rattle.icu_collator_core.specs.Collation.{Collation}

-- settings that reorder each primary alike, and read a text alike
pub record AreSameSettings (a b : Collation) : Type 0 where
  pub reordered : (p : ℕ) → a.reordered p ≡ b.reordered p
  pub backward : a.backward ≡ b.backward
  pub groups : a.groups ≡ b.groups

-- and set the same options, where a caller leaves them open
pub record AreSameWithOptions (a b : Collation) : Type 0 where
  pub settings : AreSameSettings a b
  pub options : a.options ≡ b.options
