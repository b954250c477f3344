-- Lists of tables that grow at their ends.
use Rattle.std.specs.Prelude.{◌≡◌, ℕ, ◌+◌, ◌*◌, ◌≤◌, List, ◌++◌, length}
use Rattle.icu_collator_core.specs.Pools.{Pools}

-- a list goes on as another
abbrev pub IsFrontOf : List ℕ → List ℕ → Type 0
IsFrontOf list longer = (more : List ℕ) × (longer ≡ list ++ more)

pub record Grows (pools larger : Pools) : Type 0 where
  pub ces : IsFrontOf pools.ces larger.ces
  pub ce32s : IsFrontOf pools.ce32s larger.ce32s
  pub contexts : IsFrontOf pools.contexts larger.contexts

-- by no more than so many elements take, and 145 units of contexts for each of so many texts beside characters
pub record GrowsFor (elements texts : ℕ) (pools larger : Pools) : Type 0 where
  pub ces : length larger.ces ≤ length pools.ces + elements
  pub ce32s : length larger.ce32s ≤ length pools.ce32s + elements
  pub contexts : length larger.contexts ≤ length pools.contexts + 145 * texts
