-- Values of a trie as numbers.
use Rattle.std.specs.Prelude.{ℕ, Bool, Option, Some, None, if◌then◌else◌}

-- the number itself where it is a value
abbrev pub fitting : (ℕ → Bool) → ℕ → Option ℕ
fitting is_value code = if is_value code then Some code else None
