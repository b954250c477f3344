-- The number of a value means the value.
use Rattle.std.specs.Prelude.{◌≡◌, ℕ, ◌<◌, Bool, true, nat_lt, Some}
use Rattle.std.proofs.Common.{refl}
use Rattle.std.proofs.lemmas.Bool.{lt-ltb}
use Rattle.icu_codepointtrie.specs.TrieValues.{fitting}

pub fitting-value : (is_value : ℕ → Bool) (value : ℕ) → is_value value ≡ true → fitting is_value value ≡ Some value
fitting-value is_value value h = simp h refl

pub below-limit : (limit value : ℕ) → value < limit → nat_lt value limit ≡ true
below-limit limit value h = lt-ltb value limit h
