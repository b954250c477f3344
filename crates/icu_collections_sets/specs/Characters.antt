-- The characters of a set, in order.
use Rattle.std.specs.Prelude.{◌≡◌, ℕ, ◌%◌, ◌≤◌, Bool, true, nat_le, ◌&&◌, List, ◌∷◌, length, filter}
use Rattle.std.specs.List.{range_with_len}
use lib.Utf8.{scalar}
use Rattle.icu_collections_sets.specs.CodePoints.{Rises, is_in, holds}

-- the code points that pass a test, rising
unfoldable pub passing : (ℕ → Bool) → List ℕ
passing test = filter test (range_with_len 0 0x110000)

-- the characters that the set holds, rising
abbrev pub characters_of : List ℕ → List ℕ
characters_of list = passing (λ c. scalar c && holds list c)

-- the characters from a start up to an end, and those that are in after it
abbrev pub characters_left : ℕ → ℕ → List ℕ → List ℕ
characters_left start end edges = passing (λ c. scalar c && (nat_le start c && is_in true (end ∷ edges) c))

-- a start up to an end, and an inversion list's edges after it
pub record IsLeft (start end : ℕ) (edges : List ℕ) : Type 0 where
  pub starts : start ≤ end
  pub ends : end ≤ 0x110000
  pub rises : Rises end edges
  pub even : length edges % 2 ≡ 0
