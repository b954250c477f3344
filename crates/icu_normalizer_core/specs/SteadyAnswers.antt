-- Lists that answer yes or no for each code point from 0 on; past the end they don't answer yes.
use Rattle.std.specs.Prelude.{◌≡◌, ◌≢◌, ℕ, ◌<◌, ◌≤◌, Bool, true, List, length, slice_index, slice_get, Some, None}
use Rattle.std.specs.Char.{IsScalar}
use Rattle.icu_normalizer_core.specs.Boundaries.{IsSteady}
use Rattle.icu_normalizer_core.specs.Canonical.{Canonical}
use Rattle.icu_normalizer_core.specs.CanonicalLists.{pair_second}

abbrev pub SaysYes : List Bool → ℕ → Type 0
SaysYes answers c = slice_get answers c ≡ Some true

-- yes only for steady characters
abbrev pub AreSteady : Canonical → List Bool → Type 0
AreSteady canonical answers = (c : ℕ) → IsScalar c → SaysYes answers c → IsSteady canonical c

-- yes for no pair's second
abbrev pub AreNoSeconds : Canonical → List Bool → Type 0
AreNoSeconds canonical answers = (c a : ℕ) → SaysYes answers c → canonical.pair a c ≡ None

-- yes for no entry's second
abbrev pub AreUnlisted : List ℕ → List Bool → Type 0
AreUnlisted pairs answers = (c i : ℕ) → SaysYes answers c → i < length pairs → pair_second (slice_index pairs i) ≢ c

-- yes for no vowel or trailing consonant of the jamo
abbrev pub AreNoLetters : List Bool → Type 0
AreNoLetters answers = (c : ℕ) → SaysYes answers c → 0x1161 ≤ c → 0x1200 ≤ c

-- yes only where the other list says yes
abbrev pub AreAmong : List Bool → List Bool → Type 0
AreAmong others answers = (c : ℕ) → SaysYes answers c → SaysYes others c
