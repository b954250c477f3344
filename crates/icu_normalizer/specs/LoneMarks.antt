-- The first cluster of a text, where it is a character and one mark.
use Rattle.std.specs.Prelude.{◌≡◌, ◌≢◌, ℕ, ◌<◌, ◌≤◌, List, [], ◌∷◌, length}
use Rattle.std.specs.List.{AllByRecursion}
use Rattle.icu_normalizer_core.specs.Boundaries.{IsSteady}
use Rattle.icu_normalizer_core.specs.Canonical.{Canonical, composed}
use Rattle.icu_normalizer.specs.declared.composing.lone_mark.LoneMark.{LoneMark}
use Rattle.icu_normalizer.specs.declared.composing.lone_mark.LoneMark.TheVariants.{Joined, Apart, Changed}
use Rattle.icu_normalizer.specs.Composing.{IsComposedApart}
use Rattle.icu_normalizer.specs.Texts.{Text, BeginsWith}

-- a mark of this class that is its own full list
abbrev pub IsMark : Canonical → ℕ → ℕ → Type 0
IsMark canonical c class = (canonical.full c ≡ c ∷ []) × (canonical.class c ≡ class) × (0 < class)

-- a steady character, of no class above this one in its full list
abbrev pub IsSteadyUpTo : Canonical → ℕ → ℕ → Type 0
IsSteadyUpTo canonical c class = IsSteady canonical c × AllByRecursion (λ d. canonical.class d ≤ class) (canonical.full c)

-- the characters that composing makes
abbrev pub lone_form : LoneMark → List ℕ
lone_form (Joined c) = c ∷ []
lone_form (Apart letter mark) = letter ∷ mark ∷ []
lone_form (Changed first second) = first ∷ second ∷ []

-- it leaves both, or begins with another character
abbrev pub IsMade : ℕ → ℕ → LoneMark → Type 0
IsMade letter mark (Joined c) = c ≢ letter
IsMade letter mark (Apart first second) = (first ≡ letter) × (second ≡ mark)
IsMade letter mark (Changed first second) = first ≢ letter

-- a text is a character and a mark, undamaged, and then the rest, apart from which the two are composed
pub record IsLoneMark (encode : List ℕ → List ℕ) (canonical : Canonical) (text : Text) (lone : LoneMark) (rest : Text) : Type 0 where
  pub letter : ℕ
  pub mark : ℕ
  pub behind : Text
  pub first : BeginsWith encode text letter behind
  pub second : BeginsWith encode behind mark rest
  pub some : 0 < length text.units
  pub apart : IsComposedApart canonical rest.characters
  pub composes : composed canonical (letter ∷ mark ∷ []) ≡ lone_form lone
  pub made : IsMade letter mark lone
