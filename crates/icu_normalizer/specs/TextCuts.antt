-- Where a text may be cut so that its form is the text before the cut, and the form of the rest.
use Rattle.std.specs.Prelude.{◌≡◌, ℕ, ◌<◌, ◌≤◌, ◌↔◌, List, [], ◌∷◌, ◌++◌, length}
use Rattle.icu_normalizer.specs.FormCuts.{IsOwnForm}
use Rattle.icu_normalizer.specs.Texts.{Text, AreCharacters, IsUndamaged}

-- these characters come first, undamaged, and then the rest
pub record IsBehind (encode : List ℕ → List ℕ) (text : Text) (prefix : List ℕ) (rest : Text) : Type 0 where
  pub scalars : AreCharacters prefix
  pub units : text.units ≡ encode prefix ++ rest.units
  pub characters : text.characters ≡ prefix ++ rest.characters

module _ (encode : List ℕ → List ℕ) (form : List ℕ → List ℕ) where
  -- the text is undamaged, and its own form
  abbrev pub IsOwnText : Text → Type 0
  IsOwnText text = IsUndamaged encode text × IsOwnForm form text.characters

  -- the form of the text is what was passed over, undamaged, and the form of the rest
  pub record IsPassed (text rest : Text) : Type 0 where
    pub prefix : List ℕ
    pub behind : IsBehind encode text prefix rest
    pub alone : form text.characters ≡ prefix ++ form rest.characters

  module _ (bound : ℕ) where
    -- the prefix holds all that stands before any character below the bound at or before the first index at which the text
    -- and its form differ, or the text is damaged
    abbrev pub ReachesTo : Text → List ℕ → Type 0
    ReachesTo text prefix =
        (agreed more left others : List ℕ) (c : ℕ) → text.units ≡ encode agreed ++ more → text.characters ≡ agreed ++ c ∷ left
        → form text.characters ≡ agreed ++ others → c < bound → length agreed ≤ length prefix

    -- a text is cut: the form of `rest` is what is left of its form after the prefix
    pub record IsTextCut (text rest : Text) : Type 0 where
      pub prefix : List ℕ
      pub behind : IsBehind encode text prefix rest
      pub alone : form text.characters ≡ prefix ++ form rest.characters
      pub far : ReachesTo text prefix
      pub empty : (rest.units ≡ []) ↔ IsOwnText text

    -- the two parts of a text that is cut
    pub record IsTextSplit (text front rest : Text) : Type 0 where
      pub whole : front.units ++ rest.units ≡ text.units
      pub undamaged : IsUndamaged encode front
      pub normal : front.characters ++ form rest.characters ≡ form text.characters
      pub units : front.units ++ encode (form rest.characters) ≡ encode (form text.characters)
      pub far : ReachesTo text front.characters
      pub empty : (rest.units ≡ []) ↔ IsOwnText text
