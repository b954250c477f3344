-- What two texts have in common at their beginnings, and indices at which both may be read from.
use Rattle.std.specs.List.{AllByRecursion}
use Rattle.std.specs.Prelude.{◌≡◌, ℕ, ◌≤◌, ◌⊎◌, List, [], ◌∷◌, ◌++◌, length, Option, None, MatchOption}

-- a text begins with a character, or is empty where there is none
abbrev pub BeginsWith : Option ℕ → List ℕ → Type 0
BeginsWith first text = MatchOption first (text ≡ []) (λ c. (rest : List ℕ) × (text ≡ c ∷ rest))

-- Two texts have a front in common, of so many characters at least, and these are the characters after it. They differ, but
-- where both texts end.
pub record PartAt (a b : List ℕ) (common : ℕ) (left right : Option ℕ) : Type 0 where
  pub front : List ℕ
  pub left_rest : List ℕ
  pub right_rest : List ℕ
  pub left_is : a ≡ front ++ left_rest
  pub right_is : b ≡ front ++ right_rest
  pub left_begins : BeginsWith left left_rest
  pub right_begins : BeginsWith right right_rest
  pub count : common ≤ length front
  pub differ : left ≡ right → left ≡ None

-- Three characters that pass stand in a text, the first of them at this index, all within its first so many characters. What
-- stands between them goes on.
pub record ThreeStandAt (Passes GoesOn : ℕ → Type 0) (text : List ℕ) (common index : ℕ) : Type 0 where
  pub before : List ℕ
  pub first : ℕ
  pub between : List ℕ
  pub second : ℕ
  pub further : List ℕ
  pub third : ℕ
  pub behind : List ℕ
  pub text_is : text ≡ before ++ first ∷ (between ++ second ∷ (further ++ third ∷ behind))
  pub place_is : length before ≡ index
  pub within : length (before ++ first ∷ (between ++ second ∷ (further ++ third ∷ []))) ≤ common
  pub first_passes : Passes first
  pub between_goes_on : AllByRecursion GoesOn between
  pub second_passes : Passes second
  pub further_goes_on : AllByRecursion GoesOn further
  pub third_passes : Passes third

-- the beginning, or an index from which on three characters stand that pass
abbrev pub IsPlaceToBegin : (Passes GoesOn : ℕ → Type 0) → List ℕ → ℕ → ℕ → Type 0
IsPlaceToBegin Passes GoesOn text common index = (index ≡ 0) ⊎ ThreeStandAt Passes GoesOn text common index
