-- What is found of the first cluster of a text.
use Rattle.std.specs.Prelude.{ℕ, ◌<◌, List, length}
use Rattle.icu_normalizer.specs.declared.composing.cuts.Found.{Found}
use Rattle.icu_normalizer.specs.declared.composing.cuts.Found.TheVariants.{Own, Changed}
use Rattle.icu_normalizer.specs.TextCuts.{IsPassed, IsTextCut}
use Rattle.icu_normalizer.specs.Texts.{Text}

-- the cluster is passed over, or the text is cut in it
abbrev pub IsFound : {T : Type 0} → (List ℕ → List ℕ) → (List ℕ → List ℕ) → (T → Text) → Text → Found T → Type 0
IsFound encode form spelled text (Own rest) =
    IsPassed encode form text (spelled rest) × (length (spelled rest).characters < length text.characters)
IsFound encode form spelled text (Changed rest) = IsTextCut encode form 0x300 text (spelled rest)
