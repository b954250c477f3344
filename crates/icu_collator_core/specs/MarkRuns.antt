-- Runs of marks by the classes of the marks, and texts that take marks out of them.
use Rattle.std.specs.Prelude.{◌≡◌, ℕ, ◌<◌, ◌==◌, ◌&&◌, Bool, true, not, ltb, List, [], ◌∷◌, ◌++◌, drop, flat_map, Option}
use Rattle.std.specs.Option.{unwrap_or}
use Rattle.std.specs.List.{list_all}
use lib.Utf8.{scalar, scalars}
use Rattle.icu_normalizer_core.specs.Canonical.{Canonical}
use Rattle.icu_collator_core.specs.declared.reading.mark_runs.ClassMarks.{ClassMarks}
use Rattle.icu_collator_core.specs.declared.reading.mark_runs.MarkedText.{MarkedText}
use Rattle.icu_collator_core.specs.Defaults.{default_elements}
use Rattle.icu_collator_core.specs.ElementLists.{AddsElements}
use Rattle.icu_collator_core.specs.Elements.{Joining, Placed, Reading, characters_of, joining}
use Rattle.icu_collator_core.specs.JoinedTexts.{IsWordOfText, has_suffixes}
use Rattle.icu_collator_core.specs.ReadTexts.{IsAtText, suffix_units}
use Rattle.icu_collator_core.specs.ReadWords.{AreSaidBy}
use Rattle.icu_collator_core.specs.TableMeaning.{TableWord}
use Rattle.icu_collator_core.specs.Weights.{Weights}

-- the marks that are left, class by class
abbrev pub marks_left : List ClassMarks → List ℕ
marks_left classes = flat_map (λ m. m.marks.now) classes

-- characters of this class
abbrev pub are_of_class : (ℕ → ℕ) → ℕ → List ℕ → Bool
are_of_class class k cs = list_all (λ c. scalar c && (class c == k)) cs

-- marks that have the class that is said of them
abbrev pub is_class_of_marks : (ℕ → ℕ) → ClassMarks → Bool
is_class_of_marks class m = not (m.class == 0) && are_of_class class m.class m.marks.now

abbrev pub are_of_classes : (ℕ → ℕ) → List ClassMarks → Bool
are_of_classes class classes = list_all (is_class_of_marks class) classes

-- no mark stands here
abbrev pub ends_run : (ℕ → ℕ) → List Placed → Bool
ends_run class [] = true
ends_run class (p ∷ ps) = class p.character == 0

-- A text that marks joined, with those left between: what stands after joins it as all joined the text that it was.
pub record HasJoinedTo (canonical : Canonical) (weights : Weights) (entry : TableWord) (c : ℕ) (text : MarkedText) (between behind : List Placed) (whole : Joining) : Type 0 where
  pub joined : List ℕ
  pub stands : IsAtText (suffix_units entry) joined text.cursor
  pub spelled : scalars joined ≡ true
  pub said : IsWordOfText weights entry.pools c (c ∷ joined) text.word
  pub highest : (k : ℕ) → 0 < k → list_all (λ b. ltb (canonical.class b.character) k) between ≡ ltb text.highest k
  pub same : joining canonical weights (c ∷ joined) between behind ≡ whole

-- the marks of a class were read: so many joined, the others are left between
abbrev pub HasJoinedClass : TableWord → ℕ → List ℕ → MarkedText → ℕ → MarkedText → Type 0
HasJoinedClass entry class marks text count after =
    (canonical : Canonical) (weights : Weights) (c : ℕ) (between here behind : List Placed) (whole : Joining) → AreSaidBy weights entry c → has_suffixes entry ≡ true
    → are_of_class canonical.class class marks ≡ true → characters_of here ≡ marks
    → HasJoinedTo canonical weights entry c text between (here ++ behind) whole
    → HasJoinedTo canonical weights entry c after (between ++ drop count here) behind whole

-- the same, where what is left of a class is answered
abbrev pub HasMetClass : TableWord → ClassMarks → MarkedText → ClassMarks → MarkedText → Type 0
HasMetClass entry old text new after =
    (canonical : Canonical) (weights : Weights) (c : ℕ) (between here behind : List Placed) (whole : Joining) → AreSaidBy weights entry c → has_suffixes entry ≡ true
    → is_class_of_marks canonical.class old ≡ true → characters_of here ≡ old.marks.now
    → HasJoinedTo canonical weights entry c text between (here ++ behind) whole
    → (left : List Placed) × (characters_of left ≡ new.marks.now) × HasJoinedTo canonical weights entry c after (between ++ left) behind whole

-- the marks that join a character were taken out of a run, and the others are left in it
pub record HasTaken (canonical : Canonical) (weights : Weights) (entry : TableWord) (c : ℕ) (here behind : List Placed) (classes : List ClassMarks) (word : Option ℕ) : Type 0 where
  pub joined : List ℕ
  pub between : List Placed
  pub said : IsWordOfText weights entry.pools c (c ∷ joined) word
  pub left : characters_of between ≡ marks_left classes
  pub same : joining canonical weights (c ∷ []) [] (here ++ behind) ≡ record { text = c ∷ joined; left = between ++ behind }

-- so for all weights that the word of the character says
abbrev pub HasLeft : TableWord → List ClassMarks → List ClassMarks → Option ℕ → Type 0
HasLeft entry old new word =
    (canonical : Canonical) (weights : Weights) (c : ℕ) (here behind : List Placed) → AreSaidBy weights entry c
    → are_of_classes canonical.class old ≡ true → characters_of here ≡ marks_left old → ends_run canonical.class behind ≡ true
    → scalars (characters_of behind) ≡ true
    → HasTaken canonical weights entry c here behind new word

-- the elements of a character with the marks that join it were added, and those were taken out of a run
pub record HasPushed (canonical : Canonical) (weights : Weights) (c : ℕ) (here behind : List Placed) (classes : List ClassMarks) (ready after : List ℕ) : Type 0 where
  pub joined : List ℕ
  pub between : List Placed
  pub left : characters_of between ≡ marks_left classes
  pub same : joining canonical weights (c ∷ []) [] (here ++ behind) ≡ record { text = c ∷ joined; left = between ++ behind }
  pub elements : AddsElements ready (unwrap_or (weights.recorded [] (c ∷ joined)) (default_elements weights c)) after

-- so for all weights that the word of the character says
abbrev pub HavePushed : TableWord → ℕ → List ClassMarks → List ClassMarks → List ℕ → List ℕ → Type 0
HavePushed entry c old new ready after =
    (canonical : Canonical) (weights : Weights) (here behind : List Placed) → AreSaidBy weights entry c
    → are_of_classes canonical.class old ≡ true → characters_of here ≡ marks_left old → ends_run canonical.class behind ≡ true
    → scalars (characters_of behind) ≡ true
    → HasPushed canonical weights c here behind new ready after

-- a reading gave these elements, and left what is left of a run with what stands after it
pub record HasReadFirst (first : Reading) (behind : List Placed) (classes : List ClassMarks) (ready after : List ℕ) : Type 0 where
  pub between : List Placed
  pub elements : AddsElements ready first.elements after
  pub characters : characters_of between ≡ marks_left classes
  pub left : first.left ≡ between ++ behind
