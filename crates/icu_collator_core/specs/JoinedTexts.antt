-- Recorded texts with the marks that join them, and lists in which those were moved out of the way.
use Rattle.std.specs.Prelude.{◌≡◌, ℕ, ◌+◌, ◌<◌, ◌≤◌, ◌==◌, Bool, true, not, ltb, List, [], ◌∷◌, ◌++◌, take, drop, length, slice_index, Option, MatchOption}
use Rattle.std.specs.List.{list_all}
use lib.Utf8.{scalars}
use Rattle.icu_normalizer_core.specs.Canonical.{Canonical}
use Rattle.icu_collator_types.specs.declared.elements.word_tags.Tag.TheVariants.{Contraction}
use Rattle.icu_collator_types.specs.ElementWords.{has_tag}
use Rattle.icu_collator_core.specs.declared.reading.joining.OpenText.{OpenText}
use Rattle.icu_collator_core.specs.declared.reading.joining.TextMatch.{TextMatch}
use Rattle.icu_collator_core.specs.AlikeLists.{AreAlike}
use Rattle.icu_collator_core.specs.Elements.{Joining, Placed, characters_of, joining, placed, text_match}
use Rattle.icu_collator_core.specs.MovedMarks.{KnowNoMarksBefore, moves_marks}
use Rattle.icu_collator_core.specs.Pools.{Pools, elements_of_word, unprefixed_word}
use Rattle.icu_collator_core.specs.ReadTexts.{IsAtText, suffix_units}
use Rattle.icu_collator_core.specs.ReadWords.{AreSaidBy}
use Rattle.icu_collator_core.specs.TableMeaning.{TableWord}
use Rattle.icu_collator_core.specs.Weights.{Weights}

-- a list in which the character at an index was moved in front of those from another index on
abbrev pub brought_forward : List ℕ → ℕ → ℕ → List ℕ
brought_forward list from index =
    take from list ++ slice_index list index ∷ drop from (take index list) ++ drop (index + 1) list

-- whether recorded texts go on after the character of a word
abbrev pub has_suffixes : TableWord → Bool
has_suffixes entry = has_tag Contraction (unprefixed_word entry.pools entry.word)

-- a word says the elements of a recorded text; a character alone has no such word
abbrev pub IsWordOfText : Weights → Pools → ℕ → List ℕ → Option ℕ → Type 0
IsWordOfText weights pools c text word =
    MatchOption word (text ≡ c ∷ []) (λ w. weights.recorded [] text ≡ elements_of_word pools w)

-- a match that was found: its word says the text's elements, and what is left in the list is read as what the match leaves
pub record IsFoundAs (canonical : Canonical) (weights : Weights) (pools : Pools) (c : ℕ) (found : Joining) (result : TextMatch) (list : List ℕ) : Type 0 where
  pub elements : IsWordOfText weights pools c found.text result.word
  pub left : KnowNoMarksBefore canonical.class weights → AreAlike weights found.left (drop result.next (placed list))

-- the text match at an index, for all weights that the word of the character there says
abbrev pub IsTextMatch : Canonical → TableWord → ℕ → List ℕ → TextMatch → List ℕ → Type 0
IsTextMatch canonical entry index old result new =
    (weights : Weights) (c : ℕ) → drop index old ≡ c ∷ drop (index + 1) old → AreSaidBy weights entry c → scalars (drop index old) ≡ true
    → IsFoundAs canonical weights entry.pools c (text_match canonical weights (drop index (placed old))) result new

-- The marks from a start up to an index were read: those that joined were moved in front of those left between, and nothing
-- else in the list is changed.
pub record HaveMoved (class : ℕ → ℕ) (start : ℕ) (old : List ℕ) (index : ℕ) (new : List ℕ) (text : OpenText) : Type 0 where
  pub begins : start ≤ text.next
  pub within : text.next ≤ index
  pub inside : index ≤ length new
  pub same_length : length new ≡ length old
  pub moved : moves_marks class old new ≡ true
  pub kept : scalars old ≡ true → scalars new ≡ true
  pub rest : drop index new ≡ drop index old
  pub marks : list_all (λ b. not (class b == 0)) (drop text.next (take index new)) ≡ true
  pub highest : (k : ℕ) → 0 < k → list_all (λ b. ltb (class b) k) (drop text.next (take index new)) ≡ ltb text.highest k

-- The text joins what follows the index, with the marks left between, as it joined all from the start when it was the first
-- character with what stood after that.
pub record HasJoined (canonical : Canonical) (weights : Weights) (entry : TableWord) (c : ℕ) (suffix : List ℕ) (start : ℕ) (old : List ℕ) (index : ℕ) (new : List ℕ) (text : OpenText) : Type 0 where
  pub joined : List ℕ
  pub between : List Placed
  pub stands : IsAtText (suffix_units entry) joined text.cursor
  pub spelled : scalars joined ≡ true
  pub said : IsWordOfText weights entry.pools c (c ∷ joined) text.word
  pub left : characters_of between ≡ drop text.next (take index new)
  pub same : joining canonical weights (c ∷ joined) between (drop index (placed old)) ≡ joining canonical weights (c ∷ suffix) [] (drop start (placed old))

-- the mark at an index was read
pub record HasReadMark (canonical : Canonical) (entry : TableWord) (index : ℕ) (list : List ℕ) (text : OpenText) (later : List ℕ) (after : OpenText) : Type 0 where
  pub moved : (start : ℕ) (old : List ℕ) → HaveMoved canonical.class start old index list text → HaveMoved canonical.class start old (index + 1) later after
  pub joined : (weights : Weights) (c : ℕ) (suffix : List ℕ) (start : ℕ) (old : List ℕ) → AreSaidBy weights entry c → has_suffixes entry ≡ true
      → scalars (drop start old) ≡ true → HaveMoved canonical.class start old index list text
      → HasJoined canonical weights entry c suffix start old index list text
      → HasJoined canonical weights entry c suffix start old (index + 1) later after
