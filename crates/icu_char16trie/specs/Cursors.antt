-- Cursors in a unit trie: what they answer, and where they stand then.
use Rattle.std.specs.Prelude.{◌≡◌, ℕ, ℤ, ◌+◌, ◌-◌, ◌/◌, ◌%◌, ◌↔◌, ◌⊎◌, ltb, if◌then◌else◌, List, [], ◌∷◌, ◌++◌, Option, Some, None}
use Rattle.icu_char16trie.specs.UnitSteps.{start, step}
use Rattle.icu_char16trie.specs.UnitMaps.{at_state, MapsKey, IsWhole, HasValue, IsLast}
use Rattle.icu_char16trie.specs.UnitAnswers.{IsAnswer}
use Rattle.icu_char16trie.specs.declared.Char16Trie.{Char16Trie}
use Rattle.icu_char16trie.specs.declared.Char16TrieIterator.{Char16TrieIterator}
use Rattle.icu_char16trie.specs.declared.CursorPlace.{CursorPlace}
use Rattle.icu_char16trie.specs.declared.node.State.{State}
use Rattle.icu_char16trie.specs.declared.node.State.TheVariants.{Stopped}
use Rattle.icu_char16trie.specs.declared.node.Arrival.{Arrival}
use Rattle.icu_char16trie.specs.declared.TrieResult.{TrieResult}
use Rattle.icu_char16trie.specs.declared.TrieResult.TheVariants.{NoMatch, NoValue, Intermediate, FinalValue}

-- the units of a trie
abbrev pub trie_units : Char16Trie → List ℕ
trie_units trie = trie.units

-- the units that a cursor reads
abbrev pub cursor_units : Char16TrieIterator → List ℕ
cursor_units cursor = cursor.units.now

-- where a cursor stands
abbrev pub cursor_state : Char16TrieIterator → State
cursor_state cursor = cursor.state

-- where a cursor stood
abbrev pub place_state : CursorPlace → State
place_state place = place.state

-- the trie maps the key to the number
abbrev pub IsEntry : Char16Trie → List ℕ → ℤ → Type 0
IsEntry trie key number = MapsKey (trie_units trie) (at_state (start (trie_units trie))) key number

-- the key is mapped to the number from where the cursor stands
abbrev pub IsEntryFrom : Char16TrieIterator → List ℕ → ℤ → Type 0
IsEntryFrom cursor key number = MapsKey (cursor_units cursor) (at_state (cursor_state cursor)) key number

-- the units of the trie keep the grammar
abbrev pub IsWholeTrie : Char16Trie → Type 0
IsWholeTrie trie = IsWhole (trie_units trie) (at_state (start (trie_units trie)))

-- the units keep the grammar from where the cursor stands
abbrev pub IsWholeFrom : Char16TrieIterator → Type 0
IsWholeFrom cursor = IsWhole (cursor_units cursor) (at_state (cursor_state cursor))

-- no further unit matches
abbrev pub IsStopped : Char16TrieIterator → Type 0
IsStopped cursor = cursor_state cursor ≡ Stopped

-- what a cursor answers
abbrev pub answer_of : Option Arrival → TrieResult
answer_of (Some arrived) = arrived.answer
answer_of None = NoMatch

-- where a cursor stands then
abbrev pub state_of : Option Arrival → State
state_of (Some arrived) = arrived.state
state_of None = Stopped

-- the units of a code point
abbrev pub units_of : ℕ → List ℕ
units_of code =
    if ltb code 0x10000 then code ∷ []
    else (0xd800 + (code - 0x10000) / 0x400) ∷ (0xdc00 + code % 0x400) ∷ []

-- where a cursor stands after the units
abbrev pub follow : List ℕ → State → List ℕ → State
follow units state [] = state
follow units state (unit ∷ rest) = follow units (state_of (step units state unit)) rest

-- where one stands that goes on from a place
abbrev pub place_after : List ℕ → CursorPlace → List ℕ → CursorPlace
place_after units place key = record { state = follow units place.state key }

-- what a cursor answers to the last of the units
abbrev pub answer_to : List ℕ → State → List ℕ → TrieResult
answer_to units state [] = NoMatch
answer_to units state (unit ∷ []) = answer_of (step units state unit)
answer_to units state (unit ∷ next ∷ rest) = answer_to units (state_of (step units state unit)) (next ∷ rest)

-- the value of an answer, if it has one
abbrev pub answered : TrieResult → Option ℤ
answered NoMatch = None
answered NoValue = None
answered (Intermediate value) = Some value
answered (FinalValue value) = Some value

-- the value of a key in a unit trie, if it has one there
unfoldable pub value_of_key : List ℕ → List ℕ → Option ℤ
value_of_key units key = answered (answer_to units (start units) key)

-- a cursor was given the units of a key, which is not empty, one after another: the answer to the last of
-- them, and the cursor then. The first three parts fix both, whatever the units of the trie are
pub record Follows (before : Char16TrieIterator) (key : List ℕ) (answer : TrieResult) (after : Char16TrieIterator) : Type 0 where
  -- the units that it reads are the same
  pub units : cursor_units after ≡ cursor_units before
  -- it goes from node to node, and answers `NoMatch` where the units match nothing or break the grammar
  pub found : answer ≡ answer_to (cursor_units before) (cursor_state before) key
  -- it stands where the units led it, stopped where they match nothing or break the grammar
  pub stands : cursor_state after ≡ follow (cursor_units before) (cursor_state before) key
  -- where the units keep the grammar, the answer says whether they are a key and whether longer ones begin with them
  pub says : IsWholeFrom before → IsAnswer (IsEntryFrom before) key answer
  -- a value is answered just where they are a key with it
  pub value : (number : ℤ) → HasValue answer number ↔ IsEntryFrom before key number
  -- longer keys go on from where it stands
  pub longer : (next : ℕ) (rest : List ℕ) (number : ℤ) → IsEntryFrom after (next ∷ rest) number ↔ IsEntryFrom before (key ++ (next ∷ rest)) number
  -- the units keep the grammar from there, unless nothing follows
  pub whole : IsWholeFrom before → IsLast answer ⊎ IsWholeFrom after
  -- some key goes on from there, unless nothing follows
  pub more : IsWholeFrom before → (IsLast answer → ⊥) → (next : ℕ) × (rest : List ℕ) × (number : ℤ) × IsEntryFrom after (next ∷ rest) number
  -- after a last answer nothing follows
  pub last : IsLast answer → (rest : List ℕ) (number : ℤ) → IsEntryFrom after rest number → ⊥
  -- after a last answer it is stopped
  pub stops : IsLast answer → IsStopped after
  -- once stopped it answers `NoMatch`
  pub stopped : IsStopped before → answer ≡ NoMatch
