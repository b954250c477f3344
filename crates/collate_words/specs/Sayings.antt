-- What is recorded of the texts that begin with one character, as it is written into tables.
use Rattle.std.specs.Prelude.{ℕ, ◌+◌, Bool, List, length, map, reverse, sum_by, Option, Some, None, option_map}
use Rattle.std.specs.List.{find}
use Rattle.std.specs.Str.{bytes_eq}
use Rattle.icu_collator_types.specs.declared.elements.Element.{Element}

-- what stands beside a character, after it or before it, in reading order, and the elements that the character has there
pub record SaidBeside : Type 0 where
  pub characters : List ℕ
  pub elements : List Element

pub record Saying : Type 0 where
  -- the elements of the character alone
  pub own : Option (List Element)
  -- what moves the primary of a range to the character, in 64 bits, where it has no elements of its own
  pub offset : Option ℕ
  -- its value as a digit
  pub digit : Option ℕ
  pub suffixes : List SaidBeside
  pub prefixes : List SaidBeside
  -- of the suffixes: each begins with a mark, one ends in a mark, one holds a starter
  pub all_begin : Bool
  pub one_ends : Bool
  pub one_holds : Bool

-- the elements of the character with these characters beside it
abbrev pub elements_beside : List SaidBeside → List ℕ → Option (List Element)
elements_beside saids characters = option_map (λ said. said.elements) (find (λ said. bytes_eq said.characters characters) saids)

-- the characters after
abbrev pub texts_beside : List SaidBeside → List (List ℕ)
texts_beside saids = map (λ said. said.characters) saids

-- the characters before, the nearest first
abbrev pub texts_backward : List SaidBeside → List (List ℕ)
texts_backward saids = map (λ said. reverse said.characters) saids

-- how many elements a character has alone, where it has any
abbrev pub own_count : Option (List Element) → ℕ
own_count (Some es) = length es
own_count None = 0

-- the same, and one where it has none: what moves the primary of a range to it is as long
abbrev pub own_room : Option (List Element) → ℕ
own_room (Some es) = length es
own_room None = 1

-- how many elements the character has beside others
abbrev pub element_sum : List SaidBeside → ℕ
element_sum saids = sum_by (λ said. length said.elements) saids

-- how many elements these are, and one for the character itself
abbrev pub element_count : Saying → ℕ
element_count saying = 1 + own_count saying.own + element_sum saying.suffixes + element_sum saying.prefixes

-- how many texts these are beside the character
abbrev pub text_count : Saying → ℕ
text_count saying = length saying.suffixes + length saying.prefixes
