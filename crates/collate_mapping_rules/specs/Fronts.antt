-- How the full lists of characters begin, as a map has it, or as steps that are still ahead will tell.
use Rattle.std.specs.Prelude.{ℕ, ◌+◌, zero, suc, List, flat_map, reverse, sum_by}
use Rattle.std.specs.Option.{ForSome}
use Rattle.std.specs.Ordering.{nat_cmp}
use Rattle.std.specs.BTreeMap.{BTreeMap, get}
use Rattle.collate_rules.specs.declared.full_list.Front.{Front}
use Rattle.collate_rules.specs.Lists.{IsFront}
use Rattle.collate_rules.specs.Meaning.{expanded}
use Rattle.collate_mapping_rules.specs.declared.fronts.Ahead.{Ahead}

-- each front that a map has of a character is that of the character's list
abbrev pub AreFronts : (ℕ → List ℕ) → BTreeMap ℕ Front → Type 0
AreFronts full fronts = (c : ℕ) → ForSome (get nat_cmp fronts c) (λ front. IsFront front (full c))

-- what at most so many steps leave of a character
abbrev pub left_of : (ℕ → List ℕ) → Ahead → List ℕ
left_of step ahead = expanded step ahead.limit ahead.character

-- what is left of the characters of a stack, from its top on
abbrev pub left_ahead : (ℕ → List ℕ) → List Ahead → List ℕ
left_ahead step stack = flat_map (left_of step) (reverse stack)

-- how many characters are looked at where at most so many steps are made of one
unfoldable pub looks : (ℕ → List ℕ) → ℕ → ℕ → ℕ
looks step zero c = 1
looks step (suc n) c = 1 + sum_by (looks step n) (step c)

-- how many are for those of a stack
abbrev pub looks_ahead : (ℕ → List ℕ) → List Ahead → ℕ
looks_ahead step stack = sum_by (λ ahead. looks step ahead.limit ahead.character) stack
