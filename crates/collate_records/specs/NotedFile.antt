-- What the lines of a file record, noted by prefix and text.
use Rattle.std.specs.Prelude.{◌≡◌, ℕ, List, Option}
use Rattle.std.specs.Borrow.{Bor}
use Rattle.std.specs.declared.cmp.Ordering.{Ordering}
use Rattle.std.specs.BTreeMap.{BTreeMap, get}
use Rattle.std.specs.Cmp.Lexicographic.{slice_cmp}
use Rattle.std.specs.Option.{option_copied}
use Rattle.std.specs.Ordering.{nat_cmp, ordering_then}
use Rattle.icu_collator_types.specs.declared.elements.Element.{Element}
use Rattle.collate_lines.specs.Record.{Record}
use Rattle.collate_rules.specs.Meaning.{recorded_in}

-- a prefix and a text, as they are pointed to
abbrev pub Key : Type 0
Key = Bor (List ℕ) × Bor (List ℕ)

-- lists that are pointed to from anywhere
abbrev pub pointed : List ℕ → Bor (List ℕ)
pointed list = record { ref_ptr = (0, 0); now = list }

-- how keys are ordered: by their prefixes, then by their texts
abbrev pub key_cmp : Key → Key → Ordering
key_cmp x y = ordering_then (slice_cmp nat_cmp x.0.now y.0.now) (slice_cmp nat_cmp x.1.now y.1.now)

abbrev pub Noted : Type 0
Noted = BTreeMap Key (Bor (List Element))

-- the elements that are noted of a text after a prefix
abbrev pub elements_at : Noted → List ℕ → List ℕ → Option (List Element)
elements_at noted prefix text = option_copied (get key_cmp noted (pointed prefix, pointed text))

-- of each text after each prefix what lines record is noted
abbrev pub HasElements : Noted → List Record → Type 0
HasElements noted lines = (prefix text : List ℕ) → elements_at noted prefix text ≡ recorded_in lines prefix text
