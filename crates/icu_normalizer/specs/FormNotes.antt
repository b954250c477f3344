-- Notes of characters, each at the index that is its code.
use Rattle.std.specs.Prelude.{◌≡◌, ℕ, ◌<◌, ◌≤◌, not, ltb, true, None, List, [], ◌∷◌, length, take, get_or}
use Rattle.std.specs.List.{list_all}
use Rattle.icu_normalizer_core.specs.Canonical.{Canonical, composed}
use Rattle.icu_normalizer.specs.declared.form_notes.FormNote.{FormNote}
use Rattle.icu_normalizer.specs.Marks.{stands_to}

-- the full list that is noted
abbrev pub noted_list : FormNote → List ℕ
noted_list note = take note.len (note.first ∷ note.second ∷ note.third ∷ [])

-- a note is that of a full list: it is in order after what it says, and its last character has the class that it says
pub record IsListed (canonical : Canonical) (list : List ℕ) (note : FormNote) : Type 0 where
  pub within : note.len ≤ 3
  pub list_is : 0 < note.len → list ≡ noted_list note
  pub highest : 0 < note.len → list_all (λ d. not (ltb note.class (canonical.class d))) list ≡ true
  pub stands : 0 < note.len → (before : ℕ) → before ≤ note.order → stands_to canonical.class before note.class (noted_list note) ≡ true

-- composing leaves the character alone
pub record IsSteadyNote (canonical : Canonical) (c : ℕ) (note : FormNote) : Type 0 where
  pub some : 0 < note.len
  pub starter : canonical.class note.first ≡ 0
  pub apart : (a : ℕ) → canonical.pair a note.first ≡ None
  pub own : composed canonical (c ∷ []) ≡ c ∷ []

-- what is noted of a character is so
pub record IsLow (canonical : Canonical) (c : ℕ) (note : FormNote) : Type 0 where
  pub listed : IsListed canonical (canonical.full c) note
  pub alone : note.len ≡ 1 → (canonical.full c ≡ c ∷ []) × (canonical.class c ≡ note.class)
  pub steady : note.steady ≡ true → IsSteadyNote canonical c note

-- notes, each at the index that is its character's code
abbrev pub AreLow : Canonical → List FormNote → Type 0
AreLow canonical notes = (c : ℕ) (other : FormNote) → c < length notes → IsLow canonical c (get_or notes c other)
