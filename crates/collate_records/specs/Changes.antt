-- What two files say differently: of a character, and in their settings.
use Rattle.std.specs.Prelude.{◌≡◌, ℕ, Bool, true, false, ◌==◌, replicate, List, [], ◌∷◌}
use Rattle.collate_lines.specs.Record.{Record, weights as weights_line}
use Rattle.collate_rules.specs.Meaning.{backward_in, class_of, digit_in, dot_above_in, first_found, groups_in, is_compressible_in, numeric_in, place_among, range_in, recorded_in, reorder_in, set_to, settings_of, step_of}

-- the range that holds a character, its digit, and the elements of each text that begins with it, after each prefix
pub record IsSaidAlike (old new : List Record) (c : ℕ) : Type 0 where
  pub range : first_found (range_in c) old ≡ first_found (range_in c) new
  pub digit : first_found (digit_in c) old ≡ first_found (digit_in c) new
  pub recorded : (prefix rest : List ℕ) → recorded_in old prefix (c ∷ rest) ≡ recorded_in new prefix (c ∷ rest)

-- both files say the same of a character
pub record IsUnchanged (old new : List Record) (c : ℕ) : Type 0 where
  pub class : class_of old c ≡ class_of new c
  pub mapping : step_of old c ≡ step_of new c
  pub weights : IsSaidAlike old new c

-- they differ in what they say of it
abbrev pub IsChanged : List Record → List Record → ℕ → Type 0
IsChanged old new c = IsUnchanged old new c → ⊥

-- the lead that takes the place of another by what is set
abbrev pub place_of : List Record → ℕ → ℕ
place_of records lead = place_among (set_to reorder_in [] records) lead

-- what is set of the options, and single values: where none is set, the default
pub record AreValuesEqual (a b : List Record) : Type 0 where
  pub options : settings_of a ≡ settings_of b
  pub backward : set_to backward_in false a ≡ set_to backward_in false b
  pub dot_above : set_to dot_above_in false a ≡ set_to dot_above_in false b
  pub numeric : set_to numeric_in 0x10 a ≡ set_to numeric_in 0x10 b
  pub groups : set_to groups_in (replicate 4 0x300) a ≡ set_to groups_in (replicate 4 0x300) b

-- Settings by value: the same leads are compressible, and each lead has the same in its place.
pub record AreSettingsEqual (a b : List Record) : Type 0 where
  pub values : AreValuesEqual a b
  pub compressible : (lead : ℕ) → is_compressible_in a lead ≡ is_compressible_in b lead
  pub reordered : (lead : ℕ) → place_of a lead ≡ place_of b lead

-- whether a text begins with a character
abbrev pub begins_with : ℕ → List ℕ → Bool
begins_with c [] = false
begins_with c (d ∷ rest) = c == d

-- where a line's text begins with a character, both files give it the same elements after the line's prefix
abbrev pub GivesSame : List Record → List Record → ℕ → Record → Type 0
GivesSame a b c (weights_line layer prefix text es) = begins_with c text ≡ true → recorded_in a prefix text ≡ recorded_in b prefix text
GivesSame a b c _ = Unit {0}
