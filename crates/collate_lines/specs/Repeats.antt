-- Lines that say something for one thing a second time. Lines count from 0 here.
use Rattle.std.specs.Prelude.{ℕ, Bool, true, false, ◌==◌, ◌&&◌, List, take, IsTrue, slice_get, bytes_eq, codes}
use Rattle.std.specs.Option.{unwrap_or}
use Rattle.std.specs.List.{list_any}
use Rattle.collate_lines.specs.Record.{Record, nothing, class, mapping, compatibility, weights, digit, setting, Setting, alternate, backward, case_first, max_variable, dot_above, numeric, groups, compress, reorder, is_same_layer}

-- what line i says
abbrev pub record_at : List Record → ℕ → Record
record_at records i = unwrap_or (slice_get records i) nothing

-- whether a line says something
abbrev pub says_something : Record → Bool
says_something nothing = false
says_something _ = true

-- the name of a setting
abbrev pub setting_name : Setting → List ℕ
setting_name (alternate a) = codes "alternate"
setting_name (backward b) = codes "backward"
setting_name (case_first c) = codes "casefirst"
setting_name (max_variable m) = codes "maxvariable"
setting_name (dot_above b) = codes "dotabove"
setting_name (numeric lead) = codes "numeric"
setting_name (groups ends) = codes "groups"
setting_name (compress leads) = codes "compress"
setting_name (reorder pairs) = codes "reorder"

-- Two lines for one thing: the class, a mapping of one kind or the digit of one character, the weights of one prefix and text
-- in one layer, one setting.
abbrev pub is_second : Record → Record → Bool
is_second (class c k) (class d l) = c == d
is_second (mapping c cs x) (mapping d ds y) = c == d
is_second (compatibility c cs) (compatibility d ds) = c == d
is_second (weights layer prefix text es) (weights other before key fs) =
    is_same_layer layer other && bytes_eq prefix before && bytes_eq text key
is_second (digit c m) (digit d n) = c == d
is_second (setting s) (setting r) = bytes_eq (setting_name s) (setting_name r)
is_second _ _ = false

-- V14: an earlier line is for the same thing
abbrev pub Repeats : List Record → ℕ → Type 0
Repeats records i = IsTrue (list_any (λ s. is_second s (record_at records i)) (take i records))
