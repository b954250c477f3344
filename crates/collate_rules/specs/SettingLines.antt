-- The rule on settings, `set`, of the lines of a file.
use Rattle.std.specs.Prelude.{ℕ, Bool, true, false, not, ◌==◌, ◌&&◌, ◌||◌, leb, List, [], replicate}
use Rattle.std.specs.List.{list_all, list_any}
use Rattle.icu_collator_core.specs.SettingRules.{are_among, are_distinct, is_amid_numbers, is_exchange, keep_compressible, never_falls}
use Rattle.icu_collator_core.specs.WeightRules.{is_letter_lead}
use Rattle.collate_lines.specs.Record.{Record, setting}
use Rattle.collate_rules.specs.Meaning.{compress_in, groups_in, numeric_in, reorder_in, set_to}

-- ## What lines set

abbrev pub is_setting : Record → Bool
is_setting (setting s) = true
is_setting _ = false

-- the lead of numbers
abbrev pub numeric_of : List Record → ℕ
numeric_of lines = set_to numeric_in 0x10 lines

abbrev pub groups_of : List Record → List ℕ
groups_of lines = set_to groups_in (replicate 4 0x300) lines

-- compressible leads, but for FE
abbrev pub compress_of : List Record → List ℕ
compress_of lines = set_to compress_in [] lines

-- leads, each with the one that takes its place
abbrev pub reorder_of : List Record → List (ℕ × ℕ)
reorder_of lines = set_to reorder_in [] lines

-- ## The rule

-- whether groups fall, or one ends below letters
abbrev pub are_bad_groups : List ℕ → Bool
are_bad_groups groups = not (list_all (leb 0x300) groups && never_falls groups)

-- leads of letters change places with others: each at most once on each side, the same on both
abbrev pub are_exchanged : List ℕ → List ℕ → Bool
are_exchanged leads others =
    list_all is_letter_lead leads
    && list_all is_letter_lead others
    && are_distinct leads
    && are_distinct others
    && are_among leads others
    && are_among others leads

-- whether a lead is compressible, where these are
abbrev pub is_compressible_by : List ℕ → ℕ → Bool
is_compressible_by leads lead = (lead == 0xfe) || list_any (λ other. other == lead) leads

-- Whether settings break the rule. Where groups end amid numbers goes by a lead of numbers of its own: `counted`.
abbrev pub are_bad_settings : ℕ → ℕ → List ℕ → List ℕ → List (ℕ × ℕ) → Bool
are_bad_settings counted numeric groups compress reorder =
    not (is_letter_lead numeric)
    || not (list_all is_letter_lead compress)
    || are_bad_groups groups
    || ((numeric == counted) && list_any (is_amid_numbers counted) groups)
    || not (keep_compressible (is_compressible_by compress) reorder)
    || not (is_exchange reorder)

-- Whether lines up to one set what they may not. The lead of numbers of the whole file counts, as soon as lines set it.
abbrev pub breaks_settings : ℕ → List Record → Bool
breaks_settings counted lines =
    are_bad_settings counted (numeric_of lines) (groups_of lines) (compress_of lines) (reorder_of lines)
