-- The rule on settings, `set` of records files: which leads may be compressible or of numbers, where groups end, and which
-- leads change places. The check of tables, the laws of keys and the reader of files ask the same.
use Rattle.std.specs.Prelude.{ℕ, ◌+◌, ◌*◌, ◌^◌, Bool, true, cond, not, ◌==◌, ◌&&◌, leb, List, [], ◌∷◌, length, map}
use Rattle.std.specs.List.{list_all, list_any}
use Rattle.icu_normalizer_core.specs.BuiltIn.{is_within}
use Rattle.icu_collator_core.specs.WeightRules.{is_letter_lead}

-- ## Groups: the upper halves of the first primaries after spaces, punctuation, symbols and currency signs

-- whether no number of a list is below the one before it
abbrev pub never_falls : List ℕ → Bool
never_falls [] = true
never_falls (x ∷ []) = true
never_falls (x ∷ y ∷ ys) = leb x y && never_falls (y ∷ ys)

-- whether a group ends amid numbers, which are all variable or none
abbrev pub is_amid_numbers : ℕ → ℕ → Bool
is_amid_numbers numeric_lead group = is_within (numeric_lead * 2 ^ 8 + 1) (numeric_lead * 2 ^ 8 + 0xff) group

-- whether a group ends where it may: not below letters, and not amid numbers
abbrev pub is_sound_group : ℕ → ℕ → Bool
is_sound_group numeric_lead group = leb 0x300 group && not (is_amid_numbers numeric_lead group)

-- four groups, each where it may end, none below the one before it
abbrev pub are_sound_groups : ℕ → List ℕ → Bool
are_sound_groups numeric_lead groups =
    (length groups == 4) && list_all (is_sound_group numeric_lead) groups && never_falls groups

-- ## Leads that change places: each lead, and the one that stands in its place

-- whether no number stands twice
abbrev pub are_distinct : List ℕ → Bool
are_distinct [] = true
are_distinct (x ∷ xs) = not (list_any (λ y. y == x) xs) && are_distinct xs

-- whether each number of a list stands in another
abbrev pub are_among : List ℕ → List ℕ → Bool
are_among ys xs = list_all (λ x. list_any (λ y. y == x) ys) xs

-- leads of letters change places: each at most once on each side, the same on both
abbrev pub is_exchange : List (ℕ × ℕ) → Bool
is_exchange pairs =
    let leads = map (λ pair. pair.0) pairs
    in let others = map (λ pair. pair.1) pairs
    in list_all is_letter_lead leads
    && list_all is_letter_lead others
    && are_distinct leads
    && are_distinct others
    && are_among leads others
    && are_among others leads

-- whether two leads are both compressible, or neither is
abbrev pub are_alike : (ℕ → Bool) → ℕ → ℕ → Bool
are_alike is_compressible a b = cond (is_compressible a) (is_compressible b) (not (is_compressible b))

-- each lead is as compressible as the one that stands in its place
abbrev pub keep_compressible : (ℕ → Bool) → List (ℕ × ℕ) → Bool
keep_compressible is_compressible pairs = list_all (λ pair. are_alike is_compressible pair.0 pair.1) pairs
