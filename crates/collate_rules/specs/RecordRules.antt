-- The rules on what records and digits name, V7 to V13 and V15. Most ask `lines`, those up to one, and `records`, all of
-- them: what several lines break together offends from the latest of them on, and what lacks is looked for in all.
use Rattle.std.specs.Prelude.{ℕ, ◌%◌, ◌^◌, Bool, true, false, cond, not, ◌==◌, ltb, ◌&&◌, ◌||◌, List, [], ◌∷◌, Option, Some, is_some}
use Rattle.std.specs.List.{list_all, list_any}
use Rattle.icu_normalizer_core.specs.BuiltIn.{built_in_step, is_jamo, is_within, is_built_in}
use Rattle.icu_collator_types.specs.declared.elements.Element.{Element}
use Rattle.icu_collator_core.specs.ContextRules.{is_prefix_character, is_recorded_in, is_recorded_shorter, may_be_digit, may_have_prefix}
use Rattle.icu_collator_core.specs.Defaults.{common}
use Rattle.collate_lines.specs.Record.{Record, weights, range, digit, Layer, root, tailoring}
use Rattle.collate_rules.specs.Meaning.{canonical_of, class_of, digit_in, dot_above_in, elements_in, first_found, mapping_in, set_to, weights_of}

-- whether a record stands without prefix for one character
abbrev pub is_alone : List ℕ → List ℕ → Bool
is_alone [] (c ∷ []) = true
is_alone _ _ = false

-- whether a text begins with a character
abbrev pub begins_with : ℕ → List ℕ → Bool
begins_with c [] = false
begins_with c (d ∷ ds) = c == d

-- whether lines of a layer record a text after a prefix
abbrev pub is_given : Layer → List ℕ → List ℕ → List Record → Bool
is_given layer prefix text lines = list_any (λ line. is_some (elements_in layer prefix text line)) lines

-- whether a record of the tailoring replaces that of a line
abbrev pub is_replaced : List Record → Layer → List ℕ → List ℕ → Bool
is_replaced records tailoring prefix text = false
is_replaced records root prefix text = is_given tailoring prefix text records

-- ## V7: texts and prefixes equal their decomposed lists

-- whether a mapping that may be there is to some characters; it may be built in that there is none
abbrev pub is_to_some : Option (List ℕ) → Bool
is_to_some (Some (d ∷ ds)) = true
is_to_some _ = false

-- whether a character has a canonical mapping, built in or by a line
abbrev pub has_mapping : List Record → ℕ → Bool
has_mapping lines c = cond (is_built_in c) (is_to_some (built_in_step c)) (is_some (first_found (mapping_in c) lines))

-- whether a mark stands directly after one of a higher class
abbrev pub is_disordered : (ℕ → ℕ) → List ℕ → Bool
is_disordered class_of [] = false
is_disordered class_of (a ∷ []) = false
is_disordered class_of (a ∷ b ∷ cs) =
    (ltb 0 (class_of b) && ltb (class_of b) (class_of a)) || is_disordered class_of (b ∷ cs)

-- A list isn't its own decomposed list: a character decomposes, or marks are out of order. That this says neither more nor
-- less is the law `rule_asks_for_decomposed_lists`.
abbrev pub is_unlike_decomposed : List Record → List ℕ → Bool
is_unlike_decomposed lines list = list_any (has_mapping lines) list || is_disordered (class_of lines) list

abbrev pub is_undecomposed : List Record → Record → Bool
is_undecomposed lines (weights layer prefix text es) = is_unlike_decomposed lines prefix || is_unlike_decomposed lines text
is_undecomposed lines _ = false

abbrev pub breaks_decomposed : List Record → Bool
breaks_decomposed lines = list_any (is_undecomposed lines) lines

-- ## V8: after a mark a text has only marks

-- whether a starter stands after a mark, near or far
abbrev pub has_starter_behind : (ℕ → Bool) → (ℕ → Bool) → List ℕ → Bool
has_starter_behind is_mark is_starter [] = false
has_starter_behind is_mark is_starter (c ∷ cs) =
    (is_mark c && list_any is_starter cs) || has_starter_behind is_mark is_starter cs

-- whether lines give a character a class other than 0, or it has one built in
abbrev pub is_mark : List Record → ℕ → Bool
is_mark lines c = not (class_of lines c == 0)

-- in the text of a line, by the marks that lines give; what is no mark in the end is a starter
abbrev pub has_late_starter : List Record → List Record → Record → Bool
has_late_starter records lines (weights layer prefix text es) =
    has_starter_behind (is_mark lines) (λ c. not (is_mark records c)) text
has_late_starter records lines _ = false

abbrev pub breaks_marks_last : List Record → List Record → Bool
breaks_marks_last records lines = list_any (has_late_starter records lines) lines

-- ## V9: a text over two characters that ends in a mark is recorded without it, and without prefix

abbrev pub lacks_shorter : List Record → Record → Bool
lacks_shorter records (weights layer prefix (c ∷ suffix) es) =
    not (is_recorded_shorter (canonical_of records) (is_recorded_in (weights_of records)) c suffix)
lacks_shorter records _ = false

-- ## V10: a prefix has starters only, no digit, jamo or 0000; its text is one starter, no digit or jamo, and recorded without
-- prefix too

-- the value that lines give a digit
abbrev pub digit_of : List Record → ℕ → Option ℕ
digit_of lines c = first_found (digit_in c) lines

-- whether a text may stand after a prefix
abbrev pub may_follow_prefix : List Record → List Record → List ℕ → Bool
may_follow_prefix records lines (c ∷ []) =
    may_have_prefix (canonical_of lines) (digit_of lines) (is_recorded_in (weights_of records)) c
may_follow_prefix records lines _ = false

abbrev pub is_badly_prefixed : List Record → List Record → Record → Bool
is_badly_prefixed records lines (weights layer (b ∷ bs) text es) =
    not (list_all (is_prefix_character (canonical_of lines) (digit_of lines)) (b ∷ bs) && may_follow_prefix records lines text)
is_badly_prefixed records lines _ = false

abbrev pub breaks_prefixes : List Record → List Record → Bool
breaks_prefixes records lines = list_any (is_badly_prefixed records lines) lines

-- ## V11: a digit is a starter, no jamo, and has one lone record

-- whether a line records a character with others after it or before it, and no record replaces that
abbrev pub is_further : List Record → ℕ → Record → Bool
is_further records c (weights layer prefix text es) =
    begins_with c text && not (is_alone prefix text) && not (is_replaced records layer prefix text)
is_further records c _ = false

abbrev pub is_bad_digit : List Record → List Record → Record → Bool
is_bad_digit records lines (digit c value) =
    not (may_be_digit (canonical_of lines) (is_recorded_in (weights_of records)) c) || list_any (is_further records c) lines
is_bad_digit records lines _ = false

abbrev pub breaks_digits : List Record → List Record → Bool
breaks_digits records lines = list_any (is_bad_digit records lines) lines

-- ## V12: a jamo has at most one record, lone, of one element that fits one word; it stands in no longer text

-- Whether one word says an element: a primary of two bytes, a secondary of one and a tertiary of one; a primary of three bytes
-- with common weights; or a secondary of two bytes and a tertiary of one. None has a quaternary weight.
abbrev pub fits_word : Element → Bool
fits_word e =
    let is_narrow = (e.primary % 2 ^ 16 == 0) && (e.secondary % 2 ^ 8 == 0) && (e.tertiary % 2 ^ 8 == 0)
    in let has_long_primary = not (e.primary == 0) && (e.primary % 2 ^ 8 == 0) && (e.secondary == common) && (e.case == 0) && (e.tertiary == common)
    in let has_long_secondary = (e.primary == 0) && (e.tertiary % 2 ^ 8 == 0)
    in (e.quaternary == 0) && (is_narrow || has_long_primary || has_long_secondary)

abbrev pub is_one_word : List Element → Bool
is_one_word (e ∷ []) = fits_word e
is_one_word _ = false

abbrev pub is_bad_jamo_record : List Record → Record → Bool
is_bad_jamo_record records (weights layer prefix text es) =
    list_any is_jamo text && not (is_alone prefix text && (is_replaced records layer prefix text || is_one_word es))
is_bad_jamo_record records _ = false

-- ## V13: FFFD, FFFE and FFFF stand in no record, digit or range

abbrev pub is_special : ℕ → Bool
is_special c = is_within 0xfffd 0xffff c

abbrev pub names_special : Record → Bool
names_special (weights layer prefix text es) = list_any is_special prefix || list_any is_special text
names_special (range r) = list_any (is_within r.first r.last) (0xfffd ∷ 0xfffe ∷ 0xffff ∷ [])
names_special (digit c value) = is_special c
names_special _ = false

-- ## V15: with `dotabove on`, 0300 to 0307 have lone records of one element [0.S.0.0500.0]

abbrev pub is_common_secondary : List Element → Bool
is_common_secondary (e ∷ []) = (e.primary == 0) && (e.case == 0) && (e.tertiary == common) && (e.quaternary == 0)
is_common_secondary _ = false

-- whether a line records a character alone as something else, and no record replaces that
abbrev pub is_other_mark : List Record → ℕ → Record → Bool
is_other_mark records c (weights layer prefix text es) =
    is_alone prefix text && begins_with c text && not (is_replaced records layer prefix text) && not (is_common_secondary es)
is_other_mark records c _ = false

-- whether a mark lacks its record, or lines record it otherwise
abbrev pub is_bad_dotted : List Record → List Record → ℕ → Bool
is_bad_dotted records lines c =
    not (is_recorded_in (weights_of records) [] (c ∷ []))
    || list_any (λ line. is_further records c line || is_other_mark records c line) lines

-- the marks among which the dot above and those that take it away stand
abbrev pub dotted_marks : List ℕ
dotted_marks = 0x300 ∷ 0x301 ∷ 0x302 ∷ 0x303 ∷ 0x304 ∷ 0x305 ∷ 0x306 ∷ 0x307 ∷ []

abbrev pub breaks_dot_above : List Record → List Record → Bool
breaks_dot_above records lines = set_to dot_above_in false lines && list_any (is_bad_dotted records lines) dotted_marks
