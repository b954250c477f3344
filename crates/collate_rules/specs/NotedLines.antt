-- What is noted of lines, to look it up: classes and digits that they give, and characters that they record alone or
-- otherwise.
use Rattle.std.specs.Prelude.{◌≡◌, ℕ, Bool, false, cond, not, ◌==◌, ◌&&◌, ◌||◌, List, [], ◌∷◌, length, ltb, Option, Some, None, is_some}
use Rattle.std.specs.List.{list_any}
use Rattle.std.specs.Ordering.{nat_cmp}
use Rattle.std.specs.BTreeMap.{BTreeMap, get}
use Rattle.std.specs.BTreeSet.{BTreeSet, contains}
use Rattle.collate_lines.specs.Record.{Record, class, digit, mapping, weights}
use Rattle.icu_collator_core.specs.ContextRules.{is_recorded_in}
use Rattle.collate_rules.specs.Meaning.{class_in, digit_in, first_found, mapping_in, weights_of}
use Rattle.collate_rules.specs.RecordRules.{is_alone, is_common_secondary, is_further, is_mark, is_other_mark, is_replaced}

-- the character to which a line gives a class, and the class
abbrev pub class_line : Record → Option (ℕ × ℕ)
class_line (class c k) = Some (c, k)
class_line _ = None

-- the digit that a line gives, and its value
abbrev pub digit_line : Record → Option (ℕ × ℕ)
digit_line (digit c value) = Some (c, value)
digit_line _ = None

-- the character that a line maps canonically
abbrev pub mapped_character : Record → Option ℕ
mapped_character (mapping c ds is_excluded) = Some c
mapped_character _ = None

-- the character that a line records alone
abbrev pub lone_character : Record → Option ℕ
lone_character (weights layer [] (c ∷ []) es) = Some c
lone_character _ = None

-- the character that a line records with others after it or before it, where no record replaces that
abbrev pub further_character : List Record → Record → Option ℕ
further_character records (weights layer prefix (c ∷ cs) es) =
    cond (is_alone prefix (c ∷ cs) || is_replaced records layer prefix (c ∷ cs)) None (Some c)
further_character records _ = None

-- the character that a line records so, or alone as other than a common secondary
abbrev pub odd_character : List Record → Record → Option ℕ
odd_character records (weights layer prefix (c ∷ cs) es) =
    cond ((is_alone prefix (c ∷ cs) && is_common_secondary es) || is_replaced records layer prefix (c ∷ cs)) None (Some c)
odd_character records _ = None

-- whether records lack a text of two characters or more, after which a mark stands
abbrev pub lacks_record : List Record → List ℕ → ℕ → Bool
lacks_record records shorter last =
    ltb 1 (length shorter) && (is_mark records last && not (is_recorded_in (weights_of records) [] shorter))

-- a map has the classes that lines give first
abbrev pub HasClasses : BTreeMap ℕ ℕ → List Record → Type 0
HasClasses classes lines = (c : ℕ) → get nat_cmp classes c ≡ first_found (class_in c) lines

-- a map has the digits
abbrev pub HasDigits : BTreeMap ℕ ℕ → List Record → Type 0
HasDigits digits lines = (c : ℕ) → get nat_cmp digits c ≡ first_found (digit_in c) lines

-- a set has the characters that lines map canonically
abbrev pub HasMapped : BTreeSet ℕ → List Record → Type 0
HasMapped mapped lines = (c : ℕ) → contains nat_cmp mapped c ≡ is_some (first_found (mapping_in c) lines)

-- whether a character is one that may be there
abbrev pub is_it : ℕ → Option ℕ → Bool
is_it c (Some d) = c == d
is_it c None = false

-- whether a line records a character alone
abbrev pub records_alone : ℕ → Record → Bool
records_alone c (weights layer [] (d ∷ []) es) = c == d
records_alone c _ = false

-- a set has the characters that lines record alone
abbrev pub HasAlone : BTreeSet ℕ → List Record → Type 0
HasAlone alone lines = (c : ℕ) → contains nat_cmp alone c ≡ list_any (records_alone c) lines

-- a set has the characters that lines record with others, and so that it counts
abbrev pub HasFurther : List Record → BTreeSet ℕ → List Record → Type 0
HasFurther records further lines = (c : ℕ) → contains nat_cmp further c ≡ list_any (is_further records c) lines

-- a set has the characters that lines record so, or alone as other than a common secondary
abbrev pub HasOdd : List Record → BTreeSet ℕ → List Record → Type 0
HasOdd records odd lines = (c : ℕ) → contains nat_cmp odd c ≡ list_any (λ line. is_further records c line || is_other_mark records c line) lines
