-- The grammar of the lines of a records file: what the bytes of a line, without its LF, say. A line is a row of fields, one
-- space between two. A field is a word, a code point, a number or an element.
use Rattle.std.specs.Prelude.{ℕ, ◌+◌, ◌-◌, ◌*◌, Bool, true, false, not, ◌==◌, ◌&&◌, ◌||◌, leb, ltb, if◌then◌else◌, List, [], ◌∷◌, length, slice_index, slice_range, Option, Some, None, option_and_then, bytes_eq, codes}
use Rattle.std.specs.List.{list_any, slice_split}
use Rattle.icu_collator_types.specs.declared.elements.Element.{Element}
use Rattle.icu_collator_types.specs.declared.options.AlternateHandling.TheVariants.{NonIgnorable, Shifted}
use Rattle.icu_collator_types.specs.declared.options.CollationCaseFirst.TheVariants.{False as NoCaseFirst, Lower, Upper}
use Rattle.icu_collator_types.specs.declared.options.MaxVariable.TheVariants.{Space, Punctuation, Symbol, Currency}
use Rattle.collate_lines.specs.Record.{Record, nothing, class, mapping, compatibility, weights, range, digit, setting, Layer, root, tailoring, Setting, alternate, backward, case_first, max_variable, dot_above, numeric, groups, compress, reorder}

-- first the one, then, with what it gives, the other
infixl 10 ◌>>=◌
abbrev pub ◌>>=◌ : {A B : Type 0} → Option A → (A → Option B) → Option B
o >>= f = option_and_then f o

-- a value, if it passes a test
abbrev pub checked : {A : Type 0} → Bool → A → Option A
checked true x = Some x
checked false x = None

-- from the first number to the last
abbrev pub is_within : ℕ → ℕ → ℕ → Bool
is_within first last n = leb first n && leb n last

-- a decimal digit
abbrev pub decimal_digit : ℕ → Option ℕ
decimal_digit b = checked (is_within 48 57 b) (b - 48)

-- a hexadecimal digit, in upper case
abbrev pub hex_digit : ℕ → Option ℕ
hex_digit b = if is_within 65 70 b then Some (b - 55) else decimal_digit b

-- the number that digits in a base write after those of a number
abbrev pub number_after : ℕ → (ℕ → Option ℕ) → ℕ → List ℕ → Option ℕ
number_after base value n [] = Some n
number_after base value n (b ∷ bs) = elim (value b) [ None ↦ None | Some v ↦ number_after base value (base * n + v) bs ]

-- the number that digits write
abbrev pub decimal_number : List ℕ → Option ℕ
decimal_number = number_after 10 decimal_digit 0

abbrev pub hex_number : List ℕ → Option ℕ
hex_number = number_after 16 hex_digit 0

-- from `least` to `most` digits, without a leading zero if they are more than `least`
abbrev pub is_short : ℕ → ℕ → List ℕ → Bool
is_short least most field = is_within least most (length field) && (length field == least || not (slice_index field 0 == 48))

-- a character's number: not past U+10FFFF, and no surrogate
abbrev pub is_scalar : ℕ → Bool
is_scalar c = ltb c 0xd800 || is_within 0xe000 0x10ffff c

-- CP: four to six hexadecimal digits without a leading zero past four, of a character
abbrev pub code_point : List ℕ → Option ℕ
code_point field =
    if is_short 4 6 field
    then (hex_number field >>= λ c. checked (is_scalar c) c)
    else None

-- N of a class: one to three digits without a leading zero
abbrev pub class_number : List ℕ → Option ℕ
class_number field = if is_short 1 3 field then decimal_number field else None

-- STEP: one to three digits
abbrev pub step_number : List ℕ → Option ℕ
step_number field = if is_within 1 3 (length field) then decimal_number field else None

-- a number of exactly `digits` hexadecimal digits
abbrev pub hex_of : ℕ → List ℕ → Option ℕ
hex_of digits field = if length field == digits then hex_number field else None

-- one digit, up to the last
abbrev pub digit_to : ℕ → List ℕ → Option ℕ
digit_to last (b ∷ []) = decimal_digit b >>= λ v. checked (leb v last) v
digit_to last _ = None

-- P of an element: 0, or eight hexadecimal digits
abbrev pub primary : List ℕ → Option ℕ
primary field = if bytes_eq field (codes "0") then Some 0 else hex_of 8 field

-- what stands between two brackets
abbrev pub in_brackets : List ℕ → Option (List ℕ)
in_brackets field =
    if ltb 1 (length field) && (slice_index field 0 == 91 && slice_index field (length field - 1) == 93)
    then Some (slice_range field 1 (length field - 1))
    else None

-- the five weights of an element
abbrev pub element_by : List (List ℕ) → Option Element
element_by (p ∷ s ∷ c ∷ t ∷ q ∷ []) = do
  primary ← primary p
  secondary ← hex_of 4 s
  case ← digit_to 2 c
  tertiary ← hex_of 4 t
  quaternary ← digit_to 3 q
  Some (record { primary = primary; secondary = secondary; case = case; tertiary = tertiary; quaternary = quaternary })
element_by _ = None

-- E: [P.S.C.T.Q]
abbrev pub element : List ℕ → Option Element
element field = in_brackets field >>= λ weights. element_by (slice_split (λ b. b == 46) weights)

-- what fields list, each of one form
abbrev pub listed : {A : Type 0} → (List ℕ → Option A) → List (List ℕ) → Option (List A)
listed form [] = Some []
listed form (field ∷ fields) = do
  first ← form field
  others ← listed form fields
  Some (first ∷ others)

-- what fields list, one at least
abbrev pub some_listed : {A : Type 0} → (List ℕ → Option A) → List (List ℕ) → Option (List A)
some_listed form [] = None
some_listed form (field ∷ fields) = listed form (field ∷ fields)

-- class CP N
abbrev pub class_by : List (List ℕ) → Option Record
class_by (c ∷ n ∷ []) = do
  character ← code_point c
  number ← class_number n
  Some (class character number)
class_by _ = None

-- what may stand after the first character of a mapping: a second one, and an x
abbrev pub ending_by : List (List ℕ) → Option (List ℕ × Bool)
ending_by [] = Some ([], false)
ending_by (e ∷ []) =
    if bytes_eq e (codes "x")
    then Some ([], true)
    else (code_point e >>= λ second. Some (second ∷ [], false))
ending_by (e ∷ x ∷ []) =
    if bytes_eq x (codes "x")
    then (code_point e >>= λ second. Some (second ∷ [], true))
    else None
ending_by _ = None

-- map CP CP [CP] [x]
abbrev pub mapping_by : List (List ℕ) → Option Record
mapping_by (c ∷ d ∷ fields) = do
  character ← code_point c
  first ← code_point d
  ending ← ending_by fields
  Some (mapping character (first ∷ ending.0) ending.1)
mapping_by _ = None

-- kmap CP CP..
abbrev pub compatibility_by : List (List ℕ) → Option Record
compatibility_by (c ∷ fields) = do
  character ← code_point c
  mapped ← some_listed code_point fields
  Some (compatibility character mapped)
compatibility_by _ = None

-- the fields before the first that is this word, and those after it
abbrev pub parted : List ℕ → List (List ℕ) → Option (List (List ℕ) × List (List ℕ))
parted word [] = None
parted word (field ∷ fields) =
    if bytes_eq field word
    then Some ([], fields)
    else (parted word fields >>= λ parts. Some (field ∷ parts.0, parts.1))

-- [CP [CP [CP]] |] CP..: a prefix of at most three characters, and a text
abbrev pub key_by : List (List ℕ) → Option (List ℕ × List ℕ)
key_by fields =
    elim (parted (codes "|") fields) [
      | None ↦ some_listed code_point fields >>= λ text. Some ([], text)
      | Some parts ↦ some_listed code_point parts.0
          >>= λ prefix. some_listed code_point parts.1
          >>= λ text. checked (leb (length prefix) 3) (prefix, text)
    ]

-- what stands after w or t: a key, a semicolon, and elements
abbrev pub weights_by : Layer → List (List ℕ) → Option Record
weights_by layer fields = do
  parts ← parted (codes ";") fields
  key ← key_by parts.0
  elements ← listed element parts.1
  Some (weights layer key.0 key.1 elements)

-- range CP CP PRIMARY STEP
abbrev pub range_by : List (List ℕ) → Option Record
range_by (c ∷ d ∷ p ∷ n ∷ []) = do
  first ← code_point c
  last ← code_point d
  primary ← hex_of 8 p
  step ← step_number n
  Some (range (record { first = first; last = last; primary = primary; step = step }))
range_by _ = None

-- digit CP N
abbrev pub digit_by : List (List ℕ) → Option Record
digit_by (c ∷ n ∷ []) = do
  character ← code_point c
  value ← digit_to 9 n
  Some (digit character value)
digit_by _ = None

-- one field, a word among these, each with what it stands for
abbrev pub word_among : {A : Type 0} → List (List ℕ × A) → List (List ℕ) → Option A
word_among [] values = None
word_among (word ∷ words) (value ∷ []) = if bytes_eq value word.0 then Some word.1 else word_among words (value ∷ [])
word_among (word ∷ words) _ = None

-- on or off
abbrev pub switch : List (List ℕ) → Option Bool
switch = word_among ((codes "off", false) ∷ (codes "on", true) ∷ [])

-- HH
abbrev pub one_lead : List (List ℕ) → Option ℕ
one_lead (field ∷ []) = hex_of 2 field
one_lead _ = None

-- HHHH HHHH HHHH HHHH
abbrev pub four_groups : List (List ℕ) → Option (List ℕ)
four_groups fields = if length fields == 4 then listed (hex_of 4) fields else None

-- HH HH ..: pairs of leads
abbrev pub lead_pairs : List (List ℕ) → Option (List (ℕ × ℕ))
lead_pairs [] = Some []
lead_pairs (field ∷ []) = None
lead_pairs (field ∷ other ∷ fields) = do
  lead ← hex_of 2 field
  place ← hex_of 2 other
  others ← lead_pairs fields
  Some ((lead, place) ∷ others)

-- one pair of leads at least
abbrev pub some_lead_pairs : List (List ℕ) → Option (List (ℕ × ℕ))
some_lead_pairs [] = None
some_lead_pairs (field ∷ fields) = lead_pairs (field ∷ fields)

-- NAME VALUE.. of a setting
abbrev pub setting_by : List ℕ → List (List ℕ) → Option Setting
setting_by name values =
    if bytes_eq name (codes "alternate")
    then (word_among ((codes "nonignorable", NonIgnorable) ∷ (codes "shifted", Shifted) ∷ []) values >>= λ a. Some (alternate a))
    else (if bytes_eq name (codes "backward") then (switch values >>= λ b. Some (backward b))
    else (if bytes_eq name (codes "casefirst")
    then (word_among ((codes "off", NoCaseFirst) ∷ (codes "lower", Lower) ∷ (codes "upper", Upper) ∷ []) values >>= λ c. Some (case_first c))
    else (if bytes_eq name (codes "maxvariable")
    then (word_among ((codes "space", Space) ∷ (codes "punctuation", Punctuation) ∷ (codes "symbol", Symbol) ∷ (codes "currency", Currency) ∷ []) values
    >>= λ m. Some (max_variable m))
    else (if bytes_eq name (codes "dotabove") then (switch values >>= λ b. Some (dot_above b))
    else (if bytes_eq name (codes "numeric") then (one_lead values >>= λ lead. Some (numeric lead))
    else (if bytes_eq name (codes "groups") then (four_groups values >>= λ ends. Some (groups ends))
    else (if bytes_eq name (codes "compress") then (some_listed (hex_of 2) values >>= λ leads. Some (compress leads))
    else (if bytes_eq name (codes "reorder") then (some_lead_pairs values >>= λ pairs. Some (reorder pairs))
    else None))))))))

-- set NAME VALUE..
abbrev pub set_by : List (List ℕ) → Option Record
set_by [] = None
set_by (name ∷ values) = setting_by name values >>= λ s. Some (setting s)

-- what the fields of a line say
abbrev pub record_by : List (List ℕ) → Option Record
record_by [] = None
record_by (word ∷ fields) =
    if bytes_eq word (codes "class") then class_by fields
    else (if bytes_eq word (codes "map") then mapping_by fields
    else (if bytes_eq word (codes "kmap") then compatibility_by fields
    else (if bytes_eq word (codes "w") then weights_by root fields
    else (if bytes_eq word (codes "t") then weights_by tailoring fields
    else (if bytes_eq word (codes "range") then range_by fields
    else (if bytes_eq word (codes "digit") then digit_by fields
    else (if bytes_eq word (codes "set") then set_by fields
    else None)))))))

-- at most 1,024 bytes, each below 80 (hexadecimal)
abbrev pub is_short_ascii : List ℕ → Bool
is_short_ascii line = leb (length line) 1024 && not (list_any (λ b. leb 128 b) line)

-- an empty line, or a comment: # and anything
abbrev pub is_remark : List ℕ → Bool
is_remark line = length line == 0 || slice_index line 0 == 35

-- what a line says, if it is in the grammar
abbrev pub record_of : List ℕ → Option Record
record_of line =
    if not (is_short_ascii line) then None
    else (if is_remark line then Some nothing
    else record_by (slice_split (λ b. b == 32) line))
