-- The lines of texts, what of each is compared, and lists of them in order and as they are written.
use Rattle.std.specs.Prelude.{◌==◌, ℕ, Bool, true, false, not, List, [], ◌∷◌, ◌++◌, flat_map, if◌then◌else◌, map}
use Rattle.std.specs.List.{prefix_len}
use Rattle.hex.specs.Hex.{encode_lower}
use Rattle.collate_merge.specs.LineParts.{part_of}
use Rattle.collate_merge.specs.declared.part.LinePart.{LinePart}
use Rattle.collate_keyed_lines.specs.KeyedLines.{first_of_equals}
use Rattle.collate_lists.specs.Names.{in_order}
use Rattle.collate_sort.specs.Keys.{key_by_rule}
use Rattle.collate_sort.specs.Listing.{Listing}
use Rattle.collate_sort.specs.Orders.{Line, LineRule, line_order}
use Rattle.sort_names.specs.declared.request.Shape.{Shape}

-- how many bytes a text has before the first that ends a line
abbrev pub line_len : ℕ → List ℕ → ℕ
line_len end text = prefix_len (λ byte. not (byte == end)) text

-- a byte put in front of the first line
abbrev pub onto : ℕ → List (List ℕ) → List (List ℕ)
onto byte [] = (byte ∷ []) ∷ []
onto byte (line ∷ lines) = (byte ∷ line) ∷ lines

-- the lines of a text, each without the byte that ends it, which the last may lack
unfoldable pub lines_of : ℕ → List ℕ → List (List ℕ)
lines_of end [] = []
lines_of end (byte ∷ text) = if byte == end then [] ∷ lines_of end text else onto byte (lines_of end text)

-- what of each line is compared
abbrev pub part_in : Shape → LinePart
part_in shape = record { column = shape.column; crlf = shape.crlf }

-- what of a line is compared
abbrev pub compared : Shape → List ℕ → List ℕ
compared shape line = part_of (part_in shape) line

-- a line, and what of it is compared
abbrev pub line_by : Shape → List ℕ → Line
line_by shape line = record { line = line; text = compared shape line }

-- the lines of a text, and what of each is compared
abbrev pub listed : Shape → List ℕ → List Line
listed shape text = map (line_by shape) (lines_of shape.end text)

-- a list with the lines of texts after its own
abbrev pub with_texts : Shape → Listing → List (List ℕ) → Listing
with_texts shape list texts = record list { lines = list.lines ++ flat_map (listed shape) texts }

-- lines in order, equal ones as they stood, or of these the first alone
abbrev pub sorted : Bool → LineRule → List Line → List Line
sorted false rule lines = in_order (line_order rule) lines
sorted true rule lines = first_of_equals (line_order rule) (in_order (line_order rule) lines)

-- the key of a line as it is written, with a TAB after it
abbrev pub key_text : LineRule → Line → List ℕ
key_text rule line = encode_lower (key_by_rule rule line.text) ++ 9 ∷ []

-- what stands before a line: its key, where keys are asked for
abbrev pub key_before : Bool → LineRule → Line → List ℕ
key_before false rule line = []
key_before true rule line = key_text rule line

-- a line as it is written: after its key, where keys are asked for, and with the byte that ends it
abbrev pub written : ℕ → Bool → LineRule → Line → List ℕ
written end keys rule line = key_before keys rule line ++ (line.line ++ end ∷ [])

-- lines as they are written
abbrev pub text_of : ℕ → Bool → Listing → List ℕ
text_of end keys listing = flat_map (written end keys listing.rule) listing.lines
