-- what a line asks for, the reply to it, and the catalogue after it
use Rattle.std.specs.Prelude.{◌≡◌, ◌==◌, ℕ, ◌+◌, if◌then◌else◌, Option, None, Some, Result, Ok, Err, List, [], ◌∷◌, ◌++◌, ◌⊎◌, ◌≤◌, length, take, drop, codes, decimal, flat_map, bytes_eq, position}
use Rattle.std.specs.List.{Contains}
use Rattle.hex.specs.Hex.{encode_lower}
use Rattle.icu_normalizer_core.specs.Decoding.{utf8_chars}
use Rattle.icu_collator.specs.KeyBytes.{key_of_text}
use Rattle.collate_lines.specs.Grammar.{decimal_number, is_short}
use Rattle.collate_lines.specs.Lines.{records_of}
use Rattle.collate_lines.specs.Rule.{fault_text}
use Rattle.collate_lines.specs.declared.rule.RecordFault.{RecordFault}
use Rattle.collate_lines.specs.declared.rule.RecordsError.TheVariants.{Fault}
use Rattle.collate_records.specs.Files.{IsAcceptedWithin, RefusesWithin}
use Rattle.collate_rules.specs.Meaning.{collation_of}
use Rattle.collate_index.specs.Catalogue.{Catalogue, options_in, order_of, reloaded, sorted_names, with_name, without_name}
use Rattle.collate_index.specs.Names.{equal_names, names_between}
use Rattle.collate_index.specs.Reloads.{AreKeysMade}

-- what a line asks for
pub data LineCommand : Type 0 where
  add : List ℕ → LineCommand
  remove : List ℕ → LineCommand
  find : List ℕ → LineCommand
  between : List ℕ → List ℕ → LineCommand
  key : List ℕ → LineCommand
  list : LineCommand
  reload : ℕ → LineCommand
  unknown : LineCommand

-- what comes after a word at the front of a line
abbrev pub rest_after : List ℕ → List ℕ → Option (List ℕ)
rest_after word line = if bytes_eq (take (length word) line) word then Some (drop (length word) line) else None

-- what a line asks for that may begin with a word, by what comes after the word; and what it asks for if it doesn't
abbrev pub if_after : Option (List ℕ) → (List ℕ → LineCommand) → LineCommand → LineCommand
if_after None command other = other
if_after (Some rest) command other = command rest

-- two names, parted at an index
abbrev pub parted_at : List ℕ → Option ℕ → LineCommand
parted_at names None = unknown
parted_at names (Some index) = between (take index names) (drop (index + 1) names)

-- what comes after `between `: two names, parted at the first TAB
abbrev pub between_command : List ℕ → LineCommand
between_command names = parted_at names (position (λ byte. byte == 9) names)

-- how many record lines digits ask for: 0, or up to seven digits without a leading zero
abbrev pub record_count : List ℕ → Option ℕ
record_count digits = if is_short 1 7 digits then decimal_number digits else None

-- a reload of so many record lines
abbrev pub reload_of : Option ℕ → LineCommand
reload_of None = unknown
reload_of (Some count) = reload count

-- a line that asks for no name
abbrev pub plain_command : List ℕ → LineCommand
plain_command line = if bytes_eq line (codes "list") then list else unknown

-- what a line asks for: `add NAME`, `remove NAME`, `find NAME`, `between FIRST<TAB>LAST`, `key NAME`, `list`, `reload K`, or
-- nothing that is known
unfoldable pub command_of : List ℕ → LineCommand
command_of line =
    if_after (rest_after (codes "add ") line) add
    (if_after (rest_after (codes "remove ") line) remove
    (if_after (rest_after (codes "find ") line) find
    (if_after (rest_after (codes "between ") line) between_command
    (if_after (rest_after (codes "key ") line) key
    (if_after (rest_after (codes "reload ") line) (λ digits. reload_of (record_count digits))
    (plain_command line))))))

-- how many record lines a command asks for
abbrev pub records_asked : LineCommand → ℕ
records_asked (reload count) = count
records_asked _ = 0

-- how many record lines stand after a line
abbrev pub behind : List ℕ → ℕ
behind line = records_asked (command_of line)

-- a line, ended
abbrev pub ended : List ℕ → List ℕ
ended line = line ++ 10 ∷ []

-- how many names, then the names, a line each
abbrev pub listing : List (List ℕ) → List ℕ
listing names = codes "names " ++ decimal (length names) ++ 10 ∷ [] ++ flat_map ended names

-- the sort key of a name, under the records and options of a catalogue
abbrev pub key_of_name : Catalogue → List ℕ → List ℕ
key_of_name catalogue name = key_of_text (collation_of catalogue.records) (options_in catalogue) (utf8_chars name)

-- the reply to a reload, by how many keys it made, or by the fault of the file
abbrev pub reload_reply : Result ℕ RecordFault → List ℕ
reload_reply (Ok made) = ended (codes "reloaded " ++ decimal made)
reload_reply (Err fault) = ended (codes "refused " ++ fault_text fault.line fault.rule)

-- these are the first bytes of a file, and all of it unless they are more than a limit
abbrev pub AreFirst : ℕ → List ℕ → List ℕ → Type 0
AreFirst limit bytes file = (rest : List ℕ) × (file ≡ bytes ++ rest) × (length bytes ≤ limit → rest ≡ [])

-- what a reload does: the records of a file that is accepted within the catalogue's limits take the place of those that were
-- there, and keys are made; another file is refused, and nothing has changed
abbrev pub Reloads : List ℕ → Catalogue → Catalogue → Result ℕ RecordFault → Type 0
Reloads file old new (Ok made) = IsAcceptedWithin old.limits file × (new ≡ reloaded (records_of file) old) × AreKeysMade old (records_of file) made
Reloads file old new (Err fault) = RefusesWithin old.limits file (Fault fault) × (new ≡ old)

-- what a command does that gets its memory: text is its reply, old and new the catalogue before and after it; file is the
-- record lines after it
abbrev pub Grants : LineCommand → List ℕ → Catalogue → Catalogue → List ℕ → Type 0
Grants (add name) file old new text =
    (Contains old.arrivals name × (text ≡ codes "duplicate\n") × (new ≡ old))
    ⊎ ((¬ Contains old.arrivals name) × (text ≡ codes "added\n") × (new ≡ with_name name old))
Grants (remove name) file old new text =
    (Contains old.arrivals name × (text ≡ codes "removed\n") × (new ≡ without_name name old))
    ⊎ ((¬ Contains old.arrivals name) × (text ≡ codes "absent\n") × (new ≡ old))
Grants (find name) file old new text = (text ≡ listing (equal_names (order_of old) name (sorted_names old))) × (new ≡ old)
Grants (between first last) file old new text = (text ≡ listing (names_between (order_of old) first last (sorted_names old))) × (new ≡ old)
Grants (key name) file old new text = (text ≡ ended (encode_lower (key_of_name old name))) × (new ≡ old)
Grants list file old new text = (text ≡ listing (sorted_names old)) × (new ≡ old)
Grants (reload count) file old new text = (result : Result ℕ RecordFault) × Reloads file old new result × (text ≡ reload_reply result)
Grants unknown file old new text = (text ≡ codes "bad\n") × (new ≡ old)

-- a command that asks for memory: all but `remove`
abbrev pub AsksMemory : LineCommand → Type 0
AsksMemory (remove name) = ⊥
AsksMemory unknown = ⊥
AsksMemory _ = Unit {0}

-- what a command does that is refused memory: nothing has changed
abbrev pub Denies : LineCommand → Catalogue → Catalogue → List ℕ → Type 0
Denies command old new text = AsksMemory command × (text ≡ codes "memory\n") × (new ≡ old)

-- a line, with the record lines after it (file), got this text and turned the old catalogue into the new one
abbrev pub Answers : List ℕ → List ℕ → Catalogue → Catalogue → List ℕ → Type 0
Answers line file old new text = Grants (command_of line) file old new text ⊎ Denies (command_of line) old new text

-- Lines got these replies, one command after another, and left a catalogue. A command is a line with all record lines that it
-- asks for.
pub data Replied (start : Catalogue) : List (List ℕ) → List ℕ → Catalogue → Type 0 where
  nothing : Replied start [] [] start
  command : (lines : List (List ℕ)) (out : List ℕ) (old : Catalogue) (line : List ℕ) (records : List (List ℕ)) (text : List ℕ) (new : Catalogue)
      → Replied start lines out old → length records ≡ behind line → Answers line (flat_map ended records) old new text
      → Replied start (lines ++ line ∷ records) (out ++ text) new

-- out is the replies to these lines
abbrev pub AreReplies : Catalogue → List (List ℕ) → List ℕ → Type 0
AreReplies start lines out = (now : Catalogue) × Replied start lines out now
