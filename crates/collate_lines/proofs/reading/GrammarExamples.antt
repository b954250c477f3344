-- What the grammar says of some lines, and the lines of some files, computed.
use Rattle.std.proofs.Common.{◌≡◌, refl, [], ◌∷◌, ◌++◌, Some, None, true}
use Rattle.std.specs.Prelude.{codes}
use Rattle.collate_lines.specs.Grammar.{record_of}
use Rattle.collate_lines.specs.Record.{nothing, class, mapping, compatibility, weights, range, digit, setting, numeric, groups, reorder, root, tailoring, lone_weights}
use Rattle.collate_lines.specs.Lines.{lines_of, numbers_of, records_of}

pub said_class : record_of (codes "class 0301 230") ≡ Some (class 0x301 230)
said_class = refl

pub said_mapping : record_of (codes "map 00C5 0041 030A x") ≡ Some (mapping 0xc5 (0x41 ∷ 0x30a ∷ []) true)
said_mapping = refl

pub said_weights : record_of (codes "w 0061 ; [2A000000.0500.0.0500.0] [0.8000.2.0500.3]") ≡ Some (lone_weights 0x61 (record { primary = 0x2a000000; secondary = 0x500; case = 0; tertiary = 0x500; quaternary = 0 } ∷ record { primary = 0; secondary = 0x8000; case = 2; tertiary = 0x500; quaternary = 3 } ∷ []))
said_weights = refl

pub said_ignorable : record_of (codes "w 0000 ;") ≡ Some (lone_weights 0 [])
said_ignorable = refl

pub said_compatibility : record_of (codes "kmap 00B2 0032") ≡ Some (compatibility 0xb2 (0x32 ∷ []))
said_compatibility = refl

pub said_prefix : record_of (codes "w 0061 0062 | 0063 ;") ≡ Some (weights root (0x61 ∷ 0x62 ∷ []) (0x63 ∷ []) [])
said_prefix = refl

pub said_tailoring : record_of (codes "t 0063 0068 ;") ≡ Some (weights tailoring [] (0x63 ∷ 0x68 ∷ []) [])
said_tailoring = refl

pub said_range : record_of (codes "range 4E00 9FFF E0020200 01") ≡ Some (range (record { first = 0x4e00; last = 0x9fff; primary = 0xe0020200; step = 1 }))
said_range = refl

pub said_digit : record_of (codes "digit 0039 9") ≡ Some (digit 0x39 9)
said_digit = refl

pub said_numeric : record_of (codes "set numeric 1F") ≡ Some (setting (numeric 0x1f))
said_numeric = refl

pub said_groups : record_of (codes "set groups 0306 030A 030A 030A") ≡ Some (setting (groups (0x306 ∷ 0x30a ∷ 0x30a ∷ 0x30a ∷ [])))
said_groups = refl

pub said_reorder : record_of (codes "set reorder 2A 2B 2B 2A") ≡ Some (setting (reorder ((0x2a, 0x2b) ∷ (0x2b, 0x2a) ∷ [])))
said_reorder = refl

pub unsaid_long_prefix : record_of (codes "w 0061 0061 0061 0061 | 0063 ;") ≡ None
unsaid_long_prefix = refl

pub unsaid_half_pair : record_of (codes "set reorder 2A 2B 2B") ≡ None
unsaid_half_pair = refl

pub unsaid_text : record_of (codes "w ; [2A000000.0500.0.0500.0]") ≡ None
unsaid_text = refl

pub said_text : record_of (codes "w 0063 0068 ;") ≡ Some (weights root [] (0x63 ∷ 0x68 ∷ []) [])
said_text = refl

pub said_remark : record_of (codes "#class") ≡ Some nothing
said_remark = refl

pub unsaid_case : record_of (codes "class 030a 230") ≡ None
unsaid_case = refl

pub unsaid_zero : record_of (codes "class 00301 230") ≡ None
unsaid_zero = refl

pub unsaid_surrogate : record_of (codes "class D800 230") ≡ None
unsaid_surrogate = refl

pub no_byte : lines_of [] ≡ [] ∷ []
no_byte = refl

pub ended_line : lines_of (97 ∷ 10 ∷ []) ≡ (97 ∷ []) ∷ [] ∷ []
ended_line = refl

pub open_line : lines_of (97 ∷ []) ≡ (97 ∷ []) ∷ []
open_line = refl

pub empty_line : lines_of (10 ∷ 97 ∷ []) ≡ [] ∷ (97 ∷ []) ∷ []
empty_line = refl

-- The last line may lack its LF.
pub open_file : records_of (codes "class 0301 230") ≡ records_of (codes "class 0301 230" ++ 10 ∷ [])
open_file = refl

-- Lines that say nothing keep their numbers.
pub numbered_lines : numbers_of (codes "#" ++ 10 ∷ codes "class 0301 230" ++ 10 ∷ 10 ∷ codes "digit 0030 0") ≡ 1 ∷ 3 ∷ []
numbered_lines = refl
