-- the names of the rules of a records file
use Rattle.std.specs.Prelude.{ℕ, List, ◌++◌, codes}
use Rattle.std.specs.Fmt.{decimal}
use Rattle.collate_lines.specs.declared.rule.Rule.{Rule}
use Rattle.collate_lines.specs.declared.rule.RecordsError.{RecordsError}
use Rattle.collate_lines.specs.declared.rule.RecordsError.TheVariants.{Fault, Memory}
use Rattle.collate_lines.specs.declared.rule.Rule.TheVariants.{Grammar, Limit, Set, C1, C2, C3, C4, C5, C6, C7, C8, C9, V1, V2, V3, V4, V5, V6, V7, V8, V9, V10, V11, V12, V13, V14, V15}

-- a rule as it is printed
abbrev pub rule_text : Rule → List ℕ
rule_text Grammar = codes "grammar"
rule_text Limit = codes "limit"
rule_text Set = codes "set"
rule_text C1 = codes "C1"
rule_text C2 = codes "C2"
rule_text C3 = codes "C3"
rule_text C4 = codes "C4"
rule_text C5 = codes "C5"
rule_text C6 = codes "C6"
rule_text C7 = codes "C7"
rule_text C8 = codes "C8"
rule_text C9 = codes "C9"
rule_text V1 = codes "V1"
rule_text V2 = codes "V2"
rule_text V3 = codes "V3"
rule_text V4 = codes "V4"
rule_text V5 = codes "V5"
rule_text V6 = codes "V6"
rule_text V7 = codes "V7"
rule_text V8 = codes "V8"
rule_text V9 = codes "V9"
rule_text V10 = codes "V10"
rule_text V11 = codes "V11"
rule_text V12 = codes "V12"
rule_text V13 = codes "V13"
rule_text V14 = codes "V14"
rule_text V15 = codes "V15"

-- a fault as it is printed: its line, counted from 1, and its rule
abbrev pub fault_text : ℕ → Rule → List ℕ
fault_text line rule = decimal line ++ codes " " ++ rule_text rule

-- why a file was refused, as it is printed
abbrev pub records_error_text : RecordsError → List ℕ
records_error_text (Fault fault) = fault_text fault.line fault.rule
records_error_text Memory = codes "out of memory"
