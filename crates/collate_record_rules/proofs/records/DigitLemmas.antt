-- Files without a digit, or without the dot above.
use Rattle.std.proofs.Common.{◌≡◌, Bool, true, false, ◌&&◌, ◌||◌, List, [], ◌∷◌, refl, sym, ap, ◌∙◌}
use Rattle.std.specs.Prelude.{is_some}
use Rattle.std.specs.List.{list_any}
use Rattle.std.proofs.lemmas.Bool.{false≢true}
use Rattle.collate_lines.specs.Record.{Record, digit}
use Rattle.collate_rules.specs.Meaning.{dot_above_in, set_to}
use Rattle.collate_rules.specs.NotedLines.{digit_line}
use Rattle.collate_rules.specs.RecordRules.{breaks_digits, breaks_dot_above, dotted_marks, is_bad_digit, is_bad_dotted}

first_unset : (a b : Bool) → (a || b) ≡ false → a ≡ false
first_unset true b h = h
first_unset false b h = refl

second_unset : (a b : Bool) → (a || b) ≡ false → b ≡ false
second_unset true b h = absurd (false≢true (sym h))
second_unset false b h = h

no_bad_digit : (records lines : List Record) (x : Record) → is_some (digit_line x) ≡ false → is_bad_digit records lines x ≡ false
no_bad_digit records lines (digit c v) h = absurd (false≢true (sym h))
no_bad_digit records lines x h = refl

none_bad : (records lines xs : List Record) → list_any (λ line. is_some (digit_line line)) xs ≡ false → list_any (is_bad_digit records lines) xs ≡ false
none_bad records lines [] h = refl
none_bad records lines (x ∷ xs) h =
    let later = list_any (λ line. is_some (digit_line line)) xs in
    ap (λ (b : Bool). b || list_any (is_bad_digit records lines) xs) (no_bad_digit records lines x (first_unset (is_some (digit_line x)) later h))
    ∙ none_bad records lines xs (second_unset (is_some (digit_line x)) later h)

pub no_digit : (lines : List Record) → list_any (λ line. is_some (digit_line line)) lines ≡ false → breaks_digits lines lines ≡ false
no_digit lines h = none_bad lines lines lines h

pub no_dot_above : (lines : List Record) → set_to dot_above_in false lines ≡ false → breaks_dot_above lines lines ≡ false
no_dot_above lines h = ap (λ (b : Bool). b && list_any (is_bad_dotted lines lines) dotted_marks) h
