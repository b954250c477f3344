-- one field more, and lines with none left
use Rattle.std.proofs.Common.{◌≡◌, ℕ, zero, suc, ◌+◌, ◌-◌, ◌<◌, List, [], ◌∷◌, length, refl, sym, ap, ◌∙◌, arith}
use Rattle.collate_merge.specs.Columns.{behind_field, behind_fields, field_len, fields_end}
use Rattle.collate_merge.specs.declared.column.Separator.{Separator}
use Rattle.collate_merge.specs.declared.column.Separator.TheVariants.{Blanks, Byte}

pub behind_zero : (separator : Separator) (n : ℕ) (line : List ℕ) → n ≡ 0 → behind_fields separator n line ≡ line
unfolding behind_fields
behind_zero separator n line none = ap (λ m. behind_fields separator m line) none

pub behind_one : (separator : Separator) (n : ℕ) (line : List ℕ) → 0 < n → behind_fields separator (n - 1) (behind_field separator line) ≡ behind_fields separator n line
unfolding behind_fields
behind_one separator zero line some = absurd (omega arith)
behind_one separator (suc n) line some = let less : suc n - 1 ≡ n = omega arith in ap (λ m. behind_fields separator m (behind_field separator line)) less

nothing_behind : (separator : Separator) → behind_field separator [] ≡ []
nothing_behind Blanks = refl
nothing_behind (Byte byte) = refl

none_left : (separator : Separator) (n : ℕ) → behind_fields separator n [] ≡ []
unfolding behind_fields
none_left separator zero = refl
none_left separator (suc n) = ap (behind_fields separator n) (nothing_behind separator) ∙ none_left separator n

-- after nothing is nothing
pub behind_none : (separator : Separator) (n : ℕ) (line : List ℕ) → length line ≡ 0 → behind_fields separator n line ≡ line
behind_none separator n [] none = none_left separator n
behind_none separator n (byte ∷ line) none = absurd (omega arith)

-- where the last of some fields ends
pub end_is : (separator : Separator) (n : ℕ) (line : List ℕ) → 0 < n
    → fields_end separator n line ≡ (length line - length (behind_fields separator (n - 1) line)) + field_len separator (behind_fields separator (n - 1) line)
end_is separator zero line some = absurd (omega arith)
end_is separator (suc n) line some =
    let less : suc n - 1 ≡ n = omega arith in
    sym (ap (λ m. (length line - length (behind_fields separator m line)) + field_len separator (behind_fields separator m line)) less)
