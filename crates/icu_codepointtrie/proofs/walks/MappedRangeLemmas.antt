-- The code points of a range of one value are mapped alike.
use Rattle.std.proofs.Common.{ℕ, ◌+◌, ◌<◌, Bool, true, sym, ◌∙◌, arith, ⊎_elim}
use Rattle.std.proofs.lemmas.Bool.{cases_lt}
use Rattle.icu_codepointtrie.specs.Slots.{TrieTables}
use Rattle.icu_codepointtrie.specs.Ranges.{IsEndOfRange}
use Rattle.icu_codepointtrie.specs.MappedRanges.{IsAlike}

-- where the first of a range is mapped alike, what was so up to it is so up to the range's end
pub alike_further : {T U : Type 0} (t : TrieTables T) (gives : T → U → Type 0) (eq : U → U → Bool) (start end next : ℕ) (u : U) (v : T)
    → ((c : ℕ) → start < c → c < end + 1 → IsAlike t gives eq c u true) → IsAlike t gives eq (end + 1) u true → IsEndOfRange t (end + 1) v next
    → (c : ℕ) → start < c → c < next + 1 → IsAlike t gives eq c u true
alike_further t gives eq start end next u v before (w, (x, is, given), same) range c above below =
    ⊎_elim (λ low. before c above low)
    (λ high. (w, (x, range.constant c high below ∙ sym (range.constant (end + 1) (omega arith) (omega (arith, range.not_empty))) ∙ is, given), same))
    (cases_lt c (end + 1))
