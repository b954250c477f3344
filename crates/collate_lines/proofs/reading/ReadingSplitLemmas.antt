-- The first line of some bytes, and the others.
use Rattle.std.proofs.Common.{◌≡◌, ℕ, ◌+◌, ◌<◌, ◌≤◌, Bool, true, false, cond, List, [], ◌∷◌, length, take, drop, Some, None, sym, ap, ◌∙◌, refl, arith}
use Rattle.std.specs.Prelude.{nat_lt, ◌==◌}
use Rattle.std.specs.List.{position, position_or_len}
use Rattle.std.proofs.lemmas.List.{length-take}
use Rattle.std.proofs.lemmas.List.Elements.{All-from_get_or}
use Rattle.std.proofs.lemmas.List.Splits.{slice_split_first, slice_split_none}
use Rattle.std.proofs.lemmas.List.Sums.{fails_before_first}
use borrow.Author.Tests.{ltb-true, ltb-false}
use Rattle.collate_lines.specs.Lines.{lines_of}

abbrev is_lf : ℕ → Bool
is_lf b = b == 10

-- an LF stands there
pub split_at : (bytes : List ℕ) (end : ℕ) → Some end ≡ position is_lf bytes → lines_of bytes ≡ take end bytes ∷ lines_of (drop (end + 1) bytes)
split_at bytes end e = by (nat_lt (position_or_len is_lf bytes) (length bytes)) refl e
  where
    by : (b : Bool) → nat_lt (position_or_len is_lf bytes) (length bytes) ≡ b → Some end ≡ cond b (Some (position_or_len is_lf bytes)) None
        → lines_of bytes ≡ take end bytes ∷ lines_of (drop (end + 1) bytes)
    by true is at =
        let same : end ≡ position_or_len is_lf bytes = cc in
        slice_split_first is_lf bytes 0 (ltb-true _ _ is) ∙ ap (λ (n : ℕ). take n bytes ∷ lines_of (drop (n + 1) bytes)) (sym same)
    by false is at = absurd (cc)

-- no LF stands there
pub split_none : (bytes : List ℕ) → None ≡ position is_lf bytes → lines_of bytes ≡ bytes ∷ []
split_none bytes e = by (nat_lt (position_or_len is_lf bytes) (length bytes)) refl e
  where
    by : (b : Bool) → nat_lt (position_or_len is_lf bytes) (length bytes) ≡ b → None ≡ cond b (Some (position_or_len is_lf bytes)) None
        → lines_of bytes ≡ bytes ∷ []
    by true is at = absurd (cc)
    by false is at =
        let past : length bytes ≤ position_or_len is_lf bytes = ltb-false _ _ is in
        slice_split_none is_lf bytes (All-from_get_or (λ b. is_lf b ≡ false) bytes 0 (λ k lt. fails_before_first is_lf bytes k 0 (omega arith)))

-- the first numbers of a list are as many as were asked for
pub many_taken : (n : ℕ) (bs : List ℕ) → n < length bs → n ≡ length (take n bs)
many_taken n bs h = omega (arith, length-take n bs)
