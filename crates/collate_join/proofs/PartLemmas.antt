-- Where a byte stands, and parts that are noted of lines.
use Rattle.std.proofs.Common.{◌≡◌, ℕ, ◌+◌, ◌≤◌, Bool, true, false, not, cond, ◌||◌, List, [], ◌∷◌, ◌++◌, length, Option, Some, None, Ordering, Bor, refl, sym, ap, ◌∙◌, bytes_eq, arith}
use Rattle.std.specs.Prelude.{nat_lt}
use Rattle.std.specs.Ordering.{nat_cmp}
use Rattle.std.specs.Cmp.Lexicographic.{slice_cmp}
use Rattle.std.specs.BTreeSet.{BTreeSet, Updates}
use Rattle.std.specs.List.{position, position_or_len}
use Rattle.std.proofs.lemmas.Cmp.{nat_list_eq_equiv}
use Rattle.std.proofs.lemmas.List.Folds.{list_any-append}
use Rattle.std.proofs.lemmas.List.Sums.{prefix_len-le-length}
use Rattle.std.proofs.lemmas.Map.Text.{is_eq-slice_cmp}
use Rattle.std.proofs.Math.Bool.{or-false, or-true}
use borrow.Author.Tests.{ltb-false}
use Rattle.collate_join.specs.declared.keys.Part.{Part}
use Rattle.collate_join.specs.Keys.{has_part, is_it, part_of}
use Rattle.collate_join.specs.Kept.{HasParts, has}

-- a byte was found
pub end_found : (p : ℕ → Bool) (xs : List ℕ) (i : ℕ) → Some i ≡ position p xs → i ≡ position_or_len p xs
end_found p xs i e = by (nat_lt (position_or_len p xs) (length xs)) e
  where
    by : (b : Bool) → Some i ≡ cond b (Some (position_or_len p xs)) None → i ≡ position_or_len p xs
    by true at = cc
    by false at = absurd (cc)

-- none was
pub end_missing : (p : ℕ → Bool) (xs : List ℕ) → None ≡ position p xs → length xs ≡ position_or_len p xs
end_missing p xs e = by (nat_lt (position_or_len p xs) (length xs)) refl e
  where
    by : (b : Bool) → nat_lt (position_or_len p xs) (length xs) ≡ b → None ≡ cond b (Some (position_or_len p xs)) None → length xs ≡ position_or_len p xs
    by true is at = absurd (cc)
    by false is at =
        let past : length xs ≤ position_or_len p xs = ltb-false _ _ is in
        let most : position_or_len p xs ≤ length xs = prefix_len-le-length (λ x. not (p x)) xs in
        omega arith

pub end_within : (p : ℕ → Bool) (xs : List ℕ) → position_or_len p xs ≤ length xs
end_within p xs = prefix_len-le-length (λ x. not (p x)) xs

-- slices in the order of their bytes
abbrev pub by_bytes : Bor (List ℕ) → Bor (List ℕ) → Ordering
by_bytes x y = slice_cmp nat_cmp x.now y.now

or_else : (b c : Bool) → cond b true c ≡ (c || b)
or_else true c = sym (or-true c)
or_else false c = sym (or-false c)

-- a part was put into a set
pub noted : (old new : BTreeSet (Bor (List ℕ))) (part : Bor (List ℕ)) → Updates by_bytes old new part true
    → (bytes : List ℕ) → has new bytes ≡ (has old bytes || is_it bytes (Some part.now))
noted old new part updates bytes =
    updates.0 (record { ref_ptr = (0, 0); now = bytes })
    ∙ ap (λ (b : Bool). cond b true (has old bytes)) (is_eq-slice_cmp part.now bytes ∙ nat_list_eq_equiv.symm part.now bytes)
    ∙ or_else (bytes_eq bytes part.now) (has old bytes)

-- the part of one more line was
pub part_noted : (old new : BTreeSet (Bor (List ℕ))) (part : Part) (lines : List (List ℕ)) (line : List ℕ) (found : Option (List ℕ)) → found ≡ part_of part line
    → HasParts old part lines → ((bytes : List ℕ) → has new bytes ≡ (has old bytes || is_it bytes found)) → HasParts new part (lines ++ line ∷ [])
part_noted old new part lines line found is had put bytes =
    put bytes
    ∙ ap (λ (b : Bool). b || is_it bytes found) (had bytes)
    ∙ ap (λ (o : Option (List ℕ)). has_part part lines bytes || is_it bytes o) is
    ∙ ap (λ (b : Bool). has_part part lines bytes || b) (sym (or-false (is_it bytes (part_of part line))))
    ∙ sym (list_any-append (λ l. is_it bytes (part_of part l)) lines (line ∷ []))
