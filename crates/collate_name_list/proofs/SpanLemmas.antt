-- spans of ranks: a search begins with one, and one search finds both ends of those that are equal
use Rattle.std.proofs.Common.{◌≡◌, ℕ, ◌≤◌, Bool, true, false, List, length, refl, arith, Ordering, Less, Equal, Greater}
use Rattle.std.specs.List.{AllWithin}
use Rattle.collate_lists.specs.Search.{stands_before, IsRankOf}
use Rattle.collate_lists.proofs.NameSearchLemmas.{IsNarrowed}
use Rattle.collate_name_list.specs.Slots.{IsSpan}

-- what isn't above stands before, past equal ones
pub before_past : (r : Ordering) → stands_before false r ≡ true → stands_before true r ≡ true
before_past Less h = refl
before_past Equal h = refl
before_past Greater h = h

module _ {A : Type 0} (compared : A → Ordering) (xs : List A) where
  pub span_whole : (past : Bool) (low high : ℕ) → low ≡ 0 → high ≡ length xs → IsSpan compared past xs low high
  span_whole past low high none all = record {
    ordered = omega arith;
    bound = omega arith;
    front = λ k d l h. absurd (omega (arith, none));
    back = λ k d l h. absurd (omega (arith, all));
  }

  pub narrowed_span : (past : Bool) (before low high : ℕ) → IsSpan compared past xs low high → IsNarrowed compared past xs before low high before
  narrowed_span past before low high s = record {
    ordered = s.ordered;
    bound = s.bound;
    front = s.front;
    back = s.back;
    few = λ digits h. (digits, omega (arith, s.bound), omega arith);
  }

  -- what a search for the first end leaves to the search for the second
  pub span_past : (low high : ℕ) → IsRankOf compared false xs low → low ≤ high → high ≤ length xs → AllWithin (λ other. stands_before true (compared other) ≡ false) xs high (length xs) → IsSpan compared true xs low high
  span_past low high place ordered bound back = record {
    ordered = ordered;
    bound = bound;
    front = λ k d l h. before_past (compared _) (place.0 k d l h);
    back = back;
  }
