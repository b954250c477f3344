-- ranks in a list in order: before or after the elements that are equal to what is looked for
use Rattle.std.specs.Prelude.{◌≡◌, ℕ, Bool, true, false, List}
use Rattle.std.specs.List.Sorted.{IsPartitionPoint}
use Rattle.std.specs.declared.cmp.Ordering.{Ordering}
use Rattle.std.specs.declared.cmp.Ordering.TheVariants.{Less, Equal, Greater}

-- whether an element that compares so stands before the rank that is looked for
abbrev pub stands_before : Bool → Ordering → Bool
stands_before past_equal Less = true
stands_before past_equal Equal = past_equal
stands_before past_equal Greater = false

-- at is the first rank of an element that isn't below, or, past equal ones, of one that is above; compared says how an element compares with what is looked for
abbrev pub IsRankOf : {A : Type 0} → (A → Ordering) → Bool → List A → ℕ → Type 0
IsRankOf compared past_equal xs at =
    IsPartitionPoint (λ other. stands_before past_equal (compared other) ≡ true) (λ other. stands_before past_equal (compared other) ≡ false) xs at
