use Rattle.std.proofs.Common.{◌≡◌, ℕ, ℤ, ◌<◌, ◌≤◌, ◌-◌, ◌↔◌, ◌∷◌, [], List, Option, Some, length, take, drop, slice_index_or, arith}
use Rattle.std.proofs.lemmas.List.{take_all}
use Rattle.icu_collections.specs.Cursors.{IsEntryFrom}
use Rattle.examples_uses.proofs.unit_tries.+value_from.Goals as goal

-- what is found after the first unit is found for the whole key
whole_key : (found : Option ℤ) (Old New : List ℕ → ℤ → Type 0) (key : List ℕ) → 2 ≤ length key
    → ((next : ℕ) (rest : List ℕ) (number : ℤ) → New (next ∷ rest) number ↔ Old (slice_index_or key 0 0 ∷ next ∷ rest) number)
    → (0 < length (take (length key - 1) (drop 1 key)) → (number : ℤ) → (found ≡ Some number) ↔ New (take (length key - 1) (drop 1 key)) number)
    → (number : ℤ) → (found ≡ Some number) ↔ Old key number
whole_key found Old New [] two longer later number = absurd (omega arith)
whole_key found Old New (a ∷ []) two longer later number = absurd (omega arith)
whole_key found Old New (a ∷ b ∷ rest) two longer later number =
    let e : take (length (a ∷ b ∷ rest) - 1) (b ∷ rest) ≡ b ∷ rest = take_all (length (a ∷ b ∷ rest) - 1) (b ∷ rest) (omega arith) in
    let tail : (0 < length (b ∷ rest) → (number : ℤ) → (found ≡ Some number) ↔ New (b ∷ rest) number) = rw e at later in
    let here : (found ≡ Some number) ↔ New (b ∷ rest) number = tail (omega arith) number in
    let more : New (b ∷ rest) number ↔ Old (a ∷ b ∷ rest) number = longer b rest number in
    (λ is. more.0 (here.0 is), λ entry. here.1 (more.1 entry))

pub returns-in-len1-up : goal.returns-in-len1-up
returns-in-len1-up t c = λ _. whole_key c.value_from.result (IsEntryFrom c.args.cursor) (IsEntryFrom c.next16-in-len1-up.new.self) c.args.key.now c.in-len1-up.len_at_least c.next16-in-len1-up.ensures.longer c.value_from.ensures
