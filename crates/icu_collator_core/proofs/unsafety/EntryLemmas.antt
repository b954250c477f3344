-- What stands in a list, one thing after another, and what each of them gives.
use Rattle.std.proofs.Common.{◌≡◌, ◌↔◌, ℕ, ◌<◌, List, length, get_or, sym, ◌∙◌, subst, arith}
use Rattle.std.specs.List.{Contains}
use Rattle.std.proofs.lemmas.List.{get_or_default}
use Rattle.icu_collator_core.proofs.apart.GrowthLemmas.{UpTo, item_at}

module _ {X : Type 0} (Gives : X → ℕ → Type 0) (list : List X) where
  -- what stands at an index gives it
  abbrev pub GivesAt : ℕ → ℕ → Type 0
  GivesAt k d = (entry : X) × ((other : X) → get_or list k other ≡ entry) × Gives entry d

  -- the entry that was read is the one at the index
  pub given_at : (k : ℕ) (entry : X) → k < length list → entry ≡ get_or list k entry → (d : ℕ) → Gives entry d ↔ GivesAt k d
  given_at k entry lt e d = (
    λ gives. (entry, (λ other. get_or_default list k other entry lt ∙ sym e), gives),
    λ w. subst (λ one. Gives one d) (sym (w.1 entry) ∙ sym e) w.2,
  )

  pub all_given : (n : ℕ) → length list ≡ n → (d : ℕ) → UpTo GivesAt n d ↔ ((entry : X) × Contains list entry × Gives entry d)
  all_given n many d = (
    λ w. (w.2.0, (w.0, (let lt = w.1 in omega (arith, many, lt)), w.2.1 w.2.0), w.2.2),
    λ h. let found = item_at list h.1.0 h.1.1 in
        (h.1.0, (let lt = h.1.1 in omega (arith, many, lt)), (h.0, (λ other. found.1 other ∙ sym (found.1 h.0) ∙ h.1.2), h.2)),
  )
