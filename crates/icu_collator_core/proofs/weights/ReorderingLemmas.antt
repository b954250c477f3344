-- What reordering by lead bytes makes of leads and of primaries.
use Rattle.std.proofs.Common.{◌≡◌, ℕ, ◌+◌, ◌*◌, ◌/◌, ◌%◌, ◌^◌, sym, ◌∙◌, ap, arith}
use Rattle.icu_collator_core.specs.Collation.{Collation, with_lead, reordered_lead}

lead_alone : (lead : ℕ) → lead * 2 ^ 24 / 2 ^ 24 ≡ lead
lead_alone lead = omega arith

new_lead : (a b : ℕ) → (a * 2 ^ 24 + b % 2 ^ 24) / 2 ^ 24 ≡ a
new_lead a b = omega arith

-- where each primary gets the lead that is given for its own, that is the lead that is given
pub given_lead : (collation : Collation) (index : ℕ → ℕ) → ((p : ℕ) → collation.reordered p ≡ with_lead index p)
    → (lead : ℕ) → reordered_lead collation lead ≡ index lead
given_lead collation index h lead =
    ap (λ x. x / 2 ^ 24) (h (lead * 2 ^ 24)) ∙ new_lead (index (lead * 2 ^ 24 / 2 ^ 24)) (lead * 2 ^ 24) ∙ ap index (lead_alone lead)

-- and the rest is kept
pub given_rest : (collation : Collation) (index : ℕ → ℕ) → ((p : ℕ) → collation.reordered p ≡ with_lead index p)
    → (p : ℕ) → collation.reordered p ≡ with_lead (reordered_lead collation) p
given_rest collation index h p =
    h p ∙ ap (λ lead. lead * 2 ^ 24 + p % 2 ^ 24) (sym (given_lead collation index h (p / 2 ^ 24)))
