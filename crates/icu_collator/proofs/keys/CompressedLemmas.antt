-- Which primaries had a compressible lead before they were reordered.
use Rattle.std.proofs.Common.{◌≡◌, ℕ, zero, suc, ◌<◌, ◌+◌, ◌*◌, ◌/◌, ◌%◌, ◌^◌, Bool, true, false, cond, List, [], ◌∷◌, Option, Some, None, refl, sym, ◌∙◌, ap, arith, ⊎_elim}
use Rattle.std.proofs.lemmas.Bool.{and_from, and_parts, cases_Bool, eq-eqb, eqb-true}
use Rattle.std.proofs.lemmas.List.Folds.{list_any_at}
use Rattle.std.proofs.lemmas.List.FromFn.{get_or-range_with_len, length-range_with_len}
use Rattle.std.specs.List.{list_any, range_with_len}
use Rattle.std.specs.Prelude.{◌==◌, ◌&&◌, ◌||◌, IfSome}
use mathlib.Core.Bool.{true≢false}
use Rattle.icu_normalizer_core.specs.Canonical.{Canonical}
use Rattle.icu_collator_core.proofs.weights.ReorderedHalfLemmas.{rest_stays}
use Rattle.icu_collator_core.specs.Acceptance.{IsAccepted}
use Rattle.icu_collator_core.specs.Collation.{Collation}
use Rattle.icu_collator_core.specs.Sameness.{AreSameLeads}
use Rattle.icu_collator_core.specs.TableMeaning.{collation_of}
use Rattle.icu_collator_core.specs.TableSettings.{is_compressible_in, reordered_in}
use Rattle.icu_collator_core.specs.WeightFaults.{IsSoundReordering}
use Rattle.icu_collator_core.specs.declared.tables.CollationTables.{CollationTables}
use Rattle.icu_collator_core.specs.declared.tables.reordering.CollationReordering.{CollationReordering}
use Rattle.icu_collator.specs.KeyBytes.{primary_run, was_compressible}
use Rattle.icu_collator.specs.KeyCodes.{IsRun}

-- ---- Numbers that pass a test

-- one of those from a on passes, where some does
found : (test : ℕ → Bool) (n a : ℕ) → list_any test (range_with_len a n) ≡ true → (x : ℕ) × (x < a + n) × (test x ≡ true)
found test zero a h = absurd (true≢false (sym h))
found test (suc n) a h =
    ⊎_elim (λ yes. (a, omega arith, yes))
    (λ no.
    let rest = found test n (a + 1) (sym (ap (λ b. b || list_any test (range_with_len (a + 1) n)) no) ∙ h)
    in let inside = rest.1 in (rest.0, omega (arith, inside), rest.2))
    (cases_Bool (test a))

-- tests that agree
any_same : (f g : ℕ → Bool) (xs : List ℕ) → ((x : ℕ) → f x ≡ g x) → list_any f xs ≡ list_any g xs
any_same f g [] same = refl
any_same f g (x ∷ xs) same = ap (λ b. b || list_any f xs) (same x) ∙ ap (λ b. g x || b) (any_same f g xs same)

both_or_none : (a b : Bool) → (a ≡ true → b ≡ true) → (b ≡ true → a ≡ true) → a ≡ b
both_or_none true true f g = refl
both_or_none true false f g = sym (f refl)
both_or_none false true f g = g refl
both_or_none false false f g = refl

-- ---- Primaries

small_with : (lead p : ℕ) → lead < 2 ^ 8 → lead * 2 ^ 24 + p % 2 ^ 24 < 2 ^ 32
small_with lead p byte = omega (arith, byte)

lead_with : (lead p : ℕ) → (lead * 2 ^ 24 + p % 2 ^ 24) / 2 ^ 24 ≡ lead
lead_with lead p = omega arith

module _ (collation : Collation) where
  -- whether a lead is compressible, and moved to a primary with its rest
  abbrev moves : ℕ → ℕ → Bool
  moves p lead = collation.weights.is_compressible lead && (collation.reordered (lead * 2 ^ 24 + p % 2 ^ 24) == p)

  -- the compressible lead that a primary had
  pub record HadLead (p : ℕ) : Type 0 where
    pub lead : ℕ
    pub byte : lead < 2 ^ 8
    pub compressible : collation.weights.is_compressible lead ≡ true
    pub moved : collation.reordered (lead * 2 ^ 24 + p % 2 ^ 24) ≡ p

  pub had_lead : (p : ℕ) → was_compressible collation p ≡ true → HadLead p
  had_lead p h =
      let one = found (moves p) (2 ^ 8) 0 h
      in let both = and_parts (collation.weights.is_compressible one.0) _ one.2
      in let inside = one.1
      in record { lead = one.0; byte = omega (arith, inside); compressible = both.0; moved = eqb-true _ _ both.1 }

  was : (p lead : ℕ) → lead < 2 ^ 8 → collation.weights.is_compressible lead ≡ true → collation.reordered (lead * 2 ^ 24 + p % 2 ^ 24) ≡ p
      → was_compressible collation p ≡ true
  was p lead byte compressible moved =
      let same : 0 + lead ≡ lead = omega arith
      in list_any_at (moves p) (range_with_len 0 (2 ^ 8)) lead 0 (let long = length-range_with_len 0 (2 ^ 8) in omega (arith, long, byte))
      (ap (moves p) (get_or-range_with_len 0 (2 ^ 8) lead 0 byte ∙ same) ∙ and_from _ _ compressible (eq-eqb _ _ moved))

  -- reordering keeps what stands after a lead, and gives one lead only to leads that are alike compressible
  pub record KeepsAlike : Type 0 where
    pub rest : (p : ℕ) → collation.reordered p % 2 ^ 24 ≡ p % 2 ^ 24
    pub alike : (p q : ℕ) → p < 2 ^ 32 → q < 2 ^ 32 → collation.reordered p / 2 ^ 24 ≡ collation.reordered q / 2 ^ 24
        → collation.weights.is_compressible (p / 2 ^ 24) ≡ collation.weights.is_compressible (q / 2 ^ 24)

  module _ (keeps : KeepsAlike) where
    starts : (q : ℕ) → q < 2 ^ 32 → collation.weights.is_compressible (q / 2 ^ 24) ≡ true → was_compressible collation (collation.reordered q) ≡ true
    starts q small h =
        let rest = keeps.rest q
        in let same : q / 2 ^ 24 * 2 ^ 24 + collation.reordered q % 2 ^ 24 ≡ q = omega (arith, rest)
        in was (collation.reordered q) (q / 2 ^ 24) (omega (arith, small)) h (ap collation.reordered same)

    -- under the lead of a run each primary had a compressible lead
    inside_run : (p q : ℕ) → q < 2 ^ 32 → was_compressible collation p ≡ true → p / 2 ^ 24 ≡ collation.reordered q / 2 ^ 24
        → collation.weights.is_compressible (q / 2 ^ 24) ≡ true
    inside_run p q small h e =
        let had = had_lead p h
        in sym (keeps.alike (had.lead * 2 ^ 24 + p % 2 ^ 24) q (small_with had.lead p had.byte) small (ap (λ (x : ℕ). x / 2 ^ 24) had.moved ∙ e))
        ∙ ap collation.weights.is_compressible (lead_with had.lead p) ∙ had.compressible

    -- a primary that is moved had the lead that it was moved from
    pub lead_before : (q : ℕ) → q < 2 ^ 32 → was_compressible collation (collation.reordered q) ≡ collation.weights.is_compressible (q / 2 ^ 24)
    lead_before q small = both_or_none _ _ (λ yes. inside_run (collation.reordered q) q small yes refl) (λ yes. starts q small yes)

    -- a run that has the lead of a primary goes on
    pub run_goes_on : (run : Option ℕ) (q : ℕ) → q < 2 ^ 32 → IsRun (was_compressible collation) run → run ≡ Some (collation.reordered q / 2 ^ 24)
        → run ≡ primary_run (was_compressible collation) run (collation.reordered q)
    run_goes_on None q small is e = cc
    run_goes_on (Some before) q small (p, started, at) e =
        let lead : before ≡ collation.reordered q / 2 ^ 24 = cc
        in e ∙ sym (ap (λ (b : Bool). cond b (Some (collation.reordered q / 2 ^ 24)) None) (starts q small (inside_run p q small started (at ∙ lead))))

-- ---- Accepted tables

pub accepted_alike : (canonical : Canonical) (tables : CollationTables) → IsAccepted canonical tables → KeepsAlike (collation_of canonical tables)
accepted_alike canonical tables accepted = record {
  rest = kept tables.reordering;
  alike = unmixed tables.reordering accepted.reordering;
}
  where
    kept : (o : Option CollationReordering) (p : ℕ) → reordered_in o p % 2 ^ 24 ≡ p % 2 ^ 24
    kept (Some reordering) p = rest_stays reordering p
    kept None p = refl

    unmixed : (o : Option CollationReordering) → IfSome o (IsSoundReordering tables.special_primaries)
        → (p q : ℕ) → p < 2 ^ 32 → q < 2 ^ 32 → reordered_in o p / 2 ^ 24 ≡ reordered_in o q / 2 ^ 24
        → is_compressible_in tables.special_primaries.last_primaries (p / 2 ^ 24) ≡ is_compressible_in tables.special_primaries.last_primaries (q / 2 ^ 24)
    unmixed (Some reordering) sound p q small other e = sound.compressible p q small other e
    unmixed None sound p q small other e = ap (is_compressible_in tables.special_primaries.last_primaries) e

-- ---- Data that say the same of leads, and reorder alike

pub was_same : (a b : Collation) (p : ℕ) → AreSameLeads a.weights b.weights → ((p : ℕ) → a.reordered p ≡ b.reordered p)
    → was_compressible a p ≡ was_compressible b p
was_same a b p leads moved =
    any_same (moves a p) (moves b p) (range_with_len 0 (2 ^ 8))
    (λ lead. ap (λ (is : Bool). is && (a.reordered (lead * 2 ^ 24 + p % 2 ^ 24) == p)) (leads lead)
    ∙ ap (λ (x : ℕ). b.weights.is_compressible lead && (x == p)) (moved (lead * 2 ^ 24 + p % 2 ^ 24)))
