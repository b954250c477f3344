-- Tables that are accepted have whole triples and pairs, in order.
use Rattle.std.proofs.Common.{◌≡◌, ℕ, suc, ◌+◌, ◌*◌, ◌/◌, ◌%◌, ◌^◌, ◌<◌, inl, ⊎_elim, true, false, List, length, slice_index, refl, arith}
use Rattle.std.specs.Char.{IsScalar}
use lib.Utf8.{scalar}
use Rattle.std.proofs.lemmas.Bool.{cases_lt, cases_eq, cases_Bool, false≢true}
use Rattle.icu_normalizer_core.specs.CanonicalLists.{CanonicalLists, AreTriples, ArePairs, pair_first, pair_second, pair_composed}
use Rattle.icu_normalizer_core.specs.CanonicalFaults.{IsAccepted}

-- each fact is one that a test tells, so it holds where it can't fail
pub lt_stands : (a b : ℕ) → ((a < b → ⊥) → ⊥) → a < b
lt_stands a b h = ⊎_elim (λ lt. lt) (λ ge. absurd (h (λ lt. omega arith))) (cases_lt a b)

pub eq_stands : (a b : ℕ) → ((a ≡ b → ⊥) → ⊥) → a ≡ b
eq_stands a b h = ⊎_elim (λ eq. eq) (λ ne. absurd (h ne)) (cases_eq a b)

pub scalar_stands : (c : ℕ) → ((IsScalar c → ⊥) → ⊥) → IsScalar c
scalar_stands c h = ⊎_elim (λ yes. yes) (λ no. absurd (h (λ yes. absurd (false≢true (let e : false ≡ true = cc in e))))) (cases_Bool (scalar c))

triples_stand : (steps : List ℕ) → ((AreTriples steps → ⊥) → ⊥) → AreTriples steps
triples_stand steps h = record {
  whole = eq_stands (length steps % 3) 0 (λ not. h (λ t. not t.whole));
  rising = λ i k. lt_stands (slice_index steps (3 * i)) (slice_index steps (3 * i + 3)) (λ not. h (λ t. not (t.rising i k)));
  characters = λ i k. scalar_stands (slice_index steps (3 * i)) (λ not. h (λ t. not (t.characters i k)));
  firsts = λ i k. scalar_stands (slice_index steps (3 * i + 1)) (λ not. h (λ t. not (t.firsts i k)));
  seconds = λ i k some. scalar_stands (slice_index steps (3 * i + 2)) (λ not. h (λ t. not (t.seconds i k some)));
}

pairs_stand : (pairs : List ℕ) → ((ArePairs pairs → ⊥) → ⊥) → ArePairs pairs
pairs_stand pairs h = record {
  rising = λ i k. lt_stands (slice_index pairs i / 2 ^ 21) (slice_index pairs (suc i) / 2 ^ 21) (λ not. h (λ p. not (p.rising i k)));
  firsts = λ i k. scalar_stands (pair_first (slice_index pairs i)) (λ not. h (λ p. not (p.firsts i k)));
  seconds = λ i k. scalar_stands (pair_second (slice_index pairs i)) (λ not. h (λ p. not (p.seconds i k)));
  composed = λ i k. scalar_stands (pair_composed (slice_index pairs i)) (λ not. h (λ p. not (p.composed i k)));
}

pub accepted_triples : (lists : CanonicalLists) → IsAccepted lists → AreTriples lists.steps
accepted_triples lists a = triples_stand lists.steps (λ not. a.full_lists 0 refl (inl (refl, not)))

pub accepted_pairs : (lists : CanonicalLists) → IsAccepted lists → ArePairs lists.pairs
accepted_pairs lists a = pairs_stand lists.pairs (λ not. a.composing 0 refl (inl (refl, not)))
