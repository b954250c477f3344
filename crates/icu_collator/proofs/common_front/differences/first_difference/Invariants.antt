use Rattle.std.proofs.Common.{ℕ, List}
use Rattle.icu_normalizer_core.specs.Iter.{Spells}
use Rattle.icu_collator.proofs.boundaries.FirstDifferenceLemmas.{AgreeSoFar}
use Rattle.icu_collator.proofs.common_front.differences.first_difference.Given as goal

abbrev pub invariant-loop-c : goal.invariant-loop-c
invariant-loop-c g l =
    record {
      agree : (a b : List ℕ) → Spells g.I.Iterator.next_gives l.fn.left a → Spells g.J.Iterator.next_gives l.fn.right b
          → AgreeSoFar g.I.Iterator.next_gives g.J.Iterator.next_gives a b l.common l.c-iterator l.right;
      ready : g.J.Iterator.can_next l.right;
    }
