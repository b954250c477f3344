use Rattle.std.proofs.Common.{ℕ, List, drop}
use Rattle.icu_normalizer_core.specs.Iter.{Spells}
use Rattle.icu_collator.proofs.common_front.behind.Given as goal

abbrev pub invariant-loop : goal.invariant-loop
invariant-loop g l =
    (text : List ℕ) → Spells g.I.Iterator.next_gives l.fn.chars text → Spells g.I.Iterator.next_gives l.chars (drop l.counter text)
