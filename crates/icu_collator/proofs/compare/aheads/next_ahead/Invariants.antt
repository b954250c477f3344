use Rattle.std.proofs.Common.{ℕ, List}
use Rattle.std.specs.Iterator.{IsFinite}
use Rattle.icu_collator.specs.Aheads.{IsMetAhead}
use Rattle.icu_collator.proofs.compare.aheads.next_ahead.Given as goal

abbrev pub invariant-loop-turn : goal.invariant-loop-turn
invariant-loop-turn g l = record {
  can : g.I.Iterator.can_next l.chars;
  finite : IsFinite (g.I.Iterator.remaining l.chars);
  met : (t ps : List ℕ) → IsMetAhead l.checked l.end l.numeric g.I.Iterator.next_gives t l.fn.text.held l.fn.text.chars l.fn.text.read ps
      → IsMetAhead l.checked l.end l.numeric g.I.Iterator.next_gives t l.held l.chars l.read ps;
}
