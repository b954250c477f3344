use Rattle.std.proofs.Common.{◌≡◌, ◌≤◌, ℕ, false, length, List}
use Rattle.std.specs.Prelude.{All}
use Rattle.std.specs.Char.{IsScalar}
use Rattle.std.specs.Iterator.{IsFinite}
use Rattle.icu_collator_core.specs.Stretched.{IsStretched, settled_in}
use Rattle.icu_collator.specs.StretchedOrders.{met_primaries}
use Rattle.icu_collator.proofs.compare.stretched.next_settled.Given as goal

abbrev pub invariant-loop-turn : goal.invariant-loop-turn
invariant-loop-turn g l = record {
  can : l.text.is_ended ≡ false → g.I.Iterator.can_next l.chars;
  finite : l.text.is_ended ≡ false → IsFinite (g.I.Iterator.remaining l.chars);
  read : (text : List ℕ) → All IsScalar text → IsStretched l.checked l.numeric g.I.Iterator.next_gives text l.fn.chars l.initial.text
      → IsStretched l.checked l.numeric g.I.Iterator.next_gives text l.chars l.text
      × (l.met ≤ length (settled_in l.text))
      × (met_primaries l.end l.text l.met ≡ met_primaries l.end l.initial.text l.met);
}
