use Rattle.std.proofs.Common.{◌≡◌, ℕ, List, false}
use Rattle.icu_collator_core.specs.Stretched.{IsReadInto}
use Rattle.icu_collator_core.proofs.checked.CheckedTables.read_on.Given as goal

abbrev pub invariant-reading : goal.invariant-reading
invariant-reading g l =
    record {
      can : (goal.iterator-reading g).can_next l.chars;
      finite : (goal.iterator-reading g).is_finite l.chars;
      unended : l.text.is_ended ≡ false;
      kept : l.text.settled ≡ l.fn.text.settled;
      read : (text : List ℕ) → IsReadInto l.self l.numeric g.I.Iterator.next_gives text l.fn.chars l.fn.text
          → IsReadInto l.self l.numeric g.I.Iterator.next_gives text l.chars l.text;
    }
