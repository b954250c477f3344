use Rattle.std.proofs.Common.{◌≡◌, ℕ, List, ◌++◌}
use Rattle.std.specs.Iterator.{YieldsFirst}
use Rattle.icu_normalizer_core.specs.BorrowedMeaning.{borrowed_meaning}
use Rattle.icu_normalizer_core.specs.Canonical.{decomposed}
use Rattle.icu_normalizer_core.specs.Classes.{with_classes, ClassesTo}
use Rattle.icu_normalizer_core.specs.Decoding.{utf8_chars}
use Rattle.tests_icu_normalizer.proofs.classed.kept_classes.Given as goal

abbrev pub invariant-loop-item : goal.invariant-loop-item
invariant-loop-item l =
    goal.iterator-loop-item.can_next l.item-iterator
    × ((left : List (ℕ × ℕ)) × ClassesTo (YieldsFirst (λ (rest : List ℕ). rest)) l.item-iterator left
    × (with_classes (borrowed_meaning l.fn.canonical) (decomposed (borrowed_meaning l.fn.canonical) (utf8_chars l.fn.text)) ≡ l.list.items ++ left))
