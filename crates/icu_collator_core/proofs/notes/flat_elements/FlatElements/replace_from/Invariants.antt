use Rattle.std.proofs.Common.{◌≡◌, ◌++◌, take}
use Rattle.icu_collator_core.proofs.notes.flat_elements.FlatElements.replace_from.Given as goal

abbrev pub invariant-loop-element : goal.invariant-loop-element
invariant-loop-element g l = l.self.items ≡ take l.count l.fn.self.items ++ take l.element-index l.more
