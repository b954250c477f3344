use Rattle.icu_normalizer_core.specs.FullLists.{source_items}
use Rattle.icu_normalizer_core.proofs.full_lists.FullListLemmas.{part_behind}
use Rattle.icu_normalizer_core.proofs.canonical.full_list.FullListIterator.next.Goals as goal

pub invariant_of-self : goal.invariant_of-self
invariant_of-self c = part_behind (source_items c.self.inside.words c.self.inside.source) c.self.inside.next c.self.inside.end c.self.invariant c.if-self.false
