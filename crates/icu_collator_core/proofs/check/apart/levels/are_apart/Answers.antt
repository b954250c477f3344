use Rattle.std.proofs.Common.{◌↔◌, ◌≡◌, sym, subst, true, IsTrue}
use Rattle.std.specs.List.{Contains}
use Rattle.icu_collator_types.specs.declared.elements.Element.{Element}
use Rattle.icu_collator_core.specs.ElementLists.{unpacked}
use Rattle.icu_collator_core.specs.WeightRules.{are_apart_elements}
use Rattle.icu_collator_core.proofs.apart.LevelLemmas.{all_levels}
use Rattle.icu_collator_core.proofs.check.apart.levels.are_apart.Goals as goal

pub returns : goal.returns
returns c =
    subst
    (λ told. IsTrue told ↔ ((d e : Element) → Contains (unpacked c.args.elements.now) d → Contains (unpacked c.args.elements.now) e → are_apart_elements d e ≡ true))
    (sym c.are_all.ensures)
    (all_levels (unpacked c.args.elements.now) c.in_ok-primaries.primaries c.in_ok-secondaries.secondaries c.in_ok-tertiaries.tertiaries
    c.in_ok-primaries.ensures c.in_ok-secondaries.ensures c.in_ok-tertiaries.ensures)
