use Rattle.std.proofs.Common.{◌↔◌, IsTrue, subst, sym}
use Rattle.std.specs.List.{Contains}
use Rattle.icu_collator_core.proofs.unsafety.RisingLemmas.{search_tells}
use Rattle.icu_collator_core.proofs.unsafe_characters.unsafe_list.holds.Goals as goal

pub returns : goal.returns
returns c =
    subst (λ found. IsTrue found ↔ Contains c.args.characters.now c.args.c) (sym c.is_ok.ensures.value)
    (search_tells c.args.characters.now c.args.c c.binary_search.result c.binary_search.ensures.position c.requires)
