use Rattle.std.proofs.Common.{◌<◌, ◌^◌}
use Rattle.std.specs.Prelude.{All}
use Rattle.std.proofs.lemmas.List.Elements.{All-from_get_or}
use Rattle.icu_packed_vector.proofs.ItemLemmas.{items_are_values}
use Rattle.icu_packed_vector.proofs.iter.PackedIter.new.Goals as goal

pub returns-clause-values : goal.returns-clause-values
returns-clause-values g c =
    let small : All (λ byte. byte < 2 ^ 8) c.args.bytes.now = All-from_get_or (λ byte. byte < 2 ^ 8) c.args.bytes.now 0 (λ k h. (c.type_inv.bytes k).fits) in
    items_are_values g.T.PackedItem.is_value g.T.PackedItem.WIDTH g.T.PackedItem.meaning c.args.bytes.now
    g.met.T.PackedItem.meaning_is_value g.met.T.PackedItem.width_positive small c.requires
