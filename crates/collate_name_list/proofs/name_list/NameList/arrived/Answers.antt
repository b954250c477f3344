use Rattle.std.proofs.Common.{◌∙◌, ap}
use Rattle.collate_name_list.specs.Slots.{names_in}
use Rattle.collate_name_list.proofs.RoomLemmas.{entries_are}
use Rattle.collate_name_list.proofs.name_list.NameList.arrived.Goals as goal

pub returns : goal.returns
returns c = ap names_in c.as_slice.ensures.value ∙ entries_are c.self.inside.slots.items ∙ c.self.view_is
