use Rattle.std.proofs.Common.{List, subst}
use Rattle.std.specs.List.{Contains}
use Rattle.collate_name_list.specs.StoredNames.{StoredName, names_of}
use Rattle.collate_name_list.proofs.name_list.NameList.add.Goals as goal

pub returns-clause-duplicate : goal.returns-clause-duplicate
returns-clause-duplicate c = λ e. subst (λ (ns : List StoredName). Contains (names_of ns) c.args.name.now) c.make_room.ensures (c.append.ensures.duplicate e)
