use Rattle.std.proofs.Common.{◌∙◌, List, ap, sym, subst}
use Rattle.std.specs.List.{Contains}
use Rattle.collate_name_list.specs.StoredNames.{StoredName, names_of}
use Rattle.collate_name_list.specs.Slots.{entries, hashes_in}
use Rattle.collate_name_list.proofs.KeptLemmas.{stored_kept}
use Rattle.collate_name_list.proofs.name_list.NameList.key_of.Goals as goal

pub slot_of_name-requires-clause-hashes : goal.slot_of_name-requires-clause-hashes
slot_of_name-requires-clause-hashes c = c.self.invariant.hashes ∙ sym (ap (hashes_in c.self.inside.hashes.seed) c.as_slice-slots.ensures.value)

pub returns-in-Some-clause-stored : goal.returns-in-Some-clause-stored
returns-in-Some-clause-stored c =
    stored_kept c.self.inside c.self.invariant c.args.self.now c.self.view_is c.as_slice-slots.result.now c.as_slice-slots.ensures.value
    c.in-Some.slot c.args.name.now c.key_in.result.now c.in-Some.ensures.full c.in-Some.ensures.name c.key_in.ensures

pub returns-in-None-clause-absent : goal.returns-in-None-clause-absent
returns-in-None-clause-absent c =
    subst (λ (ns : List StoredName). Contains (names_of ns) c.args.name.now → ⊥) (ap entries c.as_slice-slots.ensures.value ∙ c.self.view_is) c.in-None.ensures.absent
