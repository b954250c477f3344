use Rattle.std.proofs.Common.{sym, subst, ap, ◌∙◌, ◌≡◌, ◌↔◌, Bool, true}
use Rattle.std.specs.List.{Contains}
use Rattle.collate_name_list.specs.StoredNames.{names_of}
use Rattle.collate_name_list.specs.Slots.{hashes_in}
use Rattle.collate_name_list.proofs.KeptLemmas.{told_kept}
use Rattle.collate_name_list.proofs.name_list.NameList.contains.Goals as goal

pub returns : goal.returns
returns c =
    subst (λ (b : Bool). (b ≡ true) ↔ Contains (names_of c.args.self.now) c.args.name.now) (sym c.is_some.ensures)
    (told_kept c.self.inside c.self.invariant c.args.self.now c.self.view_is c.as_slice.result.now c.as_slice.ensures.value
    c.args.name.now c.slot_of_name.result c.slot_of_name.ensures.full c.slot_of_name.ensures.name c.slot_of_name.ensures.absent)

pub slot_of_name-requires-clause-hashes : goal.slot_of_name-requires-clause-hashes
slot_of_name-requires-clause-hashes c = c.self.invariant.hashes ∙ sym (ap (hashes_in c.self.inside.hashes.seed) c.as_slice.ensures.value)
