use Rattle.std.proofs.Common.{◌≡◌, ◌∙◌, ◌<◌, List, ap, sym, subst, refl, arith, length, Option, None}
use Rattle.std.specs.List.{Contains}
use Rattle.std.specs.Vec.{with_item}
use Rattle.std.proofs.lemmas.List.{length-map}
use Rattle.std.proofs.lemmas.Option.{slice_get_within}
use Rattle.collate_name_list.specs.StoredNames.{StoredName, names_of, without}
use Rattle.collate_name_list.specs.Slots.{IsFull, slots_of, entry_at, entries, hash_in, hashes_in}
use Rattle.collate_name_list.specs.declared.slots.Stored.{Stored}
use Rattle.collate_name_list.proofs.FrontedLemmas.{length_fronted}
use Rattle.collate_name_list.proofs.SlotLemmas.{full_below}
use Rattle.collate_name_list.proofs.NameListEntryLemmas.{entries_without, name_there}
use Rattle.collate_name_list.proofs.KeptLemmas.{kept_remove, without_absent}
use Rattle.collate_name_list.proofs.name_list.NameList.remove.Goals as goal

pub slot_of_name-requires-clause-hashes : goal.slot_of_name-requires-clause-hashes
slot_of_name-requires-clause-hashes c = c.self.invariant.hashes ∙ sym (ap (hashes_in c.self.inside.hashes.seed) c.as_slice-slots.ensures.value)

pub remove-requires : goal.remove-requires
remove-requires c = omega (arith, slice_get_within (slots_of c.self.inside.by_key) c.rank_of_slot-keyed.result c.in-Some.slot c.rank_of_slot-keyed.ensures, length_fronted c.self.inside.by_key)

pub take_out-requires : goal.take_out-requires
take_out-requires c =
    let full : IsFull c.self.inside.slots.items c.in-Some.slot = subst (λ (slots : List (Option Stored)). IsFull slots c.in-Some.slot) c.as_slice-slots.ensures.value c.in-Some.ensures.full in
    omega (arith, full_below c.self.inside.slots.items c.in-Some.slot full, length-map c.self.inside.slots.items (hash_in c.self.inside.hashes.seed), ap length c.self.invariant.hashes)

pub index_mut-requires : goal.index_mut-requires
index_mut-requires c =
    let full : IsFull c.self.inside.slots.items c.in-Some.slot = subst (λ (slots : List (Option Stored)). IsFull slots c.in-Some.slot) c.as_slice-slots.ensures.value c.in-Some.ensures.full in
    subst (λ n. c.in-Some.slot < n) (sym c.self.inside.slots.ok.0) (full_below c.self.inside.slots.items c.in-Some.slot full)

pub invariant_of-self : goal.invariant_of-self
invariant_of-self c =
    let full : IsFull c.self.inside.slots.items c.in-Some.slot = subst (λ (slots : List (Option Stored)). IsFull slots c.in-Some.slot) c.as_slice-slots.ensures.value c.in-Some.ensures.full in
    kept_remove c.self.inside (record { alloc = c.self.inside.alloc; slots = with_item c.self.inside.slots c.in-Some.slot None; by_key = c.remove.new.self; hashes = c.take_out.new.self })
    c.in-Some.slot c.rank_of_slot-keyed.result c.self.invariant refl c.remove.ensures.removed c.take_out.ensures.hashes c.take_out.ensures.seed
    full c.rank_of_slot-keyed.ensures

pub returns-in-Some-clause-removed : goal.returns-in-Some-clause-removed
returns-in-Some-clause-removed c =
    let full : IsFull c.self.inside.slots.items c.in-Some.slot = subst (λ (slots : List (Option Stored)). IsFull slots c.in-Some.slot) c.as_slice-slots.ensures.value c.in-Some.ensures.full in
    let named : (entry_at c.self.inside.slots.items c.in-Some.slot).name ≡ c.args.name.now =
    subst (λ (slots : List (Option Stored)). (entry_at slots c.in-Some.slot).name ≡ c.args.name.now) c.as_slice-slots.ensures.value c.in-Some.ensures.name in
    entries_without c.self.inside.slots.items c.in-Some.slot c.args.name.now full named c.self.invariant.distinct
    ∙ ap (without c.args.name.now) c.self.view_is

pub returns-in-Some-clause-found : goal.returns-in-Some-clause-found
returns-in-Some-clause-found c =
    let full : IsFull c.self.inside.slots.items c.in-Some.slot = subst (λ (slots : List (Option Stored)). IsFull slots c.in-Some.slot) c.as_slice-slots.ensures.value c.in-Some.ensures.full in
    let named : (entry_at c.self.inside.slots.items c.in-Some.slot).name ≡ c.args.name.now =
    subst (λ (slots : List (Option Stored)). (entry_at slots c.in-Some.slot).name ≡ c.args.name.now) c.as_slice-slots.ensures.value c.in-Some.ensures.name in
    let there : Contains (names_of c.args.self.now) c.args.name.now =
    subst (λ (ns : List StoredName). Contains (names_of ns) c.args.name.now) c.self.view_is (name_there c.self.inside.slots.items c.in-Some.slot c.args.name.now full named) in
    (λ _. there, λ _. refl)

pub returns-in-None-clause-removed : goal.returns-in-None-clause-removed
returns-in-None-clause-removed c =
    let absent : Contains (names_of c.args.self.now) c.args.name.now → ⊥ =
    subst (λ (ns : List StoredName). Contains (names_of ns) c.args.name.now → ⊥) (ap entries c.as_slice-slots.ensures.value ∙ c.self.view_is) c.in-None.ensures.absent in
    sym (without_absent c.args.self.now c.args.name.now absent)
