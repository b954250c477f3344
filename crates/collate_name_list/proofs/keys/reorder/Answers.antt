use Rattle.std.proofs.Common.{◌≡◌, ◌∙◌, List, Option, ap, arith, length, subst, sym, ℕ}
use Rattle.collate_name_list.specs.Keys.{slots_with_keys}
use Rattle.collate_name_list.specs.Slots.{AreFronted, slots_by_key}
use Rattle.collate_name_list.specs.declared.slots.Stored.{Stored}
use Rattle.collate_name_list.proofs.RekeyLemmas.{changed_back, length-before, length-changed}
use Rattle.collate_name_list.proofs.keys.reorder.Goals as goal

pub ordered-requires-clause-order : goal.ordered-requires-clause-order
ordered-requires-clause-order c =
    let slots : List (Option Stored) = c.args.slots.now.items in
    let keys : List (Option (List ℕ)) = c.args.keys.items in
    let back : slots_with_keys c.as_slice.result.now c.as_slice-2.result.now ≡ slots =
    ap (λ ss. slots_with_keys ss c.as_slice-2.result.now) (c.as_slice.ensures.value ∙ c.swap_keys.ensures.slots)
    ∙ ap (λ ks. slots_with_keys (slots_with_keys slots keys) ks) (c.as_slice-2.ensures.value ∙ c.swap_keys.ensures.keys)
    ∙ changed_back slots keys in
    c.requires.order ∙ sym (ap slots_by_key back)

pub ordered-requires-clause-fronts : goal.ordered-requires-clause-fronts
ordered-requires-clause-fronts c =
    let slots : List (Option Stored) = c.args.slots.now.items in
    let keys : List (Option (List ℕ)) = c.args.keys.items in
    let back : slots_with_keys c.as_slice.result.now c.as_slice-2.result.now ≡ slots =
    ap (λ ss. slots_with_keys ss c.as_slice-2.result.now) (c.as_slice.ensures.value ∙ c.swap_keys.ensures.slots)
    ∙ ap (λ ks. slots_with_keys (slots_with_keys slots keys) ks) (c.as_slice-2.ensures.value ∙ c.swap_keys.ensures.keys)
    ∙ changed_back slots keys in
    subst (λ (ss : List (Option Stored)). AreFronted ss c.args.by_key.now) (sym back) c.requires.fronts

pub swap_keys-requires-in-Err : goal.swap_keys-requires-in-Err
swap_keys-requires-in-Err c =
    let slots = c.args.slots.now.items in
    let keys = c.args.keys.items in
    omega (arith, ap length c.swap_keys.ensures.slots, length-changed slots keys, ap length c.swap_keys.ensures.keys, length-before slots keys c.requires.length, c.requires.length)

pub returns-clause-unchanged : goal.returns-clause-unchanged
returns-clause-unchanged c =
    let slots = c.args.slots.now.items in
    let keys = c.args.keys.items in
    c.swap_keys-in-Err.ensures.slots
    ∙ ap (λ ss. slots_with_keys ss c.swap_keys.new.keys.items) c.swap_keys.ensures.slots
    ∙ ap (λ ks. slots_with_keys (slots_with_keys slots keys) ks) c.swap_keys.ensures.keys
    ∙ changed_back slots keys
