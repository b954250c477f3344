use Rattle.std.proofs.Common.{◌≡◌, ◌∙◌, ◌<◌, ◌^◌, ◌++◌, ◌∷◌, [], ℕ, List, ap, sym, subst, refl, true, true≢false, Option, Some, length, nat_cmp}
use Rattle.std.specs.List.{Contains}
use Rattle.std.specs.Cmp.Lexicographic.{slice_cmp}
use Rattle.collate_lists.specs.Search.{IsRankOf}
use Rattle.collate_lists.specs.Hashes.{hash_of}
use Rattle.collate_lists.specs.declared.windows.FrontedSlot.{FrontedSlot}
use Rattle.collate_name_list.specs.StoredNames.{StoredName, names_of}
use Rattle.collate_name_list.specs.Slots.{entry_at, entry_of, entries, hashes_in, names_inside, slots_of}
use Rattle.collate_name_list.specs.declared.slots.Stored.{Stored}
use Rattle.collate_name_list.proofs.NameListEntryLemmas.{entries_push}
use Rattle.collate_name_list.proofs.KeptLemmas.{kept_push, told_kept, length_kept}
use Rattle.collate_name_list.proofs.name_list.NameList.append.Goals as goal

pub slot_of_name-requires-clause-hashes : goal.slot_of_name-requires-clause-hashes
slot_of_name-requires-clause-hashes c = c.self.invariant.hashes ∙ sym (ap (hashes_in c.self.inside.hashes.seed) c.as_slice-slots.ensures.value)

pub returns-then-is_some-clause-duplicate : goal.returns-then-is_some-clause-duplicate
returns-then-is_some-clause-duplicate c = λ same.
    (told_kept c.self.inside c.self.invariant c.args.self.now c.self.view_is c.as_slice-slots.result.now c.as_slice-slots.ensures.value
    c.args.name.now c.slot_of_name.result c.slot_of_name.ensures.full c.slot_of_name.ensures.name c.slot_of_name.ensures.absent).0
    (sym c.is_some.ensures ∙ c.if-is_some.true)

pub returns-in_err-bytes-clause-few : goal.returns-in_err-bytes-clause-few
returns-in_err-bytes-clause-few c digits h =
    c.rank_of_key-keyed.ensures.few digits (subst (λ n. n < 2 ^ digits) (sym (length_kept c.self.inside c.self.invariant c.args.self.now c.self.view_is)) h)

pub returns-in_err-reserve-clause-few : goal.returns-in_err-reserve-clause-few
returns-in_err-reserve-clause-few c digits h =
    c.rank_of_key-keyed.ensures.few digits (subst (λ n. n < 2 ^ digits) (sym (length_kept c.self.inside c.self.invariant c.args.self.now c.self.view_is)) h)

pub returns-in_err-reserve-2-clause-few : goal.returns-in_err-reserve-2-clause-few
returns-in_err-reserve-2-clause-few c digits h =
    c.rank_of_key-keyed.ensures.few digits (subst (λ n. n < 2 ^ digits) (sym (length_kept c.self.inside c.self.invariant c.args.self.now c.self.view_is)) h)

pub returns-in_err-insert-clause-few : goal.returns-in_err-insert-clause-few
returns-in_err-insert-clause-few c digits h =
    c.rank_of_key-keyed.ensures.few digits (subst (λ n. n < 2 ^ digits) (sym (length_kept c.self.inside c.self.invariant c.args.self.now c.self.view_is)) h)

pub returns-clause-few : goal.returns-clause-few
returns-clause-few c digits h =
    c.rank_of_key-keyed.ensures.few digits (subst (λ n. n < 2 ^ digits) (sym (length_kept c.self.inside c.self.invariant c.args.self.now c.self.view_is)) h)

pub invariant_of-self-2 : goal.invariant_of-self-2
invariant_of-self-2 c =
    let slots : List (Option Stored) = c.self.inside.slots.items in
    let new : Stored = record { bytes = c.in_ok-bytes.bytes; key = c.args.key } in
    let bytes : c.in_ok-bytes.bytes.items ≡ c.args.name.now = c.in_ok-bytes.ensures.items in
    let grown : c.push_reserved.new.self.items ≡ slots ++ Some new ∷ [] = c.push_reserved.ensures.items ∙ ap (λ xs. xs ++ Some new ∷ []) c.in_ok-reserve.ensures.items in
    let newest : c.len-slot.result ≡ length slots = c.len-slot.ensures ∙ c.in_ok-reserve.ensures.len ∙ c.self.inside.slots.ok.0 in
    let absent : Contains (names_of (entries slots)) c.args.name.now → ⊥ = λ h. true≢false
    (sym ((told_kept c.self.inside c.self.invariant (names_inside c.self.inside) refl c.as_slice-slots.result.now c.as_slice-slots.ensures.value
    c.args.name.now c.slot_of_name.result c.slot_of_name.ensures.full c.slot_of_name.ensures.name c.slot_of_name.ensures.absent).1 h)
    ∙ sym c.is_some.ensures ∙ c.if-is_some.false) in
    let slot : ℕ = c.len-slot.result in
    let keyed : FrontedSlot = record { front = c.front-front.result; slot = slot } in
    kept_push c.self.inside (record { alloc = c.self.inside.alloc; slots = c.push_reserved.new.self; by_key = c.insert.new.self; hashes = c.push.new.self })
    new c.rank_of_key-keyed.result keyed c.self.invariant grown
    c.in_ok-insert.ensures.inserted
    (c.push.ensures.hashes ∙ ap (λ hs. hs ++ c.hash_of-hash.result ∷ []) c.in_ok-reserve-2.ensures.same ∙ ap (λ h. c.self.inside.hashes.hashes ++ h ∷ []) (c.hash_of-hash.ensures.hash ∙ sym (ap (hash_of c.self.inside.hashes.seed) bytes)))
    (c.push.ensures.seed ∙ c.in_ok-reserve-2.ensures.seed)
    newest c.front-front.ensures
    c.rank_of_key-keyed.ensures.bound
    (subst (λ b. Contains (names_of (entries slots)) b → ⊥) (sym bytes) absent)
    (subst (λ (ss : List (Option Stored)). IsRankOf (λ m. slice_cmp nat_cmp (entry_at ss m).key c.args.key) true (slots_of c.self.inside.by_key) c.rank_of_key-keyed.result) c.as_slice-slots.ensures.value c.rank_of_key-keyed.ensures.rank)

pub returns-clause-added : goal.returns-clause-added
returns-clause-added c =
    let slots : List (Option Stored) = c.self.inside.slots.items in
    let new : Stored = record { bytes = c.in_ok-bytes.bytes; key = c.args.key } in
    let grown : c.push_reserved.new.self.items ≡ slots ++ Some new ∷ [] = c.push_reserved.ensures.items ∙ ap (λ xs. xs ++ Some new ∷ []) c.in_ok-reserve.ensures.items in
    ap entries grown ∙ entries_push slots new
    ∙ ap (λ ns. ns ++ entry_of new ∷ []) c.self.view_is
    ∙ ap (λ (b : List ℕ). let e : StoredName = record { key = c.args.key; name = b } in c.args.self.now ++ e ∷ []) c.in_ok-bytes.ensures.items

pub returns-clause-new : goal.returns-clause-new
returns-clause-new c = λ h. true≢false
    (sym ((told_kept c.self.inside c.self.invariant c.args.self.now c.self.view_is c.as_slice-slots.result.now c.as_slice-slots.ensures.value
    c.args.name.now c.slot_of_name.result c.slot_of_name.ensures.full c.slot_of_name.ensures.name c.slot_of_name.ensures.absent).1 h)
    ∙ sym c.is_some.ensures ∙ c.if-is_some.false)
