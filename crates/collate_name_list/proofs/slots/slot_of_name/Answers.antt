use Rattle.std.proofs.Common.{◌≡◌, ◌<◌, ◌≤◌, ℕ, List, Some, IfNone, IfSome, get_or, length, subst, arith}
use Rattle.std.proofs.lemmas.Bool.{iff_false}
use Rattle.collate_name_list.specs.Slots.{entry_at, hashes_in, IsFull}
use Rattle.collate_name_list.proofs.HashLemmas.{IsSearched, absent_from, searched}
use Rattle.collate_name_list.proofs.SlotLemmas.{full_below}
use Rattle.collate_name_list.proofs.slots.slot_of_name.Goals as goal

pub names-init : goal.names-init
names-init c =
    let seed = c.args.hashes.now.seed in
    let slots = c.args.slots.now in
    let found = c.last_before-found.result in
    searched seed slots c.args.name.now c.args.hash (length slots) c.requires.hash (λ k l full named. absurd (omega (arith, full_below slots k full))) (omega arith) found
    c.last_before-found.ensures.before
    (subst (λ (hs : List ℕ). IfSome found (λ slot. get_or hs slot 0 ≡ c.args.hash)) c.requires.hashes c.last_before-found.ensures.there)
    (subst (λ (hs : List ℕ). IfSome found (λ slot. (later : ℕ) → slot < later → later < length slots → get_or hs later 0 ≡ c.args.hash → ⊥)) c.requires.hashes c.last_before-found.ensures.last)
    (subst (λ (hs : List ℕ). IfNone found ((slot : ℕ) → slot < length slots → get_or hs slot 0 ≡ c.args.hash → ⊥)) c.requires.hashes c.last_before-found.ensures.none)

pub names-preserved : goal.names-preserved
names-preserved c =
    let seed = c.args.hashes.now.seed in
    let slots = c.args.slots.now in
    let found = c.same_before-found.result in
    let slot = c.in-Some.slot in
    let hash = c.args.hash in
    let before : IsSearched seed slots c.args.name.now hash (Some slot) = subst (IsSearched seed slots c.args.name.now hash) c.in-Some.is c.names.invariant in
    let absent : (k : ℕ) → slot ≤ k → IsFull slots k → (entry_at slots k).name ≡ c.args.name.now → ⊥ =
    absent_from slots c.args.name.now slot before.behind (λ e. iff_false c.has_name.ensures c.if-has_name.false e) in
    let upto : slot ≤ length slots = omega (arith, before.within) in
    searched seed slots c.args.name.now hash slot c.requires.hash absent upto found
    c.same_before-found.ensures.before
    (subst (λ h. IfSome found (λ other. get_or (hashes_in seed slots) other 0 ≡ h)) before.there
    (subst (λ (hs : List ℕ). IfSome found (λ other. get_or hs other 0 ≡ get_or hs slot 0)) c.requires.hashes c.same_before-found.ensures.there))
    (subst (λ h. IfSome found (λ other. (later : ℕ) → other < later → later < slot → get_or (hashes_in seed slots) later 0 ≡ h → ⊥)) before.there
    (subst (λ (hs : List ℕ). IfSome found (λ other. (later : ℕ) → other < later → later < slot → get_or hs later 0 ≡ get_or hs slot 0 → ⊥)) c.requires.hashes c.same_before-found.ensures.last))
    (subst (λ h. IfNone found ((other : ℕ) → other < slot → get_or (hashes_in seed slots) other 0 ≡ h → ⊥)) before.there
    (subst (λ (hs : List ℕ). IfNone found ((other : ℕ) → other < slot → get_or hs other 0 ≡ get_or hs slot 0 → ⊥)) c.requires.hashes c.same_before-found.ensures.none))

pub returns-clause-absent : goal.returns-clause-absent
returns-clause-absent c = (subst (IsSearched c.args.hashes.now.seed c.args.slots.now c.args.name.now c.args.hash) c.in_default.is c.names.invariant).none
